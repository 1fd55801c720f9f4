use Rattle.page_model.specs.Pool.{image_of}
use Rattle.buffer_pool.proofs.LawLemmas.{one_put, one_used_if, one_without, one_replaced}
use Rattle.buffer_pool.proofs.laws.each_page_has_one_image.Goals as goal

pub returns-clause-put : goal.returns-clause-put
returns-clause-put c p image durable images one is = one_put p image durable images one is

pub returns-clause-used : goal.returns-clause-used
returns-clause-used c page images one = one_used_if images (image_of page images) one

pub returns-clause-dropped : goal.returns-clause-dropped
returns-clause-dropped c page images one = one_without images page one

pub returns-clause-changed : goal.returns-clause-changed
returns-clause-changed c image images one = one_replaced image images one
