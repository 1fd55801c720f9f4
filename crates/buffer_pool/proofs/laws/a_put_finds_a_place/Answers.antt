use Rattle.buffer_pool.proofs.LawLemmas.{no_place, none_put, put_fits, put_there}
use Rattle.buffer_pool.proofs.laws.a_put_finds_a_place.Goals as goal

pub returns-clause-full : goal.returns-clause-full
returns-clause-full c p image durable = (no_place p image durable, none_put p image durable)

pub returns-clause-fits : goal.returns-clause-fits
returns-clause-fits c p image durable images fits is = put_fits p image durable images fits is

pub returns-clause-there : goal.returns-clause-there
returns-clause-there c p image durable images is = put_there p image durable images is
