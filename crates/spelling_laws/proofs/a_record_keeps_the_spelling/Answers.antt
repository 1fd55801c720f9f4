use Rattle.spelling_laws.proofs.KeepLemmas.{redone_image}
use Rattle.spelling_laws.proofs.a_record_keeps_the_spelling.Goals as goal

pub returns : goal.returns
returns c = redone_image
