use Rattle.spelling_laws.proofs.KeepLemmas.{redone_sound}
use Rattle.spelling_laws.proofs.a_record_keeps_a_page_sound.Goals as goal

pub returns : goal.returns
returns c = redone_sound
