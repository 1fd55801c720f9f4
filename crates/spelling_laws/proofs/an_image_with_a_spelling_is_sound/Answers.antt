use Rattle.spelling_laws.proofs.SoundLemmas.{image_sound}
use Rattle.spelling_laws.proofs.an_image_with_a_spelling_is_sound.Goals as goal

pub returns : goal.returns
returns c = image_sound
