use Rattle.cq_compose.proofs.SoundComposites.{composite_sound}
use Rattle.cq_compose.proofs.laws.composites.composites_are_sound.Goals as goal

pub returns : goal.returns
returns c = composite_sound
