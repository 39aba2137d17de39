use Rattle.bsp29_tables.proofs.SoundLaws.{sound_from_fine, fine_from_sound}
use Rattle.bsp29_tables.proofs.laws.sound_files.Goals as goal

pub returns : goal.returns
returns c = λ bytes. (sound_from_fine bytes, fine_from_sound bytes)
