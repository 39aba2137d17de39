use Rattle.wav_load.proofs.HeaderLaws.{header_tells}
use Rattle.wav_load.proofs.header.sound_header.Goals as goal

pub returns-clause-sound : goal.returns-clause-sound
returns-clause-sound c = header_tells _ c.args.image.now (cc)
