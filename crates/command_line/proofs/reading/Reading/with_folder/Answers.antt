use Rattle.std.proofs.Common.{inl, inr}
use Rattle.command_line.proofs.Readings.{no_folder}
use Rattle.command_line.proofs.reading.Reading.with_folder.Goals as goal
use Rattle.command_line.proofs.reading.Reading.with_folder.Goals.{else-is_folder-via-then-is_folder+else-self-most, else-is_folder-via-else-is_folder}

pub returns : goal.returns
returns c = λ words read.
    no_folder words c.args.most c.args.self c.args.word.now read c.requires.none c.requires.no_name
    (elim c.else-is_folder.branch [
      | else-is_folder-via-then-is_folder+else-self-most w ↦ inr w.if-self-most.false
      | else-is_folder-via-else-is_folder w ↦ inl (cc (c.is_folder.ensures, w.if-is_folder.false))
    ])
