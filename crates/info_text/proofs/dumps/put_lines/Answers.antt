use Rattle.std.proofs.Common.{◌∙◌, rules}
use Rattle.std.proofs.lemmas.Result.{err_from_is_err_and}
use Rattle.std.specs.Slice.Iter.{chunks_rest}
use Rattle.reply_pieces.proofs.Putting.{part_put, part_cut}
use Rattle.info_text.specs.Dumps.{hex_line, hex_lines}
use Rattle.info_text.proofs.LineLaws.{next_line}
use Rattle.info_text.proofs.dumps.put_lines.Goals as goal

pub returns-in_err-put_line : goal.returns-in_err-put_line
returns-in_err-put_line g c =
    let steps = c.in-Some.ensures.steps in
    let here = next_line _ _ _ steps.1.0 (rw c.loop-bytes.invariant.2 at steps.1.1) steps.1.2 in
    let p = err_from_is_err_and c.from_residual.result c.from_residual.ensures.1 in
    rw (p.1, p.2) (part_cut g.O.Sink (hex_lines c.args.image.now) (hex_line c.in-Some.bytes.now)
    (hex_lines (chunks_rest c.next.new.self)) c.loop-bytes.invariant.3 here c.in_err-put_line.ensures)

pub loop-bytes-preserved : goal.loop-bytes-preserved
loop-bytes-preserved g c =
    let steps = c.in-Some.ensures.steps in
    let here = next_line _ _ _ steps.1.0 (rw c.loop-bytes.invariant.2 at steps.1.1) steps.1.2 in (
      search rules,
      tt,
      steps.0 ∙ c.loop-bytes.invariant.2,
      part_put g.O.Sink (hex_lines c.args.image.now) (hex_line c.in-Some.bytes.now) (hex_lines (chunks_rest c.next.new.self))
          c.loop-bytes.invariant.3 here c.in_ok-put_line.ensures,
    )
