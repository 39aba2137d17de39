use Rattle.std.proofs.Common.{◌≡◌, [], ◌∙◌, ap, codes, rules}
use Rattle.std.proofs.lemmas.List.{nil_from_length}
use Rattle.std.proofs.lemmas.Result.{err_from_is_err_and}
use Rattle.std.specs.Slice.Iter.{chunks_rest}
use Rattle.hex.specs.Hex.{encode_lower}
use Rattle.reply_pieces.specs.Pieces.{PutsText}
use Rattle.reply_pieces.proofs.Putting.{part_put, part_cut, rest_put}
use Rattle.info_text.specs.Dumps.{hex_line}
use Rattle.info_text.proofs.LineLaws.{empty_line, line_append}
use Rattle.info_text.proofs.digits.put_hex_line.Goals as goal

pub returns-in_err-put_piece : goal.returns-in_err-put_piece
returns-in_err-put_piece g c =
    let bytes = c.in-Some.bytes.now in
    let rest = chunks_rest c.next.new.self in
    let here = ap hex_line c.in-Some.ensures.steps.1.0 ∙ line_append bytes rest in
    let p = err_from_is_err_and c.from_residual.result c.from_residual.ensures.1 in
    rw (p.1, p.2) (part_cut g.O.Sink (hex_line c.args.line.now) (encode_lower bytes) (hex_line rest)
    c.loop-bytes.invariant.3 here c.in_err-put_piece.ensures)

pub loop-bytes-preserved : goal.loop-bytes-preserved
loop-bytes-preserved g c =
    let bytes = c.in-Some.bytes.now in
    let rest = chunks_rest c.next.new.self in
    let here = ap hex_line c.in-Some.ensures.steps.1.0 ∙ line_append bytes rest in (
      search rules,
      tt,
      c.in-Some.ensures.steps.0 ∙ c.loop-bytes.invariant.2,
      part_put g.O.Sink (hex_line c.args.line.now) (encode_lower bytes) (hex_line rest) c.loop-bytes.invariant.3 here
          c.in_ok-put_piece.ensures,
    )

pub returns : goal.returns
returns g c =
    let it = c.loop-bytes.bytes-iterator in
    let none : chunks_rest it ≡ [] = nil_from_length (chunks_rest it) c.in-None.ensures.steps.1.0 in
    let left : hex_line (chunks_rest it) ≡ codes "\n" = ap hex_line none ∙ empty_line in
    let end : PutsText g.O.Sink (codes "\n") c.loop-bytes.out c.put.new.self c.put.result = search rules in
    rest_put g.O.Sink c.put.result c.loop-bytes.invariant.3 (rw left end)
