use Rattle.std.proofs.Common.{◌+◌, drop, ap, arith}
use Rattle.std.proofs.lemmas.List.{drop_more}
use Rattle.std.proofs.lemmas.Result.{err_from_is_err_and}
use Rattle.reply_pieces.specs.Pieces.{text_of}
use Rattle.reply_pieces.proofs.Putting.{part_put, part_cut}
use Rattle.reply_pieces.proofs.put_all.Goals as goal

pub returns-in_err-put_piece : goal.returns-in_err-put_piece
returns-in_err-put_piece g c =
    let p = err_from_is_err_and c.from_residual.result c.from_residual.ensures.1 in
    rw (p.1, p.2) (part_cut g.O.Sink (text_of c.args.pieces.now) _ _ c.loop-piece.invariant
    (ap text_of (drop_more c.args.pieces.now c.loop-piece.piece-index _ (omega arith))) c.in_err-put_piece.ensures)

pub loop-piece-preserved : goal.loop-piece-preserved
loop-piece-preserved g c = part_put g.O.Sink (text_of c.args.pieces.now) _ (text_of (drop (c.loop-piece.piece-index + 1) c.args.pieces.now))
    c.loop-piece.invariant (ap text_of (drop_more c.args.pieces.now c.loop-piece.piece-index _ (omega arith))) c.in_ok-put_piece.ensures
