use Rattle.std.proofs.Common.{drop, ap, subst}
use Rattle.std.proofs.lemmas.Result.{err_from_is_err_and}
use Rattle.reply_pieces.proofs.Putting.{PutsSoFar, none_put, part_put, part_cut, rest_put}
use Rattle.console_session.specs.Commands.{spaced}
use Rattle.console_session.proofs.Wording.{words_split, words_end}
use Rattle.console_session.proofs.replies.put_words.Goals as goal

pub words-init : goal.words-init
words-init g c = rw c.rest-left.ensures (none_put g.O.Sink (spaced (drop 1 c.args.words.now)) c.args.out.now)

pub returns-in_err-put_all : goal.returns-in_err-put_all
returns-in_err-put_all g c =
    let p = err_from_is_err_and c.from_residual.result c.from_residual.ensures.1 in
    rw (p.1, p.2) (part_cut g.O.Sink (spaced (drop 1 c.args.words.now)) _ _ c.words.invariant
    (ap spaced (words_split c.words.left c.in-Some.word.now c.in-Some.ensures)) c.in_err-put_all.ensures)

pub words-preserved : goal.words-preserved
words-preserved g c =
    rw c.rest-left-in-Some.ensures (part_put g.O.Sink (spaced (drop 1 c.args.words.now)) _ (spaced (drop 1 c.words.left)) c.words.invariant
    (ap spaced (words_split c.words.left c.in-Some.word.now c.in-Some.ensures)) c.in_ok-put_all.ensures)

pub returns : goal.returns
returns g c = rest_put g.O.Sink c.put_all-2.result
    (subst (λ l. PutsSoFar g.O.Sink (spaced (drop 1 c.args.words.now)) l c.args.out.now c.words.out) (ap spaced (words_end c.words.left c.in_default.ensures))
    c.words.invariant) c.put_all-2.ensures
