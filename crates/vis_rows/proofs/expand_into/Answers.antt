use Rattle.std.proofs.Common.{min, ◌-◌, ◌<◌, ◌+◌, ◌∙◌, length, get_or, sym, ap, arith}
use Rattle.std.proofs.lemmas.List.{length-set, take_more_set}
use Rattle.vis_rows.proofs.Expanding.{reached_byte, reached_zeros, reached_all, reached_end, reached_last}
use Rattle.vis_rows.proofs.expand_into.Goals as goal

pub returns-then-at-bytes : goal.returns-then-at-bytes
returns-then-at-bytes c =
    rw (← c.loop-done.auto.out) (sym (reached_end c.loop-done.invariant c.loop-done-test.true c.if-at-bytes.true))

pub returns-then-at-bytes-2 : goal.returns-then-at-bytes-2
returns-then-at-bytes-2 c =
    rw (← c.loop-done.auto.out)
    (sym (reached_last c.loop-done.invariant c.loop-done-test.true c.if-at-bytes-2.true c.if-byte-ne0.false))

pub loop-done-preserved-then-byte-ne0 : goal.loop-done-preserved-then-byte-ne0
loop-done-preserved-then-byte-ne0 c =
    let read : c.loop-done.at < length c.args.bytes.now = omega (arith, c.loop-done.invariant.read) in
    let byte = get_or c.args.bytes.now c.loop-done.at 0 in
    rw length-set (reached_byte _ c.loop-done.invariant read c.loop-done-test.true c.if-byte-ne0.true
    (take_more_set c.loop-done.out c.loop-done.done byte c.loop-done-test.true))

pub loop-done-preserved : goal.loop-done-preserved
loop-done-preserved c =
    let read : c.loop-done.at + 1 < length c.args.bytes.now = omega (arith, c.loop-done.invariant.read) in
    let least = c.min-n.ensures ∙ ap (λ n. min n (length c.loop-done.out - c.loop-done.done)) c.from.ensures in
    rw c.put_zeros.auto.out
    (reached_zeros _ c.min-n.result c.loop-done.invariant read c.loop-done-test.true c.if-byte-ne0.false least
    c.put_zeros.ensures)

pub returns : goal.returns
returns c = rw (← c.loop-done.auto.out) (sym (reached_all c.loop-done.invariant c.loop-done-test.false))
