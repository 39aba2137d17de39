use Rattle.std.proofs.Common.{cond, Bool, ap, ◌∙◌}
use Rattle.std.proofs.lemmas.Result.{err_from_is_err_and}
use Rattle.sprite_load.proofs.FrameLaws.{frame_is_read, frame_fails_within}
use Rattle.sprite_load.proofs.sizes.skip_frame.Goals as goal

pub returns-in_err-pixels-clause-value : goal.returns-in_err-pixels-clause-value
returns-in_err-pixels-clause-value c =
    let h = c.in_ok-head.head in
    let p = err_from_is_err_and c.from_residual-in_err-pixels.result c.from_residual-in_err-pixels.ensures.1 in
    rw (p.1, p.2) (frame_fails_within c.args.row c.args.source.now (record { word = h.word.now; count = h.count.now; intervals = h.intervals.now }) c.in_ok-head.rest.now h.number _ c.in_ok-head.ensures.value c.in_ok-head.ensures.number c.in_err-pixels.ensures.value)

pub returns-clause-value : goal.returns-clause-value
returns-clause-value c =
    let h = c.in_ok-head.head in
    frame_is_read c.args.row c.args.source.now (record { word = h.word.now; count = h.count.now; intervals = h.intervals.now }) c.in_ok-head.rest.now _ h.number c.in_ok-pixels.pixels c.in_ok-pixels.rest.now c.in_ok-head.ensures.value (c.group_word-group.ensures ∙ ap (λ (b : Bool). cond b 0 1) c.in_ok-head.ensures.single) c.in_ok-head.ensures.number c.in_ok-pixels.ensures.value
