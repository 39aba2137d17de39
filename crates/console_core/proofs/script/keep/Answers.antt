use Rattle.std.proofs.Common.{◌≡◌, ◌≤◌, ◌<◌, ◌+◌, ◌∙◌, ◌++◌, ℕ, List, arith, ap, sym, inl, inr, length, take, Result, Ok, Err, OnOk}
use Rattle.std.specs.Prelude.{IsOk, min, ◌⊎◌}
use Rattle.std.proofs.Math.Seq.{take-append-add}
use Rattle.std.proofs.lemmas.Bool.{cases_lt}
use Rattle.std.proofs.lemmas.List.{length-take, take_all}
use Rattle.console_core.proofs.script.keep.Goals as goal

on_ok : {A E P : Type 0} (result : Result A E) → IsOk result → OnOk result P → P
on_ok (Ok value) is given = given
on_ok (Err error) is given = absurd (cc)

-- what is kept of a text and more, where there is room for so much more
keeps_more : (kept more : List ℕ) (room count : ℕ) → room + length kept ≡ 8192 → count ≡ min room (length more) → kept ++ take count more ≡ take 8192 (kept ++ more)
keeps_more kept more room count fits is =
    ap (λ n. kept ++ take n more) is ∙ ap (λ t. kept ++ t) (by (cases_lt room (length more)))
    ∙ sym (ap (λ n. take n (kept ++ more)) all ∙ take-append-add kept more room)
  where
    all : 8192 ≡ length kept + room
    all = omega arith

    by : (room < length more) ⊎ (length more ≤ room) → take (min room (length more)) more ≡ take room more
    by (inl less) = ap (λ n. take n more) (omega arith)
    by (inr most) = take_all (min room (length more)) more (omega arith) ∙ sym (take_all room more most)

pub returns : goal.returns
returns c =
    let kept = c.args.pending.now.items in
    let more = c.args.bytes.now in
    let room : c.remaining_capacity.result + length kept ≡ 8192 = c.remaining_capacity.ensures in
    let fits : length kept + length (take c.min-count.result more) ≤ 8192 = omega (arith, length-take c.min-count.result more, room, c.min-count.ensures) in
    on_ok c.try_extend_from_slice.result (c.try_extend_from_slice.ensures.variant.1 fits) c.try_extend_from_slice.ensures.ok
    ∙ keeps_more kept more c.remaining_capacity.result c.min-count.result room c.min-count.ensures
