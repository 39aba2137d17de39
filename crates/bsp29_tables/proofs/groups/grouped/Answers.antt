use Rattle.std.proofs.Common.{rules, ◌≡◌, length}
use Rattle.std.specs.Ordering.{is_lt}
use Rattle.std.proofs.lemmas.Fn.{always_returns_same}
use Rattle.bsp29_tables.specs.Grouped.{texture_cmp}
use Rattle.bsp29_tables.proofs.LastLaws.{refilled}
use Rattle.bsp29_tables.proofs.GroupLaws.{texture_ranks, grouped_from}
use Rattle.bsp29_tables.proofs.groups.grouped.Goals as goal

pub returns : goal.returns
returns c =
    let lump = c.args.lump.now in
    let xs = c.shown_in-order.result.items in
    let ys = c.sort_unstable_by.new.self in
    let sorted =
    c.sort_unstable_by.ensures.sorted (λ a b. is_lt (texture_cmp lump a b)) (texture_ranks lump)
    (always_returns_same _ (λ a r. is_lt r ≡ is_lt (texture_cmp lump a.0.now a.1.0.now)) _ (λ a r q k. search rules)) in
    let long : length ys ≡ length xs = rw c.deref_mut.ensures.value at c.sort_unstable_by.ensures.len in
    let moved = rw c.deref_mut.ensures.value at c.sort_unstable_by.ensures.permutation in
    rw (refilled xs ys long) (grouped_from lump xs ys c.shown_in-order.ensures moved sorted)
