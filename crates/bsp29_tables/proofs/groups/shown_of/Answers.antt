use Rattle.std.proofs.Common.{rules, ◌≡◌, ℕ, sym, ◌∙◌, arith}
use Rattle.std.specs.Ordering.{is_le}
use Rattle.std.proofs.lemmas.Fn.{always_returns_same}
use Rattle.bsp29_tables.specs.Cycles.{name_of}
use Rattle.bsp29_tables.specs.Grouped.{frame_cmp}
use Rattle.bsp29_tables.proofs.GroupLaws.{end_from_point, none_before, none_ties, last_counts}
use Rattle.bsp29_tables.proofs.groups.shown_of.Goals as goal

pub returns-then-end-eq0 : goal.returns-then-end-eq0
returns-then-end-eq0 c =
    let test = λ (t : ℕ). is_le (frame_cmp (name_of c.args.lump.now t) c.args.rest.now c.args.frame) in
    let ends =
    end_from_point c.requires.order c.partition_point-end.ensures.bound c.partition_point-end.ensures.partitioned
    (always_returns_same _ (λ a r. r ≡ test a.0.now) _ (λ a r q k. search rules)) in
    sym (none_before c.requires.order ends c.if-end-eq0.true)

pub returns-then-is_eq : goal.returns-then-is_eq
returns-then-is_eq c =
    let test = λ (t : ℕ). is_le (frame_cmp (name_of c.args.lump.now t) c.args.rest.now c.args.frame) in
    let ends =
    end_from_point c.requires.order c.partition_point-end.ensures.bound c.partition_point-end.ensures.partitioned
    (always_returns_same _ (λ a r. r ≡ test a.0.now) _ (λ a r q k. search rules)) in
    let same =
    rw (c.frame_cmp.ensures, c.name_of.ensures, c.from-texture.ensures) at (sym c.is_eq.ensures ∙ c.if-is_eq.true) in
    rw c.from-texture.ensures (sym (last_counts c.requires.order ends (omega arith) same))

pub returns-else-is_eq : goal.returns-else-is_eq
returns-else-is_eq c =
    let test = λ (t : ℕ). is_le (frame_cmp (name_of c.args.lump.now t) c.args.rest.now c.args.frame) in
    let ends =
    end_from_point c.requires.order c.partition_point-end.ensures.bound c.partition_point-end.ensures.partitioned
    (always_returns_same _ (λ a r. r ≡ test a.0.now) _ (λ a r q k. search rules)) in
    let other =
    rw (c.frame_cmp.ensures, c.name_of.ensures, c.from-texture.ensures) at (sym c.is_eq.ensures ∙ c.if-is_eq.false) in
    sym (none_ties c.requires.order ends other)
