use Rattle.std.proofs.Common.{◌≡◌, ◌∙◌, ◌<◌, ◌++◌, Some, length, ap, sym, refl, subst, arith, take, drop, set}
use Rattle.std.specs.Prelude.{slice_get, ◌^◌}
use Rattle.std.proofs.lemmas.Option.{slice_get_read}
use Rattle.mem_model.specs.Memory.{Cache}
use Rattle.mem_model.specs.Cache.{moved}
use Rattle.mem_model.specs.Gaps.{size_of_cache}
use Rattle.mem_model.specs.Turns.{shifted, IsMove}
use Rattle.mem_model.specs.Laid.{IsCache}
use Rattle.mem_model.specs.CacheState.{cache_in}
use Rattle.mem_model.proofs.CacheEdits.{IsMoving, moving, written_whole}
use Rattle.mem_model.specs.Tables.{IsTable}
use Rattle.mem_model.proofs.Tables.{placed_listed, table-moved}
use Rattle.mem_model.proofs.cache.PlainCache.hop.Goals as goal
use Rattle.mem_model.proofs.cache.PlainCache.hop.Goals.{After-touch, After-shift}

read : (c : After-touch) → slice_get c.self.inside.cells.items c.args.from ≡ Some c.index.result.now
read c = slice_get_read c.self.inside.cells.items _ c.args.from c.index.result.now c.self.inside.cells.ok.0 (omega (arith, c.requires.from, c.self.inside.cells.ok.0, ap (λ (d : Cache). length d.blocks) c.self.view_is)) c.index.ensures

moves : (c : After-touch) → IsMove c.self.inside.cells.items c.index.result.now c.args.gap.at c.args.gap.place
moves c = rw (ap (λ (d : Cache). d.blocks) c.self.view_is) (c.requires.moves c.index.result.now (rw (ap (λ (d : Cache). d.blocks) c.self.view_is) at (read c)))

entered : (c : After-touch) → c.index.result.now.user < length c.self.inside.places.items
entered c = placed_listed c.args.from c.index.result.now c.self.invariant.places c.self.invariant.order.one_each (read c)

pub index_mut-requires : goal.index_mut-requires
index_mut-requires c = omega (arith, c.user-mover.ensures, entered (goal.at.index_mut-requires c).After-touch, c.self.inside.places.ok.0)

pub shift-requires-clause-to : goal.shift-requires-clause-to
shift-requires-clause-to c = omega (arith, (moves (goal.at.shift-requires-clause-to c).After-touch).inside, c.self.inside.cells.ok.0)

recency : (c : After-touch) → take c.self.inside.recency.len (c.touch.new.recency ++ drop (length c.touch.new.recency) c.self.inside.recency.items) ≡ shifted c.index.result.now.user c.index.result.now.user c.self.inside.recency.items
recency c =
    written_whole c.touch.new.recency c.self.inside.recency.items c.self.inside.recency.len (c.touch.auto.recency ∙ ap length c.deref_mut.ensures.value) c.self.inside.recency.ok.0
    ∙ c.touch.ensures ∙ rw (c.deref_mut.ensures.value, c.user-mover.ensures) refl

move : (c : After-touch) → IsMoving (cache_in c.self.inside) c.args.from c.args.gap.at c.args.gap.place c.index.result.now
move c = moving (cache_in c.self.inside) c.args.from c.args.gap.at c.args.gap.place c.index.result.now c.self.invariant.order (read c) (moves c)

now : (c : After-shift) → slice_get c.self.inside.cells.items c.args.from ≡ Some c.index.result.now → take c.self.inside.recency.len (c.touch.new.recency ++ drop (length c.touch.new.recency) c.self.inside.recency.items) ≡ shifted c.index.result.now.user c.index.result.now.user c.self.inside.recency.items →
    IsMoving (cache_in c.self.inside) c.args.from c.args.gap.at c.args.gap.place c.index.result.now →
    moved (cache_in c.self.inside) c.index.result.now c.args.gap.place ≡ record { blocks = c.shift.new.cells.items; recency = take c.self.inside.recency.len (c.touch.new.recency ++ drop (length c.touch.new.recency) c.self.inside.recency.items) }
now c there users m = rw (users, c.shift.ensures c.index.result.now there) m.is

pub invariant_of-self : goal.invariant_of-self
invariant_of-self c =
    let d = (goal.at.invariant_of-self c).After-touch in
    let is = now (goal.at.invariant_of-self c).After-shift (read d) (recency d) (move d) in
    record {
      order = subst (λ e. IsCache e (2 ^ 32) 0 (2 ^ 26)) is (move d).order;
      places = rw c.user-mover.ensures (subst (IsTable (set c.self.inside.places.items c.index.result.now.user (Some c.args.gap.place))) (ap (λ (e : Cache). e.blocks) is)
          (table-moved c.index.result.now c.args.gap.place c.self.invariant.places (entered d)));
      used = c.self.invariant.used ∙ sym (move d).size ∙ ap (λ (e : Cache). size_of_cache e.blocks) is;
    }

pub returns : goal.returns
returns c = λ b here.
    let d = (goal.at.returns c).After-touch in
    let there : slice_get c.self.inside.cells.items c.args.from ≡ Some b = ap (λ (m : Cache). slice_get m.blocks c.args.from) c.self.view_is ∙ here in
    let same : c.index.result.now ≡ b = (let e : Some c.index.result.now ≡ Some b = sym (read d) ∙ there in cc) in
    sym (now (goal.at.returns c).After-shift (read d) (recency d) (move d)) ∙ ap (λ x. moved (cache_in c.self.inside) x c.args.gap.place) same ∙ ap (λ e. moved e b c.args.gap.place) c.self.view_is
