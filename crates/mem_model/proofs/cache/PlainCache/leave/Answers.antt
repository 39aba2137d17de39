use Rattle.std.proofs.Common.{◌≡◌, ◌∙◌, ◌<◌, Some, length, ap, sym, subst, arith}
use Rattle.std.specs.Prelude.{slice_get, ◌^◌}
use Rattle.std.proofs.lemmas.Option.{slice_get_read}
use Rattle.mem_model.specs.Memory.{Cache}
use Rattle.mem_model.specs.Cache.{without}
use Rattle.mem_model.specs.Laid.{IsCache}
use Rattle.mem_model.specs.CacheState.{cache_in}
use Rattle.mem_model.proofs.CacheEdits.{IsLeaving, leaving}
use Rattle.mem_model.proofs.Tables.{placed_listed, table-without}
use Rattle.mem_model.proofs.cache.PlainCache.leave.Goals as goal
use Rattle.mem_model.proofs.cache.PlainCache.leave.Goals.{After-size}

read : (c : After-size) → slice_get c.self.inside.cells.items c.args.at ≡ Some c.remove-cell.result
read c = slice_get_read c.self.inside.cells.items _ c.args.at c.remove-cell.result c.self.inside.cells.ok.0 (omega (arith, c.requires, c.self.inside.cells.ok.0, ap (λ (d : Cache). length d.blocks) c.self.view_is)) c.remove-cell.ensures.value

left : (c : After-size) → IsLeaving (cache_in c.self.inside) c.args.at c.remove-cell.result
left c = leaving (cache_in c.self.inside) c.args.at c.remove-cell.result c.self.invariant.order (read c)

entered : (c : After-size) → c.remove-cell.result.user < length c.self.inside.places.items
entered c = placed_listed c.args.at c.remove-cell.result c.self.invariant.places c.self.invariant.order.one_each (read c)

pub index_mut-requires : goal.index_mut-requires
index_mut-requires c = omega (arith, c.user-2.ensures, entered (goal.at.index_mut-requires c).After-size, c.self.inside.places.ok.0)

pub overflow_sub-self : goal.overflow_sub-self
overflow_sub-self c = omega (arith, (left (goal.at.overflow_sub-self c).After-size).size, c.self.invariant.used, c.size.ensures)

pub invariant_of-self : goal.invariant_of-self
invariant_of-self c =
    let l = left (goal.at.invariant_of-self c).After-size in
    let now : without (cache_in c.self.inside) c.remove-cell.result.user ≡ record { blocks = c.remove-cell.new.self.items; recency = c.forget.new.recency.items } = rw (c.remove-cell.ensures.items, c.forget.ensures, c.user.ensures) l.is in
    record {
      order = subst (λ d. IsCache d (2 ^ 32) 0 (2 ^ 26)) now l.order;
      places = rw (c.user-2.ensures, c.remove-cell.ensures.items, ← ap (λ (d : Cache). d.blocks) l.is)
          (table-without c.remove-cell.result.user c.self.invariant.places (entered (goal.at.invariant_of-self c).After-size));
      used = rw c.remove-cell.ensures.items (omega (arith, l.size, c.self.invariant.used, c.size.ensures));
    }

pub returns : goal.returns
returns c = λ b here.
    let d = (goal.at.returns c).After-size in
    let there : slice_get c.self.inside.cells.items c.args.at ≡ Some b = ap (λ (m : Cache). slice_get m.blocks c.args.at) c.self.view_is ∙ here in
    let same : c.remove-cell.result ≡ b = (let e : Some c.remove-cell.result ≡ Some b = sym (read d) ∙ there in cc) in
    rw (c.remove-cell.ensures.items, c.forget.ensures, c.user.ensures, same, ← c.self.view_is) (sym (leaving (cache_in c.self.inside) c.args.at b c.self.invariant.order there).is)
