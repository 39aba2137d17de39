use Rattle.std.proofs.Common.{◌≡◌, ◌∙◌, Some, ap, sym, arith}
use Rattle.std.specs.Prelude.{◌^◌, slice_get}
use Rattle.std.proofs.lemmas.Option.{slice_get_read}
use Rattle.mem_model.specs.Memory.{cache_of}
use Rattle.mem_model.specs.Cache.{find_block}
use Rattle.mem_model.specs.Tables.{IsOwn}
use Rattle.mem_model.proofs.Evicting.{IsGone, gone, nobody_left, evicted_block}
use Rattle.mem_model.proofs.CacheBlocks.{between_from, between_to}
use Rattle.mem_model.proofs.Tables.{owner_listed, table-without}
use Rattle.mem_model.proofs.cache.evict.Goals as goal
use Rattle.mem_model.proofs.cache.evict.Goals.{After-cell}

pub unreachable-requires : goal.unreachable-requires
unreachable-requires c = nobody_left (cache_of c.args.cells.now.items c.args.recency.now.items) c.args.bottom c.args.top c.args.size c.requires.order c.requires.fits.1 (omega (arith, c.in_default.ensures.cases, c.args.recency.now.ok.0)) c.requires.full

pub unreachable-requires-in_default-position_of : goal.unreachable-requires-in_default-position_of
unreachable-requires-in_default-position_of c =
    evicted_block (cache_of c.args.cells.now.items c.args.recency.now.items) c.args.bottom c.args.top c.in-Some.user c.pop.new.self.items c.requires.order c.in-Some.ensures.items
    (ap (find_block c.in-Some.user) (sym c.deref.ensures.value) ∙ c.in_default-position_of.ensures)

own : (c : After-cell) → IsOwn c.args.cells.now.items c.in-Some.user c.in-Some-position_of.at
own c = rw c.deref.ensures.value at c.in-Some-position_of.ensures

read : (c : After-cell) → slice_get c.args.cells.now.items c.in-Some-position_of.at ≡ Some c.remove-cell.result
read c = slice_get_read c.args.cells.now.items _ c.in-Some-position_of.at c.remove-cell.result c.args.cells.now.ok.0 (omega (arith, c.args.cells.now.ok.0, (own c).inside)) c.remove-cell.ensures.value

left : (c : After-cell) → IsGone (cache_of c.args.cells.now.items c.args.recency.now.items) c.args.bottom c.args.top c.args.size c.in-Some.user c.in-Some-position_of.at c.remove-cell.result
left c = gone (cache_of c.args.cells.now.items c.args.recency.now.items) c.args.bottom c.args.top c.args.size c.in-Some.user c.in-Some-position_of.at c.pop.new.self.items c.remove-cell.result c.requires.order c.requires.fits.1 c.requires.fits.0 c.in-Some.ensures.items c.requires.full (own c) (read c)

pub overflow_sub-used : goal.overflow_sub-used
overflow_sub-used c = omega (arith, c.size.ensures, c.requires.used, (left (goal.at.overflow_sub-used c).After-cell).sizes)

pub gap_around-requires-clause-inside : goal.gap_around-requires-clause-inside
gap_around-requires-clause-inside c = rw (c.deref-2.ensures.value, c.remove-cell.ensures.items) (left (goal.at.gap_around-requires-clause-inside c).After-cell).inside

pub gap_around-requires-clause-between : goal.gap_around-requires-clause-between
gap_around-requires-clause-between c = rw (c.deref-2.ensures.value, c.remove-cell.ensures.items) (left (goal.at.gap_around-requires-clause-between c).After-cell).between

pub gap_around-requires-clause-around : goal.gap_around-requires-clause-around
gap_around-requires-clause-around c = rw (c.deref-2.ensures.value, c.remove-cell.ensures.items) (left (goal.at.gap_around-requires-clause-around c).After-cell).around

pub returns-clause-evicted : goal.returns-clause-evicted
returns-clause-evicted c =
    let l = left (goal.at.returns-clause-evicted c).After-cell in
    rw (c.remove-cell.ensures.items, ← l.left c.pop.new.self.items c.in-Some.ensures.items) l.is

pub returns-clause-used : goal.returns-clause-used
returns-clause-used c = rw c.remove-cell.ensures.items (omega (arith, c.size.ensures, c.requires.used, (left (goal.at.returns-clause-used c).After-cell).sizes))

pub position_of-requires-clause-between : goal.position_of-requires-clause-between
position_of-requires-clause-between c =
    rw c.deref.ensures.value (between_from c.args.cells.now.items 0 c.args.bottom (2 ^ 26) (omega arith) (between_to c.args.cells.now.items c.args.bottom c.args.top (2 ^ 26) c.requires.small.1 c.requires.order.between))

pub bounds-places-user : goal.bounds-places-user
bounds-places-user c =
    let own : IsOwn c.args.cells.now.items c.in-Some.user c.in-Some-position_of.at = rw c.deref.ensures.value at c.in-Some-position_of.ensures in
    owner_listed c.in-Some.user c.in-Some-position_of.at c.requires.places own

pub returns-clause-places : goal.returns-clause-places
returns-clause-places c =
    let d = (goal.at.returns-clause-places c).After-cell in
    rw (c.remove-cell.ensures.items, ← (left d).removed) (table-without c.in-Some.user c.requires.places (owner_listed c.in-Some.user c.in-Some-position_of.at c.requires.places (own d)))
