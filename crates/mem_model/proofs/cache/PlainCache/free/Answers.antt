use Rattle.std.proofs.Common.{◌≡◌, ◌∙◌, Some, None, ap, sym}
use Rattle.std.specs.Prelude.{◌^◌, slice_get, is_some}
use Rattle.mem_model.specs.Blocks.{CacheBlock}
use Rattle.mem_model.specs.Memory.{Cache}
use Rattle.mem_model.specs.Cache.{block_of, find_block, without}
use Rattle.mem_model.specs.Tables.{IsOwn}
use Rattle.mem_model.specs.CacheState.{cache_in}
use Rattle.mem_model.proofs.CacheBlocks.{find-some}
use Rattle.mem_model.proofs.Evicting.{there, without-none}
use Rattle.mem_model.proofs.cache.PlainCache.free.Goals as goal

-- the block that is found
found : (c : goal.After-leave) → (b : CacheBlock) × (slice_get c.self.inside.cells.items c.in-Some.at ≡ Some b) × (find_block c.args.user c.self.inside.cells.items ≡ Some b)
found c =
    let own : IsOwn c.self.inside.cells.items c.args.user c.in-Some.at = rw c.deref.ensures.value at c.in-Some.ensures in
    let b = there c.self.inside.cells.items c.in-Some.at own.inside in
    (b.0, b.1, own.found ∙ b.1)

pub returns-in-Some-clause-had : goal.returns-in-Some-clause-had
returns-in-Some-clause-had c =
    let b = found c in
    sym (ap (λ m. is_some (block_of m c.args.user)) (sym c.self.view_is) ∙ ap is_some b.2)

pub returns-in-Some-clause-left : goal.returns-in-Some-clause-left
returns-in-Some-clause-left c =
    let b = found c in
    c.leave.ensures b.0 (ap (λ (m : Cache). slice_get m.blocks c.in-Some.at) (sym c.self.view_is) ∙ b.1)
    ∙ ap (without c.args.self.now) (find-some c.args.user c.self.inside.cells.items b.0 b.2).0

none : (c : goal.In-None) → find_block c.args.user c.self.inside.cells.items ≡ None
none c = ap (find_block c.args.user) (sym c.deref.ensures.value) ∙ c.in-None.ensures

pub returns-in-None-clause-had : goal.returns-in-None-clause-had
returns-in-None-clause-had c = sym (ap (λ m. is_some (block_of m c.args.user)) (sym c.self.view_is) ∙ ap is_some (none c))

pub returns-in-None-clause-left : goal.returns-in-None-clause-left
returns-in-None-clause-left c = sym c.self.view_is ∙ sym (without-none (cache_in c.self.inside) (2 ^ 32) 0 (2 ^ 26) c.args.user c.self.invariant.order (none c)) ∙ ap (λ m. without m c.args.user) c.self.view_is
