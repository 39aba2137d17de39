use Rattle.std.proofs.Common.{◌≡◌, ◌∙◌, ◌++◌, length, take, drop, ap, sym, subst, arith}
use Rattle.std.specs.Prelude.{◌^◌, IsSome}
use Rattle.mem_model.specs.Memory.{cache_of}
use Rattle.mem_model.specs.Cache.{block_of, touched}
use Rattle.mem_model.specs.Laid.{IsCache, count_in}
use Rattle.mem_model.specs.CacheState.{cache_in}
use Rattle.mem_model.proofs.CacheEdits.{written_whole}
use Rattle.mem_model.proofs.Shifts.{shifted_is}
use Rattle.mem_model.proofs.Evicting.{some_counted, some_true}
use Rattle.mem_model.proofs.CacheLaws.{IsCache-touched}
use Rattle.mem_model.proofs.cache.PlainCache.touch.Goals as goal

has : (c : goal.After-self-1) → IsSome (block_of (cache_in c.self.inside) c.args.user)
has c = subst (λ m. IsSome (block_of m c.args.user)) (sym c.self.view_is) c.requires

now : (c : goal.After-self-1) → touched (cache_in c.self.inside) c.args.user ≡ cache_of c.self.inside.cells.items (take c.self.inside.recency.len (c.touch.new.recency ++ drop (length c.touch.new.recency) c.self.inside.recency.items))
now c =
    let s = c.self.inside in
    let order = c.self.invariant.order in
    let once : count_in c.args.user s.recency.items ≡ 1 = omega (arith, some_counted c.args.user s.cells.items (has c), order.one_each c.args.user, order.recency c.args.user) in
    ap (cache_of s.cells.items)
    (sym (written_whole c.touch.new.recency s.recency.items s.recency.len (c.touch.auto.recency ∙ ap length c.deref_mut.ensures.value) s.recency.ok.0
    ∙ c.touch.ensures ∙ rw c.deref_mut.ensures.value (shifted_is c.args.user c.args.user s.recency.items once)))

pub invariant_of-self : goal.invariant_of-self
invariant_of-self c = record {
  order = subst (λ m. IsCache m (2 ^ 32) 0 (2 ^ 26)) (now c) (IsCache-touched (cache_in c.self.inside) (2 ^ 32) 0 (2 ^ 26) c.args.user c.self.invariant.order (some_true (block_of (cache_in c.self.inside) c.args.user) (has c)));
  places = c.self.invariant.places;
  used = c.self.invariant.used;
}

pub returns : goal.returns
returns c = sym (now c) ∙ ap (λ m. touched m c.args.user) c.self.view_is
