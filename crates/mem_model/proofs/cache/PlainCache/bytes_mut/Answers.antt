use Rattle.std.proofs.Common.{◌≡◌, ◌∙◌, Some, List, ap, sym, refl, arith}
use Rattle.std.specs.Prelude.{slice_get, slice_set, ◌^◌}
use Rattle.std.specs.Option.{option_map}
use Rattle.std.proofs.lemmas.Option.{slice_get_read}
use Rattle.mem_model.specs.Blocks.{CacheBlock}
use Rattle.mem_model.specs.Memory.{Cache}
use Rattle.mem_model.specs.Cache.{peek_bytes}
use Rattle.mem_model.specs.CacheState.{cache_in}
use Rattle.mem_model.specs.Images.{with_contents, with_contents_of, with_user_bytes}
use Rattle.mem_model.specs.Tables.{IsOwn}
use Rattle.mem_model.proofs.CacheBytes.{IsCache-with_user_bytes, contents_own, size_of-with, table-with}
use Rattle.mem_model.proofs.cache.PlainCache.bytes_mut.Goals as goal
use Rattle.mem_model.proofs.cache.PlainCache.bytes_mut.Goals.{After-bytes_mut}

own : (c : After-bytes_mut) → IsOwn c.self.inside.cells.items c.args.user c.own_position-at.result
own c = c.own_position-at.ensures

read_lent : (c : After-bytes_mut) → slice_get c.self.inside.cells.items c.own_position-at.result ≡ Some c.index_mut.result.now
read_lent c =
    slice_get_read c.self.inside.cells.items _ c.own_position-at.result c.index_mut.result.now c.self.inside.cells.ok.0 (omega (arith, (own c).inside, c.self.inside.cells.ok.0)) c.index_mut.ensures.value

written : (c : After-bytes_mut) (w : List _) → with_user_bytes (cache_in c.self.inside) c.args.user w ≡ record (cache_in c.self.inside) { blocks = slice_set c.self.inside.cells.items c.own_position-at.result (with_contents c.index_mut.result.now w) }
written c w = contents_own (cache_in c.self.inside) c.args.user c.own_position-at.result c.index_mut.result.now w (c.self.invariant.order.one_each c.args.user) (own c) (read_lent c)

pub invariant_of-self-lent : goal.invariant_of-self-lent
unfolding with_user_bytes
invariant_of-self-lent c = λ w.
    let is : with_contents_of c.args.user c.self.inside.cells.items w ≡ slice_set c.self.inside.cells.items c.own_position-at.result (with_contents c.index_mut.result.now w) = ap (λ (d : Cache). d.blocks) (written c w) in
    record {
      order = rw (← is) (IsCache-with_user_bytes (cache_in c.self.inside) (2 ^ 32) 0 (2 ^ 26) c.args.user w c.self.invariant.order);
      places = rw (← is) (table-with c.args.user w c.self.invariant.places);
      used = rw (← is, size_of-with c.args.user c.self.inside.cells.items w) c.self.invariant.used;
    }

pub returns : goal.returns
unfolding peek_bytes
returns c =
    let d = (goal.at.returns c).After-bytes_mut in (
      (refl, λ w. rw (← c.self.view_is) (sym (written d w))),
      record { writes_back = tt; shows = rw (← c.self.view_is, c.bytes_mut.ensures.shows) (ap (option_map (λ (b : CacheBlock). b.bytes)) ((own d).found ∙ read_lent d)) },
    )
