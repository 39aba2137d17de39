use Rattle.std.proofs.Common.{◌^◌, ltb, sym, arith, rules}
use Rattle.std.proofs.lemmas.Bool.{ltb-true, ltb-false}
use Rattle.std.proofs.lemmas.List.Sorted.{IsPartitionPoint-from_clause, IsPartitionedBy-ltb}
use Rattle.mem_model.specs.Blocks.{CacheBlock}
use Rattle.mem_model.proofs.Tables.{own, rising_places}
use Rattle.mem_model.proofs.cache.position_of.Goals as goal

pub returns : goal.returns
returns c =
    let parted = IsPartitionedBy-ltb (λ (b : CacheBlock). b.place) c.args.cells.now c.in_ok-place.place (rising_places 0 (2 ^ 26) c.args.cells.now c.requires.between) in
    let point = IsPartitionPoint-from_clause (λ (b : CacheBlock). ltb b.place c.in_ok-place.place) _ _ c.partition_point.ensures.partitioned parted (λ a r q k. search rules) in
    own c.args.user c.in_ok-place.place (2 ^ 26) c.partition_point.result c.requires.places c.requires.between c.requires.sized (sym c.in_ok-place.ensures)
    (λ k d h. ltb-true _ _ (point.0 k d (omega arith) h)) (λ k d h l. ltb-false _ _ (point.1 k d h l))
