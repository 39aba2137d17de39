use Rattle.std.proofs.Common.{◌≡◌, ◌+◌, ◌*◌, ◌^◌, ◌≤◌, take}
use Rattle.std.specs.List.{sum_by}
use Rattle.bsp29_tables.specs.declared.lumps.Lump.TheVariants.{Nodes}
use Rattle.bsp29_tables.specs.Lumps.{all_lumps, count_of}
use Rattle.bsp29_tables.specs.Sizes.{section_size}
use Rattle.bsp29_tables.proofs.size.image_size.Given as goal

abbrev pub invariant-loop-lump : goal.invariant-loop-lump
invariant-loop-lump l = record {
  sum : l.total ≡ 132 + 8 * count_of l.src Nodes + sum_by (section_size l.src) (take l.lump-index all_lumps);
  small : l.total ≤ 2 ^ 46 + l.lump-index * 2 ^ 46;
}
