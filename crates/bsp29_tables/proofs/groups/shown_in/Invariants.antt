use Rattle.std.proofs.Common.{◌≡◌, ◌≤◌, length, filter, is_some}
use Rattle.std.specs.List.{range_with_len}
use Rattle.bsp29_tables.specs.Cycles.{name_of, frame_of}
use Rattle.bsp29_tables.proofs.groups.shown_in.Given as goal

abbrev pub invariant-loop-texture : goal.invariant-loop-texture
invariant-loop-texture l = record {
  shown : l.order.items ≡ filter (λ texture. is_some (frame_of (name_of l.lump texture))) (range_with_len 0 l.texture);
  few : length l.order.items ≤ l.texture;
}
