-- The zone that a plain store's part stands for, and what holds of its fields.
use Rattle.std.specs.Prelude.{ℕ, ◌≡◌, ◌+◌, ◌^◌, ◌≤◌, List, length}
use Rattle.mem_model.specs.Memory.{Zone}
use Rattle.mem_model.specs.Zone.{places_from, size_of_zone, with_payload_from}
use Rattle.mem_model.specs.declared.zone.PlainZone.TheInside.{Inside}

abbrev pub zone_of : Inside → Zone
zone_of s = record { blocks = s.cells.items; rover = s.rover }

-- The places are those of the blocks, which end inside an arena, and the rover stands among them or on the cap.
pub record IsPlainZone (s : Inside) : Type 0 where
  pub places : s.places.items ≡ places_from 48 s.cells.items
  pub small : 48 + size_of_zone s.cells.items ≤ 2 ^ 26
  pub rover : s.rover ≤ length s.cells.items

-- the zone with bytes written into the block whose payload is at this place
abbrev pub with_zone_payload : Zone → ℕ → List ℕ → Zone
with_zone_payload z place bytes = record z { blocks = with_payload_from 48 z.blocks place bytes }
