-- The zone: blocks that tile it, and a rover.
use Prim.Native.Nat.{zero, suc}
use Rattle.std.specs.Prelude.{ℕ, ◌+◌, ◌-◌, ◌%◌, List, [], ◌∷◌, ◌++◌, true, false, ◌&&◌, nat_lt, nat_le, nat_eq, not, Option, Some, None, if◌then◌else◌, length, take, drop, replicate, map, position, slice_get}
use Rattle.std.specs.Option.{option_map}
use Rattle.mem_model.specs.Blocks.{ZoneBlock}
use Rattle.mem_model.specs.Memory.{Memory, Zone}
use Rattle.mem_model.specs.Places.{least}
use Rattle.mem_model.specs.Hunk.{over}

abbrev pub free_block : ℕ → ZoneBlock
free_block size = record { size = size; used = false; bytes = [] }

-- a block of zero bytes
abbrev pub used_block : ℕ → ZoneBlock
used_block size = record { size = size; used = true; bytes = replicate (size - 28) 0 }

abbrev pub size_of_zone : List ZoneBlock → ℕ
size_of_zone [] = 0
size_of_zone (b ∷ bs) = b.size + size_of_zone bs

-- where the block of a position stands
abbrev pub place_at : List ZoneBlock → ℕ → ℕ
place_at blocks i = 48 + size_of_zone (take i blocks)

-- where each of the blocks stands, the first of them at `place`
abbrev pub places_from : ℕ → List ZoneBlock → List ℕ
places_from place [] = []
places_from place (b ∷ bs) = place ∷ places_from (place + b.size) bs

-- the position of the block whose payload is at this place
unfoldable pub position_of : List ZoneBlock → ℕ → Option ℕ
position_of blocks payload = position (λ place. nat_eq (place + 24) payload) (places_from 48 blocks)

-- the positions of the free blocks of at least this size, the first of the blocks at position i
abbrev pub free_positions : ℕ → ℕ → List ZoneBlock → List ℕ
free_positions i need [] = []
free_positions i need (b ∷ bs) =
    if not b.used && nat_le need b.size then i ∷ free_positions (suc i) need bs else free_positions (suc i) need bs

-- how far a position is behind the rover, in the ring of the blocks and the cap
abbrev pub distance : Zone → ℕ → ℕ
distance z i = (i + (suc (length z.blocks) - z.rover)) % suc (length z.blocks)

-- the position at a distance
abbrev pub position_after : Zone → ℕ → ℕ
position_after z d = (z.rover + d) % suc (length z.blocks)

-- among the free blocks of at least this size, the position of the one of least distance
unfoldable pub chosen : Zone → ℕ → Option ℕ
chosen z need = option_map (position_after z) (least (map (distance z) (free_positions 0 need z.blocks)))

-- A block becomes used. A rest of more than 64 bytes becomes a free block behind it, and a smaller one stays with it.
abbrev pub taken : ZoneBlock → ℕ → List ZoneBlock
taken b need = if nat_lt 64 (b.size - need) then used_block need ∷ free_block (b.size - need) ∷ [] else used_block b.size ∷ []

-- the blocks with others in the place of the one at position i
abbrev pub replaced : List ZoneBlock → ℕ → List ZoneBlock → List ZoneBlock
replaced blocks i news = take i blocks ++ news ++ drop (suc i) blocks

abbrev pub taken_at : Zone → ℕ → ℕ → Option ZoneBlock → Zone
taken_at z i need None = z
taken_at z i need (Some b) = record { blocks = replaced z.blocks i (taken b need); rover = suc i }

-- The block at position i becomes used, and the rover is the position after it.
unfoldable pub with_taken : Zone → ℕ → ℕ → Zone
with_taken z i need = taken_at z i need (slice_get z.blocks i)

-- Two neighbours become one free block where both are free. A rover on the second or behind it goes with its block.
abbrev pub joined : Zone → ℕ → Option ZoneBlock → Option ZoneBlock → Zone
joined z i (Some b) (Some c) =
    if not b.used && not c.used
    then record { blocks = take i z.blocks ++ free_block (b.size + c.size) ∷ drop (suc (suc i)) z.blocks; rover = if nat_lt i z.rover then z.rover - 1 else z.rover }
    else z
joined z i b c = z

-- the block at position i and the next
unfoldable pub joined_at : Zone → ℕ → Zone
joined_at z i = joined z i (slice_get z.blocks i) (slice_get z.blocks (suc i))

abbrev pub freed_at : Zone → ℕ → Option ZoneBlock → Zone
freed_at z i None = z
freed_at z i (Some b) = record z { blocks = replaced z.blocks i (free_block b.size ∷ []) }

-- The block at position i becomes free, and is joined with the block after it and with the block before it, where these are free.
unfoldable pub with_free : Zone → ℕ → Zone
with_free z zero = joined_at (freed_at z zero (slice_get z.blocks zero)) zero
with_free z (suc i) = joined_at (joined_at (freed_at z (suc i) (slice_get z.blocks (suc i))) (suc i)) i

-- the bytes of a block in use
abbrev pub used_bytes : ZoneBlock → Option (List ℕ)
used_bytes b = if b.used then Some b.bytes else None

-- the bytes of the used block whose payload is at this place, where the first block begins at `start`
abbrev pub used_bytes_from : ℕ → List ZoneBlock → ℕ → Option (List ℕ)
used_bytes_from start [] place = None
used_bytes_from start (b ∷ bs) place = if nat_eq (start + 24) place then used_bytes b else used_bytes_from (start + b.size) bs place

-- a block with bytes written over its own; a free one has none
abbrev pub with_payload : ZoneBlock → List ℕ → ZoneBlock
with_payload b bytes = record b { bytes = over b.bytes bytes }

-- the blocks with bytes written into the one whose payload is at this place
abbrev pub with_payload_from : ℕ → List ZoneBlock → ℕ → List ℕ → List ZoneBlock
with_payload_from start [] place bytes = []
with_payload_from start (b ∷ bs) place bytes =
    if nat_eq (start + 24) place then with_payload b bytes ∷ bs else b ∷ with_payload_from (start + b.size) bs place bytes

-- the bytes of the used zone block whose payload is at this place
unfoldable pub zone_bytes : Memory → ℕ → Option (List ℕ)
zone_bytes m place = used_bytes_from 48 m.zone.blocks place

-- the memory with bytes written into that block
unfoldable pub with_zone_bytes : Memory → ℕ → List ℕ → Memory
with_zone_bytes m place bytes = record m { zone = record m.zone { blocks = with_payload_from 48 m.zone.blocks place bytes } }

-- where the rover stands; the cap, behind the last block, counts as standing at 20, in the zone's header
unfoldable pub rover_place : Zone → ℕ
rover_place z = if nat_lt z.rover (length z.blocks) then place_at z.blocks z.rover else 20
