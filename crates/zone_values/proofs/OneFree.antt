-- What a zone with one free block gives.
use Rattle.std.proofs.Common.{◌≡◌, ℕ, suc, ◌+◌, ◌-◌, ◌<◌, ◌≤◌, List, [], ◌∷◌, ◌++◌, Some, Result, Ok, true, false, not, ◌&&◌, cond, if◌then◌else◌, eqb, leb, length, map, take, drop, refl, sym, ap, ◌∙◌, arith}
use Rattle.std.specs.Option.{option_map}
use Rattle.std.proofs.lemmas.Bool.{le-leb, lt-ltb}
use Rattle.mem_model.specs.Blocks.{ZoneBlock}
use Rattle.mem_model.specs.Memory.{Memory, Zone}
use Rattle.mem_model.specs.Laid.{Laid}
use Rattle.mem_model.specs.Places.{zone_need, least, lesser}
use Rattle.mem_model.specs.Zone.{free_positions, distance, position_after, chosen, taken, taken_at, with_taken, with_payload, with_payload_from, with_zone_bytes, place_at}
use Rattle.mem_model.specs.Operations.{z_alloc, z_taken}
use Rattle.mem_model.proofs.ZoneLists.{parted, chosen_fits}
use Rattle.mem_model.proofs.Untouched.{zone-with_event}
use Rattle.zone_values.specs.Values.{put_value, value_put, with_zero}

-- the sizes of the free blocks
abbrev pub free_sizes : List ZoneBlock → List ℕ
free_sizes [] = []
free_sizes (b ∷ bs) = if b.used then free_sizes bs else b.size ∷ free_sizes bs

free_sizes-append : (xs ys : List ZoneBlock) → free_sizes (xs ++ ys) ≡ free_sizes xs ++ free_sizes ys
free_sizes-append [] ys = refl
free_sizes-append (x ∷ xs) ys =
    elim x.used as (λ used. (if used then free_sizes (xs ++ ys) else x.size ∷ free_sizes (xs ++ ys)) ≡ (if used then free_sizes xs else x.size ∷ free_sizes xs) ++ free_sizes ys) [
      | true ↦ free_sizes-append xs ys
      | false ↦ ap (λ sizes. x.size ∷ sizes) (free_sizes-append xs ys)
    ]

-- a write leaves them
free_sizes-with_payload : (start : ℕ) (blocks : List ZoneBlock) (place : ℕ) (bytes : List ℕ) → free_sizes (with_payload_from start blocks place bytes) ≡ free_sizes blocks
free_sizes-with_payload start [] place bytes = refl
free_sizes-with_payload start (b ∷ bs) place bytes =
    elim (eqb (start + 24) place) as (λ t. free_sizes (cond t (with_payload b bytes ∷ bs) (b ∷ with_payload_from (start + b.size) bs place bytes)) ≡ free_sizes (b ∷ bs)) [
      | true ↦ refl
      | false ↦ ap (λ sizes. if b.used then sizes else b.size ∷ sizes) (free_sizes-with_payload (start + b.size) bs place bytes)
    ]

-- a free block that is large enough has a position
some_position : (i need : ℕ) (blocks : List ZoneBlock) (size : ℕ) (sizes : List ℕ) → free_sizes blocks ≡ size ∷ sizes → need ≤ size → (p : ℕ) × (ps : List ℕ) × (free_positions i need blocks ≡ p ∷ ps)
some_position i need [] size sizes h large = absurd (cc)
some_position i need (b ∷ bs) size sizes h large =
    elim b.used as (λ used. (if used then free_sizes bs else b.size ∷ free_sizes bs) ≡ size ∷ sizes →
    (p : ℕ) × (ps : List ℕ) × (cond (not used && leb need b.size) (i ∷ free_positions (suc i) need bs) (free_positions (suc i) need bs) ≡ p ∷ ps)) [
      | true ↦ λ there. some_position (suc i) need bs size sizes there large
      | false ↦ λ here. (let same : b.size ≡ size = cc in (i, free_positions (suc i) need bs, rw (le-leb need b.size (omega arith)) refl))
    ] h

some_chosen : (z : Zone) (need size : ℕ) (sizes : List ℕ) → free_sizes z.blocks ≡ size ∷ sizes → need ≤ size → (i : ℕ) × (chosen z need ≡ Some i)
unfolding chosen
some_chosen z need size sizes h large =
    let some = some_position 0 need z.blocks size sizes h large in
    (position_after z (lesser (distance z some.0) (least (map (distance z) some.1))), ap (λ ps. option_map (position_after z) (least (map (distance z) ps))) some.2)

-- one of a single number is that number
alone : (xs ys : List ℕ) (y n : ℕ) → xs ++ y ∷ ys ≡ n ∷ [] → (xs ≡ []) × (y ≡ n) × (ys ≡ [])
alone [] ys y n h = (refl, cc, cc)
alone (x ∷ []) ys y n h = absurd (cc)
alone (x ∷ w ∷ xs) ys y n h = absurd (cc)

-- a used block before a free one
free_sizes-taken : (b : ZoneBlock) (need : ℕ) → need + 64 < b.size → free_sizes (taken b need) ≡ (b.size - need) ∷ []
free_sizes-taken b need large = rw (lt-ltb 64 (b.size - need) (omega arith)) refl

free_sizes-with_taken : (z : Zone) (need size i : ℕ) → z.rover ≤ length z.blocks → free_sizes z.blocks ≡ size ∷ [] → chosen z need ≡ Some i → need + 64 < size → free_sizes (with_taken z i need).blocks ≡ (size - need) ∷ []
unfolding with_taken
free_sizes-with_taken z need size i rover h choice large =
    let fit = chosen_fits z need i rover choice in
    let front = take i z.blocks in
    let rest = drop (suc i) z.blocks in
    let single : free_sizes (fit.b ∷ rest) ≡ fit.b.size ∷ free_sizes rest = ap (λ used. if used then free_sizes rest else fit.b.size ∷ free_sizes rest) fit.free in
    let parts = alone (free_sizes front) (free_sizes rest) fit.b.size size
    (sym (ap free_sizes (parted z.blocks i fit.b fit.there) ∙ free_sizes-append front (fit.b ∷ rest) ∙ ap (λ sizes. free_sizes front ++ sizes) single) ∙ h) in
    ap (λ o. free_sizes (taken_at z i need o).blocks) fit.there
    ∙ free_sizes-append (front ++ taken fit.b need) rest
    ∙ ap (λ sizes. sizes ++ free_sizes rest) (free_sizes-append front (taken fit.b need))
    ∙ rw (parts.0, parts.2, free_sizes-taken fit.b need (omega (arith, parts.1)), parts.1) refl

-- It gives a block where its free one holds that.
pub z_alloc-one_free : (m : Memory) (size room : ℕ) → free_sizes m.zone.blocks ≡ room ∷ [] → zone_need size ≤ room → (place : ℕ) × ((z_alloc m size).answer ≡ Ok place)
unfolding z_alloc
z_alloc-one_free m size room h fits =
    let some = some_chosen m.zone (zone_need size) room [] h fits in
    (place_at m.zone.blocks some.0 + 24, ap (λ o. (z_taken m (zone_need size) o).answer) some.1)

-- What is left is one free block again, where it has more than 64 bytes.
pub free_sizes-z_alloc : (m : Memory) (size room : ℕ) → Laid m → free_sizes m.zone.blocks ≡ room ∷ [] → zone_need size + 64 < room → free_sizes (z_alloc m size).after.zone.blocks ≡ (room - zone_need size) ∷ []
unfolding z_alloc
free_sizes-z_alloc m size room laid h fits =
    let some = some_chosen m.zone (zone_need size) room [] h (omega arith) in
    ap (λ (z : Zone). free_sizes z.blocks) (zone-with_event _ _ ∙ ap (λ o. (z_taken m (zone_need size) o).after.zone) some.1)
    ∙ free_sizes-with_taken m.zone (zone_need size) room some.0 laid.zone.rover h some.1 fits

-- The same of a value.
pub put_value-one_free : (m : Memory) (value : List ℕ) (room : ℕ) → free_sizes m.zone.blocks ≡ room ∷ [] → zone_need (length value + 1) ≤ room → (place : ℕ) × ((put_value m value).answer ≡ Ok place)
unfolding put_value
put_value-one_free m value room h fits = z_alloc-one_free m (length value + 1) room h fits

pub free_sizes-put_value : (m : Memory) (value : List ℕ) (room : ℕ) → Laid m → free_sizes m.zone.blocks ≡ room ∷ [] → zone_need (length value + 1) + 64 < room → free_sizes (put_value m value).after.zone.blocks ≡ (room - zone_need (length value + 1)) ∷ []
unfolding put_value with_zone_bytes
free_sizes-put_value m value room laid h fits =
    let given = z_alloc-one_free m (length value + 1) room h (omega arith) in
    ap (λ (answer : Result ℕ ℕ). free_sizes (value_put value answer (z_alloc m (length value + 1)).after).zone.blocks) given.1
    ∙ free_sizes-with_payload 48 _ given.0 (with_zero value)
    ∙ free_sizes-z_alloc m (length value + 1) room laid h fits
