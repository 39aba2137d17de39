-- There are fewer blocks than bytes.
use Rattle.std.proofs.Common.{◌≡◌, ℕ, suc, ◌+◌, ◌-◌, ◌<◌, ◌≤◌, List, [], ◌∷◌, length, cond, nat_eq, eqb, inl, inr, refl, arith, map, if◌then◌else◌, length-append}
use Rattle.std.proofs.lemmas.Bool.{eq-eqb}
use Rattle.std.proofs.lemmas.Bool.Decides.{eqb_tells}
use Rattle.std.specs.List.{AllByRecursion}
use Rattle.mem_model.specs.Blocks.{HunkBlock, ZoneBlock, CacheBlock}
use Rattle.mem_model.specs.Memory.{Memory, size_of, low_used, high_start}
use Rattle.mem_model.specs.Laid.{Laid, IsHunkBlock, IsZoneBlock, IsCacheBlock, AreLowBlocks, AreBetween, count_in, users_of}
use Rattle.mem_model.specs.Rows.{rows_up, rows_down, hunk_row, zone_rows_up, cache_row}
use Rattle.mem_model.specs.Zone.{size_of_zone}
use Rattle.mem_model.proofs.ZoneApart.{first_below}
use Rattle.block_report.specs.Reports.{rows_of}
use Rattle.block_report.specs.declared.Part.{Part}
use Rattle.block_report.specs.declared.Part.TheVariants.{Low, High, Zone, Cache}

few_up : (start : ℕ) (blocks : List HunkBlock) → AllByRecursion IsHunkBlock blocks → length (rows_up start blocks) ≤ size_of blocks
few_up start [] all = omega arith
few_up start (b ∷ bs) all = omega (arith, all.0.header, few_up (start + b.size) bs all.1)

few_low : (low : List HunkBlock) → AreLowBlocks low → length (rows_up 0 low) ≤ size_of low
few_low [] all = absurd all
few_low (zone ∷ blocks) all = omega (arith, all.0.header, few_up (0 + zone.size) blocks all.1)

few_down : (end : ℕ) (blocks : List HunkBlock) → AllByRecursion IsHunkBlock blocks → length (rows_down end blocks) ≤ size_of blocks
few_down end [] all = omega arith
few_down end (b ∷ bs) all =
    omega (arith, all.0.header, few_down (end - b.size) bs all.1, length-append (rows_down (end - b.size) bs) (hunk_row (end - b.size) b ∷ []))

few_zone : (start : ℕ) (blocks : List ZoneBlock) → AllByRecursion IsZoneBlock blocks → length (zone_rows_up start blocks) ≤ size_of_zone blocks
few_zone start [] all = omega arith
few_zone start (b ∷ bs) all = omega (arith, all.0.least, few_zone (start + b.size) bs all.1)

few_between : (users bottom top : ℕ) (blocks : List CacheBlock) → AllByRecursion (IsCacheBlock users) blocks → AreBetween bottom top blocks →
    bottom + length blocks ≤ top
few_between users bottom top [] all between = omega (arith, between)
few_between users bottom top (b ∷ bs) all between =
    omega (arith, all.0.least, between.0, few_between users (b.place + b.size) top bs all.1 between.1)

length-rows : (blocks : List CacheBlock) → length (map cache_row blocks) ≡ length blocks
length-rows [] = refl
length-rows (b ∷ bs) = omega (arith, length-rows bs)

few_cache : (m : Memory) → Laid m → length m.cache.blocks ≤ m.size
few_cache m laid = omega (arith, few_between m.users (low_used m) (high_start m) m.cache.blocks laid.cache.blocks laid.cache.between)

pub few_rows : (m : Memory) (part : Part) → Laid m → length (rows_of m part) ≤ m.size
few_rows m Low laid = omega (arith, laid.inside, few_low m.low laid.low)
few_rows m High laid = omega (arith, laid.inside, few_down m.size m.high laid.high)
few_rows m Zone laid = omega (arith, laid.inside, laid.zone.tiles, first_below m.low, few_zone 48 m.zone.blocks laid.zone.blocks)
few_rows m Cache laid = omega (arith, length-rows m.cache.blocks, few_cache m laid)

-- the users without the first that has this number
remove : ℕ → List ℕ → List ℕ
remove user [] = []
remove user (u ∷ us) = cond (eqb u user) us (u ∷ remove user us)

length-remove : (user : ℕ) (users : List ℕ) → 0 < count_in user users → length users ≡ suc (length (remove user users))
unfolding remove
length-remove user [] some = absurd (omega (arith, some))
length-remove user (u ∷ us) some =
    elim (eqb_tells u user) [
      | inl at ↦ rw at.0 refl
      | inr off ↦ rw off.0 (let more : 0 < count_in user us = omega (arith, rw off.0 at some) in omega (arith, length-remove user us more))
    ]

count-remove : (other user : ℕ) (users : List ℕ) → 0 < count_in user users →
    count_in other users ≡ (if nat_eq user other then 1 else 0) + count_in other (remove user users)
unfolding remove
count-remove other user [] some = absurd (omega (arith, some))
count-remove other user (u ∷ us) some =
    elim (eqb_tells u user) [
      | inl at ↦ rw (at.0, at.1) refl
      | inr off ↦ rw off.0 (let more : 0 < count_in user us = omega (arith, rw off.0 at some) in omega (arith, count-remove other user us more))
    ]

-- lists that have each user equally often are equally long
as_many : (users others : List ℕ) → ((user : ℕ) → count_in user users ≡ count_in user others) → length users ≡ length others
as_many [] [] same = refl
as_many [] (u ∷ us) same = absurd (let none = same u in omega (arith, rw (eq-eqb u u refl) at none))
as_many (u ∷ us) others same =
    let once = same u in
    let some : 0 < count_in u others = omega (arith, rw (eq-eqb u u refl) at once) in
    let rest = as_many us (remove u others) (λ user. omega (arith, same user, count-remove user u others some)) in
    omega (arith, rest, length-remove u others some)

length-users : (blocks : List CacheBlock) → length (users_of blocks) ≡ length blocks
length-users [] = refl
length-users (b ∷ bs) = omega (arith, length-users bs)

pub few_users : (m : Memory) → Laid m → length m.cache.recency ≤ m.size
few_users m laid =
    omega (arith, as_many m.cache.recency (users_of m.cache.blocks) laid.cache.recency, length-users m.cache.blocks, few_cache m laid)
