-- What the steps of an allocation and of a freeing make of a zone's list.
use Rattle.std.proofs.Common.{◌≡◌, ◌≢◌, ℕ, suc, zero, ◌+◌, ◌-◌, ◌<◌, ◌≤◌, List, [], ◌∷◌, ◌++◌, Option, Some, None, true, false, cond, ltb, length, take, drop, set, get_or, refl, sym, ap, ◌∙◌, arith, lt-ltb, length-set, length-append}
use Rattle.std.specs.Prelude.{slice_get, if◌then◌else◌, ◌^◌, not, ◌&&◌, IsSomeAnd}
use Rattle.std.specs.List.{insert, remove}
use Rattle.std.proofs.lemmas.Bool.{le-ltb}
use Rattle.std.proofs.lemmas.List.{set_split, append_assoc, length-take-le}
use Rattle.std.proofs.lemmas.List.Edits.{length-remove, length-insert}
use Rattle.std.proofs.lemmas.Option.{slice_get_past, slice_get_within, slice_get_read}
use Rattle.mem_model.specs.Blocks.{ZoneBlock}
use Rattle.mem_model.specs.Memory.{Zone}
use Rattle.mem_model.specs.Zone.{free_block, used_block, replaced, with_taken, joined, joined_at, freed_at, with_free, places_from, size_of_zone, place_at}
use Rattle.mem_model.proofs.ZonePlaces.{split_is, joined_is, length-places, place_is, inside_zone}

alone : (z : Zone) (i : ℕ) (o : Option ZoneBlock) → joined z i o None ≡ z
alone z i None = refl
alone z i (Some b) = refl

-- The last block has no next one to be joined with.
pub joined_at-last : (z : Zone) (i : ℕ) → length z.blocks ≤ suc i → joined_at z i ≡ z
unfolding joined_at
joined_at-last z i last = rw (slice_get_past z.blocks (suc i) last) (alone z i (slice_get z.blocks i))

-- Neighbours stay as they are where one is in use.
pub joined_at-used : (z : Zone) (i : ℕ) (b c : ZoneBlock) → slice_get z.blocks i ≡ Some b → slice_get z.blocks (suc i) ≡ Some c → b.used ≡ true → joined_at z i ≡ z
unfolding joined_at
joined_at-used z i b c at next used = rw (at, next, used) refl

pub joined_at-next_used : (z : Zone) (i : ℕ) (b c : ZoneBlock) → slice_get z.blocks i ≡ Some b → slice_get z.blocks (suc i) ≡ Some c → b.used ≡ false → c.used ≡ true → joined_at z i ≡ z
unfolding joined_at
joined_at-next_used z i b c at next free used = rw (at, next, free, used) refl

-- Where both are free, one stands for both.
pub joined_at-free : (z : Zone) (i : ℕ) (b c : ZoneBlock) (blocks : List ZoneBlock) → slice_get z.blocks i ≡ Some b → slice_get z.blocks (suc i) ≡ Some c → b.used ≡ false → c.used ≡ false →
    blocks ≡ take i z.blocks ++ free_block (b.size + c.size) ∷ drop (suc (suc i)) z.blocks → joined_at z i ≡ record { blocks = blocks; rover = if ltb i z.rover then z.rover - 1 else z.rover }
unfolding joined_at
joined_at-free z i b c blocks at next free next_free is = rw (at, next, free, next_free, is) refl

-- Two neighbours, as they are read.
pub record AreNeighbours (z : Zone) (i : ℕ) (b c : ZoneBlock) : Type 0 where
  pub inside : suc i < length z.blocks
  pub first : slice_get z.blocks i ≡ Some b
  pub second : slice_get z.blocks (suc i) ≡ Some c

pub neighbours_read : (z now : Zone) (len i : ℕ) (b c : ZoneBlock) → z ≡ now → len ≡ length z.blocks → i < length now.blocks → len ≢ i + 1 → b ≡ get_or z.blocks i b → c ≡ get_or z.blocks (i + 1) c → AreNeighbours z i b c
neighbours_read z now len i b c is counted here more first second =
    let same = ap (λ (x : Zone). length x.blocks) is in
    let next : i + 1 ≡ suc i = omega arith in
    record {
      inside = omega (arith, counted, here, more, same);
      first = slice_get_read z.blocks len i b counted (omega (arith, counted, here, same)) first;
      second = slice_get_read z.blocks len (suc i) c counted (omega (arith, counted, here, more, same)) (second ∙ ap (λ n. get_or z.blocks n c) next);
    }

-- A zone's list and its places where two free neighbours were joined.
pub record IsMerged (z : Zone) (i : ℕ) (places : List ℕ) (blocks : List ZoneBlock) : Type 0 where
  pub places_are : places ≡ places_from 48 blocks
  pub small : 48 + size_of_zone blocks ≤ 2 ^ 26
  pub fewer : length blocks + 1 ≡ length z.blocks
  pub inside : i < length blocks
  pub joined : joined_at z i ≡ record { blocks = blocks; rover = if ltb i z.rover then z.rover - 1 else z.rover }

pub merged : (z : Zone) (i : ℕ) (b c x : ZoneBlock) (before places : List ℕ) (blocks : List ZoneBlock) → AreNeighbours z i b c → b.used ≡ false → c.used ≡ false → x ≡ free_block (b.size + c.size) →
    before ≡ places_from 48 z.blocks → 48 + size_of_zone z.blocks ≤ 2 ^ 26 → blocks ≡ remove (set z.blocks i x) (i + 1) → places ≡ remove before (i + 1) → IsMerged z i places blocks
merged z i b c x before places blocks read free next_free x_is placed small blocks_are places_are =
    let one = joined_is z.blocks i b c x read.inside read.first read.second (ap (λ (y : ZoneBlock). y.size) x_is) in
    let count = length-remove (set z.blocks i x) (i + 1) (omega (arith, length-set z.blocks i x, read.inside)) in
    record {
      places_are = places_are ∙ ap (λ ps. remove ps (i + 1)) placed ∙ one.places ∙ ap (places_from 48) (sym blocks_are);
      small = omega (arith, small, one.size, ap size_of_zone blocks_are);
      fewer = omega (arith, ap length blocks_are, count, length-set z.blocks i x);
      inside = omega (arith, ap length blocks_are, count, length-set z.blocks i x, read.inside);
      joined = joined_at-free z i b c blocks read.first read.second free next_free (blocks_are ∙ one.blocks_are ∙ ap (λ y. take i z.blocks ++ y ∷ drop (suc (suc i)) z.blocks) x_is);
    }

pub joined_rover_behind : {z : Zone} {i : ℕ} {places : List ℕ} {blocks : List ZoneBlock} → IsMerged z i places blocks → i < z.rover → joined_at z i ≡ record { blocks = blocks; rover = z.rover - 1 }
joined_rover_behind {z} {i} {places} {blocks} joint behind = joint.joined ∙ ap (λ t. record { blocks = blocks; rover = if t then z.rover - 1 else z.rover }) (lt-ltb i z.rover behind)

pub joined_rover_before : {z : Zone} {i : ℕ} {places : List ℕ} {blocks : List ZoneBlock} → IsMerged z i places blocks → z.rover ≤ i → joined_at z i ≡ record { blocks = blocks; rover = z.rover }
joined_rover_before {z} {i} {places} {blocks} joint before = joint.joined ∙ ap (λ t. record { blocks = blocks; rover = if t then z.rover - 1 else z.rover }) (le-ltb i z.rover before)

-- A join leaves the block at the position.
pub joined_inside : (z : Zone) (i : ℕ) → i < length z.blocks → i < length (joined_at z i).blocks
unfolding joined_at
joined_inside z i inside = by_blocks (slice_get z.blocks i) (slice_get z.blocks (suc i))
  where
    by_blocks : (o p : Option ZoneBlock) → i < length (joined z i o p).blocks
    by_blocks None p = inside
    by_blocks (Some b) None = inside
    by_blocks (Some b) (Some c) =
        let one = take i z.blocks ++ free_block (b.size + c.size) ∷ drop (suc (suc i)) z.blocks in
        let long : i < length one = omega (arith, length-append (take i z.blocks) (free_block (b.size + c.size) ∷ drop (suc (suc i)) z.blocks), length-take-le i z.blocks (omega (arith, inside))) in
        elim (not b.used && not c.used) as (λ t. i < length (cond t (record { blocks = one; rover = if ltb i z.rover then z.rover - 1 else z.rover }) z).blocks) [
          | true ↦ long
          | false ↦ inside
        ]

-- the zone with another block at a position
abbrev pub with_block_at : Zone → ℕ → ZoneBlock → Zone
with_block_at z i x = record z { blocks = set z.blocks i x }

freed_at-set : (z : Zone) (i : ℕ) (b x : ZoneBlock) → slice_get z.blocks i ≡ Some b → x ≡ free_block b.size → freed_at z i (Some b) ≡ with_block_at z i x
freed_at-set z i b x at is =
    let inside = slice_get_within z.blocks i b at in
    ap (λ blocks. record z { blocks = blocks })
    (ap (λ y. take i z.blocks ++ y ∷ [] ++ drop (suc i) z.blocks) (sym is) ∙ append_assoc (take i z.blocks) (x ∷ []) (drop (suc i) z.blocks) ∙ sym (set_split z.blocks i x inside))

-- A freed block is joined with the next, and then with the one before, where there is one.
pub with_free-first : (z : Zone) (i : ℕ) (b x : ZoneBlock) → i ≡ 0 → slice_get z.blocks i ≡ Some b → x ≡ free_block b.size → with_free z i ≡ joined_at (with_block_at z i x) i
unfolding with_free
with_free-first z zero b x e at is = rw at (ap (λ (y : Zone). joined_at y 0) (freed_at-set z 0 b x at is))
with_free-first z (suc i) b x e at is = absurd (omega (arith, e))

pub with_free-later : (z : Zone) (i : ℕ) (b x : ZoneBlock) → 0 < i → slice_get z.blocks i ≡ Some b → x ≡ free_block b.size → with_free z i ≡ joined_at (joined_at (with_block_at z i x) i) (i - 1)
unfolding with_free
with_free-later z zero b x e at is = absurd (omega (arith, e))
with_free-later z (suc i) b x e at is =
    let before : suc i - 1 ≡ i = omega arith in
    rw (at, before) (ap (λ (y : Zone). joined_at (joined_at y (suc i)) i) (freed_at-set z (suc i) b x at is))

-- A free block, as it is read before it is taken.
pub record IsTaking (z : Zone) (i need : ℕ) (b : ZoneBlock) (place : ℕ) : Type 0 where
  pub inside : i < length z.blocks
  pub there : slice_get z.blocks i ≡ Some b
  pub large : need ≤ b.size
  pub place_is : place ≡ place_at z.blocks i
  pub ends : place + b.size ≤ 2 ^ 26

pub taking_read : (z now : Zone) (places : List ℕ) (i need place len place_len : ℕ) (b : ZoneBlock) → z ≡ now → i < length now.blocks → IsSomeAnd (slice_get now.blocks i) (λ x. need ≤ x.size) → len ≡ length z.blocks →
    place_len ≡ length places → places ≡ places_from 48 z.blocks → 48 + size_of_zone z.blocks ≤ 2 ^ 26 → place ≡ get_or places i place → b ≡ get_or z.blocks i b → IsTaking z i need b place
taking_read z now places i need place len place_len b is here fits counted place_counted placed small place_read read =
    let inside : i < length z.blocks = omega (arith, here, ap (λ (x : Zone). length x.blocks) is) in
    let there = slice_get_read z.blocks len i b counted (omega (arith, counted, inside)) read in
    let stands : Some place ≡ Some (place_at z.blocks i) =
    sym (slice_get_read places place_len i place place_counted (omega (arith, place_counted, inside, ap length placed, length-places 48 z.blocks)) place_read) ∙ ap (λ ps. slice_get ps i) placed ∙ place_is z.blocks i inside in
    let same : place ≡ place_at z.blocks i = cc in
    record {
      inside = inside;
      there = there;
      large = rw there at (let at_z : IsSomeAnd (slice_get z.blocks i) (λ x. need ≤ x.size) = rw (← is) at fits in at_z);
      place_is = same;
      ends = omega (arith, same, small, inside_zone z.blocks i b there);
    }

-- A block that keeps its whole size.
pub with_taken-whole : (z : Zone) (i need : ℕ) (b x : ZoneBlock) → slice_get z.blocks i ≡ Some b → b.size - need ≤ 64 → x ≡ used_block b.size → with_taken z i need ≡ record { blocks = set z.blocks i x; rover = i + 1 }
unfolding with_taken
with_taken-whole z i need b x at small is =
    let inside = slice_get_within z.blocks i b at in
    let next : suc i ≡ i + 1 = omega arith in
    rw (at, le-ltb 64 (b.size - need) small)
    (ap (λ n. record { blocks = replaced z.blocks i (used_block b.size ∷ []); rover = n }) next ∙ ap (λ blocks. record { blocks = blocks; rover = i + 1 })
    (ap (λ y. take i z.blocks ++ y ∷ [] ++ drop (suc i) z.blocks) (sym is) ∙ append_assoc (take i z.blocks) (x ∷ []) (drop (suc i) z.blocks) ∙ sym (set_split z.blocks i x inside)))

-- A block of which a free rest is split off.
pub with_taken-split : (z : Zone) (i need : ℕ) (b x y : ZoneBlock) (blocks : List ZoneBlock) → slice_get z.blocks i ≡ Some b → 64 < b.size - need → x ≡ used_block need → y ≡ free_block (b.size - need) →
    blocks ≡ take i z.blocks ++ x ∷ y ∷ [] ++ drop (suc i) z.blocks → with_taken z i need ≡ record { blocks = blocks; rover = i + 1 }
unfolding with_taken
with_taken-split z i need b x y blocks at large x_is y_is is =
    let next : suc i ≡ i + 1 = omega arith in
    rw (at, lt-ltb 64 (b.size - need) large)
    (ap (λ n. record { blocks = replaced z.blocks i (used_block need ∷ free_block (b.size - need) ∷ []); rover = n }) next ∙ ap (λ all. record { blocks = all; rover = i + 1 }) (ap (λ v. take i z.blocks ++ v ∷ free_block (b.size - need) ∷ [] ++ drop (suc i) z.blocks) (sym x_is) ∙ ap (λ v. take i z.blocks ++ x ∷ v ∷ [] ++ drop (suc i) z.blocks) (sym y_is) ∙ sym is))

-- A zone's list and its places where a block was split.
pub record IsCutOff (z : Zone) (i need : ℕ) (places : List ℕ) (blocks : List ZoneBlock) : Type 0 where
  pub places_are : places ≡ places_from 48 blocks
  pub small : 48 + size_of_zone blocks ≤ 2 ^ 26
  pub more : length blocks ≡ length z.blocks + 1
  pub taken_is : with_taken z i need ≡ record { blocks = blocks; rover = i + 1 }

pub cut_off : (z : Zone) (i need place : ℕ) (b x y : ZoneBlock) (before places : List ℕ) (blocks : List ZoneBlock) → IsTaking z i need b place → 64 < b.size - need → x ≡ used_block need → y ≡ free_block (b.size - need) →
    before ≡ places_from 48 z.blocks → 48 + size_of_zone z.blocks ≤ 2 ^ 26 → blocks ≡ insert (set z.blocks i x) (i + 1) y → places ≡ insert before (i + 1) (place + need) → IsCutOff z i need places blocks
cut_off z i need place b x y before places blocks t large x_is y_is placed small blocks_are places_are =
    let first : x.size ≡ need = ap (λ (w : ZoneBlock). w.size) x_is in
    let second : y.size ≡ b.size - need = ap (λ (w : ZoneBlock). w.size) y_is in
    let two = split_is z.blocks i b x y place t.inside t.there (omega (arith, first, second, large)) (place_is z.blocks i t.inside ∙ ap Some (sym t.place_is)) in
    record {
      places_are = places_are ∙ ap (λ ps. insert ps (i + 1) (place + need)) placed ∙ ap (λ n. insert (places_from 48 z.blocks) (i + 1) (place + n)) (sym first) ∙ two.places ∙ ap (places_from 48) (sym blocks_are);
      small = omega (arith, small, two.size, ap size_of_zone blocks_are);
      more = ap length blocks_are ∙ length-insert (set z.blocks i x) (i + 1) y (omega (arith, length-set z.blocks i x, t.inside)) ∙ ap (λ n. n + 1) (length-set z.blocks i x);
      taken_is = with_taken-split z i need b x y blocks t.there large x_is y_is (blocks_are ∙ two.blocks_are);
    }
