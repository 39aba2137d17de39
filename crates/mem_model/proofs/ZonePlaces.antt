-- Where the blocks of a zone stand, also after edits of their list.
use Rattle.std.proofs.Common.{◌≡◌, ◌≢◌, ℕ, suc, zero, ◌+◌, ◌<◌, ◌≤◌, List, [], ◌∷◌, ◌++◌, Option, Some, None, Bool, true, false, cond, ltb, length, take, drop, set, get_or, refl, sym, ap, ◌∙◌, arith, add-one, lt-ltb, inl, inr}
use Rattle.std.specs.Prelude.{slice_get, position, MatchResult, Result, Ok, Err, not, nat_eq, IfSome, IsSome}
use Rattle.std.specs.Result.{result_ok}
use Rattle.std.specs.List.{AllByRecursion, insert, remove, prefix_len}
use Rattle.std.specs.List.Sorted.{IsBinarySearchResult}
use Rattle.std.specs.Ordering.{nat_cmp}
use Rattle.std.proofs.lemmas.List.Sorted.{searched}
use Rattle.std.specs.Option.{option_map}
use Rattle.std.proofs.lemmas.Bool.{cases_lt, le-ltb, ne_eqb, eq-eqb}
use Rattle.std.proofs.lemmas.Bool.Decides.{eqb_tells}
use Rattle.std.proofs.lemmas.Option.{slice_get-get_or}
use Rattle.mem_model.specs.Blocks.{ZoneBlock}
use Rattle.mem_model.specs.Zone.{size_of_zone, places_from, place_at, position_of, rover_place, used_bytes, used_bytes_from, with_payload, with_payload_from}
use Rattle.mem_model.specs.Laid.{IsZoneBlock}
use Rattle.mem_model.specs.Plain.{IsUsedAt}
use Rattle.mem_model.specs.Rows.{zone_row, zone_rows_up}

pub length-places : (start : ℕ) (blocks : List ZoneBlock) → length (places_from start blocks) ≡ length blocks
length-places start [] = refl
length-places start (b ∷ bs) = ap suc (length-places (start + b.size) bs)

place_from : (start : ℕ) (blocks : List ZoneBlock) (i : ℕ) → i < length blocks → slice_get (places_from start blocks) i ≡ Some (start + size_of_zone (take i blocks))
place_from start [] i h = absurd (omega (arith, h))
place_from start (b ∷ bs) zero h = let same : start ≡ start + 0 = omega arith in ap Some same
place_from start (b ∷ bs) (suc i) h =
    let same : (start + b.size) + size_of_zone (take i bs) ≡ start + (b.size + size_of_zone (take i bs)) = omega arith in
    place_from (start + b.size) bs i (omega (arith, h)) ∙ ap Some same

-- each place is that of the block at the same position
pub place_is : (blocks : List ZoneBlock) (i : ℕ) → i < length blocks → slice_get (places_from 48 blocks) i ≡ Some (place_at blocks i)
place_is blocks i h = place_from 48 blocks i h

-- the rover's place is that of its block
pub rover_at : (blocks : List ZoneBlock) (rover place : ℕ) → rover < length blocks → slice_get (places_from 48 blocks) rover ≡ Some place → place ≡ rover_place (record { blocks = blocks; rover = rover })
unfolding rover_place
rover_at blocks rover place h p =
    let same : Some place ≡ Some (place_at blocks rover) = sym p ∙ place_is blocks rover h in
    rw (lt-ltb rover (length blocks) h) (let e : place ≡ place_at blocks rover = cc in e)

-- that of the cap is in the header
pub rover_on_cap : (blocks : List ZoneBlock) (rover : ℕ) → length blocks ≤ rover → 20 ≡ rover_place (record { blocks = blocks; rover = rover })
unfolding rover_place
rover_on_cap blocks rover h = rw (le-ltb rover (length blocks) h) refl

-- a block ends where all end, at most
pub inside_zone : (blocks : List ZoneBlock) (i : ℕ) (b : ZoneBlock) → slice_get blocks i ≡ Some b → size_of_zone (take i blocks) + b.size ≤ size_of_zone blocks
inside_zone [] i b h = absurd (cc)
inside_zone (c ∷ cs) zero b h = let same : c ≡ b = cc in omega (arith, ap (λ (x : ZoneBlock). x.size) same)
inside_zone (c ∷ cs) (suc i) b h = omega (arith, inside_zone cs i b h)

-- so do two neighbours
pub both_inside : (blocks : List ZoneBlock) (i : ℕ) (b c : ZoneBlock) → slice_get blocks i ≡ Some b → slice_get blocks (suc i) ≡ Some c → b.size + c.size ≤ size_of_zone blocks
both_inside [] i b c h k = absurd (cc)
both_inside (d ∷ ds) zero b c h k = let same : d ≡ b = cc in omega (arith, ap (λ (x : ZoneBlock). x.size) same, inside_zone ds zero c k)
both_inside (d ∷ ds) (suc i) b c h k = omega (arith, both_inside ds i b c h k)

-- another block of the same size moves none
pub places-set : (start : ℕ) (blocks : List ZoneBlock) (i : ℕ) (b x : ZoneBlock) → slice_get blocks i ≡ Some b → x.size ≡ b.size → places_from start (set blocks i x) ≡ places_from start blocks
places-set start [] i b x h e = refl
places-set start (c ∷ cs) zero b x h e =
    let here : c ≡ b = cc in
    let same : start + x.size ≡ start + c.size = omega (arith, e, ap (λ (y : ZoneBlock). y.size) here) in
    ap (λ next. start ∷ places_from next cs) same
places-set start (c ∷ cs) (suc i) b x h e = ap (λ ns. start ∷ ns) (places-set (start + c.size) cs i b x h e)

pub size_of_zone-set : (blocks : List ZoneBlock) (i : ℕ) (b x : ZoneBlock) → slice_get blocks i ≡ Some b → x.size ≡ b.size → size_of_zone (set blocks i x) ≡ size_of_zone blocks
size_of_zone-set [] i b x h e = refl
size_of_zone-set (c ∷ cs) zero b x h e = let here : c ≡ b = cc in omega (arith, e, ap (λ (y : ZoneBlock). y.size) here)
size_of_zone-set (c ∷ cs) (suc i) b x h e = omega (arith, size_of_zone-set cs i b x h e)

-- Two blocks that share the size of one stand in its place.
pub record IsSplit (blocks : List ZoneBlock) (i : ℕ) (x y : ZoneBlock) (place : ℕ) : Type 0 where
  pub blocks_are : insert (set blocks i x) (i + 1) y ≡ take i blocks ++ x ∷ y ∷ [] ++ drop (suc i) blocks
  pub places : insert (places_from 48 blocks) (i + 1) (place + x.size) ≡ places_from 48 (insert (set blocks i x) (i + 1) y)
  pub size : size_of_zone (insert (set blocks i x) (i + 1) y) ≡ size_of_zone blocks

split_blocks : {X : Type 0} (xs : List X) (i : ℕ) (x y : X) → i < length xs → insert (set xs i x) (suc i) y ≡ take i xs ++ x ∷ y ∷ [] ++ drop (suc i) xs
split_blocks [] i x y h = absurd (omega (arith, h))
split_blocks (z ∷ zs) zero x y h = refl
split_blocks (z ∷ zs) (suc i) x y h = ap (λ ws. z ∷ ws) (split_blocks zs i x y (omega (arith, h)))

split_places : (start : ℕ) (blocks : List ZoneBlock) (i : ℕ) (b x y : ZoneBlock) (place : ℕ) → slice_get blocks i ≡ Some b → x.size + y.size ≡ b.size → slice_get (places_from start blocks) i ≡ Some place →
    insert (places_from start blocks) (suc i) (place + x.size) ≡ places_from start (insert (set blocks i x) (suc i) y)
split_places start [] i b x y place h e p = absurd (cc)
split_places start (c ∷ cs) zero b x y place h e p =
    let here : c ≡ b = cc in
    let there : start ≡ place = cc in
    let middle : place + x.size ≡ start + x.size = omega (arith, there) in
    let next : start + c.size ≡ (start + x.size) + y.size = omega (arith, e, ap (λ (z : ZoneBlock). z.size) here) in
    ap (λ n. start ∷ n ∷ places_from (start + c.size) cs) middle ∙ ap (λ n. start ∷ (start + x.size) ∷ places_from n cs) next
split_places start (c ∷ cs) (suc i) b x y place h e p = ap (λ ns. start ∷ ns) (split_places (start + c.size) cs i b x y place h e p)

split_size : (blocks : List ZoneBlock) (i : ℕ) (b x y : ZoneBlock) → slice_get blocks i ≡ Some b → x.size + y.size ≡ b.size → size_of_zone (insert (set blocks i x) (suc i) y) ≡ size_of_zone blocks
split_size [] i b x y h e = absurd (cc)
split_size (c ∷ cs) zero b x y h e = let here : c ≡ b = cc in omega (arith, e, ap (λ (z : ZoneBlock). z.size) here)
split_size (c ∷ cs) (suc i) b x y h e = omega (arith, split_size cs i b x y h e)

pub split_is : (blocks : List ZoneBlock) (i : ℕ) (b x y : ZoneBlock) (place : ℕ) → i < length blocks → slice_get blocks i ≡ Some b → x.size + y.size ≡ b.size → slice_get (places_from 48 blocks) i ≡ Some place → IsSplit blocks i x y place
split_is blocks i b x y place inside h e p =
    record {
      blocks_are = rw add-one (split_blocks blocks i x y inside);
      places = rw add-one (split_places 48 blocks i b x y place h e p);
      size = rw add-one (split_size blocks i b x y h e);
    }

-- One block of the size of two neighbours stands in their place.
pub record IsJoined (blocks : List ZoneBlock) (i : ℕ) (x : ZoneBlock) : Type 0 where
  pub blocks_are : remove (set blocks i x) (i + 1) ≡ take i blocks ++ x ∷ drop (suc (suc i)) blocks
  pub places : remove (places_from 48 blocks) (i + 1) ≡ places_from 48 (remove (set blocks i x) (i + 1))
  pub size : size_of_zone (remove (set blocks i x) (i + 1)) ≡ size_of_zone blocks

joined_blocks : {X : Type 0} (xs : List X) (i : ℕ) (x : X) → suc i < length xs → remove (set xs i x) (suc i) ≡ take i xs ++ x ∷ drop (suc (suc i)) xs
joined_blocks [] i x h = absurd (omega (arith, h))
joined_blocks (z ∷ zs) zero x h = refl
joined_blocks (z ∷ zs) (suc i) x h = ap (λ ws. z ∷ ws) (joined_blocks zs i x (omega (arith, h)))

joined_places : (start : ℕ) (blocks : List ZoneBlock) (i : ℕ) (b c x : ZoneBlock) → slice_get blocks i ≡ Some b → slice_get blocks (suc i) ≡ Some c → x.size ≡ b.size + c.size →
    remove (places_from start blocks) (suc i) ≡ places_from start (remove (set blocks i x) (suc i))
joined_places start [] i b c x h k e = absurd (cc)
joined_places start (d ∷ []) zero b c x h k e = absurd (cc)
joined_places start (d ∷ f ∷ fs) zero b c x h k e =
    let first : d ≡ b = cc in
    let second : f ≡ c = cc in
    let next : (start + d.size) + f.size ≡ start + x.size = omega (arith, e, ap (λ (y : ZoneBlock). y.size) first, ap (λ (y : ZoneBlock). y.size) second) in
    ap (λ n. start ∷ places_from n fs) next
joined_places start (d ∷ ds) (suc i) b c x h k e = ap (λ ns. start ∷ ns) (joined_places (start + d.size) ds i b c x h k e)

joined_size : (blocks : List ZoneBlock) (i : ℕ) (b c x : ZoneBlock) → slice_get blocks i ≡ Some b → slice_get blocks (suc i) ≡ Some c → x.size ≡ b.size + c.size → size_of_zone (remove (set blocks i x) (suc i)) ≡ size_of_zone blocks
joined_size [] i b c x h k e = absurd (cc)
joined_size (d ∷ []) zero b c x h k e = absurd (cc)
joined_size (d ∷ f ∷ fs) zero b c x h k e =
    let first : d ≡ b = cc in
    let second : f ≡ c = cc in
    omega (arith, e, ap (λ (y : ZoneBlock). y.size) first, ap (λ (y : ZoneBlock). y.size) second)
joined_size (d ∷ ds) (suc i) b c x h k e = omega (arith, joined_size ds i b c x h k e)

pub joined_is : (blocks : List ZoneBlock) (i : ℕ) (b c x : ZoneBlock) → suc i < length blocks → slice_get blocks i ≡ Some b → slice_get blocks (suc i) ≡ Some c → x.size ≡ b.size + c.size → IsJoined blocks i x
joined_is blocks i b c x inside h k e =
    record {
      blocks_are = rw add-one (joined_blocks blocks i x inside);
      places = rw add-one (joined_places 48 blocks i b c x h k e);
      size = rw add-one (joined_size blocks i b c x h k e);
    }

-- the first place of a list at which a test passes
pub position-cons : {X : Type 0} (p : X → Bool) (x : X) (xs : List X) → position p (x ∷ xs) ≡ cond (p x) (Some 0) (option_map suc (position p xs))
position-cons p x xs =
    elim (p x) as (λ t. cond (ltb (cond (not t) (1 + prefix_len (λ y. not (p y)) xs) 0) (suc (length xs))) (Some (cond (not t) (1 + prefix_len (λ y. not (p y)) xs) 0)) None ≡ cond t (Some 0) (option_map suc (position p xs))) [
      | true ↦ rw (lt-ltb 0 (suc (length xs)) (omega arith)) refl
      | false ↦ later (prefix_len (λ y. not (p y)) xs) (length xs)
    ]
  where
    later : (n l : ℕ) → cond (ltb (1 + n) (suc l)) (Some (1 + n)) None ≡ option_map suc (cond (ltb n l) (Some n) None)
    later n l = elim (cases_lt n l) [
      | inl below ↦ rw (lt-ltb (1 + n) (suc l) (omega arith), lt-ltb n l below) (let same : 1 + n ≡ suc n = omega arith in ap Some same)
      | inr past ↦ rw (le-ltb (1 + n) (suc l) (omega arith), le-ltb n l past) refl
    ]

least_place : (start : ℕ) (blocks : List ZoneBlock) (i h : ℕ) → slice_get (places_from start blocks) i ≡ Some h → start ≤ h
least_place start [] i h e = absurd (cc)
least_place start (b ∷ bs) zero h e = let same : start ≡ h = cc in omega (arith, same)
least_place start (b ∷ bs) (suc i) h e = omega (arith, least_place (start + b.size) bs i h e)

-- no place is below one before it
rising : (start : ℕ) (blocks : List ZoneBlock) (i j : ℕ) → i ≤ j → j < length (places_from start blocks) → get_or (places_from start blocks) i 0 ≤ get_or (places_from start blocks) j 0
rising start [] i j h l = absurd (omega (arith, l))
rising start (b ∷ bs) zero j h l = least_place start (b ∷ bs) j (get_or (places_from start (b ∷ bs)) j 0) (slice_get-get_or (places_from start (b ∷ bs)) j 0 l)
rising start (b ∷ bs) (suc i) zero h l = absurd (omega (arith, h))
rising start (b ∷ bs) (suc i) (suc j) h l = rising (start + b.size) bs i j (omega (arith, h)) (omega (arith, l))

-- the place of a block is that of no block before it
found_from : (start : ℕ) (blocks : List ZoneBlock) (i header payload : ℕ) → AllByRecursion IsZoneBlock blocks → header + 24 ≡ payload → slice_get (places_from start blocks) i ≡ Some header →
    position (λ place. nat_eq (place + 24) payload) (places_from start blocks) ≡ Some i
found_from start [] i header payload laid e h = absurd (cc)
found_from start (b ∷ bs) zero header payload laid e h =
    let same : start ≡ header = cc in
    position-cons (λ place. nat_eq (place + 24) payload) start (places_from (start + b.size) bs) ∙ rw (eq-eqb (start + 24) payload (omega (arith, same, e))) refl
found_from start (b ∷ bs) (suc i) header payload laid e h =
    let behind = least_place (start + b.size) bs i header h in
    position-cons (λ place. nat_eq (place + 24) payload) start (places_from (start + b.size) bs)
    ∙ rw (ne_eqb (start + 24) payload (λ same. absurd (omega (arith, same, e, behind, laid.0.least)))) (ap (option_map suc) (found_from (start + b.size) bs i header payload laid.1 e h))

nowhere_placed : (places : List ℕ) (payload : ℕ) → ((k : ℕ) → k < length places → get_or places k 0 + 24 ≢ payload) → position (λ place. nat_eq (place + 24) payload) places ≡ None
nowhere_placed [] payload h = refl
nowhere_placed (p ∷ ps) payload h =
    position-cons (λ place. nat_eq (place + 24) payload) p ps
    ∙ rw (ne_eqb (p + 24) payload (h 0 (omega arith))) (ap (option_map suc) (nowhere_placed ps payload (λ k l. h (suc k) (omega (arith, l)))))

-- A place below all payloads is that of none.
pub position_of-low : (blocks : List ZoneBlock) (payload : ℕ) → payload < 24 → position_of blocks payload ≡ None
unfolding position_of
position_of-low blocks payload low = nowhere_placed (places_from 48 blocks) payload (λ k l same. absurd (omega (arith, same, low)))

-- the position that a search by the places gives
pub record IsPositionOf (blocks : List ZoneBlock) (payload : ℕ) (found : Option ℕ) : Type 0 where
  pub position : found ≡ position_of blocks payload
  pub inside : IfSome found (λ i. i < length blocks)

pub position_of-searched : (blocks : List ZoneBlock) (header payload : ℕ) (r : Result ℕ ℕ) → AllByRecursion IsZoneBlock blocks → header + 24 ≡ payload → IsBinarySearchResult (λ y. nat_cmp y header) (places_from 48 blocks) r →
    IsPositionOf blocks payload (result_ok r)
unfolding position_of
position_of-searched blocks header payload r laid e found = by_result r (searched (places_from 48 blocks) header r found (rising 48 blocks))
  where
    by_result : (q : Result ℕ ℕ) → MatchResult q (λ i. (i < length (places_from 48 blocks)) × (get_or (places_from 48 blocks) i 0 ≡ header)) (λ i. (i ≤ length (places_from 48 blocks)) × ((k : ℕ) → k < i → get_or (places_from 48 blocks) k 0 < header) × ((k : ℕ) → i ≤ k → k < length (places_from 48 blocks) → header < get_or (places_from 48 blocks) k 0)) →
        IsPositionOf blocks payload (result_ok q)
    by_result (Ok i) at = record {
      position = sym (found_from 48 blocks i header payload laid e (slice_get-get_or (places_from 48 blocks) i 0 at.0 ∙ ap Some at.1));
      inside = omega (arith, at.0, length-places 48 blocks);
    }
    by_result (Err i) at = record {
      position = sym (nowhere_placed (places_from 48 blocks) payload (λ k l same. elim (cases_lt k i) [
        | inl before ↦ absurd (omega (arith, at.1 k before, same, e))
        | inr behind ↦ absurd (omega (arith, at.2 k behind l, same, e))
      ]));
      inside = tt;
    }

mapped_suc : (o : Option ℕ) (i : ℕ) → option_map suc o ≡ Some (suc i) → o ≡ Some i
mapped_suc None i h = absurd (cc)
mapped_suc (Some j) i h = let same : suc j ≡ suc i = cc in ap Some (omega (arith, same))

not_zero : (o : Option ℕ) → option_map suc o ≡ Some 0 → ⊥
not_zero None h = cc
not_zero (Some j) h = let same : suc j ≡ 0 = cc in absurd (omega (arith, same))

none_mapped : (o : Option ℕ) → option_map suc o ≡ None → o ≡ None
none_mapped None h = refl
none_mapped (Some j) h = absurd (cc)

read_from : (start : ℕ) (blocks : List ZoneBlock) (place i : ℕ) (b : ZoneBlock) → position (λ p. nat_eq (p + 24) place) (places_from start blocks) ≡ Some i → slice_get blocks i ≡ Some b → used_bytes_from start blocks place ≡ used_bytes b
read_from start [] place i b at h = absurd (cc)
read_from start (c ∷ cs) place zero b at h = elim (eqb_tells (start + 24) place) [
  | inl here ↦ rw here.0 (let same : c ≡ b = cc in ap used_bytes same)
  | inr off ↦ absurd (not_zero _ (rw off.0 at (sym (position-cons (λ p. nat_eq (p + 24) place) start (places_from (start + c.size) cs)) ∙ at)))
]
read_from start (c ∷ cs) place (suc i) b at h = elim (eqb_tells (start + 24) place) [
  | inl here ↦ absurd (let first : Some 0 ≡ Some (suc i) = rw here.0 at (sym (position-cons (λ p. nat_eq (p + 24) place) start (places_from (start + c.size) cs)) ∙ at) in let same : 0 ≡ suc i = cc in omega (arith, same))
  | inr off ↦ rw off.0 (read_from (start + c.size) cs place i b (mapped_suc _ i (rw off.0 at (sym (position-cons (λ p. nat_eq (p + 24) place) start (places_from (start + c.size) cs)) ∙ at))) h)
]

written_from : (start : ℕ) (blocks : List ZoneBlock) (place i : ℕ) (b : ZoneBlock) (bytes : List ℕ) → position (λ p. nat_eq (p + 24) place) (places_from start blocks) ≡ Some i → slice_get blocks i ≡ Some b →
    with_payload_from start blocks place bytes ≡ set blocks i (with_payload b bytes)
written_from start [] place i b bytes at h = absurd (cc)
written_from start (c ∷ cs) place zero b bytes at h = elim (eqb_tells (start + 24) place) [
  | inl here ↦ rw here.0 (let same : c ≡ b = cc in ap (λ x. with_payload x bytes ∷ cs) same)
  | inr off ↦ absurd (not_zero _ (rw off.0 at (sym (position-cons (λ p. nat_eq (p + 24) place) start (places_from (start + c.size) cs)) ∙ at)))
]
written_from start (c ∷ cs) place (suc i) b bytes at h = elim (eqb_tells (start + 24) place) [
  | inl here ↦ absurd (let first : Some 0 ≡ Some (suc i) = rw here.0 at (sym (position-cons (λ p. nat_eq (p + 24) place) start (places_from (start + c.size) cs)) ∙ at) in let same : 0 ≡ suc i = cc in omega (arith, same))
  | inr off ↦ rw off.0 (ap (λ xs. c ∷ xs) (written_from (start + c.size) cs place i b bytes (mapped_suc _ i (rw off.0 at (sym (position-cons (λ p. nat_eq (p + 24) place) start (places_from (start + c.size) cs)) ∙ at))) h))
]

unread_from : (start : ℕ) (blocks : List ZoneBlock) (place : ℕ) → position (λ p. nat_eq (p + 24) place) (places_from start blocks) ≡ None → used_bytes_from start blocks place ≡ None
unread_from start [] place at = refl
unread_from start (c ∷ cs) place at = elim (eqb_tells (start + 24) place) [
  | inl here ↦ absurd (let first : Some 0 ≡ None = rw here.0 at (sym (position-cons (λ p. nat_eq (p + 24) place) start (places_from (start + c.size) cs)) ∙ at) in cc)
  | inr off ↦ rw off.0 (unread_from (start + c.size) cs place (none_mapped _ (rw off.0 at (sym (position-cons (λ p. nat_eq (p + 24) place) start (places_from (start + c.size) cs)) ∙ at))))
]

-- a payload that is read has a position
pub unread : (blocks : List ZoneBlock) (place : ℕ) → position_of blocks place ≡ None → used_bytes_from 48 blocks place ≡ None
unfolding position_of
unread blocks place at = unread_from 48 blocks place at

used_is : (b : ZoneBlock) → IsSome (used_bytes b) → used_bytes b ≡ Some b.bytes
used_is b there = by_use b.used there
  where
    by_use : (used : Bool) → IsSome (cond used (Some b.bytes) None) → cond used (Some b.bytes) None ≡ Some b.bytes
    by_use true h = refl
    by_use false h = absurd (cc)

-- the block at that position is read and written
pub used_at : (blocks : List ZoneBlock) (place i : ℕ) → IsSome (used_bytes_from 48 blocks place) → position_of blocks place ≡ Some i → i < length blocks → IsUsedAt blocks place i
unfolding position_of
used_at blocks place i there at inside = record {
  inside = inside;
  reads = λ b h. let same = read_from 48 blocks place i b at h in same ∙ used_is b (rw same at there);
  writes = λ b bytes h. written_from 48 blocks place i b bytes at h;
}

-- the row of a block
pub zone_row_at : (start : ℕ) (blocks : List ZoneBlock) (i place : ℕ) (b : ZoneBlock) → slice_get blocks i ≡ Some b → slice_get (places_from start blocks) i ≡ Some place → slice_get (zone_rows_up start blocks) i ≡ Some (zone_row place b)
zone_row_at start [] i place b h p = absurd (cc)
zone_row_at start (c ∷ cs) zero place b h p =
    let same : c ≡ b = cc in
    let there : start ≡ place = cc in
    ap (λ (x : ZoneBlock). Some (zone_row start x)) same ∙ ap (λ n. Some (zone_row n b)) there
zone_row_at start (c ∷ cs) (suc i) place b h p = zone_row_at (start + c.size) cs i place b h p

pub no_zone_row : (start : ℕ) (blocks : List ZoneBlock) (i : ℕ) → length blocks ≤ i → slice_get (zone_rows_up start blocks) i ≡ None
no_zone_row start [] i h = refl
no_zone_row start (b ∷ bs) zero h = absurd (omega (arith, h))
no_zone_row start (b ∷ bs) (suc i) h = no_zone_row (start + b.size) bs i (omega (arith, h))
