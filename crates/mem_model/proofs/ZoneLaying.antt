-- What keeps a memory laid out where its zone changes.
use Rattle.std.proofs.Common.{◌≡◌, ℕ, suc, zero, ◌+◌, ◌-◌, ◌<◌, ◌≤◌, List, [], ◌∷◌, ◌++◌, Option, Some, None, Result, Ok, Err, Bool, true, false, ltb, eqb, cond, length, take, drop, refl, sym, ap, ◌∙◌, arith, ltb-true, ◌⊎◌, inl, inr, length-append, if◌then◌else◌, subst}
use Rattle.std.specs.Prelude.{slice_get, IsTrue}
use Rattle.std.specs.List.{AllByRecursion}
use Rattle.std.proofs.lemmas.List.{length-replicate, take_at, append_assoc, nil_from_length}
use Rattle.std.proofs.lemmas.Option.{slice_get_within}
use Rattle.std.proofs.lemmas.Bool.{both_ways}
use Rattle.std.proofs.lemmas.Bool.Decides.{nat_tests}
use Rattle.mem_model.specs.Blocks.{ZoneBlock}
use Rattle.mem_model.specs.Event.{Event, FreeRefusal, FreeRefusal.AlreadyFree}
use Rattle.mem_model.specs.Memory.{Memory, Zone}
use Rattle.mem_model.specs.Places.{zone_need}
use Rattle.mem_model.specs.Zone.{size_of_zone, free_block, used_block, taken, replaced, with_taken, taken_at, joined, joined_at, freed_at, with_free, chosen, position_of, with_payload, with_payload_from, with_zone_bytes}
use Rattle.mem_model.specs.Answer.{Answered, with_event}
use Rattle.mem_model.specs.Operations.{z_alloc, z_taken, z_free, z_freed, z_freed_at}
use Rattle.mem_model.specs.Laid.{Laid, IsZone, IsZoneBlock, IsMultiple, NotBothFree, AllNeighbours, first_size}
use Rattle.mem_model.proofs.Laying.{all-append, length-over}
use Rattle.mem_model.proofs.ZoneLists.{size_of_zone-append, parted, length-before, get_behind, drop_behind, last_parted, all-parts, neighbours-parts, neighbours-join, neighbours-before, neighbours-behind, alike-last, alike-first, used-last, used-first, used-second, chosen_fits}

-- a kept event leaves a memory laid out
pub Laid-with_event : (m : Memory) (event : Event) → Laid m → Laid (with_event m event)
Laid-with_event m event laid = kept (ltb (length m.events) m.event_room) (λ h. ltb-true (length m.events) m.event_room h)
  where
    kept : (t : Bool) → (t ≡ true → length m.events < m.event_room) → Laid (cond t (record m { events = m.events ++ event ∷ [] }) m)
    kept false h = laid
    kept true h = record {
      small = laid.small;
      inside = laid.inside;
      low = laid.low;
      high = laid.high;
      temp = laid.temp;
      zone = laid.zone;
      cache = laid.cache;
      events = omega (arith, length-append m.events (event ∷ []), h refl);
    }

-- a memory is laid out with another zone
pub Laid-with_zone : (m : Memory) (z : Zone) → Laid m → IsZone z (first_size m.low) → Laid (record m { zone = z })
Laid-with_zone m z laid zone = record {
  small = laid.small;
  inside = laid.inside;
  low = laid.low;
  high = laid.high;
  temp = laid.temp;
  zone = zone;
  cache = laid.cache;
  events = laid.events;
}

-- a zone as it is laid, but that neighbours may be free
pub record IsTiled (z : Zone) (size : ℕ) : Type 0 where
  pub blocks : AllByRecursion IsZoneBlock z.blocks
  pub tiles : size_of_zone z.blocks + 48 ≡ size
  pub rover : z.rover ≤ length z.blocks

pub tiled : (z : Zone) (size : ℕ) → IsZone z size → IsTiled z size
tiled z size zone = record { blocks = zone.blocks; tiles = zone.tiles; rover = zone.rover }

pub IsZone-tiled : (z : Zone) (size : ℕ) → IsTiled z size → AllNeighbours NotBothFree z.blocks → IsZone z size
IsZone-tiled z size t merged = record { blocks = t.blocks; tiles = t.tiles; merged = merged; rover = t.rover }

not_used : (used : Bool) → used ≡ false → IsTrue used → ⊥
not_used true e h = cc
not_used false e h = cc

pub IsZoneBlock-free : (size : ℕ) → 32 ≤ size → IsMultiple 8 size → IsZoneBlock (free_block size)
IsZoneBlock-free size least whole = record { least = least; whole = whole; bytes = refl }

pub IsZoneBlock-used : (size : ℕ) → 32 ≤ size → IsMultiple 8 size → IsZoneBlock (used_block size)
IsZoneBlock-used size least whole = record { least = least; whole = whole; bytes = length-replicate (size - 28) 0 }

-- What stands in the place of a free block that is taken.
pub record IsTaken (b : ZoneBlock) (need : ℕ) (news : List ZoneBlock) : Type 0 where
  pub size : ℕ
  pub large : need ≤ size
  pub others : List ZoneBlock
  pub first : news ≡ used_block size ∷ others
  pub blocks : AllByRecursion IsZoneBlock news
  pub sum : size_of_zone news ≡ b.size
  pub behind : (rest : List ZoneBlock) → AllNeighbours NotBothFree (b ∷ rest) → AllNeighbours NotBothFree (others ++ rest)

pub taken_is : (b : ZoneBlock) (need : ℕ) → IsZoneBlock b → b.used ≡ false → 32 ≤ need → IsMultiple 8 need → need ≤ b.size → IsTaken b need (taken b need)
taken_is b need block free least whole large = split (ltb 64 (b.size - need)) (λ h. ltb-true 64 (b.size - need) h)
  where
    split : (t : Bool) → (t ≡ true → 64 < b.size - need) → IsTaken b need (cond t (used_block need ∷ free_block (b.size - need) ∷ []) (used_block b.size ∷ []))
    split true h = record {
      size = need;
      large = omega arith;
      others = free_block (b.size - need) ∷ [];
      first = refl;
      blocks = (IsZoneBlock-used need least whole, (IsZoneBlock-free (b.size - need) (omega (arith, h refl)) (omega (arith, whole, block.whole, large)), tt));
      sum = omega (arith, large);
      behind = λ rest p. alike-first rest b (free_block (b.size - need)) (λ used. absurd (not_used b.used free used)) p;
    }
    split false h = record {
      size = b.size;
      large = large;
      others = [];
      first = refl;
      blocks = (IsZoneBlock-used b.size block.least block.whole, tt);
      sum = omega arith;
      behind = λ rest p. neighbours-behind rest b p;
    }

-- a zone is tiled where others of the same size stand in a block's place
tiled-replaced : (z : Zone) (size i rover : ℕ) (b : ZoneBlock) (news : List ZoneBlock) → IsTiled z size → slice_get z.blocks i ≡ Some b → AllByRecursion IsZoneBlock news → size_of_zone news ≡ b.size →
    rover ≤ i + length news → IsTiled (record { blocks = replaced z.blocks i news; rover = rover }) size
tiled-replaced z size i rover b news t there blocks sum small =
    let front = take i z.blocks in
    let rest = drop (suc i) z.blocks in
    let whole : z.blocks ≡ front ++ b ∷ rest = parted z.blocks i b there in
    let parts = all-parts IsZoneBlock front (b ∷ rest) (subst (AllByRecursion IsZoneBlock) whole t.blocks) in
    record {
      blocks = all-append IsZoneBlock (front ++ news) rest (all-append IsZoneBlock front news parts.0 blocks) parts.1.1;
      tiles = omega (arith, t.tiles, ap size_of_zone whole, size_of_zone-append front (b ∷ rest), size_of_zone-append (front ++ news) rest, size_of_zone-append front news, sum);
      rover = omega (arith, small, length-before z.blocks i b there, length-append (front ++ news) rest, length-append front news);
    }

-- the zone after an allocation
zone-taken : (z : Zone) (size i need : ℕ) (b : ZoneBlock) → IsZone z size → slice_get z.blocks i ≡ Some b → b.used ≡ false → 32 ≤ need → IsMultiple 8 need → need ≤ b.size → IsZone (taken_at z i need (Some b)) size
zone-taken z size i need b zone there free least whole large =
    let front = take i z.blocks in
    let rest = drop (suc i) z.blocks in
    let is : z.blocks ≡ front ++ b ∷ rest = parted z.blocks i b there in
    let block = all-parts IsZoneBlock front (b ∷ rest) (subst (AllByRecursion IsZoneBlock) is zone.blocks) in
    let new = taken_is b need block.1.0 free least whole large in
    let sides = neighbours-parts front rest b (subst (AllNeighbours NotBothFree) is zone.merged) in
    let first = used-last front (used_block new.size) refl (neighbours-before front b sides.0) in
    let joint : AllNeighbours NotBothFree (front ++ used_block new.size ∷ (new.others ++ rest)) =
    neighbours-join front (new.others ++ rest) (used_block new.size) first (used-first (new.others ++ rest) (used_block new.size) refl (new.behind rest sides.1)) in
    let same : replaced z.blocks i (taken b need) ≡ front ++ used_block new.size ∷ (new.others ++ rest) = ap (λ news. front ++ news ++ rest) new.first ∙ append_assoc front (used_block new.size ∷ new.others) rest in
    IsZone-tiled _ size (tiled-replaced z size i (suc i) b (taken b need) (tiled z size zone) there new.blocks new.sum (omega (arith, ap length new.first))) (subst (AllNeighbours NotBothFree) (sym same) joint)

pub IsZone-with_taken : (z : Zone) (size i need : ℕ) → IsZone z size → chosen z need ≡ Some i → 32 ≤ need → IsMultiple 8 need → IsZone (with_taken z i need) size
unfolding with_taken
IsZone-with_taken z size i need zone h least whole =
    let fit = chosen_fits z need i zone.rover h in
    rw fit.there (zone-taken z size i need fit.b zone fit.there fit.free least whole fit.large)

laid_taken : (m : Memory) (size : ℕ) (chosen_at : Option ℕ) → Laid m → chosen m.zone (zone_need size) ≡ chosen_at → Laid (z_taken m (zone_need size) chosen_at).after
laid_taken m size None laid h = laid
laid_taken m size (Some i) laid h = Laid-with_zone m (with_taken m.zone i (zone_need size)) laid (IsZone-with_taken m.zone (first_size m.low) i (zone_need size) laid.zone h (omega arith) (omega arith))

-- an allocation in the zone keeps a memory laid out
pub Laid-z_alloc : (m : Memory) (size : ℕ) → Laid m → Laid (z_alloc m size).after
unfolding z_alloc
Laid-z_alloc m size laid = Laid-with_event _ _ (laid_taken m size (chosen m.zone (zone_need size)) laid refl)

-- What a joining of two free neighbours leaves.
pub record IsJoin (z : Zone) (i : ℕ) (after : Zone) : Type 0 where
  pub front : List ZoneBlock
  pub rest : List ZoneBlock
  pub b : ZoneBlock
  pub c : ZoneBlock
  pub was : z.blocks ≡ front ++ b ∷ c ∷ rest
  pub place : length front ≡ i
  pub first : b.used ≡ false
  pub second : c.used ≡ false
  pub now : after.blocks ≡ front ++ free_block (b.size + c.size) ∷ rest
  pub rover : after.rover ≡ (if ltb i z.rover then z.rover - 1 else z.rover)

both_at : (xs : List ZoneBlock) (i : ℕ) (b c : ZoneBlock) → slice_get xs i ≡ Some b → slice_get xs (suc i) ≡ Some c → xs ≡ take i xs ++ b ∷ c ∷ drop (suc (suc i)) xs
both_at [] i b c e f = absurd (cc)
both_at (x ∷ xs) zero b c e f = let same : x ≡ b = cc in ap (λ ys. x ∷ ys) (parted xs zero c f) ∙ ap (λ y. y ∷ c ∷ drop 1 xs) same
both_at (x ∷ xs) (suc i) b c e f = ap (λ ys. x ∷ ys) (both_at xs i b c e f)

joined_used : (z : Zone) (i : ℕ) (b c : ZoneBlock) (s t : Bool) → slice_get z.blocks i ≡ Some b → slice_get z.blocks (suc i) ≡ Some c → b.used ≡ s → c.used ≡ t → (joined z i (Some b) (Some c) ≡ z) ⊎ IsJoin z i (joined z i (Some b) (Some c))
joined_used z i b c true t e f p q = inl (rw p refl)
joined_used z i b c false true e f p q = inl (rw (p, q) refl)
joined_used z i b c false false e f p q = inr (rw (p, q) (record {
  front = take i z.blocks;
  rest = drop (suc (suc i)) z.blocks;
  b = b;
  c = c;
  was = both_at z.blocks i b c e f;
  place = length-before z.blocks i b e;
  first = p;
  second = q;
  now = refl;
  rover = refl;
}))

joined_by : (z : Zone) (i : ℕ) (o p : Option ZoneBlock) → slice_get z.blocks i ≡ o → slice_get z.blocks (suc i) ≡ p → (joined z i o p ≡ z) ⊎ IsJoin z i (joined z i o p)
joined_by z i None p e f = inl refl
joined_by z i (Some b) None e f = inl refl
joined_by z i (Some b) (Some c) e f = joined_used z i b c b.used c.used e f refl refl

-- A joining joins two free neighbours, or does nothing.
pub joined_cases : (z : Zone) (i : ℕ) → (joined_at z i ≡ z) ⊎ IsJoin z i (joined_at z i)
unfolding joined_at
joined_cases z i = joined_by z i (slice_get z.blocks i) (slice_get z.blocks (suc i)) refl refl

-- the rover is still on a block or on the cap
rover_joined : (i rover n : ℕ) → suc i < n → rover ≤ n → (if ltb i rover then rover - 1 else rover) ≤ n - 1
rover_joined i rover n inside h = grind (arith, nat_tests)

IsTiled-join : (z after : Zone) (i size : ℕ) → IsTiled z size → IsJoin z i after → IsTiled after size
IsTiled-join z after i size t j =
    let parts = all-parts IsZoneBlock j.front (j.b ∷ j.c ∷ j.rest) (subst (AllByRecursion IsZoneBlock) j.was t.blocks) in
    let b = parts.1.0 in
    let c = parts.1.1.0 in
    let now : AllByRecursion IsZoneBlock (j.front ++ free_block (j.b.size + j.c.size) ∷ j.rest) =
    all-append IsZoneBlock j.front (free_block (j.b.size + j.c.size) ∷ j.rest) parts.0 (IsZoneBlock-free (j.b.size + j.c.size) (omega (arith, b.least)) (omega (arith, b.whole, c.whole)), parts.1.1.1) in
    let count : length z.blocks ≡ i + (2 + length j.rest) = omega (arith, ap length j.was, length-append j.front (j.b ∷ j.c ∷ j.rest), j.place) in
    let left : length after.blocks ≡ i + (1 + length j.rest) = omega (arith, ap length j.now, length-append j.front (free_block (j.b.size + j.c.size) ∷ j.rest), j.place) in
    record {
      blocks = subst (AllByRecursion IsZoneBlock) (sym j.now) now;
      tiles = omega (arith, t.tiles, ap size_of_zone j.was, ap size_of_zone j.now, size_of_zone-append j.front (j.b ∷ j.c ∷ j.rest), size_of_zone-append j.front (free_block (j.b.size + j.c.size) ∷ j.rest));
      rover = omega (arith, j.rover, rover_joined i z.rover (length z.blocks) (omega (arith, count)) t.rover, count, left);
    }

pub IsTiled-joined_at : (z : Zone) (i size : ℕ) → IsTiled z size → IsTiled (joined_at z i) size
IsTiled-joined_at z i size t = elim (joined_cases z i) [
  | inl same ↦ rw same t
  | inr join ↦ IsTiled-join z (joined_at z i) i size t join
]

pub IsTiled-freed_at : (z : Zone) (i size : ℕ) (b : ZoneBlock) → IsTiled z size → slice_get z.blocks i ≡ Some b → IsTiled (freed_at z i (Some b)) size
IsTiled-freed_at z i size b t there =
    let block = all-parts IsZoneBlock (take i z.blocks) (b ∷ drop (suc i) z.blocks) (subst (AllByRecursion IsZoneBlock) (parted z.blocks i b there) t.blocks) in
    let inside = slice_get_within z.blocks i b there in
    let front = take i z.blocks in
    let rest = drop (suc i) z.blocks in
    let same : length (replaced z.blocks i (free_block b.size ∷ [])) ≡ length z.blocks = omega (arith, ap length (parted z.blocks i b there), length-append (front ++ free_block b.size ∷ []) rest, length-append front (free_block b.size ∷ []), length-append front (b ∷ rest)) in
    let tiles = tiled-replaced z size i i b (free_block b.size ∷ []) t there (IsZoneBlock-free b.size block.1.0.least block.1.0.whole, tt) (omega arith) (omega arith) in
    record { blocks = tiles.blocks; tiles = tiles.tiles; rover = omega (arith, t.rover, same) }

-- where both are free they are joined
joined_free : (z : Zone) (i : ℕ) (b c : ZoneBlock) → slice_get z.blocks i ≡ Some b → slice_get z.blocks (suc i) ≡ Some c → b.used ≡ false → c.used ≡ false →
    (joined_at z i).blocks ≡ take i z.blocks ++ free_block (b.size + c.size) ∷ drop (suc (suc i)) z.blocks
unfolding joined_at
joined_free z i b c e f p q = rw (e, f, p, q) refl

-- where the second is in use, or there is none, they stay
stays : (z : Zone) (i : ℕ) (front rest : List ZoneBlock) (b : ZoneBlock) → z.blocks ≡ front ++ b ∷ rest → length front ≡ i → ((c : ZoneBlock) → slice_get rest 0 ≡ Some c → c.used ≡ true) → joined_at z i ≡ z
stays z i front rest b is place used = elim (joined_cases z i) [
  | inl same ↦ same
  | inr join ↦
      let second : slice_get z.blocks (suc i) ≡ Some join.c = ap (λ xs. slice_get xs (suc i)) join.was ∙ get_behind join.front (join.b ∷ join.c ∷ join.rest) (suc i) 1 (omega (arith, join.place)) in
      let third : slice_get z.blocks (suc i) ≡ slice_get rest 0 = ap (λ xs. slice_get xs (suc i)) is ∙ get_behind front (b ∷ rest) (suc i) 1 (omega (arith, place)) in
      absurd (both_ways join.c.used join.second (used join.c (sym third ∙ second)))
]

-- A free block has neighbours in use behind it, and those before it are as in a zone.
record IsHalf (blocks : List ZoneBlock) (i : ℕ) : Type 0 where
  front : List ZoneBlock
  rest : List ZoneBlock
  f : ZoneBlock
  is : blocks ≡ front ++ f ∷ rest
  place : length front ≡ i
  free : f.used ≡ false
  before : AllNeighbours NotBothFree front
  behind : AllNeighbours NotBothFree (f ∷ rest)

half_joined : (z : Zone) (i : ℕ) (front rest : List ZoneBlock) (f : ZoneBlock) → z.blocks ≡ front ++ f ∷ rest → length front ≡ i → f.used ≡ false → AllNeighbours NotBothFree front → AllNeighbours NotBothFree rest → IsHalf (joined_at z i).blocks i
half_joined z i front [] f is place free before behind =
    rw (stays z i front [] f is place (λ c e. absurd (cc))) (record { front = front; rest = []; f = f; is = is; place = place; free = free; before = before; behind = tt })
half_joined z i front (c ∷ cs) f is place free before behind = by_second c.used refl
  where
    by_second : (t : Bool) → c.used ≡ t → IsHalf (joined_at z i).blocks i
    by_second true e =
        rw (stays z i front (c ∷ cs) f is place (λ d there. let same : c ≡ d = cc in ap (λ (x : ZoneBlock). x.used) (sym same) ∙ e))
        (record { front = front; rest = c ∷ cs; f = f; is = is; place = place; free = free; before = before; behind = used-second f c cs e behind })
    by_second false e =
        let first : slice_get z.blocks i ≡ Some f = ap (λ xs. slice_get xs i) is ∙ get_behind front (f ∷ c ∷ cs) i 0 (omega (arith, place)) in
        let second : slice_get z.blocks (suc i) ≡ Some c = ap (λ xs. slice_get xs (suc i)) is ∙ get_behind front (f ∷ c ∷ cs) (suc i) 1 (omega (arith, place)) in
        record {
          front = front;
          rest = cs;
          f = free_block (f.size + c.size);
          is = joined_free z i f c first second free e
              ∙ ap (λ xs. take i xs ++ free_block (f.size + c.size) ∷ drop (suc (suc i)) xs) is
              ∙ ap (λ xs. xs ++ free_block (f.size + c.size) ∷ drop (suc (suc i)) (front ++ f ∷ c ∷ cs)) (take_at front (f ∷ c ∷ cs) i place)
              ∙ ap (λ xs. front ++ free_block (f.size + c.size) ∷ xs) (drop_behind front (f ∷ c ∷ cs) (suc (suc i)) 2 (omega (arith, place)));
          place = place;
          free = refl;
          before = before;
          behind = alike-first cs c (free_block (f.size + c.size)) (λ used. absurd (not_used c.used e used)) behind;
        }

-- after the joining with the block before it no two free ones are neighbours
whole_joined : (z : Zone) (i : ℕ) → IsHalf z.blocks (suc i) → AllNeighbours NotBothFree (joined_at z i).blocks
whole_joined z i half = by_first a.used refl
  where
    last : (front : List ZoneBlock) × (x : ZoneBlock) × (half.front ≡ front ++ x ∷ []) × (length front ≡ i)
    last = last_parted half.front i half.place

    front : List ZoneBlock
    front = last.0

    a : ZoneBlock
    a = last.1

    is : z.blocks ≡ front ++ a ∷ half.f ∷ half.rest
    is = half.is ∙ ap (λ xs. xs ++ half.f ∷ half.rest) last.2 ∙ append_assoc front (a ∷ []) (half.f ∷ half.rest)

    before : AllNeighbours NotBothFree (front ++ a ∷ [])
    before = subst (AllNeighbours NotBothFree) last.2 half.before

    by_first : (t : Bool) → a.used ≡ t → AllNeighbours NotBothFree (joined_at z i).blocks
    by_first true e =
        let first : slice_get z.blocks i ≡ Some a = ap (λ xs. slice_get xs i) is ∙ get_behind front (a ∷ half.f ∷ half.rest) i 0 (omega (arith, last.3)) in
        let same : joined_at z i ≡ z = elim (joined_cases z i) [
          | inl stay ↦ stay
          | inr join ↦
              let other : slice_get z.blocks i ≡ Some join.b = ap (λ xs. slice_get xs i) join.was ∙ get_behind join.front (join.b ∷ join.c ∷ join.rest) i 0 (omega (arith, join.place)) in
              let alike : a ≡ join.b = cc in
              absurd (both_ways a.used (ap (λ (x : ZoneBlock). x.used) alike ∙ join.first) e)
        ] in
        rw same (subst (AllNeighbours NotBothFree) (sym is) (neighbours-join front (half.f ∷ half.rest) a before (used-first (half.f ∷ half.rest) a e half.behind)))
    by_first false e =
        let first : slice_get z.blocks i ≡ Some a = ap (λ xs. slice_get xs i) is ∙ get_behind front (a ∷ half.f ∷ half.rest) i 0 (omega (arith, last.3)) in
        let second : slice_get z.blocks (suc i) ≡ Some half.f = ap (λ xs. slice_get xs (suc i)) is ∙ get_behind front (a ∷ half.f ∷ half.rest) (suc i) 1 (omega (arith, last.3)) in
        let f = free_block (a.size + half.f.size) in
        let joint : (joined_at z i).blocks ≡ front ++ f ∷ half.rest =
        joined_free z i a half.f first second e half.free
        ∙ ap (λ xs. take i xs ++ f ∷ drop (suc (suc i)) xs) is
        ∙ ap (λ xs. xs ++ f ∷ drop (suc (suc i)) (front ++ a ∷ half.f ∷ half.rest)) (take_at front (a ∷ half.f ∷ half.rest) i last.3)
        ∙ ap (λ xs. front ++ f ∷ xs) (drop_behind front (a ∷ half.f ∷ half.rest) (suc (suc i)) 2 (omega (arith, last.3))) in
        subst (AllNeighbours NotBothFree) (sym joint)
        (neighbours-join front half.rest f (alike-last front a f (λ used. absurd (not_used a.used e used)) before)
        (alike-first half.rest half.f f (λ used. absurd (not_used half.f.used half.free used)) half.behind))

-- the same where none is before it
first_joined : (blocks : List ZoneBlock) → IsHalf blocks 0 → AllNeighbours NotBothFree blocks
first_joined blocks half =
    let none : half.front ≡ [] = nil_from_length half.front half.place in
    let is : blocks ≡ half.f ∷ half.rest = half.is ∙ ap (λ xs. xs ++ half.f ∷ half.rest) none in
    subst (AllNeighbours NotBothFree) (sym is) half.behind

-- the zone after a freeing
zone-freed : (z : Zone) (size i : ℕ) (b : ZoneBlock) → IsZone z size → slice_get z.blocks i ≡ Some b → IsTiled (joined_at (freed_at z i (Some b)) i) size × IsHalf (joined_at (freed_at z i (Some b)) i).blocks i
zone-freed z size i b zone there =
    let front = take i z.blocks in
    let rest = drop (suc i) z.blocks in
    let merged = neighbours-parts front rest b (subst (AllNeighbours NotBothFree) (parted z.blocks i b there) zone.merged) in
    let freed = freed_at z i (Some b) in (
      IsTiled-joined_at freed i size (IsTiled-freed_at z i size b (tiled z size zone) there),
      half_joined freed i front rest (free_block b.size) (append_assoc front (free_block b.size ∷ []) rest) (length-before z.blocks i b there) refl (neighbours-before front b merged.0) (neighbours-behind rest b merged.1),
    )

pub IsZone-with_free : (z : Zone) (size i : ℕ) (b : ZoneBlock) → IsZone z size → slice_get z.blocks i ≡ Some b → IsZone (with_free z i) size
unfolding with_free
IsZone-with_free z size zero b zone there =
    rw there (let freed = zone-freed z size zero b zone there in IsZone-tiled _ size freed.0 (first_joined _ freed.1))
IsZone-with_free z size (suc i) b zone there =
    rw there (let freed = zone-freed z size (suc i) b zone there in IsZone-tiled _ size (IsTiled-joined_at _ i size freed.0) (whole_joined _ i freed.1))

-- what the freeing of a block gives, by whether it is in use
freed_given : Memory → ℕ → ℕ → Bool → Answered (Result (Unit {0}) FreeRefusal)
freed_given m place i used = if used then record { answer = Ok tt; after = record m { zone = with_free m.zone i } } else record { answer = Err (AlreadyFree place); after = m }

laid_freed_at : (m : Memory) (place i : ℕ) (o : Option ZoneBlock) → Laid m → slice_get m.zone.blocks i ≡ o → Laid (z_freed_at m place i o).after
unfolding freed_given
laid_freed_at m place i None laid e = laid
laid_freed_at m place i (Some b) laid e = elim b.used as (λ used. Laid (freed_given m place i used).after) [
  | true ↦ Laid-with_zone m (with_free m.zone i) laid (IsZone-with_free m.zone (first_size m.low) i b laid.zone e)
  | false ↦ laid
]

laid_freed : (m : Memory) (place : ℕ) (o : Option ℕ) → Laid m → Laid (z_freed m place o).after
laid_freed m place None laid = laid
laid_freed m place (Some i) laid = laid_freed_at m place i (slice_get m.zone.blocks i) laid refl

-- a freeing in the zone keeps a memory laid out
pub Laid-z_free : (m : Memory) (place : ℕ) → Laid m → Laid (z_free m place).after
unfolding z_free
Laid-z_free m place laid = Laid-with_event _ _ (laid_freed m place (position_of m.zone.blocks place) laid)

with_payload_is : (b : ZoneBlock) (bytes : List ℕ) → IsZoneBlock b → IsZoneBlock (with_payload b bytes)
with_payload_is b bytes p = record { least = p.least; whole = p.whole; bytes = length-over b.bytes bytes ∙ p.bytes }

-- A write leaves the sizes, the uses and the number of the blocks.
record IsWritten (old new : List ZoneBlock) : Type 0 where
  blocks : AllByRecursion IsZoneBlock old → AllByRecursion IsZoneBlock new
  sum : size_of_zone new ≡ size_of_zone old
  count : length new ≡ length old
  merged : AllNeighbours NotBothFree old → AllNeighbours NotBothFree new
  behind : (b : ZoneBlock) → AllNeighbours NotBothFree (b ∷ old) → AllNeighbours NotBothFree (b ∷ new)

written_here : (b : ZoneBlock) (bs : List ZoneBlock) (bytes : List ℕ) → IsWritten (b ∷ bs) (with_payload b bytes ∷ bs)
written_here b bs bytes = record {
  blocks = λ p. (with_payload_is b bytes p.0, p.1);
  sum = refl;
  count = refl;
  merged = λ p. alike-first bs b (with_payload b bytes) (λ used. used) p;
  behind = λ c p. (p.0, alike-first bs b (with_payload b bytes) (λ used. used) p.1);
}

written_behind : (b : ZoneBlock) (old new : List ZoneBlock) → IsWritten old new → IsWritten (b ∷ old) (b ∷ new)
written_behind b old new w = record {
  blocks = λ p. (p.0, w.blocks p.1);
  sum = ap (λ n. b.size + n) w.sum;
  count = ap suc w.count;
  merged = λ p. w.behind b p;
  behind = λ c p. (p.0, w.behind b p.1);
}

is_written : (start : ℕ) (blocks : List ZoneBlock) (place : ℕ) (bytes : List ℕ) → IsWritten blocks (with_payload_from start blocks place bytes)
is_written start [] place bytes = record { blocks = λ p. p; sum = refl; count = refl; merged = λ p. p; behind = λ b p. p }
is_written start (b ∷ bs) place bytes =
    elim (eqb (start + 24) place) as (λ t. IsWritten (b ∷ bs) (cond t (with_payload b bytes ∷ bs) (b ∷ with_payload_from (start + b.size) bs place bytes))) [
      | true ↦ written_here b bs bytes
      | false ↦ written_behind b bs (with_payload_from (start + b.size) bs place bytes) (is_written (start + b.size) bs place bytes)
    ]

-- a write into a block of the zone keeps a memory laid out
pub Laid-with_zone_bytes : (m : Memory) (place : ℕ) (bytes : List ℕ) → Laid m → Laid (with_zone_bytes m place bytes)
unfolding with_zone_bytes
Laid-with_zone_bytes m place bytes laid =
    let w = is_written 48 m.zone.blocks place bytes in
    Laid-with_zone m _ laid (record {
      blocks = w.blocks laid.zone.blocks;
      tiles = ap (λ n. n + 48) w.sum ∙ laid.zone.tiles;
      merged = w.merged laid.zone.merged;
      rover = omega (arith, laid.zone.rover, w.count);
    })
