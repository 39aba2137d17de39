-- The bytes of zone blocks, by the places of their payloads.
use Rattle.std.proofs.Common.{◌≡◌, ◌≢◌, ℕ, suc, zero, ◌+◌, ◌-◌, ◌<◌, ◌≤◌, List, [], ◌∷◌, ◌++◌, Some, None, Bool, true, false, eqb, cond, length, take, drop, get_or, refl, sym, ap, ◌∙◌, arith, ◌⊎◌, inl, inr, if◌then◌else◌, subst}
use Rattle.std.specs.Prelude.{slice_get}
use Rattle.std.specs.List.{AllByRecursion, position_or_len}
use Rattle.std.proofs.lemmas.List.{append_assoc}
use Rattle.std.proofs.lemmas.Option.{slice_get_within}
use Rattle.std.proofs.lemmas.List.Quantifiers.{position-Some}
use Rattle.std.proofs.lemmas.Bool.{ne_eqb, eq-eqb, eqb-true, lt-ltb}
use Rattle.std.proofs.lemmas.Bool.Decides.{eqb_tells}
use Rattle.mem_model.specs.Blocks.{ZoneBlock}
use Rattle.mem_model.specs.Memory.{Zone}
use Rattle.mem_model.specs.Zone.{size_of_zone, free_block, replaced, joined_at, freed_at, with_free, place_at, places_from, position_of, used_bytes, used_bytes_from, with_payload_from}
use Rattle.mem_model.specs.Hunk.{over}
use Rattle.mem_model.specs.Laid.{IsZone, IsZoneBlock}
use Rattle.mem_model.proofs.ZoneLists.{parted, all-parts}
use Rattle.mem_model.proofs.ZoneLaying.{IsTiled, IsJoin, joined_cases, IsTiled-joined_at, IsTiled-freed_at, tiled, IsTaken}

-- a block in front keeps its bytes, whatever follows
pub front-bytes : (start : ℕ) (blocks others : List ZoneBlock) (place : ℕ) (bytes : List ℕ) → used_bytes_from start blocks place ≡ Some bytes → used_bytes_from start (blocks ++ others) place ≡ Some bytes
front-bytes start [] others place bytes h = absurd (cc)
front-bytes start (b ∷ bs) others place bytes h =
    elim (eqb (start + 24) place) as (λ t. cond t (used_bytes b) (used_bytes_from (start + b.size) bs place) ≡ Some bytes → cond t (used_bytes b) (used_bytes_from (start + b.size) (bs ++ others) place) ≡ Some bytes) [
      | true ↦ λ e. e
      | false ↦ λ e. front-bytes (start + b.size) bs others place bytes e
    ] h

-- no payload lies below the first
pub place_above : (start : ℕ) (blocks : List ZoneBlock) (place : ℕ) (bytes : List ℕ) → used_bytes_from start blocks place ≡ Some bytes → start + 24 ≤ place
place_above start [] place bytes h = absurd (cc)
place_above start (b ∷ bs) place bytes h =
    elim (eqb_tells (start + 24) place) [
      | inl at ↦ omega (arith, at.1)
      | inr off ↦ let there : used_bytes_from (start + b.size) bs place ≡ Some bytes = rw off.0 at h in omega (arith, place_above (start + b.size) bs place bytes there)
    ]

-- a block behind others has its bytes too
pub behind-bytes : (start : ℕ) (front blocks : List ZoneBlock) (place : ℕ) (bytes : List ℕ) → AllByRecursion IsZoneBlock front → used_bytes_from (start + size_of_zone front) blocks place ≡ Some bytes → used_bytes_from start (front ++ blocks) place ≡ Some bytes
behind-bytes start [] blocks place bytes p h = let same : start + 0 ≡ start = omega arith in rw same at h
behind-bytes start (b ∷ bs) blocks place bytes p h =
    let same : start + (b.size + size_of_zone bs) ≡ (start + b.size) + size_of_zone bs = omega arith in
    let there : used_bytes_from ((start + b.size) + size_of_zone bs) blocks place ≡ Some bytes = ap (λ n. used_bytes_from n blocks place) (sym same) ∙ h in
    rw (ne_eqb (start + 24) place (λ e. absurd (omega (arith, p.0.least, e, place_above ((start + b.size) + size_of_zone bs) blocks place bytes there)))) (behind-bytes (start + b.size) bs blocks place bytes p.1 there)

-- it is the one or the other
pub either-bytes : (start : ℕ) (front blocks : List ZoneBlock) (place : ℕ) (bytes : List ℕ) → used_bytes_from start (front ++ blocks) place ≡ Some bytes → (used_bytes_from start front place ≡ Some bytes) ⊎ (used_bytes_from (start + size_of_zone front) blocks place ≡ Some bytes)
either-bytes start [] blocks place bytes h = let same : start + 0 ≡ start = omega arith in inr (ap (λ n. used_bytes_from n blocks place) same ∙ h)
either-bytes start (b ∷ bs) blocks place bytes h =
    let same : start + (b.size + size_of_zone bs) ≡ (start + b.size) + size_of_zone bs = omega arith in
    elim (eqb_tells (start + 24) place) [
      | inl at ↦ inl (rw at.0 (rw at.0 at h))
      | inr off ↦
          let there : used_bytes_from (start + b.size) (bs ++ blocks) place ≡ Some bytes = rw off.0 at h in
          elim (either-bytes (start + b.size) bs blocks place bytes there) [
            | inl front ↦ inl (rw off.0 front)
            | inr behind ↦ inr (ap (λ n. used_bytes_from n blocks place) same ∙ behind)
          ]
    ]

-- where blocks without bytes at a place give way to others of the same size, what is there stays
pub kept-bytes : (start place : ℕ) (bytes : List ℕ) (front olds news rest : List ZoneBlock) → AllByRecursion IsZoneBlock front → AllByRecursion IsZoneBlock news → size_of_zone news ≡ size_of_zone olds →
    used_bytes_from (start + size_of_zone front) olds place ≡ None → used_bytes_from start (front ++ (olds ++ rest)) place ≡ Some bytes → used_bytes_from start (front ++ (news ++ rest)) place ≡ Some bytes
kept-bytes start place bytes front olds news rest p q sum none h =
    elim (either-bytes start front (olds ++ rest) place bytes h) [
      | inl before ↦ front-bytes start front (news ++ rest) place bytes before
      | inr behind ↦ elim (either-bytes (start + size_of_zone front) olds rest place bytes behind) [
        | inl here ↦ absurd (cc)
        | inr after ↦
            let same : (start + size_of_zone front) + size_of_zone olds ≡ (start + size_of_zone front) + size_of_zone news = omega (arith, sum) in
            let there : used_bytes_from ((start + size_of_zone front) + size_of_zone news) rest place ≡ Some bytes = ap (λ n. used_bytes_from n rest place) (sym same) ∙ after in
            behind-bytes start front (news ++ rest) place bytes p (behind-bytes (start + size_of_zone front) news rest place bytes q there)
      ]
    ]

-- a free block has no bytes anywhere
pub free-bytes : (start : ℕ) (b : ZoneBlock) (blocks : List ZoneBlock) (place : ℕ) → b.used ≡ false → used_bytes_from (start + b.size) blocks place ≡ None → used_bytes_from start (b ∷ blocks) place ≡ None
free-bytes start b blocks place free h = elim (eqb (start + 24) place) as (λ t. cond t (used_bytes b) (used_bytes_from (start + b.size) blocks place) ≡ None) [ true ↦ rw free refl | false ↦ h ]

-- what the block at a position has
pub at-bytes : (start : ℕ) (front rest : List ZoneBlock) (b : ZoneBlock) (place : ℕ) → AllByRecursion IsZoneBlock front → place ≡ (start + size_of_zone front) + 24 → used_bytes_from start (front ++ b ∷ rest) place ≡ used_bytes b
at-bytes start [] rest b place p e = rw (eq-eqb (start + 24) place (omega arith)) refl
at-bytes start (c ∷ cs) rest b place p e =
    rw (ne_eqb (start + 24) place (λ same. absurd (omega (arith, p.0.least)))) (at-bytes (start + c.size) cs rest b place p.1 (omega arith))

used_by : (b : ZoneBlock) (bytes : List ℕ) (t : Bool) → b.used ≡ t → used_bytes b ≡ Some bytes → (b.used ≡ true) × (b.bytes ≡ bytes)
used_by b bytes true e h = let here : Some b.bytes ≡ Some bytes = rw e at h in (e, cc)
used_by b bytes false e h = let none : None ≡ Some bytes = rw e at h in absurd (cc)

-- a block that has bytes is in use
pub used_is : (b : ZoneBlock) (bytes : List ℕ) → used_bytes b ≡ Some bytes → (b.used ≡ true) × (b.bytes ≡ bytes)
used_is b bytes h = used_by b bytes b.used refl h

length-used : (b : ZoneBlock) (bytes : List ℕ) → IsZoneBlock b → used_bytes b ≡ Some bytes → length bytes ≡ b.size - 28
length-used b bytes p h =
    let is = used_is b bytes h in
    sym (ap length is.1) ∙ p.bytes ∙ ap (λ used. if used then b.size - 28 else 0) is.0

-- bytes end four below their block's end at most
pub inside-bytes : (start : ℕ) (blocks : List ZoneBlock) (place : ℕ) (bytes : List ℕ) → AllByRecursion IsZoneBlock blocks → used_bytes_from start blocks place ≡ Some bytes → (place + length bytes) + 4 ≤ start + size_of_zone blocks
inside-bytes start [] place bytes p h = absurd (cc)
inside-bytes start (b ∷ bs) place bytes p h =
    elim (eqb_tells (start + 24) place) [
      | inl at ↦ let here : used_bytes b ≡ Some bytes = rw at.0 at h in omega (arith, p.0.least, length-used b bytes p.0 here, at.1)
      | inr off ↦ let there : used_bytes_from (start + b.size) bs place ≡ Some bytes = rw off.0 at h in omega (arith, inside-bytes (start + b.size) bs place bytes p.1 there)
    ]

-- a taken block keeps the bytes of the others
pub taken-bytes : (z : Zone) (i need place : ℕ) (b : ZoneBlock) (bytes : List ℕ) (news : List ZoneBlock) → AllByRecursion IsZoneBlock z.blocks → slice_get z.blocks i ≡ Some b → b.used ≡ false → IsTaken b need news →
    used_bytes_from 48 z.blocks place ≡ Some bytes → used_bytes_from 48 (replaced z.blocks i news) place ≡ Some bytes
taken-bytes z i need place b bytes news blocks there free new h =
    let front = take i z.blocks in
    let rest = drop (suc i) z.blocks in
    let is = parted z.blocks i b there in
    let parts = all-parts IsZoneBlock front (b ∷ rest) (subst (AllByRecursion IsZoneBlock) is blocks) in
    let old : used_bytes_from 48 (front ++ b ∷ rest) place ≡ Some bytes = ap (λ bs. used_bytes_from 48 bs place) (sym is) ∙ h in
    ap (λ bs. used_bytes_from 48 bs place) (append_assoc front news rest)
    ∙ kept-bytes 48 place bytes front (b ∷ []) news rest parts.0 new.blocks (omega (arith, new.sum)) (free-bytes (48 + size_of_zone front) b [] place free refl) old

-- a joining keeps the bytes of all
join-bytes : (z after : Zone) (i place : ℕ) (bytes : List ℕ) → AllByRecursion IsZoneBlock z.blocks → AllByRecursion IsZoneBlock after.blocks → IsJoin z i after → used_bytes_from 48 z.blocks place ≡ Some bytes → used_bytes_from 48 after.blocks place ≡ Some bytes
join-bytes z after i place bytes blocks new j h =
    let f = free_block (j.b.size + j.c.size) in
    let old : used_bytes_from 48 (j.front ++ j.b ∷ j.c ∷ j.rest) place ≡ Some bytes = ap (λ bs. used_bytes_from 48 bs place) (sym j.was) ∙ h in
    let parts = all-parts IsZoneBlock j.front (f ∷ j.rest) (subst (AllByRecursion IsZoneBlock) j.now new) in
    let none = free-bytes (48 + size_of_zone j.front) j.b (j.c ∷ []) place j.first (free-bytes ((48 + size_of_zone j.front) + j.b.size) j.c [] place j.second refl) in
    ap (λ bs. used_bytes_from 48 bs place) j.now ∙ kept-bytes 48 place bytes j.front (j.b ∷ j.c ∷ []) (f ∷ []) j.rest parts.0 (parts.1.0, tt) (omega arith) none old

joined-bytes : (z : Zone) (i size place : ℕ) (bytes : List ℕ) → IsTiled z size → used_bytes_from 48 z.blocks place ≡ Some bytes → used_bytes_from 48 (joined_at z i).blocks place ≡ Some bytes
joined-bytes z i size place bytes t h = elim (joined_cases z i) [
  | inl same ↦ ap (λ (y : Zone). used_bytes_from 48 y.blocks place) same ∙ h
  | inr join ↦ join-bytes z (joined_at z i) i place bytes t.blocks (IsTiled-joined_at z i size t).blocks join h
]

-- a freed block keeps the bytes of the others
freed-bytes : (z : Zone) (i size place : ℕ) (b : ZoneBlock) (bytes : List ℕ) → IsTiled z size → slice_get z.blocks i ≡ Some b → place_at z.blocks i + 24 ≢ place →
    used_bytes_from 48 z.blocks place ≡ Some bytes → used_bytes_from 48 (freed_at z i (Some b)).blocks place ≡ Some bytes
freed-bytes z i size place b bytes t there apart h =
    let front = take i z.blocks in
    let rest = drop (suc i) z.blocks in
    let is = parted z.blocks i b there in
    let f = free_block b.size in
    let parts = all-parts IsZoneBlock front (b ∷ rest) (subst (AllByRecursion IsZoneBlock) is t.blocks) in
    let block : IsZoneBlock f = record { least = parts.1.0.least; whole = parts.1.0.whole; bytes = refl } in
    let old : used_bytes_from 48 (front ++ b ∷ rest) place ≡ Some bytes = ap (λ bs. used_bytes_from 48 bs place) (sym is) ∙ h in
    let none : used_bytes_from (48 + size_of_zone front) (b ∷ []) place ≡ None = rw (ne_eqb ((48 + size_of_zone front) + 24) place apart) refl in
    ap (λ bs. used_bytes_from 48 bs place) (append_assoc front (f ∷ []) rest) ∙ kept-bytes 48 place bytes front (b ∷ []) (f ∷ []) rest parts.0 (block, tt) refl none old

-- and so does the whole freeing
pub with_free-bytes : (z : Zone) (i size place : ℕ) (b : ZoneBlock) (bytes : List ℕ) → IsZone z size → slice_get z.blocks i ≡ Some b → place_at z.blocks i + 24 ≢ place →
    used_bytes_from 48 z.blocks place ≡ Some bytes → used_bytes_from 48 (with_free z i).blocks place ≡ Some bytes
unfolding with_free
with_free-bytes z zero size place b bytes zone there apart h =
    let freed = IsTiled-freed_at z zero size b (tiled z size zone) there in
    rw there (joined-bytes _ zero size place bytes freed (freed-bytes z zero size place b bytes (tiled z size zone) there apart h))
with_free-bytes z (suc i) size place b bytes zone there apart h =
    let freed = IsTiled-freed_at z (suc i) size b (tiled z size zone) there in
    rw there (joined-bytes _ i size place bytes (IsTiled-joined_at _ (suc i) size freed) (joined-bytes _ (suc i) size place bytes freed (freed-bytes z (suc i) size place b bytes (tiled z size zone) there apart h)))

-- The block at position i has these bytes, and its payload is at this place.
pub record IsUsedAt (start : ℕ) (blocks : List ZoneBlock) (place : ℕ) (bytes : List ℕ) (i : ℕ) : Type 0 where
  pub b : ZoneBlock
  pub there : slice_get blocks i ≡ Some b
  pub used : b.used ≡ true
  pub bytes_are : b.bytes ≡ bytes
  pub payload : place ≡ (start + size_of_zone (take i blocks)) + 24

abbrev found : ℕ → ℕ → List ZoneBlock → ℕ
found place start blocks = position_or_len (λ p. eqb (p + 24) place) (places_from start blocks)

found_further : (start : ℕ) (b : ZoneBlock) (bs : List ZoneBlock) (place : ℕ) (bytes : List ℕ) (i : ℕ) → IsUsedAt (start + b.size) bs place bytes i → IsUsedAt start (b ∷ bs) place bytes (1 + i)
found_further start b bs place bytes i u =
    let next : suc i ≡ 1 + i = omega arith in
    subst (IsUsedAt start (b ∷ bs) place bytes) next (record { b = u.b; there = u.there; used = u.used; bytes_are = u.bytes_are; payload = omega (arith, u.payload) })

found_used : (start : ℕ) (blocks : List ZoneBlock) (place : ℕ) (bytes : List ℕ) → used_bytes_from start blocks place ≡ Some bytes → IsUsedAt start blocks place bytes (found place start blocks)
found_used start [] place bytes h = absurd (cc)
found_used start (b ∷ bs) place bytes h =
    elim (eqb_tells (start + 24) place) [
      | inl at ↦
          let here : used_bytes b ≡ Some bytes = rw at.0 at h in
          let is = used_is b bytes here in
          rw at.0 (record { b = b; there = refl; used = is.0; bytes_are = is.1; payload = omega (arith, at.1) })
      | inr off ↦
          let there : used_bytes_from (start + b.size) bs place ≡ Some bytes = rw off.0 at h in
          let rest = found_used (start + b.size) bs place bytes there in
          rw off.0 (found_further start b bs place bytes (found place (start + b.size) bs) rest)
    ]

places_count : (start : ℕ) (blocks : List ZoneBlock) → length (places_from start blocks) ≡ length blocks
places_count start [] = refl
places_count start (b ∷ bs) = ap suc (places_count (start + b.size) bs)

-- where a used block is found by its payload
pub position_used : (blocks : List ZoneBlock) (place : ℕ) (bytes : List ℕ) → used_bytes_from 48 blocks place ≡ Some bytes → (i : ℕ) × (position_of blocks place ≡ Some i) × IsUsedAt 48 blocks place bytes i
unfolding position_of
position_used blocks place bytes h =
    let used = found_used 48 blocks place bytes h in
    let i = found place 48 blocks in
    let inside : i < length (places_from 48 blocks) = omega (arith, slice_get_within blocks i used.b used.there, places_count 48 blocks) in
    (i, rw (lt-ltb i (length (places_from 48 blocks)) inside) refl, used)

place_there : (start i d : ℕ) (blocks : List ZoneBlock) → i < length blocks → get_or (places_from start blocks) i d ≡ start + size_of_zone (take i blocks)
place_there start i d [] h = absurd (omega (arith, h))
place_there start zero d (b ∷ bs) h = omega arith
place_there start (suc i) d (b ∷ bs) h = place_there (start + b.size) i d bs (omega (arith, h)) ∙ omega arith

-- where a block is found its payload is
pub position_place : (blocks : List ZoneBlock) (place i : ℕ) → position_of blocks place ≡ Some i → (i < length blocks) × (place_at blocks i + 24 ≡ place)
unfolding position_of
position_place blocks place i h =
    let some = position-Some (λ p. eqb (p + 24) place) (places_from 48 blocks) i 0 h in
    let inside : i < length blocks = omega (arith, some.0, places_count 48 blocks) in
    (inside, ap (λ n. n + 24) (sym (place_there 48 i 0 blocks inside)) ∙ eqb-true _ _ some.1)

-- what is written is there
pub written-bytes : (start : ℕ) (blocks : List ZoneBlock) (place : ℕ) (old bytes : List ℕ) → used_bytes_from start blocks place ≡ Some old → used_bytes_from start (with_payload_from start blocks place bytes) place ≡ Some (over old bytes)
written-bytes start [] place old bytes h = absurd (cc)
written-bytes start (b ∷ bs) place old bytes h =
    elim (eqb_tells (start + 24) place) [
      | inl at ↦
          let here : used_bytes b ≡ Some old = rw at.0 at h in
          let is = used_is b old here in
          rw (at.0, at.0, is.0) (ap (λ w. Some (over w bytes)) is.1)
      | inr off ↦ rw (off.0, off.0) (let there : used_bytes_from (start + b.size) bs place ≡ Some old = rw off.0 at h in written-bytes (start + b.size) bs place old bytes there)
    ]

-- and nowhere else
pub elsewhere-bytes : (start : ℕ) (blocks : List ZoneBlock) (place other : ℕ) (bytes : List ℕ) → other ≢ place → used_bytes_from start (with_payload_from start blocks place bytes) other ≡ used_bytes_from start blocks other
elsewhere-bytes start [] place other bytes h = refl
elsewhere-bytes start (b ∷ bs) place other bytes h =
    elim (eqb_tells (start + 24) place) [
      | inl at ↦ rw (at.0, ne_eqb (start + 24) other (λ e. h (sym e ∙ at.1))) refl
      | inr off ↦ rw off.0 (ap (cond (eqb (start + 24) other) (used_bytes b)) (elsewhere-bytes (start + b.size) bs place other bytes h))
    ]
