-- Laws of the operations, over the definitions alone: what callers of a store need.
use Rattle.std.proofs.Common.{◌≡◌, ◌≢◌, ℕ, ◌+◌, ◌-◌, ◌≤◌, List, [], ◌∷◌, ◌++◌, Option, Some, None, Result, Ok, Err, Bool, true, false, ltb, eqb, cond, length, take, drop, refl, sym, ap, ◌∙◌, arith, replicate, ◌⊎◌, inl, inr, if◌then◌else◌, is_ok}
use Rattle.std.specs.Prelude.{IsOkAnd, IsSome, codes}
use Rattle.std.specs.Option.{option_map}
use Rattle.std.specs.List.{AllByRecursion}
use Rattle.std.proofs.lemmas.Bool.Decides.{eqb_tells}
use Rattle.std.proofs.lemmas.Bool.{ne_eqb, eq-eqb}
use Rattle.std.proofs.lemmas.List.{length-replicate, length-take-le, take_at}
use Rattle.mem_model.specs.Event.{Event, Event.LowAlloc, Shortage}
use Rattle.mem_model.specs.Blocks.{HunkBlock}
use Rattle.mem_model.specs.Memory.{Memory, room, low_used, high_used, size_of}
use Rattle.mem_model.specs.Places.{hunk_need, round_up}
use Rattle.mem_model.specs.Hunk.{hunk_block, with_low, with_bytes, over, bytes_from, with_bytes_from, bytes_above, with_bytes_above, cut_from, cut_above, low_bytes, with_low_bytes, with_last_bytes, temp_bytes, temp_bytes_of, with_temp_bytes, with_temp_bytes_of, without_temp}
use Rattle.mem_model.specs.Answer.{Answered, noted, with_event}
use Rattle.mem_model.specs.Laid.{Laid, IsHunkBlock, AreLowBlocks}
use Rattle.mem_model.specs.Operations.{low_alloc, low_free, low_cut, temp_alloc, build_low, shortage}
use Rattle.mem_model.specs.Images.{HasBytes, front_of, image_size}
use Rattle.mem_model.proofs.Laying.{over_front, over_same, length-over, size_of-with_bytes_above, Laid-with_low_bytes}
use Rattle.mem_model.proofs.Cuts.{cut_whole}
use Rattle.mem_model.proofs.Calling.{high-high_taken}
use Rattle.mem_model.proofs.Newest.{last_bytes-append, last_bytes-written, temp_bytes-small, Laid-with_temp_bytes}
use Rattle.mem_model.proofs.Untouched.{after_image, left-either}

-- an event is no other part of the memory
low-with_event : (m : Memory) (event : Event) → (with_event m event).low ≡ m.low
low-with_event m event = elim (ltb (length m.events) m.event_room) as (λ t. (cond t (record m { events = m.events ++ event ∷ [] }) m).low ≡ m.low) [ true ↦ refl | false ↦ refl ]

-- what an allocation gives, by whether the room is too small
low_given : Memory → ℕ → List ℕ → Bool → Answered (Result ℕ Shortage)
low_given m size name short =
    if short then record { answer = Err (shortage m (hunk_need size)); after = m } else record { answer = Ok (low_used m + 16); after = with_low m (hunk_block (hunk_need size) name) }

-- the low list after an allocation
pub low-low_alloc : (m : Memory) (size place : ℕ) (name : List ℕ) → (low_alloc m size name).answer ≡ Ok place →
    ((low_alloc m size name).after.low ≡ m.low ++ hunk_block (hunk_need size) name ∷ []) × (place ≡ low_used m + 16)
unfolding low_alloc with_low low_given
low-low_alloc m size place name =
    elim (ltb (room m) (hunk_need size)) as (λ short. (low_given m size name short).answer ≡ Ok place → ((noted (low_given m size name short) (LowAlloc size)).after.low ≡ m.low ++ hunk_block (hunk_need size) name ∷ []) × (place ≡ low_used m + 16)) [
      | true ↦ λ h. absurd (cc)
      | false ↦ λ h. (low-with_event (with_low m (hunk_block (hunk_need size) name)) _, cc)
    ]

-- A refused allocation leaves it.
pub low-low_refused : (m : Memory) (size : ℕ) (short : Shortage) (name : List ℕ) → (low_alloc m size name).answer ≡ Err short → (low_alloc m size name).after.low ≡ m.low
unfolding low_alloc low_given
low-low_refused m size short name =
    elim (ltb (room m) (hunk_need size)) as (λ small. (low_given m size name small).answer ≡ Err short → (noted (low_given m size name small) (LowAlloc size)).after.low ≡ m.low) [
      | true ↦ λ h. low-with_event m _
      | false ↦ λ h. absurd (cc)
    ]

-- An allocation adds a block or leaves the list.
low-low_alloc_cases : (m : Memory) (size : ℕ) (name : List ℕ) →
    ((low_alloc m size name).after.low ≡ m.low) ⊎ ((low_alloc m size name).after.low ≡ m.low ++ hunk_block (hunk_need size) name ∷ [])
unfolding low_alloc with_low low_given
low-low_alloc_cases m size name =
    elim (ltb (room m) (hunk_need size)) as (λ short. ((noted (low_given m size name short) (LowAlloc size)).after.low ≡ m.low) ⊎ ((noted (low_given m size name short) (LowAlloc size)).after.low ≡ m.low ++ hunk_block (hunk_need size) name ∷ [])) [
      | true ↦ inl (low-with_event m _)
      | false ↦ inr (low-with_event (with_low m (hunk_block (hunk_need size) name)) _)
    ]

bytes_from-append : (start : ℕ) (blocks others : List HunkBlock) (place : ℕ) (bytes : List ℕ) → bytes_from start blocks place ≡ Some bytes → bytes_from start (blocks ++ others) place ≡ Some bytes
bytes_from-append start [] others place bytes h = absurd (cc)
bytes_from-append start (b ∷ bs) others place bytes h =
    elim (eqb (start + 16) place) as (λ t. cond t (Some b.bytes) (bytes_from (start + b.size) bs place) ≡ Some bytes → cond t (Some b.bytes) (bytes_from (start + b.size) (bs ++ others) place) ≡ Some bytes) [
      | true ↦ λ e. e
      | false ↦ λ e. bytes_from-append (start + b.size) bs others place bytes e
    ] h

bytes_above-append : (low others : List HunkBlock) (place : ℕ) (bytes : List ℕ) → bytes_above low place ≡ Some bytes → bytes_above (low ++ others) place ≡ Some bytes
bytes_above-append [] others place bytes h = absurd (cc)
bytes_above-append (zone ∷ blocks) others place bytes h = bytes_from-append zone.size blocks others place bytes h

-- An allocation leaves the bytes of each other block.
pub low_bytes-low_alloc : (m : Memory) (size : ℕ) (name : List ℕ) (place : ℕ) (bytes : List ℕ) → low_bytes m place ≡ Some bytes → low_bytes (low_alloc m size name).after place ≡ Some bytes
unfolding low_bytes
low_bytes-low_alloc m size name place bytes h =
    elim (low-low_alloc_cases m size name) [
      | inl same ↦ ap (λ low. bytes_above low place) same ∙ h
      | inr more ↦ ap (λ low. bytes_above low place) more ∙ bytes_above-append m.low (hunk_block (hunk_need size) name ∷ []) place bytes h
    ]

-- the block after the others is that of the place behind them
new_from : (start : ℕ) (blocks : List HunkBlock) (b : HunkBlock) (place : ℕ) → AllByRecursion IsHunkBlock blocks → place ≡ (start + size_of blocks) + 16 → bytes_from start (blocks ++ b ∷ []) place ≡ Some b.bytes
new_from start [] b place p e = rw (eq-eqb (start + 16) place (omega arith))
new_from start (c ∷ cs) b place p e =
    rw (ne_eqb (start + 16) place (λ same. absurd (omega (arith, p.0.header)))) (new_from (start + c.size) cs b place p.1 (omega arith))

new_above : (low : List HunkBlock) (b : HunkBlock) (place : ℕ) → AreLowBlocks low → place ≡ size_of low + 16 → bytes_above (low ++ b ∷ []) place ≡ Some b.bytes
new_above [] b place p e = absurd p
new_above (zone ∷ blocks) b place p e = new_from zone.size blocks b place p.1 e

-- The new block has zero bytes.
pub low_bytes-new : (m : Memory) (size place : ℕ) (name : List ℕ) → Laid m → (low_alloc m size name).answer ≡ Ok place → low_bytes (low_alloc m size name).after place ≡ Some (replicate (round_up size 16) 0)
unfolding low_bytes
low_bytes-new m size place name laid h =
    let given = low-low_alloc m size place name h in
    ap (λ low. bytes_above low place) given.0 ∙ new_above m.low _ place laid.low given.1
    ∙ ap (λ n. Some (replicate n 0)) (let same : hunk_need size - 16 ≡ round_up size 16 = omega arith in same)

-- Its length is that of the request, rounded up.
pub length-new : (m : Memory) (size place : ℕ) (name bytes : List ℕ) → Laid m → (low_alloc m size name).answer ≡ Ok place → low_bytes (low_alloc m size name).after place ≡ Some bytes → length bytes ≡ round_up size 16
length-new m size place name bytes laid h there =
    let new : Some (replicate (round_up size 16) 0) ≡ Some bytes = sym (low_bytes-new m size place name laid h) ∙ there in
    let same : replicate (round_up size 16) 0 ≡ bytes = cc in
    sym (ap length same) ∙ length-replicate (round_up size 16) 0

over_from : (start : ℕ) (blocks : List HunkBlock) (place : ℕ) (bytes : List ℕ) → bytes_from start (with_bytes_from start blocks place bytes) place ≡ option_map (λ old. over old bytes) (bytes_from start blocks place)
over_from start [] place bytes = refl
over_from start (b ∷ bs) place bytes =
    elim (eqb_tells (start + 16) place) [
      | inl at ↦ rw (at.0, at.0) refl
      | inr off ↦ rw (off.0, off.0) (over_from (start + b.size) bs place bytes)
    ]

over_above : (low : List HunkBlock) (place : ℕ) (bytes : List ℕ) → bytes_above (with_bytes_above low place bytes) place ≡ option_map (λ old. over old bytes) (bytes_above low place)
over_above [] place bytes = refl
over_above (zone ∷ blocks) place bytes = over_from zone.size blocks place bytes

-- the bytes of a low block after a write into it
low_bytes-over : (m : Memory) (place : ℕ) (bytes : List ℕ) → low_bytes (with_low_bytes m place bytes) place ≡ option_map (λ old. over old bytes) (low_bytes m place)
unfolding low_bytes with_low_bytes
low_bytes-over m place bytes = over_above m.low place bytes

-- What is written is there.
pub low_bytes-written : (m : Memory) (place : ℕ) (old bytes : List ℕ) → low_bytes m place ≡ Some old → length bytes ≡ length old → low_bytes (with_low_bytes m place bytes) place ≡ Some bytes
low_bytes-written m place old bytes h same = low_bytes-over m place bytes ∙ ap (option_map (λ had. over had bytes)) h ∙ ap Some (over_same old bytes same)

elsewhere_from : (start : ℕ) (blocks : List HunkBlock) (place other : ℕ) (bytes : List ℕ) → other ≢ place → bytes_from start (with_bytes_from start blocks place bytes) other ≡ bytes_from start blocks other
elsewhere_from start [] place other bytes h = refl
elsewhere_from start (b ∷ bs) place other bytes h =
    elim (eqb_tells (start + 16) place) [
      | inl at ↦ rw (at.0, ne_eqb (start + 16) other (λ e. h (sym e ∙ at.1))) refl
      | inr off ↦ rw off.0 (ap (cond (eqb (start + 16) other) (Some b.bytes)) (elsewhere_from (start + b.size) bs place other bytes h))
    ]

elsewhere_above : (low : List HunkBlock) (place other : ℕ) (bytes : List ℕ) → other ≢ place → bytes_above (with_bytes_above low place bytes) other ≡ bytes_above low other
elsewhere_above [] place other bytes h = refl
elsewhere_above (zone ∷ blocks) place other bytes h = elsewhere_from zone.size blocks place other bytes h

-- A write leaves the bytes of each other block.
pub low_bytes-elsewhere : (m : Memory) (place other : ℕ) (bytes : List ℕ) → other ≢ place → low_bytes (with_low_bytes m place bytes) other ≡ low_bytes m other
unfolding low_bytes with_low_bytes
low_bytes-elsewhere m place other bytes h = elsewhere_above m.low place other bytes h

inside_from : (start : ℕ) (blocks : List HunkBlock) (place : ℕ) (bytes : List ℕ) → AllByRecursion IsHunkBlock blocks → bytes_from start blocks place ≡ Some bytes → place + length bytes ≤ start + size_of blocks
inside_from start [] place bytes p h = absurd (cc)
inside_from start (b ∷ bs) place bytes p h =
    elim (eqb_tells (start + 16) place) [
      | inl at ↦ let here : Some b.bytes ≡ Some bytes = rw at.0 at h in let same : b.bytes ≡ bytes = cc in omega (arith, p.0.header, p.0.bytes, ap length same, at.1)
      | inr off ↦ let there : bytes_from (start + b.size) bs place ≡ Some bytes = rw off.0 at h in omega (arith, inside_from (start + b.size) bs place bytes p.1 there)
    ]

inside_above : (low : List HunkBlock) (place : ℕ) (bytes : List ℕ) → AreLowBlocks low → bytes_above low place ≡ Some bytes → place + length bytes ≤ size_of low
inside_above [] place bytes p h = absurd p
inside_above (zone ∷ blocks) place bytes p h = inside_from zone.size blocks place bytes p.1 h

-- A low block's bytes lie below the low hunk's end.
pub low_bytes-inside : (m : Memory) (place : ℕ) (bytes : List ℕ) → Laid m → low_bytes m place ≡ Some bytes → place + length bytes ≤ low_used m
unfolding low_bytes
low_bytes-inside m place bytes laid h = inside_above m.low place bytes laid.low h

-- A new block's place is that of no block before.
pub low_place_apart : (m : Memory) (size place other : ℕ) (name bytes : List ℕ) → Laid m → (low_alloc m size name).answer ≡ Ok place → low_bytes m other ≡ Some bytes → other ≢ place
low_place_apart m size place other name bytes laid h there same =
    omega (arith, (low-low_alloc m size place name h).1, low_bytes-inside m other bytes laid there)

-- A freeing to where the low hunk once ended takes back all blocks that came since.
pub low_free-back : (m before : Memory) (since : List HunkBlock) → Laid before → m.low ≡ before.low ++ since →
    ((low_free m (low_used before)).answer ≡ Ok tt) × ((low_free m (low_used before)).after.low ≡ before.low)
unfolding low_free
low_free-back m before since laid e =
    rw (ap (λ low. cut_above low (low_used before)) e ∙ cut_whole before.low since (low_used before) laid.low refl) (refl, low-with_event _ _)

new_written_from : (start : ℕ) (blocks : List HunkBlock) (b : HunkBlock) (place : ℕ) (bytes : List ℕ) → AllByRecursion IsHunkBlock blocks → place ≡ (start + size_of blocks) + 16 → with_bytes_from start (blocks ++ b ∷ []) place bytes ≡ blocks ++ with_bytes b bytes ∷ []
new_written_from start [] b place bytes p e = rw (eq-eqb (start + 16) place (omega arith))
new_written_from start (c ∷ cs) b place bytes p e =
    rw (ne_eqb (start + 16) place (λ same. absurd (omega (arith, p.0.header)))) (ap (λ xs. c ∷ xs) (new_written_from (start + c.size) cs b place bytes p.1 (omega arith)))

new_written_above : (low : List HunkBlock) (b : HunkBlock) (place : ℕ) (bytes : List ℕ) → AreLowBlocks low → place ≡ size_of low + 16 → with_bytes_above (low ++ b ∷ []) place bytes ≡ low ++ with_bytes b bytes ∷ []
new_written_above [] b place bytes p e = absurd p
new_written_above (zone ∷ blocks) b place bytes p e = ap (λ xs. zone ∷ xs) (new_written_from zone.size blocks b place bytes p.1 e)

-- the low list after an allocation and a write into the new block
pub low-new_written : (m : Memory) (size place : ℕ) (name bytes : List ℕ) → Laid m → (low_alloc m size name).answer ≡ Ok place →
    (with_low_bytes (low_alloc m size name).after place bytes).low ≡ m.low ++ with_bytes (hunk_block (hunk_need size) name) bytes ∷ []
unfolding with_low_bytes
low-new_written m size place name bytes laid h =
    let given = low-low_alloc m size place name h in
    ap (λ low. with_bytes_above low place bytes) given.0 ∙ new_written_above m.low (hunk_block (hunk_need size) name) place bytes laid.low given.1

-- A freeing to the old mark takes back an allocation, whatever was written in the new block.
pub low_free-low_alloc : (m : Memory) (size place : ℕ) (name bytes : List ℕ) → Laid m → (low_alloc m size name).answer ≡ Ok place →
    (low_free (with_low_bytes (low_alloc m size name).after place bytes) (low_used m)).answer ≡ Ok tt
low_free-low_alloc m size place name bytes laid h = (low_free-back _ m _ laid (low-new_written m size place name bytes laid h)).0

-- The low list is then the old one.
pub low-low_free : (m : Memory) (size place : ℕ) (name bytes : List ℕ) → Laid m → (low_alloc m size name).answer ≡ Ok place →
    (low_free (with_low_bytes (low_alloc m size name).after place bytes) (low_used m)).after.low ≡ m.low
low-low_free m size place name bytes laid h = (low_free-back _ m _ laid (low-new_written m size place name bytes laid h)).1

mapped_some : {X Y : Type 0} (f : X → Y) (o : Option X) (y : Y) → option_map f o ≡ Some y → (x : X) × (o ≡ Some x) × (y ≡ f x)
mapped_some f None y h = absurd (cc)
mapped_some f (Some x) y h = (x, refl, cc)

place_above : (start : ℕ) (blocks : List HunkBlock) (place : ℕ) (bytes : List ℕ) → bytes_from start blocks place ≡ Some bytes → start + 16 ≤ place
place_above start [] place bytes h = absurd (cc)
place_above start (b ∷ bs) place bytes h =
    elim (eqb_tells (start + 16) place) [
      | inl at ↦ omega (arith, at.1)
      | inr off ↦ let there : bytes_from (start + b.size) bs place ≡ Some bytes = rw off.0 at h in omega (arith, place_above (start + b.size) bs place bytes there)
    ]

kept_from : (start : ℕ) (blocks kept : List HunkBlock) (mark place : ℕ) (bytes : List ℕ) → bytes_from start blocks place ≡ Some bytes → place ≤ mark → cut_from start blocks mark ≡ Some kept → bytes_from start kept place ≡ Some bytes
kept_from start [] kept mark place bytes h below cut = absurd (cc)
kept_from start (b ∷ bs) kept mark place bytes h below cut =
    let rest : option_map (λ xs. b ∷ xs) (cut_from (start + b.size) bs mark) ≡ Some kept = rw (ne_eqb start mark (λ e. absurd (omega (arith, place_above start (b ∷ bs) place bytes h, e)))) at cut in
    let some = mapped_some (λ xs. b ∷ xs) (cut_from (start + b.size) bs mark) kept rest in
    rw some.2 (elim (eqb_tells (start + 16) place) [
      | inl at ↦ rw at.0 (rw at.0 at h)
      | inr off ↦ rw off.0 (kept_from (start + b.size) bs some.0 mark place bytes (rw off.0 at h) below some.1)
    ])

kept_above : (low kept : List HunkBlock) (mark place : ℕ) (bytes : List ℕ) → bytes_above low place ≡ Some bytes → place ≤ mark → cut_above low mark ≡ Some kept → bytes_above kept place ≡ Some bytes
kept_above [] kept mark place bytes h below cut = absurd (cc)
kept_above (zone ∷ blocks) kept mark place bytes h below cut =
    let some = mapped_some (λ xs. zone ∷ xs) (cut_from zone.size blocks mark) kept cut in
    rw some.2 (kept_from zone.size blocks some.0 mark place bytes h below some.1)

kept_bytes : (m : Memory) (mark place : ℕ) (bytes : List ℕ) (kept : Option (List HunkBlock)) → bytes_above m.low place ≡ Some bytes → place ≤ mark → cut_above m.low mark ≡ kept → bytes_above (low_cut m mark kept).after.low place ≡ Some bytes
kept_bytes m mark place bytes None h below cut = h
kept_bytes m mark place bytes (Some kept) h below cut = kept_above m.low kept mark place bytes h below cut

-- A freeing leaves the bytes of each block below the mark.
pub low_bytes-low_free : (m : Memory) (mark place : ℕ) (bytes : List ℕ) → low_bytes m place ≡ Some bytes → place ≤ mark → low_bytes (low_free m mark).after place ≡ Some bytes
unfolding low_bytes low_free
low_bytes-low_free m mark place bytes h below =
    ap (λ low. bytes_above low place) (low-with_event (low_cut m mark (cut_above m.low mark)).after _) ∙ kept_bytes m mark place bytes (cut_above m.low mark) h below refl

-- an event is no other part of the memory
high-with_event : (m : Memory) (event : Event) → (with_event m event).high ≡ m.high
high-with_event m event = elim (ltb (length m.events) m.event_room) as (λ t. (cond t (record m { events = m.events ++ event ∷ [] }) m).high ≡ m.high) [ true ↦ refl | false ↦ refl ]

temp-with_event : (m : Memory) (event : Event) → (with_event m event).temp ≡ m.temp
temp-with_event m event = elim (ltb (length m.events) m.event_room) as (λ t. (cond t (record m { events = m.events ++ event ∷ [] }) m).temp ≡ m.temp) [ true ↦ refl | false ↦ refl ]

bytes_of_newest : (high older : List HunkBlock) (b : HunkBlock) (temp : Option ℕ) (mark : ℕ) → high ≡ older ++ b ∷ [] → temp ≡ Some mark → temp_bytes_of high temp ≡ Some b.bytes
bytes_of_newest high older b temp mark e f = rw (e, f) (last_bytes-append older b)

-- A new temporary block has zero bytes.
pub temp_bytes-new : (m : Memory) (size place : ℕ) → (temp_alloc m size).answer ≡ Ok place → temp_bytes (temp_alloc m size).after ≡ Some (replicate (round_up size 16) 0)
unfolding temp_alloc temp_bytes
temp_bytes-new m size place h =
    bytes_of_newest _ (without_temp m).high (hunk_block (hunk_need (round_up size 16)) (codes "temp")) _ (high_used (without_temp m))
    (high-with_event _ _ ∙ high-high_taken (without_temp m) (round_up size 16) place (codes "temp") h)
    (temp-with_event _ _ ∙ ap (λ (answer : Result ℕ Shortage). if is_ok answer then Some (high_used (without_temp m)) else None) h)
    ∙ ap (λ n. Some (replicate n 0)) (let same : hunk_need (round_up size 16) - 16 ≡ round_up size 16 = omega arith in same)

-- Its length is that of the request, rounded up.
pub length-temp : (m : Memory) (size place : ℕ) (bytes : List ℕ) → (temp_alloc m size).answer ≡ Ok place → temp_bytes (temp_alloc m size).after ≡ Some bytes → length bytes ≡ round_up size 16
length-temp m size place bytes h there =
    let new : Some (replicate (round_up size 16) 0) ≡ Some bytes = sym (temp_bytes-new m size place h) ∙ there in
    let same : replicate (round_up size 16) 0 ≡ bytes = cc in
    sym (ap length same) ∙ length-replicate (round_up size 16) 0

written_temp : (m : Memory) (temp : Option ℕ) (old bytes : List ℕ) → m.temp ≡ temp → temp_bytes_of m.high temp ≡ Some old → temp_bytes (with_temp_bytes_of m bytes temp) ≡ Some (over old bytes)
unfolding temp_bytes
written_temp m None old bytes e h = absurd (cc)
written_temp m (Some mark) old bytes e h = ap (temp_bytes_of (with_last_bytes m.high bytes)) e ∙ last_bytes-written m.high old bytes h

temp_bytes-over : (m : Memory) (old bytes : List ℕ) → temp_bytes m ≡ Some old → temp_bytes (with_temp_bytes m bytes) ≡ Some (over old bytes)
unfolding temp_bytes with_temp_bytes
temp_bytes-over m old bytes h = written_temp m m.temp old bytes refl h

-- What is written into the temporary block is there.
pub temp_bytes-written : (m : Memory) (old bytes : List ℕ) → temp_bytes m ≡ Some old → length bytes ≡ length old → temp_bytes (with_temp_bytes m bytes) ≡ Some bytes
temp_bytes-written m old bytes h same = temp_bytes-over m old bytes h ∙ ap Some (over_same old bytes same)

-- A block that has so many bytes is there, and one that is there with so many has them.
pub some_has : (block : Option (List ℕ)) (n : ℕ) → HasBytes block n → IsSome block
some_has None n h = absurd h
some_has (Some bytes) n h = refl

pub has_fits : (block : Option (List ℕ)) (n : ℕ) (bytes : List ℕ) → HasBytes block n → block ≡ Some bytes → n ≤ length bytes
has_fits block n bytes h e = rw e at h

pub has_bytes : (block : Option (List ℕ)) (n : ℕ) (bytes : List ℕ) → block ≡ Some bytes → n ≤ length bytes → HasBytes block n
has_bytes block n bytes e fits = rw e fits

pub has_over : (block old : Option (List ℕ)) (n : ℕ) (bytes : List ℕ) → block ≡ option_map (λ had. over had bytes) old → HasBytes old n → HasBytes block n
has_over block None n bytes e h = absurd h
has_over block (Some had) n bytes e h = has_bytes block n (over had bytes) e (omega (arith, h, length-over had bytes))

-- A building in a low block keeps a memory laid out.
pub Laid-build_low : {F : Type 0} (m : Memory) (place len : ℕ) (image_of : List ℕ → Result (List ℕ) F) → Laid m → Laid (build_low m place len image_of).after
unfolding build_low
Laid-build_low m place len image_of laid = after_image Laid m (with_low_bytes m place) (image_of (front_of (temp_bytes m) len)) laid (λ image. Laid-with_low_bytes m place image laid)

-- The block begins with the image, and what stood behind it stays.
pub low_bytes-built : {F : Type 0} (m : Memory) (place len : ℕ) (image_of : List ℕ → Result (List ℕ) F) (old image : List ℕ) → low_bytes m place ≡ Some old → image_of (front_of (temp_bytes m) len) ≡ Ok image → length image ≤ length old →
    low_bytes (build_low m place len image_of).after place ≡ Some (image ++ drop (length image) old)
unfolding build_low
low_bytes-built m place len image_of old image here made fits =
    rw made (low_bytes-over m place image ∙ ap (option_map (λ bytes. over bytes image)) here ∙ ap Some (over_front old image fits))

-- What is built in a new block leaves the blocks that there were.
pub low-new_built : {F : Type 0} (m : Memory) (size place len : ℕ) (name : List ℕ) (image_of : List ℕ → Result (List ℕ) F) → Laid m → (low_alloc m size name).answer ≡ Ok place →
    (above : List HunkBlock) × ((build_low (low_alloc m size name).after place len image_of).after.low ≡ m.low ++ above)
unfolding build_low
low-new_built m size place len name image_of laid h =
    let given : Memory = (low_alloc m size name).after in
    after_image (λ (n : Memory). (above : List HunkBlock) × (n.low ≡ m.low ++ above)) given (with_low_bytes given place) (image_of (front_of (temp_bytes given) len))
    (_, (low-low_alloc m size place name h).0) (λ image. (_, low-new_written m size place name image laid h))

pub front-over : (block : Option (List ℕ)) (bytes : List ℕ) → HasBytes block (length bytes) → front_of (option_map (λ old. over old bytes) block) (length bytes) ≡ bytes
front-over None bytes h = absurd h
front-over (Some old) bytes h = ap (take (length bytes)) (over_front old bytes h) ∙ take_at bytes (drop (length bytes) old) (length bytes) refl

pub front-built : {F : Type 0} (m : Memory) (place len : ℕ) (image_of : List ℕ → Result (List ℕ) F) (image : List ℕ) → image_of (front_of (temp_bytes m) len) ≡ Ok image → HasBytes (low_bytes m place) (length image) →
    front_of (low_bytes (build_low m place len image_of).after place) (length image) ≡ image
unfolding build_low
front-built m place len image_of image made h = rw (made, low_bytes-over m place image) (front-over (low_bytes m place) image h)

-- Each other low block has the bytes that it had.
pub low_bytes-build_low : {F : Type 0} (m : Memory) (place other len : ℕ) (image_of : List ℕ → Result (List ℕ) F) → other ≢ place → low_bytes (build_low m place len image_of).after other ≡ low_bytes m other
unfolding build_low
low_bytes-build_low m place other len image_of apart =
    after_image (λ n. low_bytes n other ≡ low_bytes m other) m (with_low_bytes m place) (image_of (front_of (temp_bytes m) len)) refl (λ image. low_bytes-elsewhere m place other image apart)

-- So have the temporary bytes, and the low hunk is as long as it was.
pub temp_bytes-build_low : {F : Type 0} (m : Memory) (place len : ℕ) (image_of : List ℕ → Result (List ℕ) F) → temp_bytes (build_low m place len image_of).after ≡ temp_bytes m
unfolding build_low temp_bytes with_low_bytes
temp_bytes-build_low m place len image_of =
    after_image (λ n. temp_bytes_of n.high n.temp ≡ temp_bytes_of m.high m.temp) m (with_low_bytes m place) (image_of (front_of (temp_bytes m) len)) refl (λ image. refl)

pub low_used-build_low : {F : Type 0} (m : Memory) (place len : ℕ) (image_of : List ℕ → Result (List ℕ) F) → low_used (build_low m place len image_of).after ≡ low_used m
unfolding build_low with_low_bytes
low_used-build_low m place len image_of =
    after_image (λ n. low_used n ≡ low_used m) m (with_low_bytes m place) (image_of (front_of (temp_bytes m) len)) refl (λ image. size_of-with_bytes_above m.low place image)

-- A block has as many bytes as it had, whatever is allocated low or written; a new one has those that were asked.
high-low_alloc : (m : Memory) (size : ℕ) (name : List ℕ) → (low_alloc m size name).after.high ≡ m.high
unfolding low_alloc with_low
high-low_alloc m size name = high-with_event _ _ ∙ left-either (λ n. n.high) (ltb (room m) (hunk_need size)) _ _ m.high refl refl

temp-low_alloc : (m : Memory) (size : ℕ) (name : List ℕ) → (low_alloc m size name).after.temp ≡ m.temp
unfolding low_alloc with_low
temp-low_alloc m size name = temp-with_event _ _ ∙ left-either (λ n. n.temp) (ltb (room m) (hunk_need size)) _ _ m.temp refl refl

pub temp_bytes-low_alloc : (m : Memory) (size : ℕ) (name : List ℕ) → temp_bytes (low_alloc m size name).after ≡ temp_bytes m
unfolding temp_bytes
temp_bytes-low_alloc m size name = ap (λ high. temp_bytes_of high (low_alloc m size name).after.temp) (high-low_alloc m size name) ∙ ap (temp_bytes_of m.high) (temp-low_alloc m size name)

pub has-temp_new : (m : Memory) (size place n : ℕ) → (temp_alloc m size).answer ≡ Ok place → n ≤ size → HasBytes (temp_bytes (temp_alloc m size).after) n
has-temp_new m size place n h fits =
    has_bytes _ n (replicate (round_up size 16) 0) (temp_bytes-new m size place h) (omega (arith, fits, length-replicate {A = ℕ} (round_up size 16) 0))

pub has-temp_written : (m : Memory) (n : ℕ) (bytes : List ℕ) → HasBytes (temp_bytes m) n → HasBytes (temp_bytes (with_temp_bytes m bytes)) n
has-temp_written m n bytes h = has_written (temp_bytes m) refl h where
  has_written : (o : Option (List ℕ)) → temp_bytes m ≡ o → HasBytes o n → HasBytes (temp_bytes (with_temp_bytes m bytes)) n
  has_written None e g = absurd g
  has_written (Some old) e g = has_bytes _ n (over old bytes) (temp_bytes-over m old bytes e) (omega (arith, g, length-over old bytes))

pub has-low_new : (m : Memory) (size place n : ℕ) (name : List ℕ) → Laid m → (low_alloc m size name).answer ≡ Ok place → n ≤ size → HasBytes (low_bytes (low_alloc m size name).after place) n
has-low_new m size place n name laid h fits =
    has_bytes _ n (replicate (round_up size 16) 0) (low_bytes-new m size place name laid h) (omega (arith, fits, length-replicate {A = ℕ} (round_up size 16) 0))

pub has-low_alloc : (m : Memory) (size place n : ℕ) (name : List ℕ) → HasBytes (low_bytes m place) n → HasBytes (low_bytes (low_alloc m size name).after place) n
has-low_alloc m size place n name h = kept (low_bytes m place) refl h where
  kept : (o : Option (List ℕ)) → low_bytes m place ≡ o → HasBytes o n → HasBytes (low_bytes (low_alloc m size name).after place) n
  kept None e g = absurd g
  kept (Some bytes) e g = has_bytes _ n bytes (low_bytes-low_alloc m size name place bytes e) g

pub has-low_written : (m : Memory) (place other n : ℕ) (bytes : List ℕ) → HasBytes (low_bytes m other) n → HasBytes (low_bytes (with_low_bytes m place bytes) other) n
has-low_written m place other n bytes h =
    elim (eqb_tells other place) [
      | inl at ↦ has_over _ (low_bytes m other) n bytes (ap (low_bytes (with_low_bytes m place bytes)) at.1 ∙ low_bytes-over m place bytes ∙ ap (λ p. option_map (λ old. over old bytes) (low_bytes m p)) (sym at.1)) h
      | inr off ↦ rw (low_bytes-elsewhere m place other bytes off.1) h
    ]

pub has-build_low : {F : Type 0} (m : Memory) (place other len n : ℕ) (image_of : List ℕ → Result (List ℕ) F) → HasBytes (low_bytes m other) n → HasBytes (low_bytes (build_low m place len image_of).after other) n
unfolding build_low
has-build_low m place other len n image_of h =
    after_image (λ k. HasBytes (low_bytes k other) n) m (with_low_bytes m place) (image_of (front_of (temp_bytes m) len)) h (λ image. has-low_written m place other n image h)

-- A block that is there stays.
pub some-build_low : {F : Type 0} (m : Memory) (place other len : ℕ) (image_of : List ℕ → Result (List ℕ) F) → IsSome (low_bytes m other) → IsSome (low_bytes (build_low m place len image_of).after other)
some-build_low m place other len image_of h = some_has _ 0 (has-build_low m place other len 0 image_of (has_none (low_bytes m other) h)) where
  has_none : (o : Option (List ℕ)) → IsSome o → HasBytes o 0
  has_none None g = absurd (cc)
  has_none (Some bytes) g = omega arith

-- An image of a size that was told is there, and a block of so many bytes holds it.
pub image_there : {F : Type 0} (r : Result (List ℕ) F) (block : Option (List ℕ)) (size : ℕ) → image_size r ≡ Ok size → HasBytes block size → IsOkAnd r (λ image. HasBytes block (length image))
image_there (Ok image) block size e h = let same : size ≡ length image = cc in rw (← same) h
image_there (Err fault) block size e h = absurd (cc)

-- as many bytes as are asked are at the front
pub length-front_of : (block : Option (List ℕ)) (n : ℕ) → HasBytes block n → length (front_of block n) ≡ n
length-front_of None n h = absurd h
length-front_of (Some bytes) n h = length-take-le n bytes h

-- for callers: `#[tactic(auto, using(mem_model::proofs::Laws::store_laws))]`
pub ruleset store_laws = (low_place_apart, low_bytes-low_alloc, low_bytes-new, length-new, low_bytes-written, low_bytes-elsewhere, low_free-low_alloc, low-low_free, low_bytes-low_free, Laid-with_low_bytes, temp_bytes-new, length-temp, temp_bytes-written, Laid-with_temp_bytes, temp_bytes-small, has_bytes, temp_bytes-low_alloc, has-temp_new, has-temp_written, has-low_new, has-low_alloc, has-low_written, Laid-build_low, low_bytes-built, front-built, low_bytes-build_low, has-build_low, some-build_low, temp_bytes-build_low, low_used-build_low, image_there, length-front_of)
