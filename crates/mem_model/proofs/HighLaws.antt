-- Laws of the high blocks' bytes, and of what the calls leave of the bytes of other blocks: what callers of a store need.
use Rattle.std.proofs.Common.{◌≡◌, ◌≢◌, ℕ, zero, suc, ◌+◌, ◌-◌, ◌≤◌, List, [], ◌∷◌, ◌++◌, Option, Some, None, Result, Ok, Err, true, false, eqb, ltb, cond, length, take, refl, sym, ap, ◌∙◌, arith, replicate, inl, inr, is_ok, if◌then◌else◌, eq-eqb, length-append}
use Rattle.std.specs.Prelude.{IsSome, codes}
use Rattle.std.specs.Option.{option_map}
use Rattle.std.specs.List.{AllByRecursion}
use Rattle.std.proofs.lemmas.List.{length-replicate, take_at}
use Rattle.std.proofs.lemmas.Bool.{cond_both, ltb-false, ne_eqb}
use Rattle.std.proofs.lemmas.Bool.Decides.{eqb_tells}
use Rattle.mem_model.specs.Answer.{Answered, with_event}
use Rattle.mem_model.specs.Blocks.{HunkBlock}
use Rattle.mem_model.specs.Event.{Event, Shortage}
use Rattle.mem_model.specs.Memory.{Memory, room, size_of, high_start, high_used}
use Rattle.mem_model.specs.Places.{hunk_need, round_up}
use Rattle.mem_model.specs.Hunk.{hunk_block, with_bytes, over, bytes_down, with_bytes_down, cut_from, high_bytes, with_high_bytes, lasting_bytes, without_temp, temp_freed, temp_bytes, temp_bytes_of, last_bytes, with_last_bytes, with_temp_bytes, with_temp_bytes_of, with_high, low_bytes, with_low_bytes}
use Rattle.mem_model.specs.Zone.{zone_bytes, with_zone_bytes}
use Rattle.mem_model.specs.Laid.{Laid, IsHunkBlock}
use Rattle.mem_model.specs.Keeps.{beside_low, beside_zone, beside_cache}
use Rattle.mem_model.specs.Operations.{low_alloc, low_free, high_taken, high_alloc, high_mark, high_free, high_cut, temp_alloc, z_alloc, z_free, cache_alloc, check, cache_free, flush, build_low, shortage}
use Rattle.mem_model.proofs.Calling.{high-high_taken}
use Rattle.mem_model.proofs.CacheLaws.{Laid-without_temp, beside-low_alloc, beside-low_free, beside-build_low, beside-without_temp, beside-high_alloc, beside-high_mark, beside-high_free, beside-temp_alloc, beside-z_alloc, beside-z_free, beside-cache_alloc, beside-check, beside-cache_free, beside-flush, low_bytes-beside_high, low_bytes-beside_cache, temp_bytes-beside_low, temp_bytes-beside_cache, zone_bytes-beside_cache}
use Rattle.mem_model.proofs.EndSearch.{payload_most}
use Rattle.mem_model.proofs.HighBytes.{Laid-with_high_bytes, length-with_bytes_down, take-with_bytes_down}
use Rattle.mem_model.proofs.HighLaying.{temp-without_temp, without_temp_none}
use Rattle.mem_model.proofs.Laying.{over_same}
use Rattle.mem_model.proofs.Untouched.{left-with_event, left-either}

-- The bytes at a place: of more blocks, of fewer, and after a write.
append_down : (end : ℕ) (blocks others : List HunkBlock) (place : ℕ) (bytes : List ℕ) → bytes_down end blocks place ≡ Some bytes → bytes_down end (blocks ++ others) place ≡ Some bytes
append_down end [] others place bytes h = absurd (cc)
append_down end (b ∷ bs) others place bytes h =
    elim (eqb ((end - b.size) + 16) place) as (λ t. cond t (Some b.bytes) (bytes_down (end - b.size) bs place) ≡ Some bytes → cond t (Some b.bytes) (bytes_down (end - b.size) (bs ++ others) place) ≡ Some bytes) [
      | true ↦ λ e. e
      | false ↦ λ e. append_down (end - b.size) bs others place bytes e
    ] h

take_down : (n end : ℕ) (blocks : List HunkBlock) (place : ℕ) (bytes : List ℕ) → bytes_down end (take n blocks) place ≡ Some bytes → bytes_down end blocks place ≡ Some bytes
take_down zero end blocks place bytes h = absurd (cc)
take_down (suc n) end [] place bytes h = absurd (cc)
take_down (suc n) end (b ∷ bs) place bytes h =
    elim (eqb ((end - b.size) + 16) place) as (λ t. cond t (Some b.bytes) (bytes_down (end - b.size) (take n bs) place) ≡ Some bytes → cond t (Some b.bytes) (bytes_down (end - b.size) bs place) ≡ Some bytes) [
      | true ↦ λ e. e
      | false ↦ λ e. take_down n (end - b.size) bs place bytes e
    ] h

over_down : (end : ℕ) (blocks : List HunkBlock) (place : ℕ) (bytes : List ℕ) → bytes_down end (with_bytes_down end blocks place bytes) place ≡ option_map (λ old. over old bytes) (bytes_down end blocks place)
over_down end [] place bytes = refl
over_down end (b ∷ bs) place bytes =
    elim (eqb_tells ((end - b.size) + 16) place) [
      | inl at ↦ rw (at.0, at.0) refl
      | inr off ↦ rw (off.0, off.0) (over_down (end - b.size) bs place bytes)
    ]

elsewhere_down : (end : ℕ) (blocks : List HunkBlock) (place other : ℕ) (bytes : List ℕ) → other ≢ place → bytes_down end (with_bytes_down end blocks place bytes) other ≡ bytes_down end blocks other
elsewhere_down end [] place other bytes h = refl
elsewhere_down end (b ∷ bs) place other bytes h =
    elim (eqb_tells ((end - b.size) + 16) place) [
      | inl at ↦ rw (at.0, ne_eqb ((end - b.size) + 16) other (λ e. h (sym e ∙ at.1))) refl
      | inr off ↦ rw off.0 (ap (cond (eqb ((end - b.size) + 16) other) (Some b.bytes)) (elsewhere_down (end - b.size) bs place other bytes h))
    ]

-- the newest block is at the place of the lowest header
new_down : (end : ℕ) (blocks : List HunkBlock) (b : HunkBlock) (place : ℕ) → 16 ≤ b.size → size_of blocks + b.size ≤ end → place + (size_of blocks + b.size) ≡ end + 16 → bytes_down end (blocks ++ b ∷ []) place ≡ Some b.bytes
new_down end [] b place header fits e = rw (eq-eqb ((end - b.size) + 16) place (omega (arith, e, fits))) refl
new_down end (c ∷ cs) b place header fits e =
    rw (ne_eqb ((end - c.size) + 16) place (λ same. absurd (omega (arith, same, e, fits, header))))
    (new_down (end - c.size) cs b place header (omega (arith, fits)) (omega (arith, e, fits)))

-- a mark keeps the blocks that lie above it
mapped_some : {X Y : Type 0} (f : X → Y) (o : Option X) (y : Y) → option_map f o ≡ Some y → (x : X) × (o ≡ Some x) × (y ≡ f x)
mapped_some f None y h = absurd (cc)
mapped_some f (Some x) y h = (x, refl, cc)

is_some_of : (o : Option (List ℕ)) (bytes : List ℕ) → o ≡ Some bytes → IsSome o
is_some_of o bytes h = rw h refl

below_first : (end : ℕ) (b : HunkBlock) (bs : List HunkBlock) (place : ℕ) (bytes : List ℕ) → bytes_down end (b ∷ bs) place ≡ Some bytes → place ≤ (end - b.size) + 16
below_first end b bs place bytes h = elim (eqb_tells ((end - b.size) + 16) place) [
  | inl at ↦ omega (arith, at.1)
  | inr off ↦ let there : bytes_down (end - b.size) bs place ≡ Some bytes = rw off.0 at h in payload_most (end - b.size) bs place (is_some_of _ bytes there)
]

kept_down : (end start : ℕ) (blocks kept : List HunkBlock) (mark place : ℕ) (bytes : List ℕ) → AllByRecursion IsHunkBlock blocks → size_of blocks ≤ end → bytes_down end blocks place ≡ Some bytes → (end + start) + 16 ≤ place + mark → cut_from start blocks mark ≡ Some kept →
    bytes_down end kept place ≡ Some bytes
kept_down end start [] kept mark place bytes laid fits h above cut = absurd (cc)
kept_down end start (b ∷ bs) kept mark place bytes laid fits h above cut =
    let rest : option_map (λ xs. b ∷ xs) (cut_from (start + b.size) bs mark) ≡ Some kept = rw (ne_eqb start mark (λ e. absurd (omega (arith, below_first end b bs place bytes h, laid.0.header, fits, above, e)))) at cut in
    let some = mapped_some (λ xs. b ∷ xs) (cut_from (start + b.size) bs mark) kept rest in
    rw some.2 (elim (eqb_tells ((end - b.size) + 16) place) [
      | inl at ↦ rw at.0 (rw at.0 at h)
      | inr off ↦ rw off.0 (kept_down (end - b.size) (start + b.size) bs some.0 mark place bytes laid.1 (omega (arith, fits)) (rw off.0 at h) (omega (arith, fits, above)) some.1)
    ])

-- What is written into a high block is there, and each other has the bytes that it had.
high_bytes-over : (m : Memory) (place : ℕ) (bytes : List ℕ) → high_bytes (with_high_bytes m place bytes) place ≡ option_map (λ old. over old bytes) (high_bytes m place)
unfolding high_bytes with_high_bytes
high_bytes-over m place bytes = over_down m.size m.high place bytes

pub high_bytes-written : (m : Memory) (place : ℕ) (old bytes : List ℕ) → high_bytes m place ≡ Some old → length bytes ≡ length old → high_bytes (with_high_bytes m place bytes) place ≡ Some bytes
high_bytes-written m place old bytes h same = high_bytes-over m place bytes ∙ ap (option_map (λ had. over had bytes)) h ∙ ap Some (over_same old bytes same)

pub high_bytes-elsewhere : (m : Memory) (place other : ℕ) (bytes : List ℕ) → other ≢ place → high_bytes (with_high_bytes m place bytes) other ≡ high_bytes m other
unfolding high_bytes with_high_bytes
high_bytes-elsewhere m place other bytes apart = elsewhere_down m.size m.high place other bytes apart

-- the temporary block leaves behind a write as it leaves before it
written_freed : (m : Memory) (place : ℕ) (bytes : List ℕ) (temp : Option ℕ) → temp_freed (with_high_bytes m place bytes) temp ≡ with_high_bytes (temp_freed m temp) place bytes
unfolding with_high_bytes
written_freed m place bytes None = refl
written_freed m place bytes (Some mark) =
    ap (λ n. record m { high = take (n - 1) (with_bytes_down m.size m.high place bytes); temp = None }) (length-with_bytes_down m.size m.high place bytes)
    ∙ ap (λ (high : List HunkBlock). record m { high = high; temp = None }) (take-with_bytes_down (length m.high - 1) m.size m.high place bytes)

temp-with_high_bytes : (m : Memory) (place : ℕ) (bytes : List ℕ) → (with_high_bytes m place bytes).temp ≡ m.temp
unfolding with_high_bytes
temp-with_high_bytes m place bytes = refl

without_temp-written : (m : Memory) (place : ℕ) (bytes : List ℕ) → without_temp (with_high_bytes m place bytes) ≡ with_high_bytes (without_temp m) place bytes
unfolding without_temp
without_temp-written m place bytes = ap (temp_freed (with_high_bytes m place bytes)) (temp-with_high_bytes m place bytes) ∙ written_freed m place bytes m.temp

-- So it is of the blocks that last.
pub lasting_bytes-written : (m : Memory) (place : ℕ) (old bytes : List ℕ) → lasting_bytes m place ≡ Some old → length bytes ≡ length old → lasting_bytes (with_high_bytes m place bytes) place ≡ Some bytes
unfolding lasting_bytes
lasting_bytes-written m place old bytes h same = ap (λ n. high_bytes n place) (without_temp-written m place bytes) ∙ high_bytes-written (without_temp m) place old bytes h same

pub lasting_bytes-elsewhere : (m : Memory) (place other : ℕ) (bytes : List ℕ) → other ≢ place → lasting_bytes (with_high_bytes m place bytes) other ≡ lasting_bytes m other
unfolding lasting_bytes
lasting_bytes-elsewhere m place other bytes apart = ap (λ n. high_bytes n other) (without_temp-written m place bytes) ∙ high_bytes-elsewhere (without_temp m) place other bytes apart

-- A block that lasts is a high one, and where no temporary block is active each high one lasts.
freed_is_high : (m : Memory) (temp : Option ℕ) (place : ℕ) (bytes : List ℕ) → high_bytes (temp_freed m temp) place ≡ Some bytes → high_bytes m place ≡ Some bytes
unfolding high_bytes
freed_is_high m None place bytes h = h
freed_is_high m (Some mark) place bytes h = take_down (length m.high - 1) m.size m.high place bytes h

pub high_bytes-lasting : (m : Memory) (place : ℕ) (bytes : List ℕ) → lasting_bytes m place ≡ Some bytes → high_bytes m place ≡ Some bytes
unfolding lasting_bytes without_temp
high_bytes-lasting m place bytes h = freed_is_high m m.temp place bytes h

pub some-lasting : (m : Memory) (place : ℕ) → IsSome (lasting_bytes m place) → IsSome (high_bytes m place)
some-lasting m place h = of_lasting (lasting_bytes m place) refl h where
  of_lasting : (o : Option (List ℕ)) → lasting_bytes m place ≡ o → IsSome o → IsSome (high_bytes m place)
  of_lasting None e g = absurd (cc)
  of_lasting (Some bytes) e g = is_some_of (high_bytes m place) bytes (high_bytes-lasting m place bytes e)

pub lasting_bytes-no_temp : (m : Memory) (place : ℕ) → m.temp ≡ None → lasting_bytes m place ≡ high_bytes m place
unfolding lasting_bytes
lasting_bytes-no_temp m place none = ap (λ n. high_bytes n place) (without_temp_none m none)

-- the bytes are a matter of the size and the high list
same_high : (m n : Memory) (place : ℕ) → n.size ≡ m.size → n.high ≡ m.high → high_bytes n place ≡ high_bytes m place
unfolding high_bytes
same_high m n place size high = ap (λ (s : ℕ). bytes_down s n.high place) size ∙ ap (λ (bs : List HunkBlock). bytes_down m.size bs place) high

-- What a high allocation leaves: the list with or without a new block, and no temporary one.
taken_at : (m : Memory) (size place : ℕ) (name : List ℕ) → (high_taken m size name).answer ≡ Ok place → (place ≡ (high_start m - hunk_need size) + 16) × (hunk_need size ≤ room m)
unfolding high_taken
taken_at m size place name =
    cond_both (ltb (room m) (hunk_need size)) (record { answer = Err (shortage m (hunk_need size)); after = m }) (record { answer = Ok ((high_start m - hunk_need size) + 16); after = with_high m (hunk_block (hunk_need size) name) })
    (λ (given : Answered (Result ℕ Shortage)). given.answer ≡ Ok place → (place ≡ (high_start m - hunk_need size) + 16) × (hunk_need size ≤ room m))
    (λ short h. absurd (cc))
    (λ fits h. (cc, ltb-false (room m) (hunk_need size) fits))

size-high_alloc : (m : Memory) (size : ℕ) (name : List ℕ) → (high_alloc m size name).after.size ≡ m.size
size-high_alloc m size name = ap (λ (n : Memory). n.size) (beside-high_alloc m size name)

size-without_temp : (m : Memory) → (without_temp m).size ≡ m.size
size-without_temp m = ap (λ (n : Memory). n.size) (beside-without_temp m)

temp-high_taken : (m : Memory) (size : ℕ) (name : List ℕ) → (high_taken m size name).after.temp ≡ m.temp
unfolding high_taken with_high
temp-high_taken m size name = left-either (λ n. n.temp) (ltb (room m) (hunk_need size)) _ _ m.temp refl refl

pub temp-high_alloc : (m : Memory) (size : ℕ) (name : List ℕ) → (high_alloc m size name).after.temp ≡ None
unfolding high_alloc
temp-high_alloc m size name = left-with_event (λ n. n.temp) (λ n events. refl) _ _ ∙ temp-high_taken (without_temp m) size name ∙ temp-without_temp m

high-high_alloc : (m : Memory) (size : ℕ) (name : List ℕ) → (high_alloc m size name).after.high ≡ (high_taken (without_temp m) size name).after.high
unfolding high_alloc
high-high_alloc m size name = left-with_event (λ n. n.high) (λ n events. refl) _ _

answer-high_alloc : (m : Memory) (size : ℕ) (name : List ℕ) → (high_alloc m size name).answer ≡ (high_taken (without_temp m) size name).answer
unfolding high_alloc
answer-high_alloc m size name = refl

new_taken : (m : Memory) (size place : ℕ) (name : List ℕ) → size_of m.high ≤ m.size → (high_taken m size name).answer ≡ Ok place → bytes_down m.size (high_taken m size name).after.high place ≡ Some (replicate (round_up size 16) 0)
new_taken m size place name inside h =
    let at = taken_at m size place name h in
    ap (λ (bs : List HunkBlock). bytes_down m.size bs place) (high-high_taken m size place name h)
    ∙ new_down m.size m.high (hunk_block (hunk_need size) name) place (omega arith) (omega (arith, at.1, inside)) (omega (arith, at.0, at.1, inside))
    ∙ ap (λ n. Some (replicate n 0)) (let same : hunk_need size - 16 ≡ round_up size 16 = omega arith in same)

-- A new high block has zero bytes, as many as were asked, rounded up, and lasts.
pub high_bytes-new : (m : Memory) (size place : ℕ) (name : List ℕ) → Laid m → (high_alloc m size name).answer ≡ Ok place → high_bytes (high_alloc m size name).after place ≡ Some (replicate (round_up size 16) 0)
unfolding high_bytes
high_bytes-new m size place name laid h =
    let base = Laid-without_temp m laid in
    ap (λ (s : ℕ). bytes_down s (high_alloc m size name).after.high place) (size-high_alloc m size name ∙ sym (size-without_temp m))
    ∙ ap (λ (bs : List HunkBlock). bytes_down (without_temp m).size bs place) (high-high_alloc m size name)
    ∙ new_taken (without_temp m) size place name (omega (arith, base.inside)) (sym (answer-high_alloc m size name) ∙ h)

pub lasting_bytes-new : (m : Memory) (size place : ℕ) (name : List ℕ) → Laid m → (high_alloc m size name).answer ≡ Ok place → lasting_bytes (high_alloc m size name).after place ≡ Some (replicate (round_up size 16) 0)
lasting_bytes-new m size place name laid h = lasting_bytes-no_temp _ place (temp-high_alloc m size name) ∙ high_bytes-new m size place name laid h

pub length-high_new : (m : Memory) (size place : ℕ) (name bytes : List ℕ) → Laid m → (high_alloc m size name).answer ≡ Ok place → high_bytes (high_alloc m size name).after place ≡ Some bytes → length bytes ≡ round_up size 16
length-high_new m size place name bytes laid h there =
    let new : Some (replicate (round_up size 16) 0) ≡ Some bytes = sym (high_bytes-new m size place name laid h) ∙ there in
    let same : replicate (round_up size 16) 0 ≡ bytes = cc in
    sym (ap length same) ∙ length-replicate (round_up size 16) 0

-- A block that lasts is left by the high calls: by each that frees the temporary block, and by a freeing to a mark above whose
-- place, from the arena's end down, it lies.
lasting_same : (m n : Memory) (place : ℕ) → n.size ≡ m.size → n.high ≡ (without_temp m).high → n.temp ≡ None → lasting_bytes n place ≡ lasting_bytes m place
unfolding lasting_bytes
lasting_same m n place size high none = ap (λ k. high_bytes k place) (without_temp_none n none) ∙ same_high (without_temp m) n place (size ∙ sym (size-without_temp m)) high

pub lasting_bytes-without_temp : (m : Memory) (place : ℕ) → lasting_bytes (without_temp m) place ≡ lasting_bytes m place
lasting_bytes-without_temp m place = lasting_same m (without_temp m) place (size-without_temp m) refl (temp-without_temp m)

pub lasting_bytes-high_mark : (m : Memory) (place : ℕ) → lasting_bytes (high_mark m).after place ≡ lasting_bytes m place
unfolding high_mark
lasting_bytes-high_mark m place =
    lasting_same m (high_mark m).after place (ap (λ (n : Memory). n.size) (beside-high_mark m)) (left-with_event (λ n. n.high) (λ n events. refl) _ _) (left-with_event (λ n. n.temp) (λ n events. refl) _ _ ∙ temp-without_temp m)

taken_or_not : (m : Memory) (size : ℕ) (name : List ℕ) (end place : ℕ) (bytes : List ℕ) → bytes_down end m.high place ≡ Some bytes → bytes_down end (high_taken m size name).after.high place ≡ Some bytes
unfolding high_taken with_high
taken_or_not m size name end place bytes h =
    cond_both (ltb (room m) (hunk_need size)) (record { answer = Err (shortage m (hunk_need size)); after = m }) (record { answer = Ok ((high_start m - hunk_need size) + 16); after = with_high m (hunk_block (hunk_need size) name) })
    (λ (given : Answered (Result ℕ Shortage)). bytes_down end given.after.high place ≡ Some bytes)
    (λ short. h)
    (λ fits. append_down end m.high (hunk_block (hunk_need size) name ∷ []) place bytes h)

high_is_down : (m : Memory) (place : ℕ) (bytes : List ℕ) → lasting_bytes m place ≡ Some bytes → bytes_down (without_temp m).size (without_temp m).high place ≡ Some bytes
unfolding lasting_bytes high_bytes
high_is_down m place bytes h = h

down_is_high : (n : Memory) (end place : ℕ) (bytes : List ℕ) → n.size ≡ end → bytes_down end n.high place ≡ Some bytes → high_bytes n place ≡ Some bytes
unfolding high_bytes
down_is_high n end place bytes size h = ap (λ (s : ℕ). bytes_down s n.high place) size ∙ h

pub lasting_bytes-high_alloc : (m : Memory) (size place : ℕ) (name bytes : List ℕ) → lasting_bytes m place ≡ Some bytes → lasting_bytes (high_alloc m size name).after place ≡ Some bytes
lasting_bytes-high_alloc m size place name bytes h =
    lasting_bytes-no_temp _ place (temp-high_alloc m size name)
    ∙ down_is_high _ (without_temp m).size place bytes (size-high_alloc m size name ∙ sym (size-without_temp m))
    (ap (λ (bs : List HunkBlock). bytes_down (without_temp m).size bs place) (high-high_alloc m size name) ∙ taken_or_not (without_temp m) size name (without_temp m).size place bytes (high_is_down m place bytes h))

cut_or_not : (m : Memory) (mark place : ℕ) (bytes : List ℕ) (o : Option (List HunkBlock)) → AllByRecursion IsHunkBlock m.high → size_of m.high ≤ m.size → bytes_down m.size m.high place ≡ Some bytes → m.size + 16 ≤ place + mark → cut_from 0 m.high mark ≡ o →
    bytes_down m.size (high_cut m mark o).after.high place ≡ Some bytes
cut_or_not m mark place bytes None laid fits h above cut = h
cut_or_not m mark place bytes (Some kept) laid fits h above cut = kept_down m.size 0 m.high kept mark place bytes laid fits h (omega (arith, above)) cut

temp-high_cut : (m : Memory) (mark : ℕ) (o : Option (List HunkBlock)) → (high_cut m mark o).after.temp ≡ m.temp
temp-high_cut m mark None = refl
temp-high_cut m mark (Some kept) = refl

temp-high_free : (m : Memory) (mark : ℕ) → (high_free m mark).after.temp ≡ None
unfolding high_free
temp-high_free m mark = left-with_event (λ n. n.temp) (λ n events. refl) _ _ ∙ temp-high_cut (without_temp m) mark (cut_from 0 (without_temp m).high mark) ∙ temp-without_temp m

high-high_free : (m : Memory) (mark : ℕ) → (high_free m mark).after.high ≡ (high_cut (without_temp m) mark (cut_from 0 (without_temp m).high mark)).after.high
unfolding high_free
high-high_free m mark = left-with_event (λ n. n.high) (λ n events. refl) _ _

pub lasting_bytes-high_free : (m : Memory) (mark place : ℕ) (bytes : List ℕ) → Laid m → lasting_bytes m place ≡ Some bytes → m.size + 16 ≤ place + mark → lasting_bytes (high_free m mark).after place ≡ Some bytes
lasting_bytes-high_free m mark place bytes laid h above =
    let base = Laid-without_temp m laid in
    lasting_bytes-no_temp _ place (temp-high_free m mark)
    ∙ down_is_high _ (without_temp m).size place bytes (ap (λ (n : Memory). n.size) (beside-high_free m mark) ∙ sym (size-without_temp m))
    (ap (λ (bs : List HunkBlock). bytes_down (without_temp m).size bs place) (high-high_free m mark)
    ∙ cut_or_not (without_temp m) mark place bytes (cut_from 0 (without_temp m).high mark) base.high (omega (arith, base.inside)) (high_is_down m place bytes h) (omega (arith, above, size-without_temp m)) refl)

-- The temporary block comes and goes, and is written, and what lasts stays.
marked_freed : (m : Memory) (b : HunkBlock) (mark : ℕ) → without_temp (record (with_high m b) { temp = Some mark }) ≡ record (with_high m b) { high = m.high; temp = None }
unfolding without_temp with_high
marked_freed m b mark = ap (λ (high : List HunkBlock). record (with_high m b) { high = high; temp = None }) (take_at m.high (b ∷ []) (length (m.high ++ b ∷ []) - 1) (omega (arith, length-append m.high (b ∷ []))))

left_high : (m : Memory) (b : HunkBlock) (place : ℕ) → high_bytes (record (with_high m b) { high = m.high; temp = None }) place ≡ high_bytes m place
unfolding with_high high_bytes
left_high m b place = refl

marked_taken : (m : Memory) (size : ℕ) (name : List ℕ) (place : ℕ) → m.temp ≡ None →
    high_bytes (without_temp (record (high_taken m size name).after { temp = if is_ok (high_taken m size name).answer then Some (high_used m) else None })) place ≡ high_bytes m place
unfolding high_taken high_bytes
marked_taken m size name place none =
    cond_both (ltb (room m) (hunk_need size)) (record { answer = Err (shortage m (hunk_need size)); after = m }) (record { answer = Ok ((high_start m - hunk_need size) + 16); after = with_high m (hunk_block (hunk_need size) name) })
    (λ (given : Answered (Result ℕ Shortage)). high_bytes (without_temp (record given.after { temp = if is_ok given.answer then Some (high_used m) else None })) place ≡ high_bytes m place)
    (λ short. ap (λ (n : Memory). high_bytes n place) (without_temp_none (record m { temp = None }) refl))
    (λ fits. ap (λ (n : Memory). high_bytes n place) (marked_freed m (hunk_block (hunk_need size) name) (high_used m)) ∙ left_high m (hunk_block (hunk_need size) name) place)

event_freed : (m : Memory) (event : Event) (place : ℕ) → high_bytes (without_temp (with_event m event)) place ≡ high_bytes (without_temp m) place
unfolding high_bytes without_temp
event_freed m event place = left-with_event (λ n. high_bytes (without_temp n) place) (λ n events. by_temp n events n.temp) m event
  where
    by_temp : (n : Memory) (events : List Event) (temp : Option ℕ) → high_bytes (temp_freed (record n { events = events }) temp) place ≡ high_bytes (temp_freed n temp) place
    by_temp n events None = refl
    by_temp n events (Some mark) = refl

pub lasting_bytes-temp_alloc : (m : Memory) (size place : ℕ) → lasting_bytes (temp_alloc m size).after place ≡ lasting_bytes m place
unfolding lasting_bytes temp_alloc
lasting_bytes-temp_alloc m size place = event_freed _ _ place ∙ marked_taken (without_temp m) (round_up size 16) (codes "temp") place (temp-without_temp m)

length-with_last : (blocks : List HunkBlock) (bytes : List ℕ) → length (with_last_bytes blocks bytes) ≡ length blocks
length-with_last [] bytes = refl
length-with_last (b ∷ []) bytes = refl
length-with_last (b ∷ c ∷ bs) bytes = ap suc (length-with_last (c ∷ bs) bytes)

older_left : (b : HunkBlock) (bs : List HunkBlock) (bytes : List ℕ) → take (length bs) (with_last_bytes (b ∷ bs) bytes) ≡ take (length bs) (b ∷ bs)
older_left b [] bytes = refl
older_left b (c ∷ cs) bytes = ap (λ xs. b ∷ xs) (older_left c cs bytes)

all_but_last : (blocks : List HunkBlock) (bytes : List ℕ) → take (length (with_last_bytes blocks bytes) - 1) (with_last_bytes blocks bytes) ≡ take (length blocks - 1) blocks
all_but_last [] bytes = refl
all_but_last (b ∷ bs) bytes =
    let before : length (b ∷ bs) - 1 ≡ length bs = omega arith in
    ap (λ n. take (n - 1) (with_last_bytes (b ∷ bs) bytes)) (length-with_last (b ∷ bs) bytes) ∙ rw before (older_left b bs bytes)

temp_written : (m : Memory) (bytes : List ℕ) (temp : Option ℕ) → m.temp ≡ temp → without_temp (with_temp_bytes_of m bytes temp) ≡ without_temp m
unfolding without_temp
temp_written m bytes None e = refl
temp_written m bytes (Some mark) e =
    ap (temp_freed (record m { high = with_last_bytes m.high bytes })) e ∙ ap (λ (high : List HunkBlock). record m { high = high; temp = None }) (all_but_last m.high bytes) ∙ sym (ap (temp_freed m) e)

pub lasting_bytes-with_temp_bytes : (m : Memory) (place : ℕ) (bytes : List ℕ) → lasting_bytes (with_temp_bytes m bytes) place ≡ lasting_bytes m place
unfolding lasting_bytes with_temp_bytes
lasting_bytes-with_temp_bytes m place bytes = ap (λ n. high_bytes n place) (temp_written m bytes m.temp refl)

-- The low calls, the zone's and the cache's leave the high bytes, those of the temporary block included.
same_freed : (m n : Memory) (temp : Option ℕ) (place : ℕ) → n.size ≡ m.size → n.high ≡ m.high → high_bytes (temp_freed n temp) place ≡ high_bytes (temp_freed m temp) place
unfolding high_bytes
same_freed m n None place size high = rw (size, high) refl
same_freed m n (Some mark) place size high = rw (size, high) refl

same_lasting : (m n : Memory) (place : ℕ) → n.size ≡ m.size → n.high ≡ m.high → n.temp ≡ m.temp → lasting_bytes n place ≡ lasting_bytes m place
unfolding lasting_bytes without_temp
same_lasting m n place size high temp = ap (λ t. high_bytes (temp_freed n t) place) temp ∙ same_freed m n m.temp place size high

pub lasting_bytes-beside_low : (m n : Memory) (place : ℕ) → beside_low n ≡ beside_low m → lasting_bytes n place ≡ lasting_bytes m place
lasting_bytes-beside_low m n place h = same_lasting m n place (ap (λ (x : Memory). x.size) h) (ap (λ (x : Memory). x.high) h) (ap (λ (x : Memory). x.temp) h)

pub lasting_bytes-beside_zone : (m n : Memory) (place : ℕ) → beside_zone n ≡ beside_zone m → lasting_bytes n place ≡ lasting_bytes m place
lasting_bytes-beside_zone m n place h = same_lasting m n place (ap (λ (x : Memory). x.size) h) (ap (λ (x : Memory). x.high) h) (ap (λ (x : Memory). x.temp) h)

pub lasting_bytes-beside_cache : (m n : Memory) (place : ℕ) → beside_cache n ≡ beside_cache m → lasting_bytes n place ≡ lasting_bytes m place
lasting_bytes-beside_cache m n place h = same_lasting m n place (ap (λ (x : Memory). x.size) h) (ap (λ (x : Memory). x.high) h) (ap (λ (x : Memory). x.temp) h)

pub lasting_bytes-low_alloc : (m : Memory) (size place : ℕ) (name : List ℕ) → lasting_bytes (low_alloc m size name).after place ≡ lasting_bytes m place
lasting_bytes-low_alloc m size place name = lasting_bytes-beside_low m _ place (beside-low_alloc m size name)

pub lasting_bytes-low_free : (m : Memory) (mark place : ℕ) → lasting_bytes (low_free m mark).after place ≡ lasting_bytes m place
lasting_bytes-low_free m mark place = lasting_bytes-beside_low m _ place (beside-low_free m mark)

pub lasting_bytes-with_low_bytes : (m : Memory) (other place : ℕ) (bytes : List ℕ) → lasting_bytes (with_low_bytes m other bytes) place ≡ lasting_bytes m place
unfolding with_low_bytes
lasting_bytes-with_low_bytes m other place bytes = same_lasting m (with_low_bytes m other bytes) place refl refl refl

pub lasting_bytes-build_low : {F : Type 0} (m : Memory) (other len place : ℕ) (image_of : List ℕ → Result (List ℕ) F) → lasting_bytes (build_low m other len image_of).after place ≡ lasting_bytes m place
lasting_bytes-build_low m other len place image_of = lasting_bytes-beside_low m _ place (beside-build_low m other len image_of)

pub lasting_bytes-z_alloc : (m : Memory) (size place : ℕ) → lasting_bytes (z_alloc m size).after place ≡ lasting_bytes m place
lasting_bytes-z_alloc m size place = lasting_bytes-beside_zone m _ place (beside-z_alloc m size)

pub lasting_bytes-z_free : (m : Memory) (other place : ℕ) → lasting_bytes (z_free m other).after place ≡ lasting_bytes m place
lasting_bytes-z_free m other place = lasting_bytes-beside_zone m _ place (beside-z_free m other)

pub lasting_bytes-with_zone_bytes : (m : Memory) (other place : ℕ) (bytes : List ℕ) → lasting_bytes (with_zone_bytes m other bytes) place ≡ lasting_bytes m place
unfolding with_zone_bytes
lasting_bytes-with_zone_bytes m other place bytes = same_lasting m (with_zone_bytes m other bytes) place refl refl refl

pub lasting_bytes-cache_alloc : (m : Memory) (user size place : ℕ) (name : List ℕ) → lasting_bytes (cache_alloc m user size name).after place ≡ lasting_bytes m place
lasting_bytes-cache_alloc m user size place name = lasting_bytes-beside_cache m _ place (beside-cache_alloc m user size name)

pub lasting_bytes-check : (m : Memory) (user place : ℕ) → lasting_bytes (check m user).after place ≡ lasting_bytes m place
lasting_bytes-check m user place = lasting_bytes-beside_cache m _ place (beside-check m user)

pub lasting_bytes-cache_free : (m : Memory) (user place : ℕ) → lasting_bytes (cache_free m user).after place ≡ lasting_bytes m place
lasting_bytes-cache_free m user place = lasting_bytes-beside_cache m _ place (beside-cache_free m user)

pub lasting_bytes-flush : (m : Memory) (place : ℕ) → lasting_bytes (flush m).after place ≡ lasting_bytes m place
lasting_bytes-flush m place = lasting_bytes-beside_cache m _ place (beside-flush m)

-- The high blocks' bytes lie in the high hunk, and a new block's place is that of none that lasts.
above_down : (end : ℕ) (blocks : List HunkBlock) (place : ℕ) (bytes : List ℕ) → size_of blocks ≤ end → bytes_down end blocks place ≡ Some bytes → (end - size_of blocks) + 16 ≤ place
above_down end [] place bytes fits h = absurd (cc)
above_down end (b ∷ bs) place bytes fits h = elim (eqb_tells ((end - b.size) + 16) place) [
  | inl at ↦ omega (arith, at.1)
  | inr off ↦ let there : bytes_down (end - b.size) bs place ≡ Some bytes = rw off.0 at h in omega (arith, fits, above_down (end - b.size) bs place bytes (omega (arith, fits)) there)
]

inside_down : (end : ℕ) (blocks : List HunkBlock) (place : ℕ) (bytes : List ℕ) → AllByRecursion IsHunkBlock blocks → size_of blocks ≤ end → bytes_down end blocks place ≡ Some bytes → place + length bytes ≤ end
inside_down end [] place bytes laid fits h = absurd (cc)
inside_down end (b ∷ bs) place bytes laid fits h = elim (eqb_tells ((end - b.size) + 16) place) [
  | inl at ↦ let here : Some b.bytes ≡ Some bytes = rw at.0 at h in let same : b.bytes ≡ bytes = cc in omega (arith, fits, laid.0.header, laid.0.bytes, ap length same, at.1)
  | inr off ↦ let there : bytes_down (end - b.size) bs place ≡ Some bytes = rw off.0 at h in omega (arith, inside_down (end - b.size) bs place bytes laid.1 (omega (arith, fits)) there)
]

pub high_bytes-inside : (m : Memory) (place : ℕ) (bytes : List ℕ) → Laid m → high_bytes m place ≡ Some bytes → (high_start m + 16 ≤ place) × (place + length bytes ≤ m.size)
unfolding high_bytes
high_bytes-inside m place bytes laid h =
    let fits : size_of m.high ≤ m.size = omega (arith, laid.inside) in
    (above_down m.size m.high place bytes fits h, inside_down m.size m.high place bytes laid.high fits h)

pub high_place_apart : (m : Memory) (size place other : ℕ) (name bytes : List ℕ) → Laid m → (high_alloc m size name).answer ≡ Ok place → lasting_bytes m other ≡ Some bytes → other ≢ place
high_place_apart m size place other name bytes laid h there same =
    let base = Laid-without_temp m laid in
    let fits : size_of (without_temp m).high ≤ (without_temp m).size = omega (arith, base.inside) in
    let at = taken_at (without_temp m) size place name (sym (answer-high_alloc m size name) ∙ h) in
    omega (arith, at.0, at.1, above_down (without_temp m).size (without_temp m).high other bytes fits (high_is_down m other bytes there))

-- A new temporary block is the high block of its place.
high-temp_alloc : (m : Memory) (size : ℕ) → (temp_alloc m size).after.high ≡ (high_taken (without_temp m) (round_up size 16) (codes "temp")).after.high
unfolding temp_alloc
high-temp_alloc m size = left-with_event (λ n. n.high) (λ n events. refl) _ _

answer-temp_alloc : (m : Memory) (size : ℕ) → (temp_alloc m size).answer ≡ (high_taken (without_temp m) (round_up size 16) (codes "temp")).answer
unfolding temp_alloc
answer-temp_alloc m size = refl

pub high_bytes-temp_new : (m : Memory) (size place : ℕ) → Laid m → (temp_alloc m size).answer ≡ Ok place → high_bytes (temp_alloc m size).after place ≡ Some (replicate (round_up size 16) 0)
high_bytes-temp_new m size place laid h =
    let base = Laid-without_temp m laid in
    down_is_high (temp_alloc m size).after (without_temp m).size place (replicate (round_up (round_up size 16) 16) 0) (ap (λ (n : Memory). n.size) (beside-temp_alloc m size) ∙ sym (size-without_temp m))
    (ap (λ (bs : List HunkBlock). bytes_down (without_temp m).size bs place) (high-temp_alloc m size) ∙ new_taken (without_temp m) (round_up size 16) place (codes "temp") (omega (arith, base.inside)) (sym (answer-temp_alloc m size) ∙ h))
    ∙ ap (λ n. Some (replicate n 0)) (let same : round_up (round_up size 16) 16 ≡ round_up size 16 = omega arith in same)

-- A write into a block that lasts leaves the temporary bytes, and each leaves the low blocks, the zone and the cache.
newest_left : (end : ℕ) (b c : HunkBlock) (cs : List HunkBlock) (place : ℕ) (bytes : List ℕ) → last_bytes (b ∷ with_bytes_down end (c ∷ cs) place bytes) ≡ last_bytes (with_bytes_down end (c ∷ cs) place bytes)
newest_left end b c cs place bytes =
    elim (eqb ((end - c.size) + 16) place) as (λ t. last_bytes (b ∷ cond t (with_bytes c bytes ∷ cs) (c ∷ with_bytes_down (end - c.size) cs place bytes)) ≡ last_bytes (cond t (with_bytes c bytes ∷ cs) (c ∷ with_bytes_down (end - c.size) cs place bytes))) [ true ↦ refl | false ↦ refl ]

older_written : (end : ℕ) (b : HunkBlock) (bs : List HunkBlock) (place : ℕ) (old bytes : List ℕ) → bytes_down end (take (length bs) (b ∷ bs)) place ≡ Some old → last_bytes (with_bytes_down end (b ∷ bs) place bytes) ≡ last_bytes (b ∷ bs)
older_written end b [] place old bytes h = absurd (cc)
older_written end b (c ∷ cs) place old bytes h = elim (eqb_tells ((end - b.size) + 16) place) [
  | inl at ↦ rw at.0 refl
  | inr off ↦ rw off.0 (newest_left (end - b.size) b c cs place bytes ∙ older_written (end - b.size) c cs place old bytes (rw off.0 at h))
]

temp_left : (end : ℕ) (high : List HunkBlock) (place : ℕ) (old bytes : List ℕ) → bytes_down end (take (length high - 1) high) place ≡ Some old → last_bytes (with_bytes_down end high place bytes) ≡ last_bytes high
temp_left end [] place old bytes h = refl
temp_left end (b ∷ bs) place old bytes h =
    let before : length (b ∷ bs) - 1 ≡ length bs = omega arith in
    older_written end b bs place old bytes (ap (λ n. bytes_down end (take n (b ∷ bs)) place) (sym before) ∙ h)

temp_bytes_left : (m : Memory) (temp : Option ℕ) (place : ℕ) (old bytes : List ℕ) → high_bytes (temp_freed m temp) place ≡ Some old → temp_bytes_of (with_bytes_down m.size m.high place bytes) temp ≡ temp_bytes_of m.high temp
unfolding high_bytes
temp_bytes_left m None place old bytes h = refl
temp_bytes_left m (Some mark) place old bytes h = temp_left m.size m.high place old bytes h

pub temp_bytes-with_high_bytes : (m : Memory) (place : ℕ) (old bytes : List ℕ) → lasting_bytes m place ≡ Some old → temp_bytes (with_high_bytes m place bytes) ≡ temp_bytes m
unfolding lasting_bytes without_temp temp_bytes with_high_bytes
temp_bytes-with_high_bytes m place old bytes h = temp_bytes_left m m.temp place old bytes h

pub low_bytes-with_high_bytes : (m : Memory) (other place : ℕ) (bytes : List ℕ) → low_bytes (with_high_bytes m other bytes) place ≡ low_bytes m place
unfolding low_bytes with_high_bytes
low_bytes-with_high_bytes m other place bytes = refl

pub zone_bytes-with_high_bytes : (m : Memory) (other place : ℕ) (bytes : List ℕ) → zone_bytes (with_high_bytes m other bytes) place ≡ zone_bytes m place
unfolding zone_bytes with_high_bytes
zone_bytes-with_high_bytes m other place bytes = refl

pub cache-with_high_bytes : (m : Memory) (place : ℕ) (bytes : List ℕ) → (with_high_bytes m place bytes).cache ≡ m.cache
unfolding with_high_bytes
cache-with_high_bytes m place bytes = refl

-- The high calls leave the low blocks' bytes,
pub low_bytes-high_alloc : (m : Memory) (size place : ℕ) (name : List ℕ) → low_bytes (high_alloc m size name).after place ≡ low_bytes m place
low_bytes-high_alloc m size place name = low_bytes-beside_high m _ place (beside-high_alloc m size name)

pub low_bytes-high_mark : (m : Memory) (place : ℕ) → low_bytes (high_mark m).after place ≡ low_bytes m place
low_bytes-high_mark m place = low_bytes-beside_high m _ place (beside-high_mark m)

pub low_bytes-high_free : (m : Memory) (mark place : ℕ) → low_bytes (high_free m mark).after place ≡ low_bytes m place
low_bytes-high_free m mark place = low_bytes-beside_high m _ place (beside-high_free m mark)

pub low_bytes-temp_alloc : (m : Memory) (size place : ℕ) → low_bytes (temp_alloc m size).after place ≡ low_bytes m place
low_bytes-temp_alloc m size place = low_bytes-beside_high m _ place (beside-temp_alloc m size)

pub low_bytes-without_temp : (m : Memory) (place : ℕ) → low_bytes (without_temp m) place ≡ low_bytes m place
low_bytes-without_temp m place = low_bytes-beside_high m _ place (beside-without_temp m)

low_with_temp : (m : Memory) (bytes : List ℕ) (temp : Option ℕ) (place : ℕ) → low_bytes (with_temp_bytes_of m bytes temp) place ≡ low_bytes m place
unfolding low_bytes
low_with_temp m bytes None place = refl
low_with_temp m bytes (Some mark) place = refl

pub low_bytes-with_temp_bytes : (m : Memory) (place : ℕ) (bytes : List ℕ) → low_bytes (with_temp_bytes m bytes) place ≡ low_bytes m place
unfolding with_temp_bytes
low_bytes-with_temp_bytes m place bytes = low_with_temp m bytes m.temp place

-- the low ones the temporary bytes,
pub temp_bytes-low_free : (m : Memory) (mark : ℕ) → temp_bytes (low_free m mark).after ≡ temp_bytes m
temp_bytes-low_free m mark = temp_bytes-beside_low m _ (beside-low_free m mark)

pub temp_bytes-with_low_bytes : (m : Memory) (place : ℕ) (bytes : List ℕ) → temp_bytes (with_low_bytes m place bytes) ≡ temp_bytes m
unfolding temp_bytes with_low_bytes
temp_bytes-with_low_bytes m place bytes = refl

-- and those of the cache all bytes beside it.
pub low_bytes-cache_alloc : (m : Memory) (user size place : ℕ) (name : List ℕ) → low_bytes (cache_alloc m user size name).after place ≡ low_bytes m place
low_bytes-cache_alloc m user size place name = low_bytes-beside_cache m _ place (beside-cache_alloc m user size name)

pub low_bytes-check : (m : Memory) (user place : ℕ) → low_bytes (check m user).after place ≡ low_bytes m place
low_bytes-check m user place = low_bytes-beside_cache m _ place (beside-check m user)

pub low_bytes-cache_free : (m : Memory) (user place : ℕ) → low_bytes (cache_free m user).after place ≡ low_bytes m place
low_bytes-cache_free m user place = low_bytes-beside_cache m _ place (beside-cache_free m user)

pub low_bytes-flush : (m : Memory) (place : ℕ) → low_bytes (flush m).after place ≡ low_bytes m place
low_bytes-flush m place = low_bytes-beside_cache m _ place (beside-flush m)

pub temp_bytes-cache_alloc : (m : Memory) (user size : ℕ) (name : List ℕ) → temp_bytes (cache_alloc m user size name).after ≡ temp_bytes m
temp_bytes-cache_alloc m user size name = temp_bytes-beside_cache m _ (beside-cache_alloc m user size name)

pub temp_bytes-check : (m : Memory) (user : ℕ) → temp_bytes (check m user).after ≡ temp_bytes m
temp_bytes-check m user = temp_bytes-beside_cache m _ (beside-check m user)

pub temp_bytes-cache_free : (m : Memory) (user : ℕ) → temp_bytes (cache_free m user).after ≡ temp_bytes m
temp_bytes-cache_free m user = temp_bytes-beside_cache m _ (beside-cache_free m user)

pub temp_bytes-flush : (m : Memory) → temp_bytes (flush m).after ≡ temp_bytes m
temp_bytes-flush m = temp_bytes-beside_cache m _ (beside-flush m)

pub zone_bytes-cache_alloc : (m : Memory) (user size place : ℕ) (name : List ℕ) → zone_bytes (cache_alloc m user size name).after place ≡ zone_bytes m place
zone_bytes-cache_alloc m user size place name = zone_bytes-beside_cache m _ place (beside-cache_alloc m user size name)

pub zone_bytes-check : (m : Memory) (user place : ℕ) → zone_bytes (check m user).after place ≡ zone_bytes m place
zone_bytes-check m user place = zone_bytes-beside_cache m _ place (beside-check m user)

pub zone_bytes-cache_free : (m : Memory) (user place : ℕ) → zone_bytes (cache_free m user).after place ≡ zone_bytes m place
zone_bytes-cache_free m user place = zone_bytes-beside_cache m _ place (beside-cache_free m user)

pub zone_bytes-flush : (m : Memory) (place : ℕ) → zone_bytes (flush m).after place ≡ zone_bytes m place
zone_bytes-flush m place = zone_bytes-beside_cache m _ place (beside-flush m)

-- for callers of the high hunk: `#[tactic(auto, using(mem_model::proofs::HighLaws::high_laws))]`
pub ruleset high_laws = (Laid-with_high_bytes, high_bytes-new, lasting_bytes-new, length-high_new, high_bytes-temp_new, high_bytes-lasting, some-lasting, lasting_bytes-no_temp, temp-high_alloc, high_bytes-written, high_bytes-elsewhere, lasting_bytes-written, lasting_bytes-elsewhere, high_bytes-inside, high_place_apart, lasting_bytes-without_temp, lasting_bytes-high_alloc, lasting_bytes-high_mark, lasting_bytes-high_free, lasting_bytes-temp_alloc, lasting_bytes-with_temp_bytes, lasting_bytes-low_alloc, lasting_bytes-low_free, lasting_bytes-with_low_bytes, lasting_bytes-build_low, lasting_bytes-z_alloc, lasting_bytes-z_free, lasting_bytes-with_zone_bytes, lasting_bytes-cache_alloc, lasting_bytes-check, lasting_bytes-cache_free, lasting_bytes-flush)

-- for callers of several parts: what the calls on one of them leave of the bytes of the others, beside `zone_laws` and `apart_laws`
pub ruleset others_laws = (low_bytes-with_high_bytes, temp_bytes-with_high_bytes, zone_bytes-with_high_bytes, cache-with_high_bytes, low_bytes-high_alloc, low_bytes-high_mark, low_bytes-high_free, low_bytes-temp_alloc, low_bytes-without_temp, low_bytes-with_temp_bytes, temp_bytes-low_free, temp_bytes-with_low_bytes, low_bytes-cache_alloc, low_bytes-check, low_bytes-cache_free, low_bytes-flush, temp_bytes-cache_alloc, temp_bytes-check, temp_bytes-cache_free, temp_bytes-flush, zone_bytes-cache_alloc, zone_bytes-check, zone_bytes-cache_free, zone_bytes-flush)
