-- What the calls that build in a user's block leave of a memory, and what the block then has.
use Rattle.std.proofs.Common.{◌≡◌, ◌≢◌, ℕ, ◌+◌, ◌≤◌, List, ◌++◌, Option, Some, None, Result, Ok, length, take, drop, refl, sym, ap, ◌∙◌, arith, inl, inr}
use Rattle.std.specs.Option.{option_map}
use Rattle.std.proofs.lemmas.Bool.Decides.{eqb_tells}
use Rattle.std.proofs.lemmas.List.{length-take-le}
use Rattle.mem_model.specs.Blocks.{CacheBlock}
use Rattle.mem_model.specs.Memory.{Memory, Cache}
use Rattle.mem_model.specs.Hunk.{over, low_bytes, temp_bytes}
use Rattle.mem_model.specs.Cache.{find_block, peek_bytes, peek_place}
use Rattle.mem_model.specs.Images.{HasBytes, front_of, with_cache_bytes, with_contents, with_user_bytes}
use Rattle.mem_model.specs.Operations.{build_cache, copy_low_to_cache}
use Rattle.mem_model.specs.Laid.{Laid}
use Rattle.mem_model.specs.Keeps.{held, unplaced, KeepsUsers, beside_cache}
use Rattle.mem_model.proofs.CacheBytes.{Laid-with_cache_bytes, find-with_other, find-with_own, placed-with}
use Rattle.mem_model.proofs.Laying.{over_front}
use Rattle.mem_model.proofs.Laws.{front-over, has_over, length-front_of}
use Rattle.mem_model.proofs.Untouched.{after_image}

-- What a call that writes into one user's block leaves.
record IsWritten (user : ℕ) (before after : Memory) : Type 0 where
  laid : Laid before → Laid after
  others : (other : ℕ) → other ≢ user → held after.cache other ≡ held before.cache other
  places : (other : ℕ) → peek_place after.cache other ≡ peek_place before.cache other
  recency : after.cache.recency ≡ before.cache.recency
  sizes : (other n : ℕ) → HasBytes (peek_bytes before.cache other) n → HasBytes (peek_bytes after.cache other) n
  beside : beside_cache after ≡ beside_cache before

-- the bytes that a user's block shows are those that it holds
peek_bytes-of_held : (c : Cache) (user : ℕ) → peek_bytes c user ≡ option_map (λ (b : CacheBlock). b.bytes) (held c user)
unfolding peek_bytes held
peek_bytes-of_held c user = shown (find_block user c.blocks) where
  shown : (o : Option CacheBlock) → option_map (λ (b : CacheBlock). b.bytes) o ≡ option_map (λ (b : CacheBlock). b.bytes) (option_map unplaced o)
  shown None = refl
  shown (Some b) = refl

-- the bytes of a user's block after a write into it
peek_bytes-over : (m : Memory) (user : ℕ) (bytes : List ℕ) → peek_bytes (with_cache_bytes m user bytes).cache user ≡ option_map (λ old. over old bytes) (peek_bytes m.cache user)
unfolding peek_bytes with_cache_bytes with_user_bytes
peek_bytes-over m user bytes = ap (option_map (λ (b : CacheBlock). b.bytes)) (find-with_own user m.cache.blocks bytes) ∙ written (find_block user m.cache.blocks) where
  written : (o : Option CacheBlock) → option_map (λ (b : CacheBlock). b.bytes) (option_map (λ b. with_contents b bytes) o) ≡ option_map (λ old. over old bytes) (option_map (λ (b : CacheBlock). b.bytes) o)
  written None = refl
  written (Some b) = refl

held-other : (m : Memory) (user other : ℕ) (bytes : List ℕ) → other ≢ user → held (with_cache_bytes m user bytes).cache other ≡ held m.cache other
unfolding held with_cache_bytes with_user_bytes
held-other m user other bytes apart = ap (option_map unplaced) (find-with_other user other m.cache.blocks bytes apart)

peek_place-any : (m : Memory) (user other : ℕ) (bytes : List ℕ) → peek_place (with_cache_bytes m user bytes).cache other ≡ peek_place m.cache other
unfolding with_cache_bytes with_user_bytes
peek_place-any m user other bytes = above _ _ (placed-with user other m.cache.blocks bytes) where
  above : (o p : Option CacheBlock) → option_map (λ (b : CacheBlock). b.place) o ≡ option_map (λ (b : CacheBlock). b.place) p → option_map (λ (b : CacheBlock). b.place + 40) o ≡ option_map (λ (b : CacheBlock). b.place + 40) p
  above None None h = refl
  above None (Some b) h = absurd (cc)
  above (Some b) None h = absurd (cc)
  above (Some b) (Some c) h = (let same : b.place ≡ c.place = cc in ap (λ n. Some (n + 40)) same)

sizes-any : (m : Memory) (user other n : ℕ) (bytes : List ℕ) → HasBytes (peek_bytes m.cache other) n → HasBytes (peek_bytes (with_cache_bytes m user bytes).cache other) n
sizes-any m user other n bytes h =
    elim (eqb_tells other user) [
      | inl at ↦ has_over _ (peek_bytes m.cache other) n bytes (ap (peek_bytes (with_cache_bytes m user bytes).cache) at.1 ∙ peek_bytes-over m user bytes ∙ ap (λ u. option_map (λ old. over old bytes) (peek_bytes m.cache u)) (sym at.1)) h
      | inr off ↦ rw (peek_bytes-of_held (with_cache_bytes m user bytes).cache other, held-other m user other bytes off.1, ← peek_bytes-of_held m.cache other) h
    ]

written-with_cache_bytes : (m : Memory) (user : ℕ) (bytes : List ℕ) → IsWritten user m (with_cache_bytes m user bytes)
unfolding with_cache_bytes with_user_bytes
written-with_cache_bytes m user bytes = record {
  laid = λ laid. Laid-with_cache_bytes m user bytes laid;
  others = λ other apart. held-other m user other bytes apart;
  places = λ other. peek_place-any m user other bytes;
  recency = refl;
  sizes = λ other n h. sizes-any m user other n bytes h;
  beside = refl;
}

written_not : (user : ℕ) (m : Memory) → IsWritten user m m
written_not user m = record { laid = λ laid. laid; others = λ other apart. refl; places = λ other. refl; recency = refl; sizes = λ other n h. h; beside = refl }

written-build_cache : {F : Type 0} (m : Memory) (user len : ℕ) (image_of : List ℕ → Result (List ℕ) F) → IsWritten user m (build_cache m user len image_of).after
unfolding build_cache
written-build_cache m user len image_of =
    after_image (IsWritten user m) m (with_cache_bytes m user) (image_of (front_of (temp_bytes m) len)) (written_not user m) (λ image. written-with_cache_bytes m user image)

written-copy : (m : Memory) (place user size : ℕ) → IsWritten user m (copy_low_to_cache m place user size).after
unfolding copy_low_to_cache
written-copy m place user size = written-with_cache_bytes m user (front_of (low_bytes m place) size)

keeps_written : {user : ℕ} {m n : Memory} → IsWritten user m n → KeepsUsers (Some user) m n
keeps_written w = record { others = λ other b is h. sym (w.others other is) ∙ h }

bytes_written : {user : ℕ} {m n : Memory} (other : ℕ) → IsWritten user m n → other ≢ user → peek_bytes n.cache other ≡ peek_bytes m.cache other
bytes_written {user} {m} {n} other w apart = peek_bytes-of_held n.cache other ∙ ap (option_map (λ (b : CacheBlock). b.bytes)) (w.others other apart) ∙ sym (peek_bytes-of_held m.cache other)

-- A building in a user's block keeps a memory laid out.
pub Laid-build_cache : {F : Type 0} (m : Memory) (user len : ℕ) (image_of : List ℕ → Result (List ℕ) F) → Laid m → Laid (build_cache m user len image_of).after
Laid-build_cache m user len image_of laid = (written-build_cache m user len image_of).laid laid

pub Laid-copy_low_to_cache : (m : Memory) (place user size : ℕ) → Laid m → Laid (copy_low_to_cache m place user size).after
Laid-copy_low_to_cache m place user size laid = (written-copy m place user size).laid laid

-- The block begins with the image, or with what was copied, and what stood behind it stays.
pub peek_bytes-built : {F : Type 0} (m : Memory) (user len : ℕ) (image_of : List ℕ → Result (List ℕ) F) (old image : List ℕ) → peek_bytes m.cache user ≡ Some old → image_of (front_of (temp_bytes m) len) ≡ Ok image → length image ≤ length old →
    peek_bytes (build_cache m user len image_of).after.cache user ≡ Some (image ++ drop (length image) old)
unfolding build_cache
peek_bytes-built m user len image_of old image here made fits =
    rw made (peek_bytes-over m user image ∙ ap (option_map (λ bytes. over bytes image)) here ∙ ap Some (over_front old image fits))

pub peek_bytes-copied : (m : Memory) (place user size : ℕ) (source old : List ℕ) → low_bytes m place ≡ Some source → size ≤ length source → peek_bytes m.cache user ≡ Some old → size ≤ length old →
    peek_bytes (copy_low_to_cache m place user size).after.cache user ≡ Some (take size source ++ drop size old)
unfolding copy_low_to_cache
peek_bytes-copied m place user size source old from read here fits =
    let front = take size source in
    let sized : length front ≡ size = length-take-le size source read in
    rw from (peek_bytes-over m user front ∙ ap (option_map (λ bytes. over bytes front)) here ∙ ap Some (over_front old front (omega (arith, sized))) ∙ ap (λ n. Some (front ++ drop n old)) sized)

pub front-cache_built : {F : Type 0} (m : Memory) (user len : ℕ) (image_of : List ℕ → Result (List ℕ) F) (image : List ℕ) → image_of (front_of (temp_bytes m) len) ≡ Ok image → HasBytes (peek_bytes m.cache user) (length image) →
    front_of (peek_bytes (build_cache m user len image_of).after.cache user) (length image) ≡ image
unfolding build_cache
front-cache_built m user len image_of image made h = rw (made, peek_bytes-over m user image) (front-over (peek_bytes m.cache user) image h)

pub front-copied : (m : Memory) (place user size : ℕ) → HasBytes (low_bytes m place) size → HasBytes (peek_bytes m.cache user) size → front_of (peek_bytes (copy_low_to_cache m place user size).after.cache user) size ≡ front_of (low_bytes m place) size
unfolding copy_low_to_cache
front-copied m place user size from h =
    let front = front_of (low_bytes m place) size in
    let sized : length front ≡ size = length-front_of (low_bytes m place) size from in
    ap (front_of (peek_bytes (with_cache_bytes m user front).cache user)) (sym sized) ∙ rw (peek_bytes-over m user front) (front-over (peek_bytes m.cache user) front (rw sized h))

-- Each other user holds what it held.
pub held-build_cache : {F : Type 0} (m : Memory) (user other len : ℕ) (image_of : List ℕ → Result (List ℕ) F) → other ≢ user → held (build_cache m user len image_of).after.cache other ≡ held m.cache other
held-build_cache m user other len image_of apart = (written-build_cache m user len image_of).others other apart

pub held-copy_low_to_cache : (m : Memory) (place user other size : ℕ) → other ≢ user → held (copy_low_to_cache m place user size).after.cache other ≡ held m.cache other
held-copy_low_to_cache m place user other size apart = (written-copy m place user size).others other apart

pub peek_bytes-build_cache : {F : Type 0} (m : Memory) (user other len : ℕ) (image_of : List ℕ → Result (List ℕ) F) → other ≢ user → peek_bytes (build_cache m user len image_of).after.cache other ≡ peek_bytes m.cache other
peek_bytes-build_cache m user other len image_of apart = bytes_written other (written-build_cache m user len image_of) apart

pub peek_bytes-copy_low_to_cache : (m : Memory) (place user other size : ℕ) → other ≢ user → peek_bytes (copy_low_to_cache m place user size).after.cache other ≡ peek_bytes m.cache other
peek_bytes-copy_low_to_cache m place user other size apart = bytes_written other (written-copy m place user size) apart

pub keeps-build_cache : {F : Type 0} (m : Memory) (user len : ℕ) (image_of : List ℕ → Result (List ℕ) F) → KeepsUsers (Some user) m (build_cache m user len image_of).after
keeps-build_cache m user len image_of = keeps_written (written-build_cache m user len image_of)

pub keeps-copy_low_to_cache : (m : Memory) (place user size : ℕ) → KeepsUsers (Some user) m (copy_low_to_cache m place user size).after
keeps-copy_low_to_cache m place user size = keeps_written (written-copy m place user size)

-- Every block stays at its place and as large as it was, and the order of use stays.
pub peek_place-build_cache : {F : Type 0} (m : Memory) (user other len : ℕ) (image_of : List ℕ → Result (List ℕ) F) → peek_place (build_cache m user len image_of).after.cache other ≡ peek_place m.cache other
peek_place-build_cache m user other len image_of = (written-build_cache m user len image_of).places other

pub peek_place-copy_low_to_cache : (m : Memory) (place user other size : ℕ) → peek_place (copy_low_to_cache m place user size).after.cache other ≡ peek_place m.cache other
peek_place-copy_low_to_cache m place user other size = (written-copy m place user size).places other

pub has-build_cache : {F : Type 0} (m : Memory) (user other len n : ℕ) (image_of : List ℕ → Result (List ℕ) F) → HasBytes (peek_bytes m.cache other) n → HasBytes (peek_bytes (build_cache m user len image_of).after.cache other) n
has-build_cache m user other len n image_of h = (written-build_cache m user len image_of).sizes other n h

pub has-copy_low_to_cache : (m : Memory) (place user other size n : ℕ) → HasBytes (peek_bytes m.cache other) n → HasBytes (peek_bytes (copy_low_to_cache m place user size).after.cache other) n
has-copy_low_to_cache m place user other size n h = (written-copy m place user size).sizes other n h

pub recency-build_cache : {F : Type 0} (m : Memory) (user len : ℕ) (image_of : List ℕ → Result (List ℕ) F) → (build_cache m user len image_of).after.cache.recency ≡ m.cache.recency
recency-build_cache m user len image_of = (written-build_cache m user len image_of).recency

pub recency-copy_low_to_cache : (m : Memory) (place user size : ℕ) → (copy_low_to_cache m place user size).after.cache.recency ≡ m.cache.recency
recency-copy_low_to_cache m place user size = (written-copy m place user size).recency

-- All beside the cache stays.
pub beside-build_cache : {F : Type 0} (m : Memory) (user len : ℕ) (image_of : List ℕ → Result (List ℕ) F) → beside_cache (build_cache m user len image_of).after ≡ beside_cache m
beside-build_cache m user len image_of = (written-build_cache m user len image_of).beside

pub beside-copy_low_to_cache : (m : Memory) (place user size : ℕ) → beside_cache (copy_low_to_cache m place user size).after ≡ beside_cache m
beside-copy_low_to_cache m place user size = (written-copy m place user size).beside
