-- What the calls that build in a block come to, where it is known which bytes they read and write.
use Rattle.std.proofs.Common.{◌≡◌, ℕ, ◌≤◌, List, [], Option, Some, None, Result, Ok, Err, length, take, refl, sym, ap, ◌∙◌, arith}
use Rattle.std.specs.Prelude.{◌^◌, IsSome, IsOkAnd, slice_get, slice_set}
use Rattle.std.specs.Option.{option_map}
use Rattle.std.proofs.lemmas.List.{length-take}
use Rattle.mem_model.specs.Blocks.{HunkBlock, CacheBlock}
use Rattle.mem_model.specs.Memory.{Memory, Cache}
use Rattle.mem_model.specs.Answer.{Answers}
use Rattle.mem_model.specs.Plain.{IsAt}
use Rattle.mem_model.specs.Hunk.{over, with_bytes, low_bytes, with_low_bytes, last_bytes, temp_bytes}
use Rattle.mem_model.specs.Cache.{block_of, peek_bytes}
use Rattle.mem_model.specs.Laid.{Laid}
use Rattle.mem_model.specs.Images.{HasBytes, front_of, with_cache_bytes, with_user_bytes}
use Rattle.mem_model.specs.Operations.{build_low, build_cache, copy_low_to_cache}
use Rattle.mem_model.proofs.CacheBytes.{with_user_bytes-over}
use Rattle.mem_model.proofs.Laying.{length-over, over_same}
use Rattle.mem_model.proofs.Laws.{some_has}
use Rattle.mem_model.proofs.Newest.{mark_of, temp_bytes-small, temp_bytes-some}

-- what is to become of an image is there
pub some_image : {F : Type 0} (r : Result (List ℕ) F) (block : Option (List ℕ)) → IsOkAnd r (λ image. HasBytes block (length image)) → IsSome block
some_image (Ok image) block h = some_has block (length image) h
some_image (Err fault) block h = absurd h

pub some_peeked : (c : Cache) (user : ℕ) → IsSome (peek_bytes c user) → IsSome (block_of c user)
unfolding peek_bytes
some_peeked c user h = some_mapped (block_of c user) h where
  some_mapped : (o : Option CacheBlock) → IsSome (option_map (λ (b : CacheBlock). b.bytes) o) → IsSome o
  some_mapped None g = g
  some_mapped (Some b) g = refl

pub there_is : {A F : Type 0} (r : Result A F) (P : A → Type 0) → IsOkAnd r P → (x : A) × (r ≡ Ok x)
there_is (Ok x) P h = (x, refl)
there_is (Err fault) P h = absurd h

-- The first temporary bytes are those of the newest high block.
pub newest_read : (m now : Memory) (n : ℕ) → m ≡ now → HasBytes (temp_bytes now) n → HasBytes (last_bytes m.high) n × (front_of (temp_bytes now) n ≡ front_of (last_bytes m.high) n)
newest_read m now n is h =
    let here : HasBytes (temp_bytes m) n = rw is h in
    let mark = mark_of m (some_has (temp_bytes m) n here) in
    let newest = temp_bytes-some m mark.0 mark.1 in
    (rw newest at here, ap (λ k. front_of (temp_bytes k) n) (sym is) ∙ ap (λ o. front_of o n) newest)

pub front_small : (m : Memory) (n : ℕ) → Laid m → length (front_of (temp_bytes m) n) ≤ 2 ^ 26
front_small m n laid = small (temp_bytes m) refl where
  small : (o : Option (List ℕ)) → temp_bytes m ≡ o → length (front_of o n) ≤ 2 ^ 26
  small None e = omega (arith, length-take {A = ℕ} n [])
  small (Some bytes) e = omega (arith, length-take n bytes, temp_bytes-small m bytes laid e)

pub low_found : (m : Memory) (place at : ℕ) (b : HunkBlock) → IsAt m.low place at → slice_get m.low at ≡ Some b → low_bytes m place ≡ Some b.bytes
unfolding low_bytes
low_found m place at b is h = is.reads b h

-- An image written over a low block's bytes.
pub low_written : (m : Memory) (place at : ℕ) (b : HunkBlock) (image new : List ℕ) → IsAt m.low place at → slice_get m.low at ≡ Some b → new ≡ over b.bytes image →
    with_low_bytes m place image ≡ record m { low = slice_set m.low at (with_bytes b new) }
unfolding with_low_bytes
low_written m place at b image new is h e =
    let once : over b.bytes image ≡ over b.bytes new = sym (over_same b.bytes (over b.bytes image) (length-over b.bytes image)) ∙ ap (over b.bytes) (sym e) in
    ap (λ (low : List HunkBlock). record m { low = low }) (is.writes b image h ∙ ap (λ w. slice_set m.low at (record b { bytes = w })) once)

-- The same of a user's block.
pub cache_written : (m : Memory) (user : ℕ) (old image new : List ℕ) → peek_bytes m.cache user ≡ Some old → new ≡ over old image → with_cache_bytes m user image ≡ record m { cache = with_user_bytes m.cache user new }
unfolding with_cache_bytes
cache_written m user old image new h e =
    ap (λ (c : Cache). record m { cache = c }) (sym (with_user_bytes-over m.cache user old image h) ∙ ap (with_user_bytes m.cache user) (sym e))

pub build_low_gives : {F : Type 0} (m new : Memory) (place len : ℕ) (image_of : List ℕ → Result (List ℕ) F) (source image : List ℕ) → front_of (temp_bytes m) len ≡ source → image_of source ≡ Ok image →
    with_low_bytes m place image ≡ new → Answers (build_low m place len image_of) tt new
unfolding build_low
build_low_gives m new place len image_of source image from made is = rw (from, made) (record { answer = refl; after = sym is })

pub build_cache_gives : {F : Type 0} (m new : Memory) (user len : ℕ) (image_of : List ℕ → Result (List ℕ) F) (source image : List ℕ) → front_of (temp_bytes m) len ≡ source → image_of source ≡ Ok image →
    with_cache_bytes m user image ≡ new → Answers (build_cache m user len image_of) tt new
unfolding build_cache
build_cache_gives m new user len image_of source image from made is = rw (from, made) (record { answer = refl; after = sym is })

pub copy_gives : (m new : Memory) (place user size : ℕ) (source : List ℕ) → low_bytes m place ≡ Some source → with_cache_bytes m user (take size source) ≡ new → Answers (copy_low_to_cache m place user size) tt new
unfolding copy_low_to_cache
copy_gives m new place user size source from is = rw from (record { answer = refl; after = sym is })
