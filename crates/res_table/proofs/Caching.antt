-- A new block of the cache, and an image in it.
use Rattle.std.proofs.Common.{◌≡◌, ℕ, ◌+◌, ◌*◌, ◌<◌, ◌≤◌, ◌⊎◌, ◌^◌, ◌-◌, drop, replicate, false, true≢false, eqb, ltb, List, length, Option, Some, None, Result, Ok, Err, refl, sym, ap, subst, ◌∙◌, inl, inr, arith}
use Rattle.std.specs.Prelude.{Bool, is_some, IsSome, IsOkAnd, IfOk, unwrap_or}
use Rattle.std.specs.Option.{option_map}
use Rattle.std.proofs.lemmas.List.{length-replicate}
use Rattle.std.proofs.lemmas.Bool.{cond_both, ne_eqb}
use Rattle.mem_model.specs.Answer.{Answered, Answers, Gives}
use Rattle.mem_model.specs.Blocks.{CacheBlock}
use Rattle.mem_model.specs.Cache.{block_of, new_block, peek_bytes, peek_place}
use Rattle.mem_model.specs.Event.{CacheRefusal, CacheRefusal.Occupied, CacheRefusal.BadSize, CacheRefusal.NoRoom, Shortage}
use Rattle.mem_model.specs.Hunk.{low_bytes, temp_bytes}
use Rattle.mem_model.specs.Images.{HasBytes, front_of, image_size, with_cache_bytes, with_image}
use Rattle.mem_model.specs.Keeps.{held, unplaced}
use Rattle.mem_model.specs.Laid.{Laid, IsText}
use Rattle.mem_model.specs.Memory.{Memory, room}
use Rattle.mem_model.specs.declared.answers.Place.{Place}
use Rattle.mem_model.specs.declared.answers.RoomError.{RoomError}
use Rattle.mem_model.specs.declared.answers.RoomError.TheVariants as room_error
use Rattle.mem_model.specs.Told.{place_answer, room_answer}
use Rattle.mem_model.specs.Operations.{build_cache, cache_alloc, copy_low_to_cache, shortage}
use Rattle.mem_model.specs.Places.{cache_need}
use Rattle.mem_model.proofs.CacheImages.{peek_bytes-built, peek_bytes-copied, peek_place-build_cache, peek_place-copy_low_to_cache}
use Rattle.mem_model.proofs.CacheLaws.{beside-cache_alloc, held-new, low_bytes-beside_cache, peek_bytes-held, temp_bytes-beside_cache}
use Rattle.mem_model.proofs.Laws.{has_bytes, image_there, length-front_of}
use Rattle.res_table.specs.declared.answers.Fault.{Fault}
use Rattle.res_table.specs.declared.answers.Fault.TheVariants as fault
use Rattle.alias_load.specs.Images.{image_of as alias_of}
use Rattle.alias_load.proofs.ImageLaws.{length_of_image as alias_long}
use Rattle.bsp29_build.specs.Images.{image_of as brush_of}
use Rattle.bsp29_build.proofs.ImageLaws.{length_of_image as brush_length}
use Rattle.sprite_load.specs.Images.{image_of as sprite_of}
use Rattle.sprite_load.proofs.ImageLaws.{length_of_image as sprite_long}
use Rattle.wad2_lumps.specs.Images.{image_of as wad_of}
use Rattle.wad2_lumps.proofs.ImageLaws.{length_of_image as wad_length}
use Rattle.wav_load.specs.Images.{image_of as sound_of}
use Rattle.wav_load.proofs.ImageLaws.{length_of_image as sound_long}
use Rattle.res_table.specs.declared.kinds.Kind.{Kind}
use Rattle.res_table.specs.declared.kinds.Kind.TheVariants as kind
use Rattle.res_table.specs.Kept.{BeginsWith}
use Rattle.res_table.specs.Images.{image_of, told_by}
use Rattle.res_table.specs.Placed.{cached}
use Rattle.res_table.specs.Refusals.{block_answer}

no_block : (o : Option CacheBlock) → option_map (λ (b : CacheBlock). b.bytes) o ≡ None → is_some o ≡ false
no_block None h = refl
no_block (Some b) h = absurd (cc)

-- A user without a block gets one, or there is no room.
answer-cache_alloc : (m : Memory) (user size : ℕ) (name : List ℕ) → peek_bytes m.cache user ≡ None → 0 < size
    → ((cache_alloc m user size name).answer ≡ Ok tt) ⊎ ((cache_alloc m user size name).answer ≡ Err (NoRoom (shortage m (cache_need size))))
unfolding cache_alloc peek_bytes
answer-cache_alloc m user size name absent some =
    let P = λ (given : Answered (Result (Unit {0}) CacheRefusal)). (given.answer ≡ Ok tt) ⊎ (given.answer ≡ Err (NoRoom (shortage m (cache_need size)))) in
    let free = no_block (block_of m.cache user) absent in
    let sized : eqb size 0 ≡ false = ne_eqb size 0 (λ none. absurd (omega (arith, none, some))) in
    cond_both (is_some (block_of m.cache user)) _ _ P (λ occupied. absurd (true≢false (sym occupied ∙ free))) (λ free.
    cond_both (eqb size 0) _ _ P (λ none. absurd (true≢false (sym none ∙ sized))) (λ some.
    cond_both (ltb (room m) (cache_need size)) _ _ P (λ short. inr refl) (λ fits. inl refl)))

pub never_occupied : (m mid : Memory) (user size other : ℕ) (name : List ℕ) → Answers (cache_alloc m user size name) (Err (Occupied other)) mid
    → peek_bytes m.cache user ≡ None → 0 < size → ⊥
never_occupied m mid user size other name gives absent some =
    let answer = gives.answer in
    elim (answer-cache_alloc m user size name absent some) [ inl done ↦ absurd (cc) | inr short ↦ absurd (cc) ]

pub never_bad : (m mid : Memory) (user size : ℕ) (name : List ℕ) → Answers (cache_alloc m user size name) (Err BadSize) mid
    → peek_bytes m.cache user ≡ None → 0 < size → ⊥
never_bad m mid user size name gives absent some =
    let answer = gives.answer in
    elim (answer-cache_alloc m user size name absent some) [ inl done ↦ absurd (cc) | inr short ↦ absurd (cc) ]

same_short : (s t : Shortage) (r : Result (Unit {0}) CacheRefusal) → r ≡ Err (NoRoom s) → r ≡ Err (NoRoom t) → s ≡ t
same_short s t r one other = cc

-- what there is no room for
pub refused_cached : (m mid : Memory) (user size asked left : ℕ) (name image : List ℕ) → length image ≡ size
    → peek_bytes m.cache user ≡ None → 0 < size
    → Answers (cache_alloc m user size name) (Err (NoRoom (record { asked = asked; room = left }))) mid
    → Answers (cached m user image name) (Err (record { asked = asked; room = left })) mid
unfolding cached
refused_cached m mid user size asked left name image sized absent some gives =
    let here : (cache_alloc m user (length image) name).answer ≡ Err (NoRoom (record { asked = asked; room = left })) = rw sized gives.answer in
    let after : mid ≡ (cache_alloc m user (length image) name).after = rw sized gives.after in
    let same : shortage m (cache_need size) ≡ record { asked = asked; room = left } =
    elim (answer-cache_alloc m user size name absent some) [
      | inl done ↦ (let answer = gives.answer in absurd (cc))
      | inr short ↦ same_short _ _ _ short gives.answer
    ] in
    rw here (record { answer = ap (λ (s : Shortage). Err s) (rw sized same); after = after })

-- no block was given
module _ (m mid : Memory) (user size : ℕ) (name : List ℕ) (frugal : Bool) (absent : peek_bytes m.cache user ≡ None) (some : 0 < size) where
  pub none_cached : (e : RoomError) (image : List ℕ) → length image ≡ size → Gives (cache_alloc m user size name) frugal m (block_answer (Err e)) mid
      → Gives (cached m user image name) frugal m (room_answer (Err e)) mid
  none_cached (room_error.NoRoom asked left) image sized ends = refused_cached m mid user size asked left name image sized absent some ends
  none_cached room_error.OutOfMemory image sized ends = ends

  pub none_cached_for : (e : RoomError) (r : Result (List ℕ) Fault) → image_size r ≡ Ok size → Gives (cache_alloc m user size name) frugal m (block_answer (Err e)) mid
      → IfOk r (λ image. Gives (cached m user image name) frugal m (room_answer (Err e)) mid)
  none_cached_for e (Err fault) sized ends = tt
  none_cached_for e (Ok image) sized ends =
      let same : length image ≡ size = cc in
      none_cached e image same ends

-- the new block
module _ (m mid : Memory) (user size : ℕ) (name : List ℕ) (gives : Answers (cache_alloc m user size name) (Ok tt) mid) where
  pub temp-cached : temp_bytes mid ≡ temp_bytes m
  temp-cached = ap temp_bytes gives.after ∙ temp_bytes-beside_cache m _ (beside-cache_alloc m user size name)

  low-cached : (place : ℕ) → low_bytes mid place ≡ low_bytes m place
  low-cached place = ap (λ (n : Memory). low_bytes n place) gives.after ∙ low_bytes-beside_cache m _ place (beside-cache_alloc m user size name)

  pub source-cached : (len : ℕ) → HasBytes (temp_bytes m) len → HasBytes (temp_bytes mid) len
  source-cached len has = rw temp-cached has

  module _ (laid : Laid m) (known : user < m.users) (text : IsText name) where
    held-cached : held mid.cache user ≡ Some (new_block 0 (cache_need size) user name)
    held-cached = rw gives.after (held-new m user size name laid known text gives.answer)

    pub room-cached : HasBytes (peek_bytes mid.cache user) size
    room-cached =
        let bytes : List ℕ = replicate (cache_need size - 40) 0 in
        let long : length bytes ≡ cache_need size - 40 = length-replicate (cache_need size - 40) 0 in
        has_bytes (peek_bytes mid.cache user) size bytes (peek_bytes-held mid.cache user _ held-cached) (omega (arith, long))

    pub image-cached : (image_of : List ℕ → Result (List ℕ) Fault) (len : ℕ) → image_size (image_of (front_of (temp_bytes m) len)) ≡ Ok size
        → IsOkAnd (image_of (front_of (temp_bytes mid) len)) (λ image. HasBytes (peek_bytes mid.cache user) (length image))
    image-cached image_of len made = image_there (image_of (front_of (temp_bytes mid) len)) (peek_bytes mid.cache user) size (rw temp-cached made) room-cached

    place-cached : IsSome (peek_place mid.cache user)
    unfolding held
    place-cached = placed (block_of mid.cache user) held-cached where
      placed : (o : Option CacheBlock) → option_map unplaced o ≡ Some (new_block 0 (cache_need size) user name)
          → IsSome (option_map (λ (b : CacheBlock). b.place + 40) o)
      placed None h = absurd (cc)
      placed (Some b) h = refl

    there : (o : Option Place) → IsSome (place_answer o) → IsSome o
    there None h = absurd (cc)
    there (Some p) h = refl

    pub stands-built : (new : Memory) (image_of : List ℕ → Result (List ℕ) Fault) (len : ℕ) (place : Option Place)
        → Answers (build_cache mid user len image_of) tt new → place_answer place ≡ peek_place new.cache user → IsSome place
    stands-built new image_of len place builds is =
        let same : peek_place new.cache user ≡ peek_place mid.cache user =
        ap (λ (n : Memory). peek_place n.cache user) builds.after ∙ peek_place-build_cache mid user user len image_of in
        there place (rw (is, same) place-cached)

    pub stands-copied : (new : Memory) (low : ℕ) (place : Option Place) → Answers (copy_low_to_cache mid low user size) tt new
        → place_answer place ≡ peek_place new.cache user → IsSome place
    stands-copied new low place copies is =
        let same : peek_place new.cache user ≡ peek_place mid.cache user =
        ap (λ (n : Memory). peek_place n.cache user) copies.after ∙ peek_place-copy_low_to_cache mid low user user size in
        there place (rw (is, same) place-cached)

    -- the image is at its front, or what was copied
    abbrev fresh : List ℕ
    fresh = replicate (cache_need size - 40) 0

    fresh_long : length fresh ≡ cache_need size - 40
    fresh_long = length-replicate (cache_need size - 40) 0

    pub front-cached : (new : Memory) (image_of : List ℕ → Result (List ℕ) Fault) (len : ℕ) (r : Result (List ℕ) Fault) → image_of (front_of (temp_bytes m) len) ≡ r → image_size r ≡ Ok size
        → Answers (build_cache mid user len image_of) tt new → IfOk r (BeginsWith (peek_bytes new.cache user))
    front-cached new image_of len (Err fault) made sized builds = tt
    front-cached new image_of len (Ok image) made sized builds =
        let same : length image ≡ size = cc in
        let source : front_of (temp_bytes mid) len ≡ front_of (temp_bytes m) len = ap (λ b. front_of b len) temp-cached in (
          drop (length image) fresh,
          ap (λ (n : Memory). peek_bytes n.cache user) builds.after
              ∙ peek_bytes-built mid user len image_of fresh image (peek_bytes-held mid.cache user _ held-cached) (ap image_of source ∙ made) (omega (arith, fresh_long, same)),
        )

    pub copied-cached : (new : Memory) (low : ℕ) → HasBytes (low_bytes m low) size → Answers (copy_low_to_cache mid low user size) tt new
        → BeginsWith (peek_bytes new.cache user) (front_of (low_bytes m low) size)
    copied-cached new low has copies = by (low_bytes m low) refl has where
      by : (o : Option (List ℕ)) → low_bytes m low ≡ o → HasBytes o size → BeginsWith (peek_bytes new.cache user) (front_of o size)
      by None is has = absurd has
      by (Some source) is has = (
        drop size fresh,
        ap (λ (n : Memory). peek_bytes n.cache user) copies.after
            ∙ peek_bytes-copied mid low user size source fresh (low-cached low ∙ is) has (peek_bytes-held mid.cache user _ held-cached) (omega (arith, fresh_long)),
      )

-- an image in it
put_in : (m mid new : Memory) (user size place : ℕ) (name image : List ℕ) → length image ≡ size → Answers (cache_alloc m user size name) (Ok tt) mid
    → peek_place mid.cache user ≡ Some place → new ≡ with_cache_bytes mid user image → Answers (cached m user image name) (Ok place) new
unfolding cached
put_in m mid new user size place name image sized gives stands written =
    let answer : (cache_alloc m user (length image) name).answer ≡ Ok tt = rw sized gives.answer in
    let after : mid ≡ (cache_alloc m user (length image) name).after = rw sized gives.after in
    let here : peek_place (cache_alloc m user (length image) name).after.cache user ≡ Some place = ap (λ (n : Memory). peek_place n.cache user) (sym after) ∙ stands in
    rw answer (record { answer = ap (λ (o : Option ℕ). Ok (unwrap_or o 0)) here; after = written ∙ ap (λ (n : Memory). with_cache_bytes n user image) after })

pub built_cached : (m mid new : Memory) (user len size place : ℕ) (name image : List ℕ) (image_of : List ℕ → Result (List ℕ) Fault)
    → length image ≡ size → Answers (cache_alloc m user size name) (Ok tt) mid → image_of (front_of (temp_bytes m) len) ≡ Ok image
    → Answers (build_cache mid user len image_of) tt new → peek_place new.cache user ≡ Some place
    → Answers (cached m user image name) (Ok place) new
unfolding build_cache
built_cached m mid new user len size place name image image_of sized gives made builds stands =
    let here : peek_place mid.cache user ≡ Some place =
    sym (peek_place-build_cache mid user user len image_of) ∙ ap (λ (n : Memory). peek_place n.cache user) (sym builds.after) ∙ stands in
    let source : front_of (temp_bytes mid) len ≡ front_of (temp_bytes m) len = ap (λ b. front_of b len) (temp-cached m mid user size name gives) in
    put_in m mid new user size place name image sized gives here (builds.after ∙ ap (with_image mid (with_cache_bytes mid user)) (ap image_of source ∙ made))

pub built_for : (r : Result (List ℕ) Fault) (m mid new : Memory) (user len size place : ℕ) (name : List ℕ) (image_of : List ℕ → Result (List ℕ) Fault)
    → image_of (front_of (temp_bytes m) len) ≡ r → image_size r ≡ Ok size → Answers (cache_alloc m user size name) (Ok tt) mid
    → Answers (build_cache mid user len image_of) tt new → peek_place new.cache user ≡ Some place
    → IfOk r (λ image. Answers (cached m user image name) (Ok place) new)
built_for (Err fault) m mid new user len size place name image_of made sized gives builds stands = tt
built_for (Ok image) m mid new user len size place name image_of made sized gives builds stands =
    let same : length image ≡ size = cc in
    built_cached m mid new user len size place name image image_of same gives made builds stands

pub copied_cached : (m mid new : Memory) (user low size place : ℕ) (name : List ℕ) → HasBytes (low_bytes m low) size
    → Answers (cache_alloc m user size name) (Ok tt) mid → Answers (copy_low_to_cache mid low user size) tt new → peek_place new.cache user ≡ Some place
    → Answers (cached m user (front_of (low_bytes m low) size) name) (Ok place) new
unfolding copy_low_to_cache
copied_cached m mid new user low size place name has gives copies stands =
    let here : peek_place mid.cache user ≡ Some place =
    sym (peek_place-copy_low_to_cache mid low user user size) ∙ ap (λ (n : Memory). peek_place n.cache user) (sym copies.after) ∙ stands in
    put_in m mid new user size place name (front_of (low_bytes m low) size) (length-front_of (low_bytes m low) size has) gives here
    (copies.after ∙ ap (λ (o : Option (List ℕ)). with_cache_bytes mid user (front_of o size)) (low-cached m mid user size name gives low))

-- how long an image is
bounds_told : {F : Type 0} (tell : F → Fault) (r : Result (List ℕ) F) (size low high : ℕ) → image_size (told_by tell r) ≡ Ok size
    → ((image : List ℕ) → r ≡ Ok image → (low ≤ length image) × (length image ≤ high)) → (low ≤ size) × (size ≤ high)
bounds_told tell (Err fault) size low high is bounds = absurd (cc)
bounds_told tell (Ok image) size low high is bounds =
    let same : length image ≡ size = cc in
    subst (λ (n : ℕ). (low ≤ n) × (n ≤ high)) same (bounds image refl)

brush_long : (bytes image : List ℕ) → brush_of bytes ≡ Ok image → (132 ≤ length image) × (length image ≤ 2 ^ 31)
brush_long bytes image made =
    let is = brush_length bytes image made in
    (is.0, omega (arith, is.1))

wad_long : (bytes image : List ℕ) → wad_of bytes ≡ Ok image → (12 ≤ length image) × (length image ≤ length bytes)
wad_long bytes image made =
    let is = wad_length bytes image made in
    (is.0, omega (arith, is.1))

pub image_bounds : (speed : ℕ) (kind : Kind) (bytes : List ℕ) (size : ℕ) → length bytes ≤ 2 ^ 26 → image_size (image_of speed kind bytes) ≡ Ok size
    → (0 < size) × (size < 2 ^ 32)
image_bounds speed kind.Brush bytes size small is =
    let bounds = bounds_told fault.Brush (brush_of bytes) size 132 (2 ^ 31) is (λ image made. brush_long bytes image made) in
    (omega (arith, bounds.0), omega (arith, bounds.1))
image_bounds speed kind.Alias bytes size small is =
    let bounds = bounds_told fault.Alias (alias_of bytes) size 88 (length bytes + 2 ^ 15) is (λ image made. alias_long bytes image made) in
    (omega (arith, bounds.0), omega (arith, bounds.1, small))
image_bounds speed kind.Sprite bytes size small is =
    let bounds = bounds_told fault.Sprite (sprite_of bytes) size 72 (2 * length bytes) is (λ image made. sprite_long bytes image made) in
    (omega (arith, bounds.0), omega (arith, bounds.1, small))
image_bounds speed kind.Wad bytes size small is =
    let bounds = bounds_told fault.Wad (wad_of bytes) size 12 (length bytes) is (λ image made. wad_long bytes image made) in
    (omega (arith, bounds.0), omega (arith, bounds.1, small))
image_bounds speed kind.Sound bytes size small is =
    let bounds = bounds_told fault.Sound (sound_of speed bytes) size 20 (2 ^ 31 + 20) is (λ image made. sound_long speed bytes image made) in
    (omega (arith, bounds.0), omega (arith, bounds.1))
