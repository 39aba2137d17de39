-- An image on the low hunk that is moved to a user's new block.
use Rattle.std.proofs.Common.{◌≡◌, ℕ, ◌+◌, ◌<◌, ◌≤◌, List, [], ◌∷◌, ◌++◌, Option, Some, None, Result, Ok, Err, length, length-append, refl, sym, ap, subst, ◌∙◌, arith}
use Rattle.std.specs.Prelude.{Bool, IfOk, IsSome, OnOk}
use Rattle.std.proofs.Math.Seq.{take-append_seam}
use Rattle.mem_model.specs.declared.answers.CacheError.{CacheError}
use Rattle.mem_model.specs.declared.answers.CacheError.TheVariants as cache_error
use Rattle.mem_model.specs.declared.answers.Place.{Place}
use Rattle.mem_model.specs.declared.answers.RoomError.{RoomError}
use Rattle.mem_model.specs.declared.answers.RoomError.TheVariants as error
use Rattle.mem_model.specs.Answer.{Answers, Gives}
use Rattle.mem_model.specs.Cache.{peek_bytes, peek_place}
use Rattle.mem_model.specs.Event.{CacheRefusal.NoRoom, Shortage}
use Rattle.mem_model.specs.Hunk.{low_bytes}
use Rattle.mem_model.specs.Images.{HasBytes, front_of, image_size}
use Rattle.mem_model.specs.Keeps.{Keeps, KeepsAll, beside_high, beside_low, held}
use Rattle.mem_model.specs.Laid.{Laid, IsText}
use Rattle.mem_model.specs.Memory.{Cache, Memory, low_used}
use Rattle.mem_model.specs.Operations.{cache_alloc, copied_if, copy_low_to_cache, low_free, move_low_to_cache}
use Rattle.mem_model.specs.Told.{cache_answer, place_answer, room_answer}
use Rattle.mem_model.proofs.CacheImages.{Laid-copy_low_to_cache}
use Rattle.mem_model.proofs.CacheLaws.{Laid-cache_alloc, cache-low_free, keeps-low_free, users-low_free}
use Rattle.mem_model.proofs.Laws.{has_bytes, length-front_of, low_bytes-inside, low_bytes-low_free, low_free-back}
use Rattle.mem_model.proofs.Untouched.{zone-low_free}
use Rattle.res_table.specs.declared.answers.Fault.{Fault}
use Rattle.res_table.specs.Kept.{BeginsWith, GrowsLow, made_for}
use Rattle.res_table.specs.Placed.{GivesOrEnds, cached, lowered, through_low}
use Rattle.res_table.specs.Ready.{IsFree}
use Rattle.res_table.specs.Refusals.{IsOfRoom, block_answer}
use Rattle.res_table.proofs.Beside.{beside_asked, beside_copied, zone_beside}
use Rattle.res_table.proofs.Caching.{copied-cached, copied_cached, never_bad, never_occupied, none_cached, stands-copied}
use Rattle.res_table.proofs.Kept.{kept_but, kept_copied, kept_more, kept_no_block, kept_same}
use Rattle.res_table.proofs.Lowering.{grows_beside}

-- A user that has no block is refused one for want of room alone.
module _ (m new left : Memory) (user size : ℕ) (name : List ℕ) (frugal : Bool) (absent : peek_bytes m.cache user ≡ None) (some : 0 < size) where
  pub alloc_of_room : (r : Result (Unit {0}) CacheError) → Gives (cache_alloc m user size name) frugal left (cache_answer r) new → IsOfRoom r
  alloc_of_room (Ok done) gives = tt
  alloc_of_room (Err (cache_error.NoRoom asked room)) gives = tt
  alloc_of_room (Err (cache_error.Occupied other)) gives = never_occupied m new user size other name gives absent some
  alloc_of_room (Err cache_error.BadSize) gives = never_bad m new user size name gives absent some
  alloc_of_room (Err cache_error.OutOfMemory) gives = tt

  pub move_of_room : (mark : ℕ) (r : Result (Unit {0}) CacheError) → Gives (move_low_to_cache m mark user size name) frugal left (cache_answer r) new → IsOfRoom r
  unfolding move_low_to_cache
  move_of_room mark (Ok done) gives = tt
  move_of_room mark (Err (cache_error.NoRoom asked room)) gives = tt
  move_of_room mark (Err (cache_error.Occupied other)) gives = never_occupied m (cache_alloc m user size name).after user size other name (record { answer = gives.answer; after = refl }) absent some
  move_of_room mark (Err cache_error.BadSize) gives = never_bad m (cache_alloc m user size name).after user size name (record { answer = gives.answer; after = refl }) absent some
  move_of_room mark (Err cache_error.OutOfMemory) gives = tt

-- A moving, as the putting into the cache and the freeing that it stands for.
pub record IsMoved (m new : Memory) (user size mark : ℕ) (name : List ℕ) (frugal : Bool) (made : Result Place RoomError) : Type 0 where
  pub copied : Memory
  pub frees : new ≡ (low_free copied mark).after
  pub gives : Gives (cached m user (front_of (low_bytes m (mark + 16)) size) name) frugal m (room_answer made) copied
  pub built : OnOk made (BeginsWith (peek_bytes copied.cache user) (front_of (low_bytes m (mark + 16)) size))
  pub keeps : KeepsAll (made_for (user ∷ []) made) m copied
  pub beside : beside_high copied ≡ beside_high m
  pub laid : Laid copied

module _ (m new : Memory) (user size mark : ℕ) (name : List ℕ) (frugal : Bool) (laid : Laid m) (free : IsFree m user) (text : IsText name) (some : 0 < size) (has : HasBytes (low_bytes m (mark + 16)) size) where
  abbrev taken : Memory
  taken = (cache_alloc m user size name).after

  refused : (asked room : ℕ) → (cache_alloc m user size name).answer ≡ Err (NoRoom (record { asked = asked; room = room })) → new ≡ (low_free taken mark).after
      → IsMoved m new user size mark name frugal (Err (error.NoRoom asked room))
  refused asked room answer after =
      let gives : Answers (cache_alloc m user size name) (Err (NoRoom (record { asked = asked; room = room }))) taken = record { answer = answer; after = refl } in
      record {
        copied = taken;
        frees = after;
        gives = none_cached m taken user size name frugal free.absent some (error.NoRoom asked room) (front_of (low_bytes m (mark + 16)) size) (length-front_of (low_bytes m (mark + 16)) size has) gives;
        built = tt;
        keeps = kept_no_block m taken user size name frugal (error.NoRoom asked room) gives;
        beside = beside_asked m taken user size name frugal (Some (Err (NoRoom (record { asked = asked; room = room })))) gives;
        laid = Laid-cache_alloc m user size name laid free.known text;
      }

  pub moved_err : (e : RoomError) → Gives (move_low_to_cache m mark user size name) frugal (low_free m mark).after (block_answer (Err e)) new → IsMoved m new user size mark name frugal (Err e)
  unfolding move_low_to_cache
  moved_err (error.NoRoom asked room) gives = refused asked room gives.answer (gives.after ∙ ap (λ r. (low_free (copied_if taken (mark + 16) user size r) mark).after) gives.answer)
  moved_err error.OutOfMemory gives = record {
    copied = m;
    frees = gives.after;
    gives = record { not_frugal = gives.not_frugal; after = refl };
    built = tt;
    keeps = kept_same m m refl;
    beside = refl;
    laid = laid;
  }

  module _ (gives : Answers (move_low_to_cache m mark user size name) (Ok tt) new) where
    abbrev copied : Memory
    copied = (copy_low_to_cache taken (mark + 16) user size).after

    allocates : Answers (cache_alloc m user size name) (Ok tt) taken
    unfolding move_low_to_cache
    allocates = record { answer = gives.answer; after = refl }

    copies : Answers (copy_low_to_cache taken (mark + 16) user size) tt copied
    copies = record { answer = refl; after = refl }

    frees : new ≡ (low_free copied mark).after
    unfolding move_low_to_cache
    frees = gives.after ∙ ap (λ r. (low_free (copied_if taken (mark + 16) user size r) mark).after) gives.answer

    place-copied : peek_place copied.cache user ≡ peek_place new.cache user
    place-copied = ap (λ (c : Cache). peek_place c user) (sym (cache-low_free copied mark)) ∙ ap (λ (n : Memory). peek_place n.cache user) (sym frees)

    pub stands-moved : (place : Option Place) → place_answer place ≡ peek_place new.cache user → IsSome place
    stands-moved place is = stands-copied m taken user size name allocates laid free.known text copied (mark + 16) place copies (is ∙ sym place-copied)

    pub moved_ok : (place : Place) → peek_place new.cache user ≡ Some place.0 → IsMoved m new user size mark name frugal (Ok place)
    moved_ok place stands = record {
      copied = copied;
      frees = frees;
      gives = copied_cached m taken copied user (mark + 16) size place.0 name has allocates copies (place-copied ∙ stands);
      built = copied-cached m taken user size name allocates laid free.known text copied (mark + 16) has copies;
      keeps = kept_copied m taken copied user (mark + 16) size name laid free.known text allocates copies;
      beside = beside_copied m taken copied user (mark + 16) size name (Ok tt) allocates copies;
      laid = Laid-copy_low_to_cache taken (mark + 16) user size (Laid-cache_alloc m user size name laid free.known text);
    }

front_begins : (block : Option (List ℕ)) (image : List ℕ) (n : ℕ) → BeginsWith block image → length image ≡ n → front_of block n ≡ image
front_begins block image n begins same = rw (begins.1, ← same) (take-append_seam image begins.0)

-- as many bytes as the image has
pub has_begun : (r : Result (List ℕ) Fault) (block : Option (List ℕ)) (size : ℕ) → image_size r ≡ Ok size → IfOk r (BeginsWith block) → HasBytes block size
has_begun (Err fault) block size sized begins = absurd (cc)
has_begun (Ok image) block size sized begins =
    let same : length image ≡ size = cc in
    has_bytes block size (image ++ begins.0) begins.1 (omega (arith, same, length-append image begins.0))

-- The low hunk ends where it ended before.
module _ (m mid new : Memory) (user size mark : ℕ) (name : List ℕ) (frugal : Bool) (made : Result Place RoomError) (laid : Laid m) (grows : GrowsLow m mid) (is : mark ≡ low_used m)
    (moved : IsMoved mid new user size mark name frugal made) where
  onto : GrowsLow m moved.copied
  onto = grows_beside m mid moved.copied grows moved.beside

  pub low_again : new.low ≡ m.low
  low_again = ap (λ (n : Memory). n.low) moved.frees ∙ ap (λ n. (low_free moved.copied n).after.low) is ∙ (low_free-back moved.copied m onto.0 laid onto.1).1

  pub zone_again : beside_low mid ≡ beside_low m → new.zone ≡ m.zone
  zone_again beside = ap (λ (n : Memory). n.zone) moved.frees ∙ zone-low_free moved.copied mark ∙ zone_beside mid moved.copied moved.beside ∙ ap (λ (n : Memory). n.zone) beside

  pub kept_moved : KeepsAll [] m mid → KeepsAll (made_for (user ∷ []) made) m new
  kept_moved kept = λ lows.
      let except = made_for (user ∷ []) made in
      let one : Keeps lows except m moved.copied = kept_more (kept_but except kept) moved.keeps lows in
      record {
        low = λ place bytes in_table h.
            let below : place ≤ mark = omega (arith, is, low_bytes-inside m place bytes laid h) in
            ap (λ (n : Memory). low_bytes n place) moved.frees ∙ low_bytes-low_free moved.copied mark place bytes (one.low place bytes in_table h) below;
        users = λ other b not h. one.users other b not ((keeps-low_free moved.copied mark moved.laid).others other b tt (ap (λ (n : Memory). held n.cache other) (sym moved.frees) ∙ h));
        count = ap (λ (n : Memory). n.users) moved.frees ∙ users-low_free moved.copied mark ∙ one.count;
      }

  -- The image is in the cache, where the block was given.
  module _ (r : Result (List ℕ) Fault) (sized : image_size r ≡ Ok size) (begins : IfOk r (BeginsWith (low_bytes mid (mark + 16)))) where
    same_front : (P : List ℕ → Type 0) → P (front_of (low_bytes mid (mark + 16)) size) → IfOk r P
    same_front P there = by r sized begins where
      by : (r : Result (List ℕ) Fault) → image_size r ≡ Ok size → IfOk r (BeginsWith (low_bytes mid (mark + 16))) → IfOk r P
      by (Err fault) sized begins = tt
      by (Ok image) sized begins =
          let same : length image ≡ size = cc in
          subst P (front_begins (low_bytes mid (mark + 16)) image size begins same) there

    pub begins_moved : OnOk made (IfOk r (BeginsWith (peek_bytes new.cache user)))
    begins_moved = by made moved.built where
      stays : peek_bytes moved.copied.cache user ≡ peek_bytes new.cache user
      stays = ap (λ (c : Cache). peek_bytes c user) (sym (cache-low_free moved.copied mark)) ∙ ap (λ (n : Memory). peek_bytes n.cache user) (sym moved.frees)

      by : (made : Result Place RoomError) → OnOk made (BeginsWith (peek_bytes moved.copied.cache user) (front_of (low_bytes mid (mark + 16)) size))
          → OnOk made (IfOk r (BeginsWith (peek_bytes new.cache user)))
      by (Err e) is = tt
      by (Ok place) is = same_front (BeginsWith (peek_bytes new.cache user)) (subst (λ (o : Option (List ℕ)). BeginsWith o (front_of (low_bytes mid (mark + 16)) size)) stays is)

    through_made : (image : List ℕ) → Answers (lowered m image name) (Ok (mark + 16)) mid → (reply : Option (Result ℕ Shortage)) → Gives (cached mid user image name) frugal mid reply moved.copied
        → GivesOrEnds (through_low m user image name) frugal reply new
    unfolding through_low
    through_made image lowers None gives = gives.not_frugal
    through_made image lowers (Some reply) gives =
        rw (lowers.answer, ← lowers.after) (record {
          answer = gives.answer;
          after = moved.frees ∙ ap (λ (n : Memory). (low_free n mark).after) gives.after ∙ ap (λ n. (low_free (cached mid user image name).after n).after) is;
        })

    pub through_gives : IfOk r (λ image. Answers (lowered m image name) (Ok (mark + 16)) mid) → IfOk r (λ image. GivesOrEnds (through_low m user image name) frugal (room_answer made) new)
    through_gives lowers = by r sized begins lowers where
      by : (r : Result (List ℕ) Fault) → image_size r ≡ Ok size → IfOk r (BeginsWith (low_bytes mid (mark + 16))) → IfOk r (λ image. Answers (lowered m image name) (Ok (mark + 16)) mid)
          → IfOk r (λ image. GivesOrEnds (through_low m user image name) frugal (room_answer made) new)
      by (Err fault) sized begins lowers = tt
      by (Ok image) sized begins lowers =
          let same : length image ≡ size = cc in
          let front = front_begins (low_bytes mid (mark + 16)) image size begins same in
          through_made image lowers (room_answer made) (subst (λ (text : List ℕ). Gives (cached mid user text name) frugal mid (room_answer made) moved.copied) front moved.gives)
