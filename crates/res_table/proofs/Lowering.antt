-- An image in a new low block, and the low hunk as it is freed again.
use Rattle.std.proofs.Common.{◌≡◌, ℕ, List, [], ◌++◌, drop, replicate, length, Some, Result, Ok, Err, refl, sym, ap, ◌∙◌, arith}
use Rattle.std.specs.Prelude.{IsOkAnd, IfOk, Bool}
use Rattle.std.proofs.lemmas.List.{append_assoc, append-nil, length-replicate}
use Rattle.mem_model.specs.declared.answers.RoomError.{RoomError}
use Rattle.mem_model.specs.declared.answers.RoomError.TheVariants as error
use Rattle.mem_model.specs.Answer.{Answers, Gives}
use Rattle.mem_model.specs.Blocks.{HunkBlock}
use Rattle.mem_model.specs.Event.{Shortage}
use Rattle.mem_model.specs.Hunk.{low_bytes, temp_bytes, with_low_bytes}
use Rattle.mem_model.specs.Images.{HasBytes, front_of, image_size, with_image}
use Rattle.mem_model.specs.Keeps.{Keeps, KeepsAll, beside_high, beside_low}
use Rattle.mem_model.specs.Laid.{Laid, IsText}
use Rattle.mem_model.specs.Memory.{Memory}
use Rattle.mem_model.specs.Operations.{build_low, low_alloc}
use Rattle.mem_model.specs.Places.{round_up}
use Rattle.mem_model.specs.Told.{room_answer}
use Rattle.mem_model.proofs.CacheLaws.{beside-build_low, beside-low_alloc}
use Rattle.mem_model.proofs.Keeping.{Keeps-all, Keeps-build_low, Keeps-low_alloc, Keeps-more, none_excepted}
use Rattle.mem_model.proofs.Laws.{has-low_new, image_there, low-low_refused, low-new_built, low_bytes-build_low, low_bytes-built, low_bytes-low_alloc, low_bytes-new, low_place_apart, temp_bytes-low_alloc}
use Rattle.res_table.specs.declared.answers.Fault.{Fault}
use Rattle.res_table.specs.Kept.{BeginsWith, GrowsLow}
use Rattle.res_table.specs.Placed.{GivesOrEnds, lowered, through_low}

pub grows_same : (m n : Memory) → n.low ≡ m.low → GrowsLow m n
grows_same m n same = ([], same ∙ sym (append-nil m.low))

pub grows_more : (a b c : Memory) → GrowsLow a b → GrowsLow b c → GrowsLow a c
grows_more a b c one two =
    (one.0 ++ two.0, two.1 ∙ ap (λ (low : List HunkBlock). low ++ two.0) one.1 ∙ append_assoc a.low one.0 two.0)

pub grows_beside : (m mid n : Memory) → GrowsLow m mid → beside_high n ≡ beside_high mid → GrowsLow m n
grows_beside m mid n grows same = (grows.0, ap (λ (x : Memory). x.low) same ∙ grows.1)

-- No low block was given.
module _ (m mid : Memory) (size : ℕ) (name : List ℕ) (frugal : Bool) where
  abbrev Ends : RoomError → Type 0
  Ends e = Gives (low_alloc m size name) frugal m (room_answer (Err e)) mid

  pub low_ended : (e : RoomError) → Ends e → mid.low ≡ m.low
  low_ended (error.NoRoom asked room) ends = ap (λ (n : Memory). n.low) ends.after ∙ low-low_refused m size _ name ends.answer
  low_ended error.OutOfMemory ends = ap (λ (n : Memory). n.low) ends.after

  pub beside_ended : (e : RoomError) → Ends e → beside_low mid ≡ beside_low m
  beside_ended (error.NoRoom asked room) ends = ap beside_low ends.after ∙ beside-low_alloc m size name
  beside_ended error.OutOfMemory ends = ap beside_low ends.after

  pub kept_ended : (e : RoomError) → Laid m → IsText name → Ends e → KeepsAll [] m mid
  kept_ended (error.NoRoom asked room) laid text ends = rw ends.after (λ lows. Keeps-low_alloc lows [] m size name laid text)
  kept_ended error.OutOfMemory laid text ends = rw ends.after (λ lows. Keeps-all lows [] m)

  refused_lowered : (short : Shortage) (image : List ℕ) → length image ≡ size → Answers (low_alloc m size name) (Err short) mid
      → Answers (lowered m image name) (Err short) mid
  unfolding lowered
  refused_lowered short image same gives =
      let answer : (low_alloc m (length image) name).answer ≡ Err short = rw same gives.answer in
      let after : mid ≡ (low_alloc m (length image) name).after = rw same gives.after in
      rw answer (record { answer = refl; after = after })

  pub lowered_ended : (r : Result (List ℕ) Fault) (e : RoomError) → image_size r ≡ Ok size → Ends e
      → IfOk r (λ image. Gives (lowered m image name) frugal m (room_answer (Err e)) mid)
  lowered_ended (Err fault) e sized ends = tt
  lowered_ended (Ok image) (error.NoRoom asked room) sized ends =
      let same : length image ≡ size = cc in
      refused_lowered _ image same ends
  lowered_ended (Ok image) error.OutOfMemory sized ends = ends

-- A low block was given, and an image was built in it.
module _ (m mid : Memory) (size place : ℕ) (name : List ℕ) (laid : Laid m) (gives : Answers (low_alloc m size name) (Ok place) mid) where
  temp-lowered : temp_bytes mid ≡ temp_bytes m
  temp-lowered = ap temp_bytes gives.after ∙ temp_bytes-low_alloc m size name

  pub source-lowered : (len : ℕ) → HasBytes (temp_bytes m) len → HasBytes (temp_bytes mid) len
  source-lowered len has = rw temp-lowered has

  room-lowered : HasBytes (low_bytes mid place) size
  room-lowered = rw gives.after (has-low_new m size place size name laid gives.answer (omega arith))

  pub image-lowered : (image_of : List ℕ → Result (List ℕ) Fault) (len : ℕ) → image_size (image_of (front_of (temp_bytes m) len)) ≡ Ok size
      → IsOkAnd (image_of (front_of (temp_bytes mid) len)) (λ image. HasBytes (low_bytes mid place) (length image))
  image-lowered image_of len made = image_there (image_of (front_of (temp_bytes mid) len)) (low_bytes mid place) size (rw temp-lowered made) room-lowered

  module _ (new : Memory) (image_of : List ℕ → Result (List ℕ) Fault) (len : ℕ) (builds : Answers (build_low mid place len image_of) tt new) where
    source : front_of (temp_bytes mid) len ≡ front_of (temp_bytes m) len
    source = ap (λ b. front_of b len) temp-lowered

    built_lowered : (image : List ℕ) → length image ≡ size → image_of (front_of (temp_bytes m) len) ≡ Ok image → Answers (lowered m image name) (Ok place) new
    unfolding lowered build_low
    built_lowered image sized made =
        let answer : (low_alloc m (length image) name).answer ≡ Ok place = rw sized gives.answer in
        let after : mid ≡ (low_alloc m (length image) name).after = rw sized gives.after in
        let written : new ≡ with_low_bytes mid place image = builds.after ∙ ap (with_image mid (with_low_bytes mid place)) (ap image_of source ∙ made) in
        rw answer (record { answer = refl; after = written ∙ ap (λ (n : Memory). with_low_bytes n place image) after })

    pub lowered_for : (r : Result (List ℕ) Fault) → image_of (front_of (temp_bytes m) len) ≡ r → image_size r ≡ Ok size
        → IfOk r (λ image. Answers (lowered m image name) (Ok place) new)
    lowered_for (Err fault) made sized = tt
    lowered_for (Ok image) made sized =
        let same : length image ≡ size = cc in
        built_lowered image same made

    -- the image is at its front
    pub front-lowered : (r : Result (List ℕ) Fault) → image_of (front_of (temp_bytes m) len) ≡ r → image_size r ≡ Ok size
        → IfOk r (BeginsWith (low_bytes new place))
    front-lowered (Err fault) made sized = tt
    front-lowered (Ok image) made sized =
        let fresh : List ℕ = replicate (round_up size 16) 0 in
        let long : length fresh ≡ round_up size 16 = length-replicate (round_up size 16) 0 in
        let here : low_bytes mid place ≡ Some fresh = ap (λ (n : Memory). low_bytes n place) gives.after ∙ low_bytes-new m size place name laid gives.answer in
        let same : length image ≡ size = cc in (
          drop (length image) fresh,
          ap (λ (n : Memory). low_bytes n place) builds.after
              ∙ low_bytes-built mid place len image_of fresh image here (ap image_of source ∙ made) (omega (arith, long, same)),
        )

    -- what stays
    pub kept_lowered : IsText name → KeepsAll [] m new
    kept_lowered text =
        let one : Keeps [] [] m mid = rw gives.after (Keeps-low_alloc [] [] m size name laid text) in
        let two : Keeps [] [] mid new = rw builds.after (Keeps-build_low [] [] mid place len image_of (none_excepted place)) in
        let both = Keeps-more one two in
        λ lows. record {
          low = λ other bytes in_table h.
              ap (λ (n : Memory). low_bytes n other) builds.after
              ∙ low_bytes-build_low mid place other len image_of (low_place_apart m size place other name bytes laid gives.answer h)
              ∙ ap (λ (n : Memory). low_bytes n other) gives.after ∙ low_bytes-low_alloc m size name other bytes h;
          users = both.users;
          count = both.count;
        }

    pub grows_lowered : GrowsLow m new
    grows_lowered =
        let there = low-new_built m size place len name image_of laid gives.answer in
        (there.0, ap (λ (n : Memory). n.low) builds.after ∙ ap (λ (n : Memory). (build_low n place len image_of).after.low) gives.after ∙ there.1)

    pub beside_lowered : beside_low new ≡ beside_low m
    beside_lowered =
        ap beside_low builds.after ∙ beside-build_low mid place len image_of ∙ ap beside_low gives.after ∙ beside-low_alloc m size name

-- The image goes no further where no low block was given.
module _ (m mid : Memory) (user : ℕ) (name : List ℕ) (frugal : Bool) where
  through_refused : (short : Shortage) (image : List ℕ) → Answers (lowered m image name) (Err short) mid → Answers (through_low m user image name) (Err short) mid
  unfolding through_low
  through_refused short image gives = rw gives.answer (record { answer = refl; after = gives.after })

  pub through_ended : (r : Result (List ℕ) Fault) (e : RoomError) → IfOk r (λ image. Gives (lowered m image name) frugal m (room_answer (Err e)) mid)
      → IfOk r (λ image. GivesOrEnds (through_low m user image name) frugal (room_answer (Err e)) mid)
  through_ended (Err fault) e gives = tt
  through_ended (Ok image) (error.NoRoom asked room) gives = through_refused _ image gives
  through_ended (Ok image) error.OutOfMemory gives = gives.not_frugal
