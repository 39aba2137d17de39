-- What a load loaded.
use Rattle.std.proofs.Common.{◌≡◌, ℕ, ◌+◌, ◌≤◌, ◌^◌, List, [], ◌++◌, length, take, Option, Some, None, Result, Ok, Err, IfSome, refl, sym, ap, ◌∙◌, arith}
use Rattle.std.specs.Prelude.{Bool, true, false, IfOk, IsErrOf, IsSomeAnd}
use Rattle.std.proofs.lemmas.List.{length-append, length-take}
use Rattle.std.proofs.Math.Seq.{take-append_seam}
use Rattle.mem_model.specs.Answer.{Answered, Answers}
use Rattle.mem_model.specs.Cache.{peek_bytes}
use Rattle.mem_model.specs.Event.{Shortage}
use Rattle.mem_model.specs.Hunk.{temp_bytes}
use Rattle.mem_model.specs.Images.{HasBytes, front_of, image_size}
use Rattle.mem_model.specs.Keeps.{KeepsAll}
use Rattle.mem_model.specs.Laid.{Laid}
use Rattle.mem_model.specs.Memory.{Memory}
use Rattle.mem_model.proofs.Keeping.{none_excepted, peek_bytes-Keeps}
use Rattle.mem_model.proofs.Newest.{temp_bytes-small}
use Rattle.file_load.specs.Loads.{Load, Missing, Beyond, NoRoom, At, Loading, LoadsTemp, IsRefused, load_temp, padded, placed, sought, temp_block, temp_load, with_temp}
use Rattle.search_paths.specs.Mounts.{FileAt, Mount, find_told}
use Rattle.std.specs.Option.{option_map, ok_or}
use Rattle.file_load.specs.declared.errors.LoadError.{LoadError}
use Rattle.file_load.specs.declared.errors.LoadError.TheVariants as error
use Rattle.mem_model.specs.Told.{room_answer}
use Rattle.mem_model.specs.declared.answers.Place.{Place}
use Rattle.mem_model.specs.declared.answers.RoomError.{RoomError}
use Rattle.mem_model.specs.declared.answers.RoomError.TheVariants as room_error
use Rattle.res_table.specs.declared.answers.AcquireError.{AcquireError}
use Rattle.res_table.specs.declared.answers.AcquireError.TheVariants as why
use Rattle.res_table.specs.declared.answers.Fault.{Fault}
use Rattle.res_table.specs.declared.answers.Res.{Res}
use Rattle.res_table.specs.declared.builder.NewImage.{NewImage}
use Rattle.res_table.specs.declared.kinds.Kind.{Kind}
use Rattle.res_table.specs.declared.kinds.Table.{Table}
use Rattle.res_table.specs.declared.slots.Loaded.{Loaded}
use Rattle.res_table.specs.Held.{IsImageOf}
use Rattle.res_table.specs.Kept.{BeginsWith}
use Rattle.res_table.specs.Images.{image_of, kind_of}
use Rattle.res_table.specs.Loads.{IsMadeOf, Makes, from_image, made_of, new_res, sized, sized_as}
use Rattle.res_table.specs.Placed.{GivesOrEnds, put_as}
use Rattle.res_table.specs.Ready.{IsFree, IsReady, image_in}
use Rattle.res_table.specs.Refusals.{load_refused, room_refused}
use Rattle.res_table.proofs.Caching.{image_bounds}

-- the bytes of a temporary block are no more than an arena has
pub source_small : (m : Memory) (bytes : List ℕ) (n : ℕ) → Laid m → temp_bytes m ≡ Some bytes → length (take n bytes) ≤ 2 ^ 26
source_small m bytes n laid is = omega (arith, length-take n bytes, temp_bytes-small m bytes laid is)

-- a user has no block where it had none
still_absent : (m new : Memory) (user : ℕ) → KeepsAll [] m new → peek_bytes m.cache user ≡ None → peek_bytes new.cache user ≡ None
still_absent m new user kept absent = by (peek_bytes new.cache user) refl where
  by : (o : Option (List ℕ)) → peek_bytes new.cache user ≡ o → peek_bytes new.cache user ≡ None
  by None is = is
  by (Some bytes) is = (let before = peek_bytes-Keeps [] [] m new user bytes (kept []) (none_excepted user) is in absurd (cc))

pub still_free : (m new : Memory) (user : ℕ) → KeepsAll [] m new → IsFree m user → IsFree new user
still_free m new user kept free = record { known = rw (kept []).count free.known; absent = still_absent m new user kept free.absent }

-- What was loaded, where it was: the temporary bytes.
pub record IsSource (told : Option Loading) (new : Memory) (len : ℕ) : Type 0 where
  pub place : ℕ
  pub is : IfSome told (λ given. given ≡ record { load = At place (front_of (temp_bytes new) len); after = new })

front_padded : (bytes : List ℕ) (block : Option (List ℕ)) (len : ℕ) → block ≡ Some (padded bytes) → len ≡ length bytes → front_of block len ≡ bytes
front_padded bytes block len there same = rw (there, same) (take-append_seam bytes _)

loaded_source : (told : Option Loading) (new : Memory) (len : ℕ) → IfSome told (λ given. LoadsTemp given (Ok len) new) → IsSource told new len
loaded_source None new len h = record { place = 0; is = tt }
loaded_source (Some given) new len h =
    let source : front_of (temp_bytes new) len ≡ h.bytes = front_padded h.bytes (temp_bytes new) len h.there h.length in
    record { place = h.place; is = rw (source, h.after, ← h.load) refl }

pub small_front : (m : Memory) (len : ℕ) → Laid m → length (front_of (temp_bytes m) len) ≤ 2 ^ 26
small_front m len laid = by (temp_bytes m) refl where
  by : (o : Option (List ℕ)) → temp_bytes m ≡ o → length (front_of o len) ≤ 2 ^ 26
  by None is = omega (arith, length-take {A = ℕ} len [])
  by (Some bytes) is = source_small m bytes len laid is

-- An image that is to be made: the bytes have one of their kind.
pub record IsSized (speed count : ℕ) (bytes : List ℕ) (kind : Kind) (new : NewImage) : Type 0 where
  pub speed_is : new.builder.speed ≡ speed
  pub kind_is : kind ≡ new.builder.kind
  pub count_is : new.length ≡ count
  pub image : List ℕ
  pub made_is : image_of new.builder.speed new.builder.kind bytes ≡ Ok image
  pub size : new.size ≡ length image

pub is_sized : (speed count : ℕ) (bytes : List ℕ) (kind : Kind) (new : NewImage) → Ok new ≡ sized_as speed count bytes kind → IsSized speed count bytes kind new
is_sized speed count bytes kind new h = by (image_of speed kind bytes) refl h where
  by : (r : Result (List ℕ) Fault) → image_of speed kind bytes ≡ r → Ok new ≡ sized speed count kind r → IsSized speed count bytes kind new
  by (Err fault) is h = absurd (cc)
  by (Ok image) is h =
      let same : new ≡ record { builder = record { speed = speed; kind = kind }; length = count; size = length image } = cc in
      let speed_is : new.builder.speed ≡ speed = ap (λ (n : NewImage). n.builder.speed) same in
      let kind_is : new.builder.kind ≡ kind = ap (λ (n : NewImage). n.builder.kind) same in
      record {
        speed_is = speed_is;
        kind_is = sym kind_is;
        count_is = ap (λ (n : NewImage). n.length) same;
        image = image;
        made_is = rw (speed_is, kind_is) is;
        size = ap (λ (n : NewImage). n.size) same;
      }

-- it can be made
pub is_ready : (m : Memory) (speed count : ℕ) (kind : Kind) (new : NewImage) → Laid m → HasBytes (temp_bytes m) count
    → Ok new ≡ sized_as speed count (front_of (temp_bytes m) count) kind → IsReady m new
is_ready m speed count kind new laid has h =
    let is = is_sized speed count (front_of (temp_bytes m) count) kind new h in
    let image : image_size (image_of new.builder.speed new.builder.kind (front_of (temp_bytes m) count)) ≡ Ok new.size = ap image_size is.made_is ∙ ap (λ n. Ok n) (sym is.size) in
    record {
      source = rw is.count_is has;
      image = rw is.count_is image;
      some = (image_bounds new.builder.speed new.builder.kind (front_of (temp_bytes m) count) new.size (small_front m count laid) image).0;
    }

module _ (speed : ℕ) (table : Table) (user : ℕ) (base : List ℕ) where
  abbrev make : Loading → Answered (Result Res AcquireError)
  make = made_of speed table user base

  -- no file is loaded
  refusal_of : (told : Option Loading) (load : Load) (new : Memory) → IfSome told (λ given. IsRefused given load new)
      → IfSome told (λ given. given ≡ record { load = load; after = new })
  refusal_of None load new h = tt
  refusal_of (Some given) load new h = rw (h.after, ← h.load) refl

  pub failed_load : (told : Option Loading) (e : LoadError) (new : Memory) → IfSome told (λ given. LoadsTemp given (Err e) new)
      → Makes make told (Err (load_refused e)) new
  unfolding made_of
  failed_load told error.NotFound new h = record {
    loading = record { load = Missing; after = new };
    tells = refusal_of told Missing new h;
    made = record { answer = refl; after = refl };
  }
  failed_load told (error.BeyondPack end whole) new h = record {
    loading = record { load = Beyond end whole; after = new };
    tells = refusal_of told (Beyond end whole) new h;
    made = record { answer = refl; after = refl };
  }
  failed_load told (error.NoRoom asked room) new h = record {
    loading = record { load = NoRoom (record { asked = asked; room = room }); after = new };
    tells = refusal_of told (NoRoom (record { asked = asked; room = room })) new h;
    made = record { answer = refl; after = refl };
  }
  failed_load told (error.FolderFault folder at) new h = tt
  failed_load told error.OutOfMemory new h = tt

  -- A file was loaded: these are its bytes.
  module _ (told : Option Loading) (mid : Memory) (len : ℕ) (loads : IfSome told (λ given. LoadsTemp given (Ok len) mid)) where
    abbrev source : List ℕ
    source = front_of (temp_bytes mid) len

    is_made : (result : Result Res AcquireError) (new : Memory) → Answers (from_image mid user base (kind_of table source) (image_of speed (kind_of table source) source)) result new
        → IsMadeOf make told result new
    unfolding made_of
    is_made result new given =
        let found = loaded_source told mid len loads in
        record { loading = record { load = At found.place source; after = mid }; tells = found.is; made = given }

    -- they have no image
    no_image : (fault : Fault) (kind : Kind) (r : Result (List ℕ) Fault) → Err fault ≡ sized speed len kind r → Answers (from_image mid user base kind r) (Err (why.Bad fault)) mid
    no_image fault kind (Ok image) h = absurd (cc)
    no_image fault kind (Err other) h = (let same : other ≡ fault = cc in record { answer = ap (λ (f : Fault). Err (why.Bad f)) same; after = refl })

    pub bad_image : (fault : Fault) → Err fault ≡ sized_as speed len source (kind_of table source) → Makes make told (Err (why.Bad fault)) mid
    bad_image fault is =
        is_made (Err (why.Bad fault)) mid (no_image fault (kind_of table source) (image_of speed (kind_of table source) source) is)

    -- they have one
    module _ (made : NewImage) (is : Ok made ≡ sized_as speed len source (kind_of table source)) where
      made_as : IsSized speed len source (kind_of table source) made
      made_as = is_sized speed len source (kind_of table source) made is

      in_source : image_in mid made ≡ Ok made_as.image
      in_source = ap (λ n. image_of made.builder.speed made.builder.kind (front_of (temp_bytes mid) n)) made_as.count_is ∙ made_as.made_is

      from_sized : (result : Result Res AcquireError) (new : Memory) → Answers (from_image mid user base made.builder.kind (Ok made_as.image)) result new
          → IsMadeOf make told result new
      from_sized result new given =
          let image : image_of speed made.builder.kind source ≡ Ok made_as.image = ap (λ n. image_of n made.builder.kind source) (sym made_as.speed_is) ∙ made_as.made_is in
          is_made result new (rw (made_as.kind_is, image) given)

      -- no block is given for it
      pub no_block : (e : RoomError) (frugal : Bool) (new : Memory)
          → IfOk (image_in mid made) (λ image. GivesOrEnds (put_as made.builder.kind mid user image base) frugal (room_answer (Err e)) new)
          → Makes make told (Err (room_refused e)) new
      no_block (room_error.NoRoom asked room) frugal new given =
          let answers = rw in_source at given in
          from_sized (Err (why.NoRoom asked room)) new (record { answer = ap (new_res made.builder.kind (length made_as.image)) answers.answer; after = answers.after })
      no_block room_error.OutOfMemory frugal new given = tt

      pub none_frugal : (e : RoomError) (frugal : Bool) (new : Memory)
          → IfOk (image_in mid made) (λ image. GivesOrEnds (put_as made.builder.kind mid user image base) frugal (room_answer (Err e)) new)
          → IsErrOf {T = Res} (Err (room_refused e)) why.OutOfMemory → frugal ≡ false
      none_frugal (room_error.NoRoom asked room) frugal new given out = absurd (cc)
      none_frugal room_error.OutOfMemory frugal new given out = rw in_source at given

      -- it is in its block
      pub built : (place : ℕ) (new : Memory) → IfOk (image_in mid made) (λ image. Answers (put_as made.builder.kind mid user image base) (Ok place) new)
          → IsMadeOf make told (Ok (record { kind = made.builder.kind; size = made.size; place = place; loaded = true })) new
      built place new given =
          let answers = rw in_source at given in
          from_sized _ new (record {
            answer = ap (new_res made.builder.kind (length made_as.image)) answers.answer ∙ ap (λ (n : ℕ). Ok (record { kind = made.builder.kind; size = n; place = place; loaded = true })) (sym made_as.size);
            after = answers.after;
          })

-- The bytes that were loaded are the file's, where the mounts tell it.
told_file : (m mid : Memory) (file : List ℕ) (len : ℕ) (sight : Option (ℕ × FileAt)) → LoadsTemp (temp_load m file sight) (Ok len) mid
    → sought sight ≡ Ok (front_of (temp_bytes mid) len)
unfolding temp_load
told_file m mid file len None h = (let load = h.load in absurd (cc))
told_file m mid file len (Some found) h = by found.1.bytes refl where
  source : front_of (temp_bytes mid) len ≡ h.bytes
  source = front_padded h.bytes (temp_bytes mid) len h.there h.length

  placed_is : (bytes : List ℕ) (given : Result ℕ Shortage) (n : Memory) → (placed with_temp bytes n given).load ≡ At h.place h.bytes → bytes ≡ h.bytes
  placed_is bytes (Ok place) n load = cc
  placed_is bytes (Err short) n load = absurd (cc)

  by : (bytes : Option (List ℕ)) → found.1.bytes ≡ bytes → ok_or bytes (Beyond (found.1.offset + found.1.size) found.1.whole) ≡ Ok (front_of (temp_bytes mid) len)
  by None is = (let load = rw is at h.load in absurd (cc))
  by (Some bytes) is =
      let load = rw is at h.load in
      ap (λ (b : List ℕ). Ok b) (placed_is bytes (temp_block m (length bytes)).answer (temp_block m (length bytes)).after load ∙ sym source)

told_source : (m mid : Memory) (file : List ℕ) (len : ℕ) (told : Option (Option (ℕ × FileAt))) → IfSome (option_map (temp_load m file) told) (λ given. LoadsTemp given (Ok len) mid)
    → IfSome told (λ found. sought found ≡ Ok (front_of (temp_bytes mid) len))
told_source m mid file len None h = tt
told_source m mid file len (Some found) h = told_file m mid file len found h

-- What is in the block is the image of the file.
module _ (speed : ℕ) (table : Table) (file : List ℕ) (mounts : List (Option Mount)) (m mid : Memory) (len : ℕ) (made : NewImage) (low : Option Place) (block : Option (List ℕ)) (laid : Laid mid)
    (loads : IfSome (load_temp mounts m file) (λ given. LoadsTemp given (Ok len) mid)) where
  abbrev bytes_in : List ℕ
  bytes_in = front_of (temp_bytes mid) len

  abbrev kept_as : Loaded
  kept_as = record { kind = made.builder.kind; size = made.size; low = low }

  image_at : (image rest : List ℕ) → kind_of table bytes_in ≡ made.builder.kind → image_of speed made.builder.kind bytes_in ≡ Ok image → made.size ≡ length image
      → IsImageOf speed mounts table file kept_as (image ++ rest)
  image_at image rest kind is size =
      let front : take made.size (image ++ rest) ≡ image = ap (λ n. take n (image ++ rest)) size ∙ take-append_seam image rest in
      record {
        source = bytes_in;
        small = small_front mid len laid;
        kind = kind;
        image = is ∙ ap (λ (b : List ℕ). Ok b) (sym front);
        fits = omega (arith, size, length-append image rest);
        told = told_source m mid file len (find_told file mounts) loads;
      }

  pub image_loaded : Ok made ≡ sized_as speed len bytes_in (kind_of table bytes_in) → IfOk (image_in mid made) (BeginsWith block)
      → IsSomeAnd block (IsImageOf speed mounts table file kept_as)
  image_loaded h built =
      let is = is_sized speed len bytes_in (kind_of table bytes_in) made h in
      let here : image_in mid made ≡ Ok is.image = ap (λ n. image_of made.builder.speed made.builder.kind (front_of (temp_bytes mid) n)) is.count_is ∙ is.made_is in
      let begins : BeginsWith block is.image = rw here at built in
      let image : image_of speed made.builder.kind bytes_in ≡ Ok is.image = ap (λ n. image_of n made.builder.kind bytes_in) (sym is.speed_is) ∙ is.made_is in
      rw begins.1 (image_at is.image begins.0 is.kind_is image is.size)
