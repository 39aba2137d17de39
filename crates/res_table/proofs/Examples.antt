-- A game with two sounds in its table, of which one is in the cache. No mount has a file.
use Rattle.std.proofs.Common.{◌≡◌, ℕ, ◌+◌, List, [], ◌∷◌, ◌++◌, false, replicate, Option, Some, None, Ok, Err, codes, refl}
use Rattle.mem_model.specs.declared.answers.Place.{Place}
use Rattle.mem_model.specs.Cache.{evictions, peek_bytes, pushed_up, up_in, with_fitted}
use Rattle.mem_model.specs.Hunk.{over, with_low, with_low_bytes}
use Rattle.mem_model.specs.Images.{with_cache_bytes, with_user_bytes}
use Rattle.mem_model.specs.Memory.{Memory, cache_of, new_memory}
use Rattle.mem_model.specs.Places.{fit}
use Rattle.mem_model.specs.Operations.{cache_alloc, check, low_alloc, low_free}
use Rattle.search_paths.specs.Mounts.{folder_mount}
use Rattle.file_load.specs.Loads.{Loading, load_temp, temp_load}
use Rattle.res_table.specs.declared.answers.AcquireError.TheVariants as error
use Rattle.res_table.specs.declared.kinds.Kind.TheVariants.{Brush, Alias, Sprite, Wad, Sound}
use Rattle.res_table.specs.declared.kinds.Table.TheVariants.{Models, Sounds}
use Rattle.res_table.specs.declared.slots.Loaded.{Loaded}
use Rattle.res_table.specs.Acquire.{acquire, answered_after, answered_before}
use Rattle.res_table.specs.Forgotten.{forgotten}
use Rattle.res_table.specs.Held.{seen}
use Rattle.res_table.specs.Images.{kind_of}
use Rattle.res_table.specs.Loads.{made_of}
use Rattle.res_table.specs.Placed.{cached, lowered, through_low}
use Rattle.res_table.specs.Resources.{Resources}
use Rattle.res_table.specs.Tables.{entered, found_in, slot_for}

abbrev sound : ℕ → Loaded
sound size = record { kind = Sound; size = size; low = None }

abbrev table : Resources
table = record { speed = 11_025; models = []; sounds = (codes "a.wav", sound 21) ∷ (codes "b.wav", sound 22) ∷ [] }

-- Users 256 and 257 are those of the slots. A block of 64 bytes has 24 for an image, and another user was used since.
abbrev memory : Memory
memory = record (new_memory 65536 49152 768 0) {
  cache = cache_of
      (record { place = 49168; size = 64; user = 257; name = codes "b"; bytes = replicate 24 7 }
      ∷ record { place = 49232; size = 64; user = 0; name = []; bytes = replicate 24 8 } ∷ [])
      (0 ∷ 257 ∷ []);
}

abbrev nowhere : List ℕ → Option Loading
nowhere file = load_temp (Some (folder_mount 0 []) ∷ []) memory file

in_the_second_slot : found_in (codes "b.wav") table.sounds ≡ Some (1, sound 22)
in_the_second_slot = refl

-- A further name gets the next slot, and a name that is there keeps its own.
slots : (slot_for (codes "c.wav") table.sounds ≡ 2) × (entered table.sounds (codes "a.wav") (sound 30) ≡ (codes "a.wav", sound 30) ∷ (codes "b.wav", sound 22) ∷ [])
slots = (refl, refl)

-- It is used once, and no file is asked for.
present : acquire table memory Sounds (codes "b.wav") None ≡ Some (record {
  answer = Ok (record { kind = Sound; size = 22; place = 49208; loaded = false });
  table = table;
  after = record memory { cache = cache_of memory.cache.blocks (257 ∷ 0 ∷ []) };
})
unfolding answered_before check
present = refl

shown : (seen table memory Sounds (codes "b.wav") ≡ Some (Sound, replicate 22 7)) × (seen table memory Sounds (codes "a.wav") ≡ None)
unfolding peek_bytes
shown = (refl, refl)

-- A sound that left the cache is in its table still, and its file is needed.
gone : acquire table memory Sounds (codes "a.wav") (nowhere (codes "sound/a.wav")) ≡ Some (record { answer = Err error.NotFound; table = table; after = memory })
unfolding answered_before answered_after made_of temp_load
gone = refl

untold : acquire table memory Sounds (codes "a.wav") None ≡ None
unfolding answered_before
untold = refl

abbrev full : Resources
full = record { speed = 11_025; models = []; sounds = replicate 512 (codes "a.wav", sound 21) }

-- whether or not there is a file
no_further_name : acquire full memory Sounds (codes "c.wav") (nowhere (codes "sound/c.wav")) ≡ Some (record { answer = Err error.TableFull; table = full; after = memory })
unfolding answered_before
no_further_name = refl

-- The kind of a model stands in its first four bytes. A file that is shorter than those is taken for a brush.
kinds : (kind_of Models (codes "IDPO1") ≡ Alias) × (kind_of Models (codes "IDSP") ≡ Sprite) × (kind_of Models (codes "WAD2") ≡ Wad)
kinds = (refl, refl, refl)

a_sound : kind_of Sounds (codes "IDSP") ≡ Sound
a_sound = refl

a_brush : (kind_of Models (codes "IDP") ≡ Brush) × (kind_of Models [] ≡ Brush)
a_brush = (refl, refl)

-- An arena with a zone alone, and the room behind it.
abbrev arena : (room : ℕ) → Memory
arena room = new_memory (49168 + room) 49152 768 0

-- Three bytes on the low hunk stand behind the header of their block, which has 32 bytes.
abbrev with_block : Memory
with_block = record (arena 4096) { low = (arena 4096).low ++ record { size = 32; name = codes "p"; bytes = 1 ∷ 2 ∷ 3 ∷ replicate 13 0 } ∷ [] }

on_the_low_hunk : lowered (arena 4096) (1 ∷ 2 ∷ 3 ∷ []) (codes "p") ≡ record { answer = Ok 49184; after = with_block }
unfolding lowered low_alloc with_low with_low_bytes over pushed_up up_in
on_the_low_hunk = refl

-- By way of the low hunk they come to stand where that block ended, behind the header of a block of the cache, and the low hunk is as
-- it was.
abbrev with_cached : Memory
with_cached = record (arena 4096) {
  cache = cache_of (record { place = 49200; size = 48; user = 3; name = codes "g"; bytes = 1 ∷ 2 ∷ 3 ∷ replicate 5 0 } ∷ []) (3 ∷ []);
}

by_way_of_the_low_hunk : through_low (arena 4096) 3 (1 ∷ 2 ∷ 3 ∷ []) (codes "g") ≡ record { answer = Ok 49240; after = with_cached }
unfolding through_low cached lowered low_alloc low_free with_low with_low_bytes over pushed_up up_in cache_alloc with_cache_bytes with_user_bytes with_fitted fit evictions
by_way_of_the_low_hunk = refl

-- Where the low block leaves too little room for that of the cache, it is freed again.
no_room_for_both : through_low (arena 64) 3 (1 ∷ 2 ∷ 3 ∷ []) (codes "g") ≡ record { answer = Err (record { asked = 48; room = 32 }); after = arena 64 }
unfolding through_low cached lowered low_alloc low_free with_low with_low_bytes over pushed_up up_in cache_alloc
no_room_for_both = refl

-- Two sprites, whose blocks begin at 49168 and at 49264. A level of 49264 keeps the first alone.
abbrev sprite : ℕ → Loaded
sprite place = record { kind = Sprite; size = 78; low = Some (record { 0 = place }) }

abbrev sprites : Option Place → Resources
sprites second = record {
  speed = 11_025;
  models = (codes "a.spr", sprite 49184) ∷ (codes "b.spr", record (sprite 0) { low = second }) ∷ [];
  sounds = (codes "a.wav", sound 21) ∷ [];
}

a_level : forgotten 49264 (sprites (Some (record { 0 = 49280 }))) ≡ sprites None
a_level = refl

a_level_behind : forgotten 49265 (sprites (Some (record { 0 = 49280 }))) ≡ sprites (Some (record { 0 = 49280 }))
a_level_behind = refl
