-- Loads over a pack with an entry that ends past it, and a folder with two files. The memory has 65536 bytes, and its low hunk
-- ends at 49168.
use Rattle.std.proofs.Common.{◌≡◌, ℕ, List, [], ◌∷◌, ◌++◌, replicate, Option, Some, None, IfSome, codes, refl}
use Rattle.base_fields.specs.Names.{base_of}
use Rattle.outside_io.specs.Files.{File}
use Rattle.mem_model.specs.Memory.{Memory, new_memory}
use Rattle.mem_model.specs.Cache.{pushed_up, up_in, pushed_down, down_in}
use Rattle.mem_model.specs.Hunk.{over, with_low, with_high, without_temp, low_bytes, with_low_bytes, temp_bytes, with_temp_bytes}
use Rattle.mem_model.specs.Operations.{low_alloc, high_taken, temp_alloc}
use Rattle.search_paths.specs.declared.answers.MountRow.TheVariants.{Pack}
use Rattle.search_paths.specs.Mounts.{Mount, file_within, folder_mount}
use Rattle.file_load.specs.Loads.{Missing, Beyond, NoRoom, At, low_load, temp_load, load_low, load_temp}

abbrev fresh : Memory
fresh = new_memory 65536 49152 8 0

-- the room is 32
abbrev tight : Memory
tight = new_memory 49200 49152 8 0

abbrev file : List ℕ → List ℕ → File
file name bytes = record { name = name; bytes = bytes }

abbrev path : List (Option Mount)
path = Some (record { row = Pack 0 0 1; files = record { name = codes "x.txt"; file = file_within (replicate 76 0) 70 10 } ∷ [] })
    ∷ Some (folder_mount 0 (file (codes "a.txt") (codes "hello") ∷ file (codes "b") (replicate 16 7) ∷ [])) ∷ None ∷ []

in_a_low_block : IfSome (load_low path fresh (codes "a.txt")) (λ given. (given.load ≡ At 49184 (codes "hello")) × (low_bytes given.after 49184 ≡ Some (codes "hello" ++ replicate 11 0)))
unfolding low_load low_alloc with_low pushed_up up_in base_of low_bytes with_low_bytes over
in_a_low_block = (refl, refl)

in_the_temporary_block : IfSome (load_temp path fresh (codes "a.txt")) (λ given. (given.load ≡ At 65520 (codes "hello")) × (temp_bytes given.after ≡ Some (codes "hello" ++ replicate 11 0)))
unfolding temp_load temp_alloc high_taken with_high without_temp pushed_down down_in temp_bytes with_temp_bytes over
in_the_temporary_block = (refl, refl)

-- The byte behind the file's 16 asks for 16 more.
no_room : load_low path tight (codes "b") ≡ Some (record { load = NoRoom (record { asked = 48; room = 32 }); after = tight })
unfolding low_load low_alloc base_of
no_room = refl

past_the_pack : load_low path tight (codes "x.txt") ≡ Some (record { load = Beyond 80 76; after = tight })
unfolding low_load
past_the_pack = refl

-- A mount that isn't told hides what is behind it, and nothing in front of it.
untold : load_temp path fresh (codes "A.txt") ≡ None
untold = refl

nowhere : load_temp (Some (folder_mount 0 []) ∷ []) fresh (codes "A.txt") ≡ Some (record { load = Missing; after = fresh })
unfolding temp_load
nowhere = refl
