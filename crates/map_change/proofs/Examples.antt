-- A game with two sprites on the low hunk, behind a zone of 49152 bytes. The level lies between them.
use Rattle.std.proofs.Common.{◌≡◌, ℕ, List, [], ◌∷◌, ◌++◌, false, arith, replicate, Option, Some, None, Ok, Err, codes, refl}
use Rattle.mem_model.specs.declared.answers.Place.{Place}
use Rattle.mem_model.specs.Blocks.{HunkBlock}
use Rattle.mem_model.specs.Memory.{Memory, new_memory}
use Rattle.mem_model.specs.Operations.{low_free}
use Rattle.search_paths.specs.Mounts.{folder_mount}
use Rattle.file_load.specs.Loads.{load_temp, temp_load}
use Rattle.res_table.specs.declared.answers.AcquireError.TheVariants as error
use Rattle.res_table.specs.declared.kinds.Kind.TheVariants.{Sprite}
use Rattle.res_table.specs.declared.slots.Loaded.{Loaded}
use Rattle.res_table.specs.Acquire.{answered_after, answered_before}
use Rattle.res_table.specs.Loads.{made_of}
use Rattle.res_table.specs.Resources.{Resources}
use Rattle.map_change.specs.Marks.{IsLowMark}
use Rattle.map_change.specs.Changes.{change_map, freed_to}

abbrev block : List ℕ → HunkBlock
block name = record { size = 96; name = name; bytes = replicate 80 7 }

abbrev empty : Memory
empty = new_memory 65536 49152 768 0

abbrev with_one : Memory
with_one = record empty { low = empty.low ++ block (codes "a") ∷ [] }

abbrev with_two : Memory
with_two = record empty { low = empty.low ++ block (codes "a") ∷ block (codes "b") ∷ [] }

abbrev sprite : Option Place → Loaded
sprite low = record { kind = Sprite; size = 78; low = low }

abbrev sprites : (second : Option Place) → Resources
sprites second = record {
  speed = 11_025;
  models = (codes "a.spr", sprite (Some (record { 0 = 49184 }))) ∷ (codes "b.spr", sprite second) ∷ [];
  sounds = [];
}

abbrev both : Resources
both = sprites (Some (record { 0 = 49280 }))

-- The marks are where the zone's block and the others end.
marks : IsLowMark with_two.low 49168 × IsLowMark with_two.low 49264 × IsLowMark with_two.low 49360
marks = (
  record { count = 1; some = omega arith; inside = omega arith; ends = refl },
  record { count = 2; some = omega arith; inside = omega arith; ends = refl },
  record { count = 3; some = omega arith; inside = omega arith; ends = refl },
)

-- The first sprite is present still, and the other one is absent.
to_the_first : change_map both with_two 49264 (codes "a.spr") None ≡ Some (record {
  answer = Ok (record { kind = Sprite; size = 78; place = 49184; loaded = false });
  table = sprites None;
  after = with_one;
})
unfolding answered_before low_free
to_the_first = refl

-- The file of the other one is needed, and where there is none the freeing stands.
to_the_other : change_map both with_two 49264 (codes "b.spr") None ≡ None
unfolding answered_before low_free
to_the_other = refl

to_no_file : change_map both with_two 49264 (codes "b.spr") (load_temp (Some (folder_mount 0 []) ∷ []) (freed_to 49264 with_two) (codes "b.spr"))
    ≡ Some (record { answer = Err error.NotFound; table = sprites None; after = with_one })
unfolding answered_before answered_after made_of temp_load low_free
to_no_file = refl
