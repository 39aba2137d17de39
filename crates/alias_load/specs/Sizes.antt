-- What is known of the parts of a file that was read.
use Rattle.std.specs.Prelude.{ℕ, ◌≡◌, ◌+◌, ◌*◌, ◌≤◌, ◌^◌, ◌⊎◌, true, false, List, length, None, Ok}
use Rattle.std.specs.List.{AllByRecursion}
use Rattle.base_fields.specs.Faults.{first_fault}
use Rattle.base_fields.specs.Fields.{u32_in}
use Rattle.part_plan.specs.Plan.{run}
use Rattle.alias_load.specs.declared.header.Kind.{Kind}
use Rattle.alias_load.specs.declared.file.File.{File}
use Rattle.alias_load.specs.Models.{Head, Series, Alias}
use Rattle.alias_load.specs.Reading.{header_tests, is_single, many, skins_of, frames_of, numskins}
use Rattle.alias_load.specs.Reading.{numverts, numtris, numframes, all_series, alias}
use Rattle.alias_load.specs.Images.{count_of}

-- a group has its count, with its bounds, and its intervals; it has no more than 1024 pictures or poses
abbrev pub IsHead : Kind → Head → Type 0
IsHead kind h =
    (is_single h ≡ true)
    ⊎ ((is_single h ≡ false) × (length h.count ≡ 4 + kind.bounds) × (length h.intervals ≡ 4 * u32_in h.count 0)
    × (u32_in h.count 0 ≤ 1024))

pub record IsSeries (kind : Kind) (x : Series) : Type 0 where
  pub head : IsHead kind x.head
  pub number : length x.items ≡ many x.head
  pub items : AllByRecursion (λ item. length item ≡ kind.item) x.items

pub record IsAlias (model : Alias) : Type 0 where
  pub header : length model.header ≡ 84
  pub passed : first_fault (header_tests model.header) ≡ None
  pub skins : AllByRecursion (IsSeries (skins_of model.header)) model.skins
  pub numskins : length model.skins ≡ numskins model.header
  pub st_vertices : length model.st_vertices ≡ 12 * numverts model.header
  pub triangles : length model.triangles ≡ 16 * numtris model.header
  pub frames : AllByRecursion (IsSeries (frames_of model.header)) model.frames
  pub numframes : length model.frames ≡ numframes model.header

-- A file's parts, its skins from their first one on and its frames from theirs, and how many pictures and poses it has.
pub record HasParts (bytes header skins : List ℕ) (pictures : ℕ) (st_vertices triangles frames : List ℕ) (poses : ℕ)
    : Type 0 where
  pub model : Alias
  pub rest : List ℕ
  pub read : run alias bytes ≡ Ok (model, rest)
  pub is : IsAlias model
  pub header_is : model.header ≡ header
  pub skins_rest : List ℕ
  pub skins_read : run (all_series (skins_of header) (numskins header)) skins ≡ Ok (model.skins, skins_rest)
  pub pictures_are : count_of model.skins ≡ pictures
  pub st_vertices_are : model.st_vertices ≡ st_vertices
  pub triangles_are : model.triangles ≡ triangles
  pub frames_rest : List ℕ
  pub frames_read : run (all_series (frames_of header) (numframes header)) frames ≡ Ok (model.frames, frames_rest)
  pub poses_are : count_of model.frames ≡ poses

abbrev pub IsFile : List ℕ → File → Type 0
IsFile bytes file =
    HasParts bytes file.header.now file.skins.now file.pictures file.st_vertices.now file.triangles.now file.frames.now
    file.poses

-- The header passed its tests, and the pictures and poses are few.
pub record IsSound (file : File) : Type 0 where
  pub long : length file.header.now ≡ 84
  pub passed : first_fault (header_tests file.header.now) ≡ None
  pub pictures : file.pictures ≤ 2 ^ 24
  pub poses : file.poses ≤ 2 ^ 24
  pub skins_small : length file.skins.now ≤ 2 ^ 26
  pub frames_small : length file.frames.now ≤ 2 ^ 26
