-- The image of a brush model: the version, where each section begins and how many rows it has, and the sections.
use Rattle.std.specs.Prelude.{ℕ, ◌+◌, List, [], ◌∷◌, ◌++◌, length, Result, Ok, Err}
use Rattle.base_fields.specs.Fields.{u32_bytes}
use Rattle.bsp29_tables.specs.declared.fault.BspFault.{BspFault}
use Rattle.bsp29_tables.specs.Checks.{Checked}
use Rattle.bsp29_tables.specs.Order.{check_of}
use Rattle.bsp29_build.specs.declared.sections.Section.{Section}
use Rattle.bsp29_build.specs.Sections.{all_sections, count_in, bytes_in}

module _ (file : List ℕ) where
  -- where the section begins that stands behind this one
  abbrev pub end_of : (start : ℕ) → Section → ℕ
  end_of start s = start + length (bytes_in file start s)

  -- the places and the counts of sections that stand one behind the other
  unfoldable pub header_from : (start : ℕ) → List Section → List ℕ
  header_from start [] = []
  header_from start (s ∷ ss) =
      u32_bytes start ++ (u32_bytes (count_in file s) ++ header_from (end_of start s) ss)

  -- the sections themselves
  unfoldable pub sections_from : (start : ℕ) → List Section → List ℕ
  sections_from start [] = []
  sections_from start (s ∷ ss) = bytes_in file start s ++ sections_from (end_of start s) ss

  unfoldable pub image : List ℕ
  image = u32_bytes 29 ++ (header_from 132 all_sections ++ sections_from 132 all_sections)

-- the image, where no fault was found
abbrev pub where_fine : List ℕ → Checked → Result (List ℕ) BspFault
where_fine made (Ok nothing) = Ok made
where_fine made (Err fault) = Err fault

-- the image of a file, or its first fault
unfoldable pub image_of : List ℕ → Result (List ℕ) BspFault
image_of file = where_fine (image file) (check_of file)
