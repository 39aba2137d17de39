-- How many reads of its folder a pack takes.
use Rattle.std.specs.Prelude.{◌≡◌, ℕ, ◌+◌, ◌≤◌, nat_lt, if◌then◌else◌, List, length, Option, Result, Ok, Err}
use Rattle.std.specs.Result.{is_ok}
use Rattle.outside_io.specs.Causes.{many_more}
use Rattle.outside_io.specs.Files.{File}
use Rattle.pack_files.specs.declared.faults.PackError.{PackError}
use Rattle.pack_files.specs.declared.faults.PackError.TheVariants.{Bad, FolderFault, OutOfMemory}
use Rattle.pack_files.specs.Answers.{IfTold}
use Rattle.pack_files.specs.Packs.{PackTable, pack_of}

-- one of its header, unless it is too short to have one
abbrev pub header_reads : ℕ → ℕ
header_reads size = if nat_lt size 12 then 0 else 1

-- and one more of its directory, where it is a pack that is taken
abbrev pub reads_of : List ℕ → ℕ
reads_of bytes = header_reads (length bytes) + (if is_ok (pack_of bytes) then 1 else 0)

-- what the answer says of the number of reads
abbrev pub HasRead : ℕ → ℕ → Result PackTable PackError → Type 0
HasRead size reads (Ok table) = reads ≡ 2
HasRead size reads (Err (Bad fault)) = reads ≡ header_reads size
HasRead size reads (Err FolderFault) = (1 ≤ reads) × (reads ≤ 2)
HasRead size reads (Err OutOfMemory) = (1 ≤ reads) × (reads ≤ 2)

-- A pack of this name and size was read: so many calls of its folder were made, and no more than the pack takes.
pub record Reads {F : Type 0} (files : F → Option (List File)) (calls : F → ℕ) (name : List ℕ) (size : ℕ) (before after : F)
    (result : Result PackTable PackError) : Type 0 where
  pub reads : ℕ
  pub called : calls after ≡ many_more reads (calls before)
  pub has_read : HasRead size reads result
  pub needed : IfTold (files before) name (λ bytes. reads ≤ reads_of bytes)

-- the rows are read, unless memory for them is wanting
abbrev pub row_reads : {T : Type 0} → Result T PackError → ℕ
row_reads (Ok rows) = 1
row_reads (Err (Bad fault)) = 1
row_reads (Err FolderFault) = 1
row_reads (Err OutOfMemory) = 0
