-- What is answered for a pack.
use Rattle.std.specs.Prelude.{◌≡◌, ℕ, ⊤, List, length, take, Option, Some, None, IfSome, Result, Ok, Err, IsOk}
use Rattle.outside_io.specs.Files.{File, bytes_of}
use Rattle.pack_files.specs.declared.faults.PackFault.{PackFault}
use Rattle.pack_files.specs.declared.faults.PackError.{PackError}
use Rattle.pack_files.specs.declared.faults.PackError.TheVariants.{Bad, FolderFault, OutOfMemory}
use Rattle.pack_files.specs.Packs.{PackTable, fault_of}

-- this holds of the bytes of the first file of this name, where the folder tells its files and has one
abbrev pub IfTold : Option (List File) → List ℕ → (List ℕ → Type 0) → Type 0
IfTold told name P = IfSome told (λ files. IfSome (bytes_of name files) P)

-- The table or the fault is the one that the bytes have. A fault of the folder says nothing of them, and memory is wanted
-- only for a pack that is taken.
abbrev pub IsAnswer : Result PackTable PackFault → Result PackTable PackError → Type 0
IsAnswer packed (Ok table) = packed ≡ Ok table
IsAnswer packed (Err (Bad fault)) = packed ≡ Err fault
IsAnswer packed (Err FolderFault) = ⊤
IsAnswer packed (Err OutOfMemory) = IsOk packed

-- the same of the header alone: it is the first 12 bytes, and there is no fault
abbrev pub IsHeader : List ℕ → Result (List ℕ) PackError → Type 0
IsHeader bytes (Ok header) = (header ≡ take 12 bytes) × (fault_of bytes (length bytes) ≡ None)
IsHeader bytes (Err (Bad fault)) = fault_of bytes (length bytes) ≡ Some fault
IsHeader bytes (Err FolderFault) = ⊤
IsHeader bytes (Err OutOfMemory) = ⊥
