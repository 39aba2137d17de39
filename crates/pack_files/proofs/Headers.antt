-- What the header of a pack tells of its bytes.
use Rattle.std.proofs.Common.{◌≡◌, ℕ, ◌+◌, ◌*◌, ◌/◌, Bool, not, ◌||◌, List, length, take, Option, Some, None, IfSome, nat_eq, nat_lt, codes, refl, sym, ap, ◌∙◌, lit≤}
use Rattle.std.specs.Prelude.{slice_range, option_map, if◌then◌else◌}
use Rattle.std.specs.List.{starts_with}
use Rattle.std.specs.Cmp.Lexicographic.{pointwise}
use Rattle.std.specs.Option.{ForSome}
use Rattle.std.proofs.lemmas.List.{take-take}
use Rattle.base_fields.specs.Fields.{u32_in}
use Rattle.base_fields.proofs.FieldLaws.{u32_in-part}
use Rattle.outside_io.specs.Files.{File, bytes_of, length_of, IsPartOf}
use Rattle.pack_files.specs.declared.faults.PackFault.{PackFault}
use Rattle.pack_files.specs.declared.faults.PackFault.TheVariants.{NotPack, TooMany, DirOutside}
use Rattle.pack_files.specs.Packs.{fault_of}

-- the fault by what is read of the header
abbrev fault_by : Bool → ℕ → ℕ → ℕ → Option PackFault
fault_by begins place size whole =
    if nat_lt whole 12 || not begins then Some NotPack
    else if nat_lt 2048 (size / 64) then Some (TooMany (size / 64))
    else if nat_lt whole (place + 64 * (size / 64)) then Some DirOutside
    else None

-- the header has the fault that the pack has
pub fault_of-take : (bytes : List ℕ) (whole : ℕ) → fault_of (take 12 bytes) whole ≡ fault_of bytes whole
fault_of-take bytes whole =
    let begins : starts_with nat_eq (take 12 bytes) (codes "PACK") ≡ starts_with nat_eq bytes (codes "PACK") = ap (pointwise nat_eq (codes "PACK")) (take-take 4 12 bytes (lit≤ tt)) in
    let place : u32_in (take 12 bytes) 4 ≡ u32_in bytes 4 = u32_in-part bytes 0 12 4 (lit≤ tt) in
    let size : u32_in (take 12 bytes) 8 ≡ u32_in bytes 8 = u32_in-part bytes 0 12 8 (lit≤ tt) in
    ap (λ b. fault_by b (u32_in (take 12 bytes) 4) (u32_in (take 12 bytes) 8) whole) begins
    ∙ ap (λ p. fault_by (starts_with nat_eq bytes (codes "PACK")) p (u32_in (take 12 bytes) 8) whole) place
    ∙ ap (λ n. fault_by (starts_with nat_eq bytes (codes "PACK")) (u32_in bytes 4) n whole) size

-- what was read of the front of a file, where the folder tells it
from_file : (file : Option (List ℕ)) (header : List ℕ) (n : ℕ) (fault : Option PackFault) (P : List ℕ → Type 0) → option_map length file ≡ Some n → length header ≡ 12 → fault_of header n ≡ fault → IfSome file (λ bytes. header ≡ slice_range bytes 0 (0 + length header))
    → ((bytes : List ℕ) → header ≡ take 12 bytes → fault_of bytes (length bytes) ≡ fault → P bytes) → IfSome file P
from_file None header n fault P sized twelve is part holds = tt
from_file (Some bytes) header n fault P sized twelve is part holds =
    let front : header ≡ take 12 bytes = part ∙ ap (λ m. slice_range bytes 0 (0 + m)) twelve in
    let whole : length bytes ≡ n = cc (sized) in
    holds bytes front (sym (fault_of-take bytes (length bytes)) ∙ ap (λ h. fault_of h (length bytes)) (sym front) ∙ ap (fault_of header) whole ∙ is)

pub from_header : (told : Option (List File)) (name header : List ℕ) (n : ℕ) (fault : Option PackFault) (P : List ℕ → Type 0) → ForSome told (λ files. length_of name files ≡ Some n) → length header ≡ 12 → fault_of header n ≡ fault → IfSome told (IsPartOf name 0 header)
    → ((bytes : List ℕ) → header ≡ take 12 bytes → fault_of bytes (length bytes) ≡ fault → P bytes) → IfSome told (λ files. IfSome (bytes_of name files) P)
from_header None name header n fault P sized twelve is part holds = tt
from_header (Some files) name header n fault P sized twelve is part holds = from_file (bytes_of name files) header n fault P (sized files refl) twelve is part holds
