-- The image of a wad.
use Rattle.std.proofs.Common.{◌≡◌, ℕ, ◌≤◌, List, length, Option, Some, None, Ok, refl, sym, ap, subst}
use Rattle.std.specs.Prelude.{IsOkAnd}
use Rattle.base_fields.specs.Faults.{first_fault, unless}
use Rattle.base_fields.proofs.FaultLaws.{unless_ok}
use Rattle.wad2_lumps.specs.Wads.{tests, wad_in, IsWad}
use Rattle.wad2_lumps.specs.Images.{image_of}
use Rattle.wad2_lumps.proofs.WadLaws.{table_inside}

-- it is the file
pub image_itself : (bytes made : List ℕ) → image_of bytes ≡ Ok made → made ≡ bytes
unfolding image_of
image_itself bytes made is = sym (unless_ok (first_fault (tests bytes)) bytes made is).1

-- it is a wad
pub is_wad : (bytes made : List ℕ) → image_of bytes ≡ Ok made → IsWad made
unfolding image_of wad_in
is_wad bytes made is =
    let none = (unless_ok (first_fault (tests bytes)) bytes made is).0 in
    let wad : IsWad bytes = rw none refl in
    subst IsWad (sym (image_itself bytes made is)) wad

-- it has a header, and is as long as the file
pub length_of_image : (bytes made : List ℕ) → image_of bytes ≡ Ok made
    → (12 ≤ length made) × (length made ≡ length bytes)
length_of_image bytes made is =
    ((table_inside made (is_wad bytes made is)).0, ap length (image_itself bytes made is))

unless_there : {F A : Type 0} (fault : Option F) (value : A) (P : A → Type 0) → IsOkAnd (unless fault value) P
    → unless fault value ≡ Ok value
unless_there None value P there = refl
unless_there (Some fault) value P there = absurd there

-- where there is an image, the file is it
pub image_there : (bytes : List ℕ) (P : List ℕ → Type 0) → IsOkAnd (image_of bytes) P → image_of bytes ≡ Ok bytes
unfolding image_of
image_there bytes P there = unless_there (first_fault (tests bytes)) bytes P there

pub ruleset image_laws = (image_itself, length_of_image)
