-- Worked examples.
use Rattle.std.proofs.Common.{◌≡◌, ℕ, List, ◌∷◌, ◌++◌, Some, None, Ok, Err, codes, replicate, refl}
use Rattle.base_fields.specs.Fields.{u32_in, u32_bytes}
use Rattle.wad2_lumps.specs.declared.fault.WadFault.TheVariants.{NotWad, TableOutside}
use Rattle.wad2_lumps.specs.declared.fault.PicFault.TheVariants.{NotPicture, Outside}
use Rattle.wad2_lumps.specs.declared.answers.Lump.TheVariants.{Found, Absent, Compressed}
use Rattle.wad2_lumps.specs.Names.{cleaned}
use Rattle.wad2_lumps.specs.Wads.{wad_in}
use Rattle.wad2_lumps.specs.Lumps.{lump_in, lump_row_in}
use Rattle.wad2_lumps.specs.Pictures.{picture_in}
use Rattle.wad2_lumps.specs.Images.{image_of}

-- the header of a wad of two lumps, with its table at this offset
abbrev header : ℕ → List ℕ
header table = codes "WAD2" ++ (u32_bytes 2 ++ u32_bytes table)

-- a picture of two pixels, and four bytes
abbrev lumps : List ℕ
lumps = u32_bytes 2 ++ (u32_bytes 1 ++ 0x0a ∷ 0x0b ∷ codes "abcd")

-- a row of a lump of type 66 that has the same size on disk
abbrev lump_row : ℕ → ℕ → ℕ → List ℕ → List ℕ
lump_row offset size compression name =
    u32_bytes offset ++ (u32_bytes size ++ (u32_bytes size ++ 66 ∷ compression ∷ 0 ∷ 0 ∷ name))

abbrev table : List ℕ
table = lump_row 12 10 0 (codes "PIC" ++ replicate 13 0) ++ lump_row 22 4 1 (codes "SQUASHED" ++ replicate 8 0)

-- the file of 90 bytes
abbrev wad : List ℕ
wad = header 26 ++ (lumps ++ table)

its_lumps : wad_in wad ≡ Ok 2
unfolding wad_in u32_in
its_lumps = refl

-- the table begins a byte later, and would end a byte behind the file
table_outside : wad_in (header 27 ++ (lumps ++ table)) ≡ Err TableOutside
unfolding wad_in u32_in
table_outside = refl

no_wad : wad_in (codes "WAD3" ++ replicate 86 0) ≡ Err NotWad
unfolding wad_in u32_in
no_wad = refl

itself : image_of wad ≡ Ok wad
unfolding image_of u32_in
itself = refl

found : lump_in wad (codes "pic") ≡ Found 12 10 66
unfolding lump_in u32_in
found = refl

compressed : lump_in wad (codes "Squashed") ≡ Compressed
unfolding lump_in u32_in
compressed = refl

absent : lump_in wad (codes "none") ≡ Absent
unfolding lump_in u32_in
absent = refl

second_row : lump_row_in wad 1
    ≡ Some (record { name = codes "SQUASHED" ++ replicate 8 0; kind = 66; size = 4; compression = 1 })
unfolding lump_row_in u32_in
second_row = refl

no_third_row : lump_row_in wad 2 ≡ None
unfolding lump_row_in u32_in
no_third_row = refl

its_picture : picture_in wad 12 66 ≡ Ok (record { width = 2; height = 1; offset = 20 })
unfolding picture_in u32_in
its_picture = refl

other_type : picture_in wad 12 67 ≡ Err NotPicture
unfolding picture_in u32_in
other_type = refl

-- at its pixels stands no width and height that would fit
pixels_outside : picture_in wad 20 66 ≡ Err Outside
unfolding picture_in u32_in
pixels_outside = refl

-- the first 16 bytes, and those before a zero
long_name : cleaned (codes "Seventeen-Letters") ≡ codes "seventeen-letter"
long_name = refl

ended_name : cleaned (codes "Pic" ++ 0 ∷ codes "tures") ≡ codes "pic"
ended_name = refl
