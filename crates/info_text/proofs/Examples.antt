-- Worked examples.
use Rattle.std.proofs.Common.{◌≡◌, ℕ, List, [], ◌∷◌, ◌++◌, codes, replicate, refl}
use Rattle.std.specs.Fmt.{digits}
use Rattle.hex.specs.Hex.{encode_with}
use Rattle.alias_load.specs.declared.fault.AliasFault.TheVariants as alias
use Rattle.alias_load.specs.declared.fault.AliasPart.TheVariants as part
use Rattle.base_fields.specs.Fields.{u32_in, u32_bytes}
use Rattle.res_table.specs.declared.answers.Fault.TheVariants as fault
use Rattle.res_table.specs.declared.kinds.Kind.TheVariants as kind
use Rattle.sprite_load.specs.declared.fault.SpriteFault.TheVariants as sprite
use Rattle.bsp29_tables.specs.declared.fault.BspFault.TheVariants as brush_fault
use Rattle.wad2_lumps.specs.declared.fault.WadFault.TheVariants as wad_fault
use Rattle.info_text.specs.declared.lump_errors.LumpError.TheVariants as error
use Rattle.info_text.specs.Dumps.{dump_text}
use Rattle.info_text.specs.Infos.{info_text}
use Rattle.info_text.specs.Lines.{bad_text}
use Rattle.info_text.specs.LumpErrors.{lump_error_text}
use Rattle.info_text.specs.LumpNames.{shown}
use Rattle.info_text.specs.Pictures.{picture_text}

-- the image of a sound of two samples, with no loop, and of one that goes round from its first sample on
abbrev sound : List ℕ → List ℕ
sound loop_start = 2 ∷ 0 ∷ 0 ∷ 0 ∷ loop_start ++ (0x11 ∷ 0x2b ∷ 0 ∷ 0 ∷ 1 ∷ 0 ∷ 0 ∷ 0 ∷ 0 ∷ 0 ∷ 0 ∷ 0 ∷ 0 ∷ 255 ∷ [])

abbrev plain : List ℕ
plain = sound (255 ∷ 255 ∷ 255 ∷ 255 ∷ [])

one_line : dump_text (codes "x.wav") plain ≡ codes "dump x.wav 22\n02000000ffffffff112b0000010000000000000000ff\n"
unfolding digits encode_with
one_line = refl

-- the digits of 32 zeros
abbrev zeros : List ℕ
zeros = codes "0000000000000000000000000000000000000000000000000000000000000000\n"

no_line : dump_text (codes "a") [] ≡ codes "dump a 0\n"
unfolding digits
no_line = refl

whole_line : dump_text (codes "a") (replicate 32 0) ≡ codes "dump a 32\n" ++ zeros
unfolding digits encode_with
whole_line = refl

one_byte_more : dump_text (codes "a") (replicate 32 0 ++ 171 ∷ []) ≡ codes "dump a 33\n" ++ (zeros ++ codes "ab\n")
unfolding digits encode_with
one_byte_more = refl

no_loop : info_text kind.Sound (codes "x.wav") plain ≡ codes "sound x.wav length 2 loop none speed 11025 width 1\n"
unfolding digits u32_in
no_loop = refl

a_loop : info_text kind.Sound (codes "x.wav") (sound (0 ∷ 0 ∷ 0 ∷ 0 ∷ [])) ≡
    codes "sound x.wav length 2 loop 0 speed 11025 width 1\n"
unfolding digits u32_in
a_loop = refl

-- the front of the image of an alias model, with nines between the numbers that are told
abbrev model : List ℕ
model =
    replicate 44 9
    ++ (u32_bytes 3 ++ (u32_bytes 320 ++ (u32_bytes 200 ++ (u32_bytes 510 ++ (u32_bytes 700 ++ (u32_bytes 6
    ++ (replicate 12 9 ++ (u32_bytes 5 ++ u32_bytes 8))))))))

a_model : info_text kind.Alias (codes "x.mdl") model ≡
    codes "alias x.mdl skins 3 width 320 height 200 verts 510 tris 700 frames 6 pictures 5 poses 8\n"
unfolding digits u32_in
a_model = refl

-- and of a sprite
abbrev turned : List ℕ
turned =
    replicate 4 9 ++ (u32_bytes 2 ++ (replicate 12 9 ++ (u32_bytes 1 ++ (replicate 8 9 ++ u32_bytes 4))))

a_sprite : info_text kind.Sprite (codes "x.spr") turned ≡ codes "sprite x.spr type 2 frames 1 pictures 4\n"
unfolding digits u32_in
a_sprite = refl

-- A wad of 90 bytes: a picture of two pixels at 12, four bytes at 22, and a table of two rows.
abbrev lump_row : ℕ → ℕ → ℕ → List ℕ → List ℕ
lump_row offset size compression name =
    u32_bytes offset ++ (u32_bytes size ++ (u32_bytes size ++ 66 ∷ compression ∷ 0 ∷ 0 ∷ name))

abbrev wad : List ℕ
wad =
    codes "WAD2"
    ++ (u32_bytes 2 ++ (u32_bytes 26 ++ (u32_bytes 2 ++ (u32_bytes 1 ++ 0x0a ∷ 0x0b ∷ codes "abcd"
    ++ (lump_row 12 10 0 (codes "PIC" ++ replicate 13 0) ++ lump_row 22 4 1 (codes "SQUASHED" ++ replicate 8 0))))))

a_wad : info_text kind.Wad (codes "w.wad") wad ≡
    codes "wad w.wad lumps 2\nlump 0 PIC type 66 size 10 compression 0\nlump 1 SQUASHED type 66 size 4 compression 1\n"
unfolding digits u32_in shown
a_wad = refl

a_picture : picture_text (codes "pic") (record { width = 2; height = 1; offset = 20 }) wad ≡
    codes "pic pic 2 1\n0a0b\n"
unfolding digits encode_with shown
a_picture = refl

-- rows of no pixels
empty_rows : picture_text (codes "pic") (record { width = 0; height = 3; offset = 20 }) wad ≡
    codes "pic pic 0 3\n\n\n\n"
unfolding digits encode_with shown
empty_rows = refl

-- bytes that aren't shown, and others behind a zero
a_name : shown (31 ∷ 32 ∷ 126 ∷ 127 ∷ 200 ∷ 0 ∷ codes "abc") ≡ codes "? ~??"
unfolding shown
a_name = refl

compressed : lump_error_text (codes "squashed") error.Compressed ≡ codes "compressed lump squashed\n"
unfolding shown
compressed = refl

no_picture : lump_error_text (codes "pic") error.NotPicture ≡ codes "lump pic is no picture\n"
unfolding shown
no_picture = refl

-- the empty name has its space
no_name : lump_error_text [] error.Absent ≡ codes "no lump \n"
unfolding shown
no_name = refl

a_group : bad_text (codes "x.mdl") (fault.Alias (alias.Group part.Skin 3)) ≡ codes "bad alias x.mdl: group skin 3\n"
unfolding digits
a_group = refl

a_size : bad_text (codes "x.spr") (fault.Sprite (sprite.Size 10)) ≡ codes "bad sprite x.spr: size frame 10\n"
unfolding digits
a_size = refl

short : bad_text (codes "x.lmp") (fault.Brush brush_fault.Short) ≡ codes "bad brush x.lmp: short\n"
short = refl

table_outside : bad_text (codes "w.wad") (fault.Wad wad_fault.TableOutside) ≡ codes "bad wad w.wad: table outside\n"
table_outside = refl
