-- What is known of a file in which no fault is found.
use Rattle.std.proofs.Common.{◌≡◌, ◌≢◌, ℕ, zero, suc, ◌+◌, ◌*◌, ◌/◌, ◌≤◌, ◌<◌, inl, inr, Bool, true, false, ◌&&◌}
use Rattle.std.proofs.Common.{List, [], ◌++◌, length, get_or, take, refl, sym, arith}
use Rattle.std.specs.Prelude.{nat_lt, nat_le}
use Rattle.std.specs.List.{flat_map}
use Rattle.std.proofs.lemmas.Bool.Decides.{nat_tests}
use Rattle.std.proofs.lemmas.List.{length-take, length-drop, length-append, take_more, take_all, flat_map_more}
use Rattle.std.proofs.Math.Nat.{div-add-mod}
use Rattle.base_fields.specs.Fields.{u16_in, u32_in, u32_bytes}
use Rattle.bsp29_tables.specs.declared.lumps.Lump.{Lump}
use Rattle.bsp29_tables.specs.declared.lumps.Lump.TheVariants.{Planes, Textures, Nodes, Texinfos, Faces, Leafs, Surfedges}
use Rattle.bsp29_tables.specs.Checks.{fine}
use Rattle.bsp29_tables.specs.Lumps.{row_size, length_of, lump_of, rows_in, rows_of, count_of}
use Rattle.bsp29_tables.specs.Order.{check_of}
use Rattle.bsp29_tables.specs.Rows.{counts_of}
use Rattle.bsp29_tables.specs.Sizes.{textures_size, section_size}
use Rattle.bsp29_tables.specs.Textures.{table_check, textures_check}
use Rattle.bsp29_tables.proofs.Cutting.{length-rows_in, get_or-rows_in}
use Rattle.bsp29_tables.proofs.SoundLaws.{sound_from_fine, textures_from_fine}
use Rattle.bsp29_build.specs.Naming.{NameTexinfos}
use Rattle.bsp29_build.specs.Rows.{with_words}

pub has_header : (file : List ℕ) → check_of file ≡ fine → 124 ≤ length file
has_header file e = (sound_from_fine file e).long

pub has_table : (file : List ℕ) → check_of file ≡ fine → table_check (lump_of file Textures) ≡ fine
has_table file e = (textures_from_fine file e).0

pub has_textures : (file : List ℕ) → check_of file ≡ fine → textures_check (lump_of file Textures) ≡ fine
has_textures file e = (textures_from_fine file e).1

-- ---- the rows of a lump are whole

pub lump_long : (file : List ℕ) (lump : Lump) → check_of file ≡ fine → length (lump_of file lump) ≡ length_of file lump
unfolding lump_of
lump_long file lump e =
    elim ((sound_from_fine file e).lumps lump).inside [
      | inl none ↦ rw none refl
      | inr inside ↦ simp (length-take, length-drop) (omega (arith, inside))
    ]

pub lump_whole : (file : List ℕ) (lump : Lump) → check_of file ≡ fine
    → length (lump_of file lump) ≡ row_size lump * count_of file lump
lump_whole file lump e =
    let whole = ((sound_from_fine file e).lumps lump).whole in
    let long = lump_long file lump e in
    let split = div-add-mod (length (lump_of file lump)) (row_size lump) in
    rw length-rows_in (omega (arith, split, rw (← long) at whole))

-- ---- the texinfo of each face is there

third : (a b c : Bool) → (a && b && c) ≡ true → c ≡ true
third a b true e = refl
third true true false e = e
third true false false e = absurd cc
third false b false e = absurd cc

pub faces_named : (file : List ℕ) → check_of file ≡ fine
    → NameTexinfos (lump_of file Texinfos) (rows_of file Faces)
unfolding counts_of
faces_named file e = λ n face at.
    let passes = (sound_from_fine file e).rows Faces n face at in
    let named : nat_lt (u16_in face 10) (count_of file Texinfos) ≡ true =
    third (nat_lt (u16_in face 0) (count_of file Planes))
    (nat_le (u32_in face 4 + u16_in face 8) (count_of file Surfedges)) (nat_lt (u16_in face 10) (count_of file Texinfos))
    passes in
    let count = lump_whole file Texinfos e in
    let below : u16_in face 10 < count_of file Texinfos = grind (arith, nat_tests, named) in
    omega (arith, below, count)

-- ---- how long the sections are

pub front_length : (f : List ℕ → List ℕ) (width : ℕ) (rows : List (List ℕ))
    → ((n : ℕ) → n < length rows → length (f (get_or rows n [])) ≡ width)
    → (n : ℕ) → n ≤ length rows → length (flat_map f (take n rows)) ≡ width * n
front_length f width rows each zero le = let none : width * 0 ≡ 0 = omega arith in rw none refl
front_length f width rows each (suc n) le =
    let one : suc n ≡ n + 1 = omega arith in
    let lt : n < length rows = omega arith in
    let so = front_length f width rows each n (omega arith) in
    rw (one, take_more rows n [] lt, ← flat_map_more f [] (take n rows) (get_or rows n []), length-append, so, each n lt)
    (grind arith)

pub words_length : (word : List ℕ → ℕ) (bytes : List ℕ)
    → length (with_words word (rows_in 20 bytes)) ≡ 24 * (length bytes / 20)
words_length word bytes =
    let rows = rows_in 20 bytes in
    let count : length rows ≡ length bytes / 20 = length-rows_in 20 bytes in
    let worded : List ℕ → List ℕ = λ fields. fields ++ u32_bytes (word fields) in
    let whole : take (length rows) rows ≡ rows = take_all (length rows) rows (omega arith) in
    let each : (n : ℕ) → n < length rows → length (worded (get_or rows n [])) ≡ 24 = λ n lt.
    let below : n < length bytes / 20 = rw (← count) lt in
    let long : length (get_or rows n []) ≡ 20 =
    rw (get_or-rows_in 20 bytes n below) (simp (length-take, length-drop) (omega arith)) in
    rw (length-append, long) refl in
    rw (← count) (rw whole at (front_length worded 24 rows each (length rows) (omega arith)))

-- ---- what the parts of a builder ask of the room

pub plane_room : (file : List ℕ) → section_size file Planes ≡ 24 * (length (lump_of file Planes) / 20)
unfolding section_size
plane_room file = rw length-rows_in refl

pub texture_room : (file : List ℕ) → section_size file Textures ≡ textures_size (lump_of file Textures)
unfolding section_size
texture_room file = refl

pub node_room : (file : List ℕ) → section_size file Nodes ≡ 28 * (length (lump_of file Nodes) / 24)
unfolding section_size
node_room file = rw length-rows_in refl

pub face_room : (file : List ℕ) → section_size file Faces ≡ 24 * (length (lump_of file Faces) / 20)
unfolding section_size
face_room file = rw length-rows_in refl

pub leaf_room : (file : List ℕ) → section_size file Leafs ≡ 32 * (length (lump_of file Leafs) / 28)
unfolding section_size
leaf_room file = rw length-rows_in refl

-- the other lumps stand in the image as they are
pub other_room : (file : List ℕ) (lump : Lump) → check_of file ≡ fine → lump ≢ Planes → lump ≢ Textures → lump ≢ Nodes
    → lump ≢ Faces → lump ≢ Leafs → section_size file lump ≡ length (lump_of file lump)
unfolding section_size
other_room file Planes e p t n f l = absurd (p refl)
other_room file Textures e p t n f l = absurd (t refl)
other_room file Nodes e p t n f l = absurd (n refl)
other_room file Faces e p t n f l = absurd (f refl)
other_room file Leafs e p t n f l = absurd (l refl)
other_room file other e p t n f l = sym (lump_whole file other e)

pub hull_room : (file : List ℕ) → 8 * count_of file Nodes ≡ 8 * (length (lump_of file Nodes) / 24)
hull_room file = rw length-rows_in refl

pub ruleset fine_laws = (has_header, has_table, has_textures)

pub ruleset room_laws = (faces_named, plane_room, texture_room, node_room, face_room, leaf_room, hull_room)

pub ruleset size_laws = (lump_long)
