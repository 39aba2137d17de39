-- Exactly the sound files have no fault.
use Rattle.std.proofs.Common.{◌≡◌, ℕ, ◌+◌, ◌≤◌, ◌⊎◌, inl, inr, Bool, true, false, not, ◌&&◌, ◌||◌}
use Rattle.std.proofs.Common.{List, length, drop, Option, Some, None, refl, ap, arith}
use Rattle.std.specs.Prelude.{◌==◌, nat_lt, slice_get, is_some, if◌then◌else◌}
use Rattle.std.specs.Option.{option_or}
use Rattle.std.proofs.lemmas.Bool.Decides.{nat_tests, eqb_tells}
use Rattle.bsp29_tables.specs.declared.lumps.Lump.{Lump}
use Rattle.bsp29_tables.specs.declared.lumps.Lump.TheVariants.{Entities, Nodes, Texinfos, Faces, Clipnodes, Leafs}
use Rattle.bsp29_tables.specs.declared.lumps.Lump.TheVariants.{Textures, Marksurfaces, Edges, Surfedges, Models}
use Rattle.bsp29_tables.specs.Checks.{Checked, fine, ◌⨾◌}
use Rattle.bsp29_tables.specs.Lumps.{number_of, all_lumps, offset_of, length_of, lump_of, rows_of}
use Rattle.bsp29_tables.specs.Lumps.{is_outside, header_tests, header_check, lump_tests}
use Rattle.bsp29_tables.specs.Lumps.{lump_check, lumps_check, models_tests, models_check}
use Rattle.bsp29_tables.specs.Textures.{texture_offsets, missing, is_bad_side, HasTexture, IsSide}
use Rattle.bsp29_tables.specs.Textures.{width_at, height_at, table_tests, table_check, texture_tests, texture_check}
use Rattle.bsp29_tables.specs.Textures.{textures_check}
use Rattle.bsp29_tables.specs.Cycles.{name_at, is_animating, frame_of, frames_of, lacking_below, lacking_of}
use Rattle.bsp29_tables.specs.Cycles.{animation_tests, animation_check}
use Rattle.bsp29_tables.specs.Cycles.{animations_check, lacking_fault, frame_check, frames_check}
use Rattle.bsp29_tables.specs.Rows.{counts_of, row_passes, row_tests, row_check, lump_rows_check}
use Rattle.bsp29_tables.specs.Rows.{naming_lumps, rows_check}
use Rattle.bsp29_tables.specs.Sizes.{size_tests, size_check}
use Rattle.bsp29_tables.specs.Order.{check_of}
use Rattle.bsp29_tables.specs.Sound.{IsLump, HasOffsets, HasFrames, IsSound}
use Rattle.bsp29_tables.proofs.Checking.{all_false, none_false, both_fine, checked_at, all_fine}
use Rattle.bsp29_tables.proofs.FrameLaws.{whole_from_none, none_from_whole}
use Rattle.bsp29_tables.proofs.TextureLaws.{not_above, has_texture, has_table}

-- ---- the tests that are false

above : (a b : ℕ) → a ≤ b → nat_lt b a ≡ false
above a b le = grind (arith, nat_tests, le)

is_same : (a b : ℕ) → not (a == b) ≡ false → a ≡ b
is_same a b other = grind (arith, nat_tests, other)

no_other : (a b : ℕ) → a ≡ b → not (a == b) ≡ false
no_other a b same = grind (arith, nat_tests, same)

is_true : (a : Bool) → not a ≡ false → a ≡ true
is_true true e = refl
is_true false e = absurd cc

and_false : (a b : Bool) → (a ≡ true → b ≡ false) → (a && b) ≡ false
and_false true b only = only refl
and_false false b only = refl

second_false : (a b : Bool) → (a && b) ≡ false → a ≡ true → b ≡ false
second_false true b e is = e
second_false false b e is = absurd cc

-- ---- lumps

lump_at : (lump : Lump) → slice_get all_lumps (number_of lump) ≡ Some lump
lump_at Entities = refl
lump_at other = refl

outside_told : (bytes : List ℕ) (lump : Lump) → is_outside bytes lump ≡ false
    → (length_of bytes lump ≡ 0) ⊎ (offset_of bytes lump + length_of bytes lump ≤ length bytes)
outside_told bytes lump e =
    elim (eqb_tells (length_of bytes lump) 0) [
      | inl none ↦ inl none.1
      | inr some ↦ inr (not_above _ _ (rw some.0 at e))
    ]

lump_holds : (bytes : List ℕ) (lump : Lump) → lump_check bytes lump ≡ fine → IsLump bytes lump
unfolding lump_check
lump_holds bytes lump e =
    let tests = all_false (lump_tests bytes lump) e in
    record {
      inside = outside_told bytes lump tests.0;
      whole = is_same _ _ tests.1.0;
      few = λ limited. not_above _ _ (second_false _ _ tests.1.1.0 limited);
    }

not_outside : (bytes : List ℕ) (lump : Lump) → IsLump bytes lump → is_outside bytes lump ≡ false
not_outside bytes lump is =
    elim is.inside [
      | inl none ↦ rw none refl
      | inr some ↦ and_false _ _ (λ more. above _ _ some)
    ]

lump_fine : (bytes : List ℕ) (lump : Lump) → IsLump bytes lump → lump_check bytes lump ≡ fine
unfolding lump_check
lump_fine bytes lump is =
    none_false (lump_tests bytes lump)
    (not_outside bytes lump is, (no_other _ _ is.whole, (and_false _ _ (λ limited. above _ _ (is.few limited)), tt)))

-- ---- textures

bad_side : (side : ℕ) → IsSide side → is_bad_side side ≡ false
bad_side side is = grind (arith, nat_tests, is.whole, is.most)

texture_fine : (lump : List ℕ) (n at : ℕ) → HasTexture lump at → texture_check lump n at ≡ fine
unfolding texture_check
texture_fine lump n at has =
    elim (eqb_tells at missing) [
      | inl none ↦ rw none.0 refl
      | inr some ↦
          rw some.0 (elim has [
            | inl none ↦ absurd (some.1 none)
            | inr is ↦
                let sides : (is_bad_side (width_at lump at) || is_bad_side (height_at lump at)) ≡ false =
                rw (bad_side _ is.width, bad_side _ is.height) refl in
                none_false (texture_tests lump n at) (above _ _ is.room, (sides, (above _ _ is.inside, tt)))
          ])
    ]

table_told : (lump : List ℕ) → table_check lump ≡ fine → (length lump ≡ 0) ⊎ HasOffsets lump
table_told lump e =
    elim (eqb_tells (length lump) 0) [
      | inl none ↦ inl none.1
      | inr some ↦
          let has = has_table lump e some.0 in inr (record { count = has.0; few = has.1; offsets = has.2 })
    ]

table_fine : (lump : List ℕ) → (length lump ≡ 0) ⊎ HasOffsets lump → table_check lump ≡ fine
unfolding table_check
table_fine lump (inl none) = rw none refl
table_fine lump (inr has) =
    elim (eqb_tells (length lump) 0) [
      | inl none ↦ rw none.0 refl
      | inr some ↦
          rw some.0
          (none_false (table_tests lump) (above _ _ has.count, (above _ _ has.few, (above _ _ has.offsets, tt))))
    ]

told_here : (lump : List ℕ) (n at : ℕ) → animation_check lump n at ≡ fine → is_animating (name_at lump at) ≡ true
    → is_some (frame_of (name_at lump at)) ≡ true
unfolding animation_check
told_here lump n at e animating =
    is_true _ (second_false _ _ (all_false (animation_tests lump n at) e).0 animating)

told_fine : (lump : List ℕ) (n at : ℕ)
    → (is_animating (name_at lump at) ≡ true → is_some (frame_of (name_at lump at)) ≡ true)
    → animation_check lump n at ≡ fine
unfolding animation_check
told_fine lump n at told =
    none_false (animation_tests lump n at) (and_false _ _ (λ animating. ap not (told animating)), tt)

none_lacks : (animating : Bool) (n : ℕ) (lacking : Option ℕ)
    → (if animating then lacking_fault n lacking else fine) ≡ fine → animating ≡ true → lacking ≡ None
none_lacks true n None e is = refl
none_lacks true n (Some frame) e is = absurd cc
none_lacks false n lacking e is = absurd cc

lacks_none : (animating : Bool) (n : ℕ) (lacking : Option ℕ) → (animating ≡ true → lacking ≡ None)
    → (if animating then lacking_fault n lacking else fine) ≡ fine
lacks_none true n lacking whole = ap (lacking_fault n) (whole refl)
lacks_none false n lacking whole = refl

both_none : (a b : Option ℕ) → option_or a b ≡ None → (a ≡ None) × (b ≡ None)
both_none None b e = (refl, e)
both_none (Some frame) b e = absurd cc

frames_told : (lump rest : List ℕ) → lacking_of lump rest ≡ None → HasFrames lump rest
unfolding lacking_of
frames_told lump rest e =
    let none = both_none (lacking_below 48 (frames_of lump rest 48)) (lacking_below 65 (frames_of lump rest 65)) e in
    record { digits = whole_from_none 48 _ none.0; letters = whole_from_none 65 _ none.1 }

frames_fine : (lump rest : List ℕ) → HasFrames lump rest → lacking_of lump rest ≡ None
unfolding lacking_of
frames_fine lump rest has =
    rw (
      none_from_whole 48 (frames_of lump rest 48) has.digits,
      none_from_whole 65 (frames_of lump rest 65) has.letters,
    ) refl

whole_here : (lump : List ℕ) (n at : ℕ) → frame_check lump n at ≡ fine → is_animating (name_at lump at) ≡ true
    → HasFrames lump (drop 2 (name_at lump at))
unfolding frame_check
whole_here lump n at e animating =
    frames_told lump _ (none_lacks (is_animating (name_at lump at)) n _ e animating)

whole_fine : (lump : List ℕ) (n at : ℕ)
    → (is_animating (name_at lump at) ≡ true → HasFrames lump (drop 2 (name_at lump at)))
    → frame_check lump n at ≡ fine
unfolding frame_check
whole_fine lump n at whole =
    lacks_none (is_animating (name_at lump at)) n _ (λ animating. frames_fine lump _ (whole animating))

-- ---- rows

row_holds : (bytes : List ℕ) (lump : Lump) (n : ℕ) (row : List ℕ) → lump_rows_check bytes lump ≡ fine
    → slice_get (rows_of bytes lump) n ≡ Some row → row_passes (counts_of bytes) lump n row ≡ true
row_holds bytes lump n row e at =
    let here = checked_at (row_check (counts_of bytes) lump) (rows_of bytes lump) n row e at in
    is_true _ (all_false (row_tests (counts_of bytes) lump n row) here).0

rows_hold : (bytes : List ℕ) → rows_check bytes ≡ fine → (lump : Lump) (n : ℕ) (row : List ℕ)
    → slice_get (rows_of bytes lump) n ≡ Some row → row_passes (counts_of bytes) lump n row ≡ true
rows_hold bytes e Nodes n row at = row_holds bytes Nodes n row (checked_at _ naming_lumps 0 Nodes e refl) at
rows_hold bytes e Texinfos n row at = row_holds bytes Texinfos n row (checked_at _ naming_lumps 1 Texinfos e refl) at
rows_hold bytes e Faces n row at = row_holds bytes Faces n row (checked_at _ naming_lumps 2 Faces e refl) at
rows_hold bytes e Clipnodes n row at = row_holds bytes Clipnodes n row (checked_at _ naming_lumps 3 Clipnodes e refl) at
rows_hold bytes e Leafs n row at = row_holds bytes Leafs n row (checked_at _ naming_lumps 4 Leafs e refl) at
rows_hold bytes e Marksurfaces n row at =
    row_holds bytes Marksurfaces n row (checked_at _ naming_lumps 5 Marksurfaces e refl) at
rows_hold bytes e Edges n row at = row_holds bytes Edges n row (checked_at _ naming_lumps 6 Edges e refl) at
rows_hold bytes e Surfedges n row at =
    row_holds bytes Surfedges n row (checked_at _ naming_lumps 7 Surfedges e refl) at
rows_hold bytes e Models n row at = row_holds bytes Models n row (checked_at _ naming_lumps 8 Models e refl) at
rows_hold bytes e other n row at = refl

rows_fine : (bytes : List ℕ) (lump : Lump)
    → ((n : ℕ) (row : List ℕ) → slice_get (rows_of bytes lump) n ≡ Some row
    → row_passes (counts_of bytes) lump n row ≡ true)
    → lump_rows_check bytes lump ≡ fine
rows_fine bytes lump pass =
    all_fine (row_check (counts_of bytes) lump) (rows_of bytes lump)
    (λ n row at. none_false (row_tests (counts_of bytes) lump n row) (ap not (pass n row at), tt))

-- ---- files

pub sound_from_fine : (bytes : List ℕ) → check_of bytes ≡ fine → IsSound bytes
unfolding check_of
sound_from_fine bytes e =
    let header = both_fine (header_check bytes) _ e in
    let lumps = both_fine (lumps_check bytes) _ header.1 in
    let models = both_fine (models_check bytes) _ lumps.1 in
    let textures = lump_of bytes Textures in
    let table = both_fine (table_check textures) _ models.1 in
    let each = both_fine (textures_check textures) _ table.1 in
    let told = both_fine (animations_check textures) _ each.1 in
    let whole = both_fine (frames_check textures) _ told.1 in
    let rows = both_fine (rows_check bytes) _ whole.1 in
    let tests = all_false (header_tests bytes) header.0 in
    record {
      long = not_above _ _ tests.0;
      version = is_same _ _ tests.1.0;
      lumps = λ lump. lump_holds bytes lump (checked_at _ all_lumps (number_of lump) lump lumps.0 (lump_at lump));
      models = grind (arith, nat_tests, (all_false (models_tests bytes) models.0).0);
      textures = record {
        table = table_told textures table.0;
        inside = λ n at is. has_texture textures n at (checked_at _ (texture_offsets textures) n at each.0 is);
        told = λ n at is. told_here textures n at (checked_at _ (texture_offsets textures) n at told.0 is);
        whole = λ n at is. whole_here textures n at (checked_at _ (texture_offsets textures) n at whole.0 is);
      };
      rows = rows_hold bytes rows.0;
      small = grind (arith, nat_tests, (all_false (size_tests bytes) rows.1).0);
    }

-- what the readers of the texture lump ask
pub textures_from_fine : (bytes : List ℕ) → check_of bytes ≡ fine
    → (table_check (lump_of bytes Textures) ≡ fine) × (textures_check (lump_of bytes Textures) ≡ fine)
unfolding check_of
textures_from_fine bytes e =
    let header = both_fine (header_check bytes) _ e in
    let lumps = both_fine (lumps_check bytes) _ header.1 in
    let models = both_fine (models_check bytes) _ lumps.1 in
    let table = both_fine (table_check (lump_of bytes Textures)) _ models.1 in
    let each = both_fine (textures_check (lump_of bytes Textures)) _ table.1 in
    (table.0, each.0)

then_fine : (a b : Checked) → a ≡ fine → b ≡ fine → (a ⨾ b) ≡ fine
then_fine a b first second = rw (first, second) refl

pub fine_from_sound : (bytes : List ℕ) → IsSound bytes → check_of bytes ≡ fine
unfolding check_of
fine_from_sound bytes is =
    let textures = lump_of bytes Textures in
    let header : header_check bytes ≡ fine =
    none_false (header_tests bytes) (above _ _ is.long, (no_other _ _ is.version, tt)) in
    let lumps : lumps_check bytes ≡ fine = all_fine _ all_lumps (λ n lump at. lump_fine bytes lump (is.lumps lump)) in
    let models : models_check bytes ≡ fine =
    none_false (models_tests bytes) (grind (arith, nat_tests, is.models), tt) in
    let table : table_check textures ≡ fine = table_fine textures is.textures.table in
    let inside : textures_check textures ≡ fine =
    all_fine (texture_check textures) (texture_offsets textures)
    (λ n at is_at. texture_fine textures n at (is.textures.inside n at is_at)) in
    let told : animations_check textures ≡ fine =
    all_fine (animation_check textures) (texture_offsets textures)
    (λ n at is_at. told_fine textures n at (is.textures.told n at is_at)) in
    let whole : frames_check textures ≡ fine =
    all_fine (frame_check textures) (texture_offsets textures)
    (λ n at is_at. whole_fine textures n at (is.textures.whole n at is_at)) in
    let rows : rows_check bytes ≡ fine =
    all_fine _ naming_lumps (λ n lump at. rows_fine bytes lump (is.rows lump)) in
    let size : size_check bytes ≡ fine =
    none_false (size_tests bytes) (grind (arith, nat_tests, is.small), tt) in
    then_fine _ _ header (then_fine _ _ lumps (then_fine _ _ models (then_fine _ _ table (then_fine _ _ inside
    (then_fine _ _ told (then_fine _ _ whole (then_fine _ _ rows size)))))))
