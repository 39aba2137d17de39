-- What is known of a texture lump in which no fault is found.
use Rattle.std.proofs.Common.{◌≡◌, ℕ, ◌+◌, ◌*◌, ◌%◌, ◌≤◌, ◌<◌, inl, inr, Bool, true, false, ◌||◌, List, length, get_or}
use Rattle.std.proofs.Common.{refl, arith}
use Rattle.std.specs.Prelude.{◌==◌, nat_lt, not}
use Rattle.std.proofs.lemmas.Bool.Decides.{nat_tests, eqb_tells}
use Rattle.std.proofs.lemmas.Option.{slice_get-get_or}
use Rattle.base_fields.specs.Fields.{u32_in}
use Rattle.bsp29_tables.specs.Checks.{fine}
use Rattle.bsp29_tables.specs.Textures.{texture_count, texture_offsets, missing, is_bad_side, IsSide, HasTexture}
use Rattle.bsp29_tables.specs.Textures.{table_tests, table_check, texture_tests, texture_check, textures_check}
use Rattle.bsp29_tables.proofs.Checking.{all_false, checked_at}
use Rattle.bsp29_tables.proofs.Cutting.{length-texture_offsets}

pub not_above : (a b : ℕ) → nat_lt a b ≡ false → b ≤ a
not_above a b other = grind (arith, nat_tests, other)

both_false : (a b : Bool) → (a || b) ≡ false → (a ≡ false) × (b ≡ false)
both_false true b e = absurd cc
both_false false b e = (refl, e)

good_side : (side : ℕ) → is_bad_side side ≡ false → IsSide side
good_side side e =
    let tests = both_false (not (side % 16 == 0)) (nat_lt 16384 side) e in
    record { whole = grind (arith, nat_tests, tests.0); most = not_above _ _ tests.1 }

-- a lump that isn't empty has its count and the offsets
pub has_table : (lump : List ℕ) → table_check lump ≡ fine → (length lump == 0) ≡ false
    → (4 ≤ length lump) × (u32_in lump 0 ≤ 4096) × (4 * u32_in lump 0 + 4 ≤ length lump)
unfolding table_check
has_table lump e some =
    let tests = all_false (table_tests lump) (rw some at e) in
    (not_above _ _ tests.0, not_above _ _ tests.1.0, not_above _ _ tests.1.1.0)

pub has_offset : (lump : List ℕ) (texture : ℕ) → table_check lump ≡ fine → texture < texture_count lump
    → 4 * texture + 8 ≤ length lump
unfolding texture_count
has_offset lump texture e lt =
    elim (eqb_tells (length lump) 0) [
      | inl none ↦ absurd (omega (arith, rw none.0 at lt))
      | inr some ↦ omega (arith, rw some.0 at lt, (has_table lump e some.0).2)
    ]

pub has_texture : (lump : List ℕ) (texture at : ℕ) → texture_check lump texture at ≡ fine → HasTexture lump at
unfolding texture_check
has_texture lump texture at e =
    elim (eqb_tells at missing) [
      | inl none ↦ inl none.1
      | inr some ↦
          let tests = all_false (texture_tests lump texture at) (rw some.0 at e) in
          let sides = both_false _ _ tests.1.0 in
          inr (record {
            room = not_above _ _ tests.0;
            width = good_side _ sides.0;
            height = good_side _ sides.1;
            inside = not_above _ _ tests.1.1.0;
          })
    ]

pub texture_inside : (lump : List ℕ) (texture : ℕ) → textures_check lump ≡ fine → texture < texture_count lump
    → HasTexture lump (get_or (texture_offsets lump) texture 0)
texture_inside lump texture e lt =
    let below : texture < length (texture_offsets lump) = rw length-texture_offsets lt in
    has_texture lump texture _
    (checked_at (texture_check lump) (texture_offsets lump) texture _ e (slice_get-get_or _ texture 0 below))
