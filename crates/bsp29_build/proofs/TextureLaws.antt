-- What is known of a texture that lies in its lump.
use Rattle.std.proofs.Common.{◌≡◌, ◌≢◌, ℕ, suc, ◌+◌, ◌*◌, ◌≤◌, ◌<◌, inl, inr, List, [], ◌∷◌, ◌++◌, length, take, drop, Some}
use Rattle.std.proofs.Common.{refl, sym, ap, ◌∙◌, arith}
use Rattle.std.specs.Prelude.{slice_get, slice_index, unwrap_or}
use Rattle.std.specs.List.{sum_by, flat_map}
use Rattle.std.proofs.lemmas.Bool.Decides.{eqb_tells}
use Rattle.std.proofs.lemmas.List.{drop_more, drop_all, length-append, length-take, length-drop, length-replicate}
use Rattle.std.proofs.lemmas.List.Sums.{sum_by-drop_more, sum_by-cons}
use Rattle.std.proofs.lemmas.Option.{slice_get-get_or}
use Rattle.base_fields.specs.Fields.{field}
use Rattle.base_fields.proofs.TextLaws.{length_until_zero}
use Rattle.bsp29_tables.specs.declared.cycles.Cycle.{Cycle}
use Rattle.bsp29_tables.specs.Cycles.{cycle_of}
use Rattle.bsp29_tables.specs.Sizes.{textures_size}
use Rattle.bsp29_tables.specs.Textures.{texture_count, texture_offsets, missing, pixels_at, HasTexture, IsTexture}
use Rattle.bsp29_tables.proofs.Cutting.{length-texture_offsets}
use Rattle.bsp29_tables.proofs.TextureLaws.{texture_inside}
use Rattle.bsp29_build.specs.Textures.{IsChecked, padded, no_cycle, animation_numbers, present_row, texture_row, texture_rows}
use Rattle.bsp29_build.specs.Textures.{pixels_of, texture_section}
use borrow.Rule.Slice.PartMut.{put_mid}
use Rattle.bsp29_build.proofs.Writing.{with_left, part_written, none_left}

pub is_there : (lump : List ℕ) (at : ℕ) → HasTexture lump at → at ≢ missing → IsTexture lump at
is_there lump at (inl none) some = absurd (some none)
is_there lump at (inr is) some = is

pub pixels_there : (lump : List ℕ) (at : ℕ) → HasTexture lump at → at ≢ missing
    → at + 40 + pixels_at lump at ≤ length lump
unfolding pixels_at
pixels_there lump at has some =
    elim (eqb_tells at missing) [
      | inl none ↦ absurd (some none.1)
      | inr other ↦ rw other.0 (is_there lump at has some).inside
    ]

pub no_pixels : (lump : List ℕ) (at : ℕ) → at ≡ missing → pixels_at lump at ≡ 0
unfolding pixels_at
no_pixels lump at none = rw none refl

pub offset_there : (lump : List ℕ) (texture : ℕ) → IsChecked lump → texture < texture_count lump
    → HasTexture lump (slice_index (texture_offsets lump) texture)
offset_there lump texture checked lt = texture_inside lump texture checked.1 lt

pub offset_told : (lump : List ℕ) (texture : ℕ) → texture < texture_count lump
    → slice_get (texture_offsets lump) texture ≡ Some (slice_index (texture_offsets lump) texture)
offset_told lump texture lt =
    slice_get-get_or (texture_offsets lump) texture 0 (rw length-texture_offsets lt)

-- ---- the rows, one behind the other

pub row_written : (lump out part whole : List ℕ) (pixels n at k next : ℕ) → n < texture_count lump
    → with_left out at (texture_rows lump pixels n (drop n (texture_offsets lump))) ≡ whole
    → part ≡ texture_row lump pixels (unwrap_or (cycle_of lump n) no_cycle) (slice_index (texture_offsets lump) n)
    → next ≡ at + length part → at ≤ length out
    → with_left (put_mid at k out part) next
    (texture_rows lump (pixels + pixels_at lump (slice_index (texture_offsets lump) n)) (n + 1)
    (drop (n + 1) (texture_offsets lump)))
    ≡ whole
unfolding texture_rows
row_written lump out part whole pixels n at k next lt so is long room =
    let offsets = texture_offsets lump in
    let below : n < length offsets = rw length-texture_offsets lt in
    let rest = texture_rows lump (pixels + pixels_at lump (slice_index offsets n)) (n + 1) (drop (n + 1) offsets) in
    let left : texture_rows lump pixels n (drop n offsets) ≡ part ++ rest = rw (drop_more offsets n 0 below, is) refl in
    part_written out part rest at k next long room ∙ ap (with_left out at) (sym left) ∙ so

pub rows_written : (lump out whole : List ℕ) (pixels n at : ℕ) → texture_count lump ≤ n → length out ≤ at
    → with_left out at (texture_rows lump pixels n (drop n (texture_offsets lump))) ≡ whole → out ≡ whole
unfolding texture_rows
rows_written lump out whole pixels n at all enough so =
    let none : texture_rows lump pixels n (drop n (texture_offsets lump)) ≡ [] =
    rw (drop_all n (texture_offsets lump) (rw length-texture_offsets all)) refl in
    sym (none_left out at enough) ∙ ap (with_left out at) (sym none) ∙ so

-- the pixels that are left are those of the next texture and the others
pub sum_left : (lump : List ℕ) (n : ℕ) → n < texture_count lump
    → sum_by (pixels_at lump) (drop n (texture_offsets lump))
    ≡ pixels_at lump (slice_index (texture_offsets lump) n) + sum_by (pixels_at lump) (drop (n + 1) (texture_offsets lump))
sum_left lump n lt =
    sum_by-drop_more (pixels_at lump) (texture_offsets lump) n 0 (rw length-texture_offsets lt)

pub none_sum : (lump : List ℕ) (n : ℕ) → texture_count lump ≤ n → sum_by (pixels_at lump) (drop n (texture_offsets lump)) ≡ 0
none_sum lump n all = rw (drop_all n (texture_offsets lump) (rw length-texture_offsets all)) refl

-- ---- how long the section is

length-padded : (name : List ℕ) → length name ≡ 16 → length (padded name) ≡ 16
unfolding padded
length-padded name long =
    rw (length-append, length-replicate) (omega (arith, long, length_until_zero name))

length-texture_row : (lump : List ℕ) (pixels : ℕ) (cycle : Cycle) (at : ℕ) → HasTexture lump at
    → length (texture_row lump pixels cycle at) ≡ 68
unfolding texture_row present_row animation_numbers
length-texture_row lump pixels cycle at has =
    elim (eqb_tells at missing) [
      | inl none ↦ rw none.0 refl
      | inr some ↦
          let there = is_there lump at has some.1 in
          let texture = field 40 lump at in
          let long : length texture ≡ 40 = simp (length-take, length-drop) (omega (arith, there.room)) in
          let name : length (take 16 texture) ≡ 16 = simp (length-take, length-drop) (omega (arith, there.room)) in
          let fields : length (drop 16 texture) ≡ 24 = simp (length-take, length-drop) (omega (arith, there.room)) in
          rw (some.0, length-append, length-append, length-append, length-padded (take 16 texture) name, fields) refl
    ]

length-texture_rows : (lump : List ℕ) (pixels texture : ℕ) (offsets : List ℕ)
    → ((n at : ℕ) → slice_get offsets n ≡ Some at → HasTexture lump at)
    → length (texture_rows lump pixels texture offsets) ≡ 68 * length offsets
unfolding texture_rows
length-texture_rows lump pixels texture [] each = refl
length-texture_rows lump pixels texture (at ∷ offsets) each =
    rw (
      length-append,
      length-texture_row lump pixels (unwrap_or (cycle_of lump texture) no_cycle) at (each 0 at refl),
      length-texture_rows lump (pixels + pixels_at lump at) (texture + 1) offsets (λ n next is. each (suc n) next is),
    ) (omega arith)

length-pixels_of : (lump : List ℕ) (at : ℕ) → HasTexture lump at → length (pixels_of lump at) ≡ pixels_at lump at
unfolding pixels_of
length-pixels_of lump at has =
    elim (eqb_tells at missing) [
      | inl none ↦ rw none.0 (sym (no_pixels lump at none.1))
      | inr some ↦
          rw some.0 (simp (length-take, length-drop) (omega (arith, pixels_there lump at has some.1)))
    ]

length-all_pixels : (lump offsets : List ℕ) → ((n at : ℕ) → slice_get offsets n ≡ Some at → HasTexture lump at)
    → length (flat_map (pixels_of lump) offsets) ≡ sum_by (pixels_at lump) offsets
length-all_pixels lump [] each = refl
length-all_pixels lump (at ∷ offsets) each =
    rw (
      length-append,
      length-pixels_of lump at (each 0 at refl),
      length-all_pixels lump offsets (λ n next is. each (suc n) next is),
      sum_by-cons (pixels_at lump) at offsets,
    ) refl

pub length-texture_section : (lump : List ℕ) (start : ℕ)
    → ((n at : ℕ) → slice_get (texture_offsets lump) n ≡ Some at → HasTexture lump at)
    → length (texture_section lump start) ≡ textures_size lump
unfolding texture_section
length-texture_section lump start each =
    rw (
      length-append,
      length-texture_rows lump (start + 68 * texture_count lump) 0 (texture_offsets lump) each,
      length-all_pixels lump (texture_offsets lump) each,
      length-texture_offsets,
    ) refl
