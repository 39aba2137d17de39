-- The names of textures.
use Rattle.std.proofs.Common.{◌≡◌, ◌≢◌, ℕ, ◌≤◌, ◌<◌, inl, inr, List, [], length, get_or, refl, ap}
use Rattle.std.proofs.lemmas.Bool.Decides.{eqb_tells}
use Rattle.std.proofs.lemmas.List.{get_or_default, get_or_past}
use Rattle.base_fields.specs.Fields.{field}
use Rattle.base_fields.specs.Texts.{until_zero}
use Rattle.bsp29_tables.specs.Textures.{texture_count, texture_offsets, missing}
use Rattle.bsp29_tables.specs.Cycles.{name_at, name_of}
use Rattle.bsp29_tables.proofs.Cutting.{length-texture_offsets}

pub name_there : (lump : List ℕ) (texture : ℕ) → texture < texture_count lump
    → name_of lump texture ≡ name_at lump (get_or (texture_offsets lump) texture 0)
name_there lump texture lt =
    let below : texture < length (texture_offsets lump) = rw length-texture_offsets lt in
    ap (name_at lump) (get_or_default (texture_offsets lump) texture missing 0 below)

pub name_beyond : (lump : List ℕ) (texture : ℕ) → texture_count lump ≤ texture → name_of lump texture ≡ []
unfolding name_at
name_beyond lump texture le =
    let past : length (texture_offsets lump) ≤ texture = rw length-texture_offsets le in
    rw (get_or_past (texture_offsets lump) texture missing past) refl

pub name_some : (lump : List ℕ) (at : ℕ) → at ≢ missing → name_at lump at ≡ until_zero (field 16 lump at)
unfolding name_at
name_some lump at there =
    elim (eqb_tells at missing) [
      | inl none ↦ absurd (there none.1)
      | inr some ↦ rw some.0 refl
    ]
