-- Rows of 20 leafs, and of bytes that end too soon.
use Rattle.std.proofs.Common.{◌≡◌, [], ◌∷◌, pos, negsuc, Some, None, Ok, Err, refl}
use Rattle.vis_rows.specs.declared.VisError.TheVariants.{Truncated}
use Rattle.vis_rows.specs.Rows.{expand, first, from_offset, row_told}

seen : row_told 3 (Some (5 ∷ 0 ∷ 2 ∷ [])) ≡ Ok (5 ∷ 0 ∷ 0 ∷ [])
unfolding expand first
seen = refl

-- a run of zeros may pass the end of the row
past_the_row : row_told 3 (Some (5 ∷ 0 ∷ 9 ∷ [])) ≡ Ok (5 ∷ 0 ∷ 0 ∷ [])
unfolding expand first
past_the_row = refl

-- what stands behind the row is another one
next_row : row_told 3 (Some (5 ∷ 6 ∷ 7 ∷ 8 ∷ [])) ≡ Ok (5 ∷ 6 ∷ 7 ∷ [])
unfolding expand first
next_row = refl

no_count : row_told 3 (Some (5 ∷ 0 ∷ [])) ≡ Err Truncated
unfolding expand first
no_count = refl

too_few : row_told 3 (Some (5 ∷ 0 ∷ 1 ∷ [])) ≡ Err Truncated
unfolding expand first
too_few = refl

all_seen : row_told 3 None ≡ Ok (255 ∷ 255 ∷ 255 ∷ [])
all_seen = refl

no_bytes : row_told 0 (Some []) ≡ Ok []
unfolding expand first
no_bytes = refl

behind_the_bytes : from_offset (pos 2) (5 ∷ 6 ∷ []) ≡ None
behind_the_bytes = refl

before_the_bytes : from_offset (negsuc 0) (5 ∷ 6 ∷ []) ≡ None
before_the_bytes = refl

the_last_byte : from_offset (pos 1) (5 ∷ 6 ∷ []) ≡ Some (6 ∷ [])
the_last_byte = refl
