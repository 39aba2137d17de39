-- The chunks of a RIFF file.
use Rattle.std.specs.Prelude.{ℕ, zero, suc, ◌+◌, ◌%◌, ◌^◌, ◌≤◌, Bool, ◌&&◌, nat_lt, nat_le, ◌==◌, if◌then◌else◌, List}
use Rattle.std.specs.Prelude.{[], ◌∷◌, length, drop, codes}
use Rattle.std.specs.Prelude.{Option, Some, IfSome, is_none, option_and_then}
use Rattle.std.specs.List.{find, starts_with}
use Rattle.base_fields.specs.Fields.{u32_in}
use Rattle.wav_load.specs.declared.chunks.Places.{Places}

-- these bytes stand at p
abbrev pub stands : List ℕ → List ℕ → ℕ → Bool
stands bytes text p = starts_with ◌==◌ (drop p bytes) text

-- a chunk stands at p: four bytes of name and four of length, which is below 2 ^ 31
unfoldable pub is_chunk : List ℕ → ℕ → Bool
is_chunk bytes p = nat_le (p + 8) (length bytes) && nat_lt (u32_in bytes (p + 4)) (2 ^ 31)

-- the place behind it, its length rounded up to even
unfoldable pub behind : List ℕ → ℕ → ℕ
behind bytes p = p + 8 + u32_in bytes (p + 4) + u32_in bytes (p + 4) % 2

-- the places of the chunks from p on, one behind the other up to the first place with none; n of them at most
unfoldable pub chunks_within : ℕ → List ℕ → ℕ → List ℕ
chunks_within zero bytes p = []
chunks_within (suc n) bytes p = if is_chunk bytes p then p ∷ chunks_within n bytes (behind bytes p) else []

-- all of them: there are no more than bytes
unfoldable pub chunks_from : List ℕ → ℕ → List ℕ
chunks_from bytes p = chunks_within (length bytes) bytes p

-- the first one of this name
unfoldable pub first_chunk : List ℕ → List ℕ → ℕ → Option ℕ
first_chunk bytes name p = find (stands bytes name) (chunks_from bytes p)

-- the first chunk of each name that counts; the list is the first behind the cue
unfoldable pub places_in : List ℕ → Places
places_in bytes = record {
  fmt = first_chunk bytes (codes "fmt ") 12;
  cue = first_chunk bytes (codes "cue ") 12;
  list = option_and_then (λ cue. first_chunk bytes (codes "LIST") (behind bytes cue)) (first_chunk bytes (codes "cue ") 12);
  samples = first_chunk bytes (codes "data") 12;
}

-- the place that was found, or p where it has this name
abbrev pub named : List ℕ → Option ℕ → List ℕ → ℕ → Option ℕ
named bytes found name p = if is_none found && stands bytes name p then Some p else found

-- what is known behind the chunk at p, from what was known before it
abbrev pub noted : List ℕ → Places → ℕ → Places
noted bytes places p = record {
  fmt = named bytes places.fmt (codes "fmt ") p;
  cue = named bytes places.cue (codes "cue ") p;
  list = if is_none places.cue then places.list else named bytes places.list (codes "LIST") p;
  samples = named bytes places.samples (codes "data") p;
}

-- each chunk's name and length stand among the first n bytes
pub record AreInside (n : ℕ) (places : Places) : Type 0 where
  pub fmt : IfSome places.fmt (λ p. p + 8 ≤ n)
  pub cue : IfSome places.cue (λ p. p + 8 ≤ n)
  pub list : IfSome places.list (λ p. p + 8 ≤ n)
  pub samples : IfSome places.samples (λ p. p + 8 ≤ n)
