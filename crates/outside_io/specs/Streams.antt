-- What a read takes and what a put adds, where the object tells its bytes.
use Rattle.std.specs.Prelude.{◌≡◌, ◌↔◌, ℕ, ◌≤◌, List, [], ◌++◌, length, take, Option, IfSome, option_map}

-- the first n bytes of `into` are those that were taken from the front of what was left, and none only at the end
pub record TakesFront (before after : Option (List ℕ)) (n : ℕ) (into : List ℕ) : Type 0 where
  pub taken : before ≡ option_map (λ left. take n into ++ left) after
  pub ends : IfSome before (λ left. (n ≡ 0) ↔ (left ≡ []))

-- what was taken, and what is left now, are what was left at the start
abbrev pub Took : List ℕ → Option (List ℕ) → Option (List ℕ) → Type 0
Took taken start now = start ≡ option_map (λ left. taken ++ left) now

-- the piece was added at the end
abbrev pub Adds : List ℕ → Option (List ℕ) → Option (List ℕ) → Type 0
Adds piece before after = after ≡ option_map (λ got. got ++ piece) before

-- a front of the piece was added at the end
abbrev pub AddsFront : List ℕ → Option (List ℕ) → Option (List ℕ) → Type 0
AddsFront piece before after = (n : ℕ) × (n ≤ length piece) × Adds (take n piece) before after
