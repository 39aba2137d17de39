-- Places of the zone that someone keeps.
use Rattle.std.specs.Prelude.{ℕ, ◌≡◌, List, Some}
use Rattle.std.specs.List.{AllByRecursion}
use Rattle.mem_model.specs.Memory.{Memory}
use Rattle.mem_model.specs.Zone.{zone_bytes}
use Rattle.mem_model.specs.Apart.{NoneIs, AreUsed, AreApart}

-- The places are those of used blocks, and no two are the same.
pub record AreHeld (m : Memory) (places : List ℕ) : Type 0 where
  pub used : AreUsed m places
  pub apart : AreApart places

-- none of the places is any of the others
abbrev pub NoneAmong : List ℕ → List ℕ → Type 0
NoneAmong places others = AllByRecursion (λ place. NoneIs place others) places

-- Used blocks at none of the places keep their bytes, and are at none of the places that are held now.
abbrev pub OthersStay : (old new : Memory) → (before now : List ℕ) → Type 0
OthersStay old new before now =
    (place : ℕ) (bytes : List ℕ) → NoneIs place before → zone_bytes old place ≡ Some bytes
    → NoneIs place now × (zone_bytes new place ≡ Some bytes)

-- The blocks at these places keep their bytes.
abbrev pub KeepsAt : (old new : Memory) → List ℕ → Type 0
KeepsAt old new places =
    AllByRecursion (λ place. (bytes : List ℕ) → zone_bytes old place ≡ Some bytes → zone_bytes new place ≡ Some bytes) places
