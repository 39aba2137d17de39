-- How what is read of a file and the spelling of sprites belong together.
use Rattle.std.specs.Prelude.{◌≡◌, ℕ, List, ◌++◌, Ok, Err}
use Rattle.std.specs.List.{concat}
use Rattle.part_plan.specs.Plan.{run, FailsAt}
use Rattle.sprite_load.specs.declared.fault.SpriteFault.{SpriteFault}
use Rattle.sprite_load.specs.Sprites.{Sprite, spell}
use Rattle.sprite_load.specs.Parts.{sprite}
use Rattle.sprite_load.specs.Passing.{IsSprite}

-- What is read passes its tests, and the file begins with its spelling.
abbrev pub ReadIsSpelled : Type 0
ReadIsSpelled =
    (source rest : List ℕ) (s : Sprite) → run sprite source ≡ Ok (s, rest) → (source ≡ spell s ++ rest) × IsSprite s

-- The spelling of what passes its tests is read, whatever follows.
abbrev pub SpelledIsRead : Type 0
SpelledIsRead = (s : Sprite) (rest : List ℕ) → IsSprite s → run sprite (spell s ++ rest) ≡ Ok (s, rest)

-- A fault is that of the first part that fails a test, by the first test that it fails; those before it pass.
abbrev pub FaultIsFirst : Type 0
FaultIsFirst =
    (source : List ℕ) (fault : SpriteFault) → run sprite source ≡ Err fault
    → (parts : List (List ℕ)) × (rest : List ℕ) × (source ≡ concat parts ++ rest) × FailsAt sprite parts rest fault

-- The first part that fails a test is answered by the fault of that test.
abbrev pub FirstIsFault : Type 0
FirstIsFault =
    (parts : List (List ℕ)) (rest : List ℕ) (fault : SpriteFault) → FailsAt sprite parts rest fault
    → run sprite (concat parts ++ rest) ≡ Err fault
