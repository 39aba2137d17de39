-- The cvars: variables of the console, each a name and the place of its value in the zone.
use Rattle.std.specs.Prelude.{◌≡◌, ◌≢◌, ℕ, List, [], ◌∷◌, Bool, true, false, Option, Some, None, Result, Ok, Err}
use Rattle.std.specs.Prelude.{if◌then◌else◌, map, find, bytes_eq, codes}
use Rattle.std.specs.Option.{option_and_then}
use Rattle.mem_model.specs.Memory.{Memory}
use Rattle.mem_model.specs.Answer.{Answered}
use Rattle.zone_values.specs.Values.{value_at, put_value, replace_value}
use Rattle.zone_values.specs.Held.{AreHeld}

pub record Cvar : Type 0 where
  pub name : List ℕ
  pub place : ℕ

-- the name of a cvar, and the value that it begins with
pub record Default : Type 0 where
  pub name : List ℕ
  pub value : List ℕ

-- the cvars in the order in which they are created
abbrev pub defaults : List Default
defaults =
    record { name = codes "developer"; value = codes "0" }
    ∷ record { name = codes "volume"; value = codes "0.7" }
    ∷ record { name = codes "bgmvolume"; value = codes "1" }
    ∷ record { name = codes "sensitivity"; value = codes "3" }
    ∷ record { name = codes "viewsize"; value = codes "100" }
    ∷ record { name = codes "crosshair"; value = codes "0" }
    ∷ record { name = codes "gamma"; value = codes "1" }
    ∷ record { name = codes "fov"; value = codes "90" }
    ∷ []

-- the cvar comes first, where the others were created
abbrev pub created_first : Cvar → Result (List Cvar) ℕ → Result (List Cvar) ℕ
created_first cvar (Ok cvars) = Ok (cvar ∷ cvars)
created_first cvar (Err asked) = Err asked

-- what the rest of the defaults gives follows the block of the first, where that was made
abbrev pub created_by : List ℕ → Result ℕ ℕ → Memory → (Memory → Answered (Result (List Cvar) ℕ)) →
    Answered (Result (List Cvar) ℕ)
created_by name (Ok place) m rest =
    record { answer = created_first (record { name = name; place = place }) (rest m).answer; after = (rest m).after }
created_by name (Err asked) m rest = record { answer = Err asked; after = m }

-- Each default gets a block for its value, in order. The first refusal is the answer, and the blocks made before it stay.
unfoldable pub created : Memory → List Default → Answered (Result (List Cvar) ℕ)
created m [] = record { answer = Ok []; after = m }
created m (d ∷ ds) = created_by d.name (put_value m d.value).answer (put_value m d.value).after (λ n. created n ds)

-- the cvar of exactly this name
unfoldable pub cvar_of : List Cvar → List ℕ → Option Cvar
cvar_of cvars name = find (λ cvar. bytes_eq cvar.name name) cvars

-- the value of that cvar
unfoldable pub cvar_value : Memory → List Cvar → List ℕ → Option (List ℕ)
cvar_value m cvars name = option_and_then (λ cvar. value_at m cvar.place) (cvar_of cvars name)

-- the cvars with another place for the one of this name
abbrev pub with_place : List Cvar → List ℕ → ℕ → List Cvar
with_place [] name place = []
with_place (cvar ∷ cvars) name place =
    if bytes_eq cvar.name name then record cvar { place = place } ∷ cvars else cvar ∷ with_place cvars name place

-- What setting a cvar gives: whether there is one, or what its block needs where the zone is full, with the memory after it;
-- and the cvars after it.
pub record CvarSet : Type 0 where
  pub given : Answered (Result Bool ℕ)
  pub cvars : List Cvar

abbrev pub set_by : List Cvar → List ℕ → Answered (Result ℕ ℕ) → Result ℕ ℕ → CvarSet
set_by cvars name given (Ok place) =
    record { given = record { answer = Ok true; after = given.after }; cvars = with_place cvars name place }
set_by cvars name given (Err asked) = record { given = record { answer = Err asked; after = given.after }; cvars = cvars }

abbrev pub set_found : Memory → List Cvar → List ℕ → List ℕ → Option Cvar → CvarSet
set_found m cvars name value None = record { given = record { answer = Ok false; after = m }; cvars = cvars }
set_found m cvars name value (Some cvar) =
    set_by cvars name (replace_value m cvar.place value) (replace_value m cvar.place value).answer

-- The value of the cvar of exactly this name is replaced. Without such a cvar nothing changes, and where the zone is full no
-- block does.
unfoldable pub set_cvar : Memory → List Cvar → List ℕ → List ℕ → CvarSet
set_cvar m cvars name value = set_found m cvars name value (cvar_of cvars name)

-- where the values of the cvars are
abbrev pub places_of : List Cvar → List ℕ
places_of cvars = map (λ (cvar : Cvar). cvar.place) cvars

-- The values of the cvars are in used blocks of the zone, each in its own.
abbrev pub HoldsCvars : Memory → List Cvar → Type 0
HoldsCvars m cvars = AreHeld m (places_of cvars)

-- the cvar of each name reads as before
abbrev pub ReadAlike : (old new : Memory) → (before now : List Cvar) → Type 0
ReadAlike old new before now = (name : List ℕ) → cvar_value new now name ≡ cvar_value old before name

-- so does that of each name but one
abbrev pub OthersReadAlike : (old new : Memory) → (before now : List Cvar) → List ℕ → Type 0
OthersReadAlike old new before now name =
    (other : List ℕ) → other ≢ name → cvar_value new now other ≡ cvar_value old before other
