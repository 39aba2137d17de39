-- The words, read one after another.
use Rattle.std.specs.Prelude.{◌≡◌, ℕ, ◌≤◌, IsTrue, List, [], ◌∷◌, ◌++◌, length, count_by, All, Option, Some, None, MatchOption}
use Rattle.std.specs.List.{flat_map}
use Rattle.std.specs.Option.{ForSome}
use Rattle.command_line.specs.declared.reading.Quantity.{Quantity}
use Rattle.command_line.specs.declared.reading.Quantity.TheVariants.{Heap, Zone, Speed}
use Rattle.command_line.specs.declared.reading.Reading.{Reading}
use Rattle.command_line.specs.CommandLine.{name_of, Setting, IsSetting, option_words, sets, is_folder_word, given, IsFront}

-- the number that a quantity was given
abbrev pub set_to : Quantity → Reading → Option ℕ
set_to Heap reading = reading.heap
set_to Zone reading = reading.zone
set_to Speed reading = reading.speed

-- this number for a quantity, and no option that waits for one
abbrev pub with_set : Quantity → ℕ → Reading → Reading
with_set Heap number reading = record reading { heap = Some number; named = None }
with_set Zone number reading = record reading { zone = Some number; named = None }
with_set Speed number reading = record reading { speed = Some number; named = None }

-- the name of an option that waits for its number
abbrev pub waiting : Option Quantity → List (List ℕ)
waiting None = []
waiting (Some quantity) = name_of quantity ∷ []

-- The words were read: options that are whole, and then the name of one that waits for its number, or folder words.
pub record Reads (words : List (List ℕ)) (most : ℕ) (reading : Reading) : Type 0 where
  pub settings : List Setting
  pub folder_words : List (List ℕ)
  pub joined : words ≡ flat_map option_words settings ++ (waiting reading.named ++ folder_words)
  pub lawful : All IsSetting settings
  pub once : (quantity : Quantity) → count_by (sets quantity) settings ≤ 1
  pub unset : ForSome reading.named (λ quantity. count_by (sets quantity) settings ≡ 0)
  pub alone : ForSome reading.named (λ quantity. folder_words ≡ [])
  pub numbers : (quantity : Quantity) → set_to quantity reading ≡ given quantity settings
  pub folders : All (λ word. IsTrue (is_folder_word word)) folder_words
  pub counted : reading.folders ≡ length folder_words
  pub few : length folder_words ≤ most

-- the words read so far with one word more: what they say, or none where no lawful line of words begins so
abbrev pub ReadsMore : Reading → List ℕ → ℕ → Option Reading → Type 0
ReadsMore reading word most after =
    (words : List (List ℕ)) → Reads words most reading
    → MatchOption after (IsFront (words ++ word ∷ []) most → ⊥) (λ next. Reads (words ++ word ∷ []) most next)
