-- The words of the command line: options, each with a number, and then folders.
use Rattle.std.specs.Prelude.{◌≡◌, ℕ, ◌+◌, ◌*◌, ◌<◌, ◌≤◌, Bool, true, false, not, ◌==◌, IsTrue, List, [], ◌∷◌, ◌++◌, length, take, find, count_by, All, Option, Some, option_map, unwrap_or, codes}
use Rattle.std.specs.List.{flat_map}
use Rattle.base_fields.specs.Numbers.{number_of}
use Rattle.command_line.specs.declared.reading.Quantity.{Quantity}
use Rattle.command_line.specs.declared.reading.Quantity.TheVariants.{Heap, Zone, Speed}
use Rattle.command_line.specs.declared.words.Request.{Request}

-- the name of the option that sets a quantity
abbrev pub name_of : Quantity → List ℕ
name_of Heap = codes "-heapsize"
name_of Zone = codes "-zone"
name_of Speed = codes "-speed"

-- the least number that it may be, of KB or of Hz
abbrev pub least_of : Quantity → ℕ
least_of Heap = 1024
least_of Zone = 4
least_of Speed = 1000

-- the greatest
abbrev pub greatest_of : Quantity → ℕ
greatest_of Heap = 65536
greatest_of Zone = 65536
greatest_of Speed = 96000

-- and what it is where no option sets it
abbrev pub default_of : Quantity → ℕ
default_of Heap = 16384
default_of Zone = 48
default_of Speed = 11025

-- a quantity that is set: the word behind the option's name, and the number that it writes
pub record Setting : Type 0 where
  pub quantity : Quantity
  pub word : List ℕ
  pub number : ℕ

-- the word writes the number, and the quantity may be that
pub record IsSetting (s : Setting) : Type 0 where
  pub written : number_of s.word ≡ Some s.number
  pub least : least_of s.quantity ≤ s.number
  pub greatest : s.number ≤ greatest_of s.quantity

-- the two words of the option
abbrev pub option_words : Setting → List (List ℕ)
option_words s = name_of s.quantity ∷ s.word ∷ []

-- the option sets this quantity
abbrev pub is_same : Quantity → Quantity → Bool
is_same Heap Heap = true
is_same Zone Zone = true
is_same Speed Speed = true
is_same a b = false

abbrev pub sets : Quantity → Setting → Bool
sets quantity s = is_same s.quantity quantity

-- a folder's word isn't empty and doesn't begin with `-`
abbrev pub is_folder_word : List ℕ → Bool
is_folder_word [] = false
is_folder_word (byte ∷ word) = not (byte == 45)

-- the words are those of some options, no quantity set twice, and then 1 to `most` folder words
pub record IsLine (words : List (List ℕ)) (most : ℕ) (settings : List Setting) (folders : List (List ℕ)) : Type 0 where
  pub joined : words ≡ flat_map option_words settings ++ folders
  pub lawful : All IsSetting settings
  pub once : (quantity : Quantity) → count_by (sets quantity) settings ≤ 1
  pub named : All (λ word. IsTrue (is_folder_word word)) folders
  pub some : 1 ≤ length folders
  pub few : length folders ≤ most

-- the number that the options set a quantity to
abbrev pub given : Quantity → List Setting → Option ℕ
given quantity settings = option_map (λ s. s.number) (find (sets quantity) settings)

abbrev pub given_or : Quantity → List Setting → ℕ
given_or quantity settings = unwrap_or (given quantity settings) (default_of quantity)

-- what such a line asks for
abbrev pub asked : List Setting → List (List ℕ) → Request
asked settings folders = record {
  heap = given_or Heap settings;
  zone = given_or Zone settings;
  speed = given_or Speed settings;
  first = 2 * length settings;
  folders = length folders;
}

-- the words are a lawful line, and ask for this
pub record IsAsked (words : List (List ℕ)) (most : ℕ) (request : Request) : Type 0 where
  pub settings : List Setting
  pub folders : List (List ℕ)
  pub line : IsLine words most settings folders
  pub asks : request ≡ asked settings folders

-- the words are a lawful line
pub record IsLawful (words : List (List ℕ)) (most : ℕ) : Type 0 where
  pub settings : List Setting
  pub folders : List (List ℕ)
  pub line : IsLine words most settings folders

-- some lawful line begins with the words
pub record IsFront (words : List (List ℕ)) (most : ℕ) : Type 0 where
  pub rest : List (List ℕ)
  pub lawful : IsLawful (words ++ rest) most

-- A lawful line begins with the words before the first bad one, and none with it too. Where its number is that of the words,
-- one is missing: they are no lawful line themselves.
pub record IsFirstBad (words : List (List ℕ)) (most : ℕ) (word : ℕ) : Type 0 where
  pub within : word ≤ length words
  pub front : IsFront (take word words) most
  pub breaks : word < length words → IsFront (take (word + 1) words) most → ⊥
  pub missing : word ≡ length words → IsLawful words most → ⊥
