-- Lawful lines of words: how they are cut, that each asks for one thing, and that other words have one first bad one.
use Rattle.std.proofs.Common.{◌≡◌, ℕ, ◌+◌, ◌<◌, true, List, [], ◌∷◌, ◌++◌, length, take, drop, All, Ok, Err, Result, IsTrue, refl, sym, ap, subst, ◌∙◌, inl, inr, arith}
use Rattle.std.specs.Prelude.{◌↔◌}
use Rattle.std.specs.List.{flat_map}
use Rattle.std.proofs.lemmas.Bool.{cases_order}
use Rattle.std.proofs.lemmas.List.{append-nil, append_assoc, take-append-drop, take-take}
use Rattle.std.proofs.lemmas.List.Elements.{All-head, All-tail}
use Rattle.base_fields.specs.Numbers.{number_of}
use Rattle.command_line.specs.declared.reading.Quantity.{Quantity}
use Rattle.command_line.specs.declared.reading.Quantity.TheVariants.{Heap, Zone, Speed}
use Rattle.command_line.specs.declared.words.Request.{Request}
use Rattle.command_line.specs.declared.words.UsageError.{UsageError}
use Rattle.command_line.specs.CommandLine.{name_of, Setting, IsSetting, option_words, is_folder_word, IsLine, asked, IsAsked, IsLawful, IsFront, IsFirstBad}

-- each word is a folder's
abbrev pub AreFolders : List (List ℕ) → Type 0
AreFolders words = All (λ word. IsTrue (is_folder_word word)) words

-- the name of an option is no folder's word
pub name_no_folder : (quantity : Quantity) (word : List ℕ) → word ≡ name_of quantity → is_folder_word word ≡ true → ⊥
name_no_folder Heap word is folder = cc
name_no_folder Zone word is folder = cc
name_no_folder Speed word is folder = cc

-- so no words of folders begin with it
pub no_option : (quantity : Quantity) (rest folders : List (List ℕ)) → AreFolders folders → name_of quantity ∷ rest ≡ folders → ⊥
no_option quantity rest [] named same = cc
no_option quantity rest (word ∷ folders) named same =
    name_no_folder quantity word (cc) (All-head (λ w. IsTrue (is_folder_word w)) word folders named)

-- two quantities have two names
pub same_name : (a b : Quantity) → name_of a ≡ name_of b → a ≡ b
same_name Heap Heap same = refl
same_name Heap Zone same = cc
same_name Heap Speed same = cc
same_name Zone Heap same = cc
same_name Zone Zone same = refl
same_name Zone Speed same = cc
same_name Speed Heap same = cc
same_name Speed Zone same = cc
same_name Speed Speed same = refl

abbrev setting : Quantity → List ℕ → ℕ → Setting
setting quantity word number = record { quantity = quantity; word = word; number = number }

-- two settings of the same words are one
pub same_setting : (s t : Setting) → IsSetting s → IsSetting t → name_of s.quantity ≡ name_of t.quantity → s.word ≡ t.word → s ≡ t
same_setting s t s_is t_is named word =
    let quantity = same_name s.quantity t.quantity named in
    let number : s.number ≡ t.number = cc (s_is.written, t_is.written, ap number_of word) in
    ap (λ q. setting q s.word s.number) quantity ∙ ap (λ w. setting t.quantity w s.number) word ∙ ap (setting t.quantity t.word) number

-- settings that stand at the front of a line are the first of its settings
pub record Cut (front : List Setting) (tail : List (List ℕ)) (settings : List Setting) (folders : List (List ℕ)) : Type 0 where
  pub others : List Setting
  pub whole : settings ≡ front ++ others
  pub behind : tail ≡ flat_map option_words others ++ folders

pub cut : (front : List Setting) (tail : List (List ℕ)) (settings : List Setting) (folders : List (List ℕ)) → All IsSetting front → All IsSetting settings → AreFolders folders → flat_map option_words front ++ tail ≡ flat_map option_words settings ++ folders → Cut front tail settings folders
cut [] tail settings folders fronts all named same = record { others = settings; whole = refl; behind = same }
cut (s ∷ front) tail [] folders fronts all named same =
    absurd (no_option s.quantity (s.word ∷ (flat_map option_words front ++ tail)) folders named same)
cut (s ∷ front) tail (t ∷ settings) folders fronts all named same =
    let parts : name_of s.quantity ∷ s.word ∷ (flat_map option_words front ++ tail) ≡ name_of t.quantity ∷ t.word ∷ (flat_map option_words settings ++ folders) = same in
    let first : s ≡ t = same_setting s t (All-head IsSetting s front fronts) (All-head IsSetting t settings all) (cc) (cc) in
    let tails : flat_map option_words front ++ tail ≡ flat_map option_words settings ++ folders = cc in
    let rest : Cut front tail settings folders = cut front tail settings folders (All-tail IsSetting s front fronts) (All-tail IsSetting t settings all) named tails in
    record { others = rest.others; whole = cc (first, rest.whole); behind = rest.behind }

-- a line has its settings and folders one way
pub record Same (settings others : List Setting) (folders words : List (List ℕ)) : Type 0 where
  pub settings_are : settings ≡ others
  pub folders_are : folders ≡ words

pub one_line : (words : List (List ℕ)) (most : ℕ) (settings others : List Setting) (folders rest : List (List ℕ)) → IsLine words most settings folders → IsLine words most others rest → Same settings others folders rest
one_line words most settings others folders rest a b =
    let parts : Cut settings folders others rest = cut settings folders others rest a.lawful b.lawful b.named (sym a.joined ∙ b.joined) in
    from_cut parts.others parts.whole parts.behind
  where
    from_cut : (more : List Setting) → others ≡ settings ++ more → folders ≡ flat_map option_words more ++ rest → Same settings others folders rest
    from_cut [] whole behind = record { settings_are = sym (whole ∙ append-nil settings); folders_are = behind }
    from_cut (s ∷ more) whole behind = absurd (no_option s.quantity (s.word ∷ (flat_map option_words more ++ rest)) folders a.named (sym behind))

-- a line asks for one thing
pub one_request : (words : List (List ℕ)) (most : ℕ) (request other : Request) → IsAsked words most request → IsAsked words most other → request ≡ other
one_request words most request other a b =
    let same = one_line words most a.settings b.settings a.folders b.folders a.line b.line in
    a.asks ∙ ap (λ s. asked s a.folders) same.settings_are ∙ ap (asked b.settings) same.folders_are ∙ sym b.asks

-- what asks for something is lawful, and a lawful line begins with itself
pub lawful_from_asked : (words : List (List ℕ)) (most : ℕ) (request : Request) → IsAsked words most request → IsLawful words most
lawful_from_asked words most request a = record { settings = a.settings; folders = a.folders; line = a.line }

pub front_from_lawful : (words : List (List ℕ)) (most : ℕ) → IsLawful words most → IsFront words most
front_from_lawful words most lawful = record { rest = []; lawful = subst (λ w. IsLawful w most) (sym (append-nil words)) lawful }

-- a lawful line begins with each front of what it begins with
pub front_from_longer : (words more : List (List ℕ)) (most : ℕ) → IsFront (words ++ more) most → IsFront words most
front_from_longer words more most front = record { rest = more ++ front.rest; lawful = subst (λ w. IsLawful w most) (append_assoc words more front.rest) front.lawful }

pub front_take : (n : ℕ) (words : List (List ℕ)) (most : ℕ) → IsFront words most → IsFront (take n words) most
front_take n words most front = front_from_longer (take n words) (drop n words) most (subst (λ w. IsFront w most) (sym (take-append-drop n words)) front)

-- where the words have a first bad one, none before it is
none_before : (words : List (List ℕ)) (most a b : ℕ) → IsFirstBad words most a → IsFirstBad words most b → a < b → ⊥
none_before words most a b first other below =
    let front : IsFront (take (a + 1) (take b words)) most = front_take (a + 1) (take b words) most other.front in
    first.breaks (omega (arith, other.within)) (subst (λ w. IsFront w most) (take-take (a + 1) b words (omega arith)) front)

-- words have one first bad one at most
pub one_bad : (words : List (List ℕ)) (most a b : ℕ) → IsFirstBad words most a → IsFirstBad words most b → a ≡ b
one_bad words most a b first other = elim (cases_order a b) [
  | inl same ↦ same
  | inr apart ↦ elim apart [
    | inl below ↦ absurd (none_before words most a b first other below)
    | inr above ↦ absurd (none_before words most b a other first above)
  ]
]

-- and none where they ask for something
pub asked_has_no_bad : (words : List (List ℕ)) (most : ℕ) (request : Request) (word : ℕ) → IsAsked words most request → IsFirstBad words most word → ⊥
asked_has_no_bad words most request word a bad =
    let lawful = lawful_from_asked words most request a in
    elim (cases_order word (length words)) [
      | inl at_end ↦ bad.missing at_end lawful
      | inr apart ↦ elim apart [
        | inl inside ↦ bad.breaks inside (front_take (word + 1) words most (front_from_lawful words most lawful))
        | inr past ↦ omega (arith, bad.within)
      ]
    ]

-- an answer is pinned both ways
pub record Pinned (words : List (List ℕ)) (most : ℕ) (answer : Result Request UsageError) : Type 0 where
  pub asks : (request : Request) → (answer ≡ Ok request) ↔ IsAsked words most request
  pub refuses : (error : UsageError) → (answer ≡ Err error) ↔ IsFirstBad words most error.word

pub pinned_ok : (words : List (List ℕ)) (most : ℕ) (request : Request) → IsAsked words most request → Pinned words most (Ok request)
pinned_ok words most request a = record {
  asks = λ other. (λ (is : Ok request ≡ Ok other). subst (λ r. IsAsked words most r) (cc) a, λ (b : IsAsked words most other). ap Ok (one_request words most request other a b));
  refuses = λ error. (λ (is : Ok request ≡ Err error). absurd (cc), λ (bad : IsFirstBad words most error.word). absurd (asked_has_no_bad words most request error.word a bad));
}

abbrev usage : ℕ → UsageError
usage word = record { word = word }

pub pinned_err : (words : List (List ℕ)) (most : ℕ) (error : UsageError) → IsFirstBad words most error.word → Pinned words most (Err error)
pinned_err words most error bad = record {
  asks = λ request. (λ (is : Err error ≡ Ok request). absurd (cc), λ (a : IsAsked words most request). absurd (asked_has_no_bad words most request error.word a bad));
  refuses = λ other. (λ (is : Err error ≡ Err other). let same : error ≡ other = cc in subst (λ (e : UsageError). IsFirstBad words most e.word) same bad, λ (b : IsFirstBad words most other.word). ap (λ w. Err (usage w)) (one_bad words most error.word other.word bad b));
}
