-- What one word more does to the words read so far.
use Rattle.std.proofs.Common.{◌≡◌, ◌≢◌, ℕ, ◌≤◌, Bool, true, false, cond, List, [], ◌∷◌, ◌++◌, length, All, count_by, find, Option, Some, None, IsTrue, refl, sym, ap, subst, ◌∙◌, inl, inr, arith}
use Rattle.std.specs.Prelude.{◌⊎◌, option_map, is_some}
use Rattle.std.specs.List.{flat_map}
use Rattle.std.specs.Option.{option_or}
use Rattle.std.proofs.lemmas.Bool.{both_ways, cases_lt}
use Rattle.std.proofs.lemmas.List.{append_assoc, length-append, nil_from_length}
use Rattle.std.proofs.lemmas.List.Elements.{All-head, All-tail, All-same}
use Rattle.std.proofs.lemmas.List.Folds.{find-append}
use Rattle.std.proofs.lemmas.List.Sums.{sum_by-append, sum_by-cons}
use Rattle.command_line.specs.declared.reading.Quantity.{Quantity}
use Rattle.command_line.specs.declared.reading.Quantity.TheVariants.{Heap, Zone, Speed}
use Rattle.command_line.specs.declared.reading.Reading.{Reading}
use Rattle.command_line.specs.CommandLine.{name_of, Setting, IsSetting, option_words, is_same, sets, is_folder_word, given, IsFront}
use Rattle.command_line.specs.Reading.{waiting, Reads}
use Rattle.command_line.proofs.Lines.{AreFolders, name_no_folder, no_option, same_name, Cut, cut}

-- an option sets its own quantity, and no other
pub sets_same : (quantity : Quantity) (s : Setting) → quantity ≡ s.quantity → sets quantity s ≡ true
sets_same quantity s same = subst (λ q. is_same s.quantity q ≡ true) (sym same) (own s.quantity)
  where
    own : (q : Quantity) → is_same q q ≡ true
    own Heap = refl
    own Zone = refl
    own Speed = refl

-- how often a quantity is set, with one option more
abbrev pub weight : Quantity → Setting → ℕ
weight quantity s = cond (sets quantity s) 1 0

pub weight_yes : (quantity : Quantity) (s : Setting) → sets quantity s ≡ true → weight quantity s ≡ 1
weight_yes quantity s is = rw is

pub weight_no : (quantity : Quantity) (s : Setting) → sets quantity s ≡ false → weight quantity s ≡ 0
weight_no quantity s is = rw is

-- a quantity that no option sets isn't found, and what isn't found is set by no option
unset_here : (quantity : Quantity) (s : Setting) (settings : List Setting) (b : Bool) → sets quantity s ≡ b → count_by (sets quantity) (s ∷ settings) ≡ 0 → (count_by (sets quantity) settings ≡ 0 → find (sets quantity) settings ≡ None) → find (sets quantity) (s ∷ settings) ≡ None
unset_here quantity s settings true is unset later = absurd (omega (arith, unset, sum_by-cons (weight quantity) s settings, weight_yes quantity s is))
unset_here quantity s settings false is unset later = rw is (later (omega (arith, unset, sum_by-cons (weight quantity) s settings)))

none_if_unset : (quantity : Quantity) (settings : List Setting) → count_by (sets quantity) settings ≡ 0 → find (sets quantity) settings ≡ None
none_if_unset quantity [] unset = refl
none_if_unset quantity (s ∷ settings) unset = unset_here quantity s settings (sets quantity s) refl unset (none_if_unset quantity settings)

found_here : (quantity : Quantity) (s : Setting) (settings : List Setting) (b : Bool) → sets quantity s ≡ b → find (sets quantity) (s ∷ settings) ≡ None → (find (sets quantity) settings ≡ None → count_by (sets quantity) settings ≡ 0) → count_by (sets quantity) (s ∷ settings) ≡ 0
found_here quantity s settings true is none later = let at : find (sets quantity) (s ∷ settings) ≡ Some s = rw is in absurd (cc)
found_here quantity s settings false is none later =
    let at : find (sets quantity) (s ∷ settings) ≡ find (sets quantity) settings = rw is in
    omega (arith, later (sym at ∙ none), sum_by-cons (weight quantity) s settings, weight_no quantity s is)

unset_if_none : (quantity : Quantity) (settings : List Setting) → find (sets quantity) settings ≡ None → count_by (sets quantity) settings ≡ 0
unset_if_none quantity [] none = refl
unset_if_none quantity (s ∷ settings) none = found_here quantity s settings (sets quantity s) refl none (unset_if_none quantity settings)

-- a quantity with a number is set, and one without isn't
found_from_given : (found : Option Setting) → is_some (option_map (λ s. s.number) found) ≡ false → found ≡ None
found_from_given None is = refl
found_from_given (Some s) is = cc

pub unset_from_given : (quantity : Quantity) (settings : List Setting) → is_some (given quantity settings) ≡ false → count_by (sets quantity) settings ≡ 0
unset_from_given quantity settings none = unset_if_none quantity settings (found_from_given (find (sets quantity) settings) none)

pub set_from_given : (quantity : Quantity) (settings : List Setting) → is_some (given quantity settings) ≡ true → 1 ≤ count_by (sets quantity) settings
set_from_given quantity settings some = elim (cases_lt 0 (count_by (sets quantity) settings)) [
  | inl set ↦ omega (arith, set)
  | inr unset ↦ let nothing : given quantity settings ≡ None = ap (option_map (λ s. s.number)) (none_if_unset quantity settings (omega (arith, unset))) in absurd (both_ways (is_some (given quantity settings)) (ap is_some nothing) some)
]

-- what is given with one option more
pub given_other : (quantity : Quantity) (settings : List Setting) (s : Setting) → sets quantity s ≡ false → given quantity (settings ++ s ∷ []) ≡ given quantity settings
given_other quantity settings s other =
    let alone : find (sets quantity) (s ∷ []) ≡ None = rw other in
    ap (option_map (λ t. t.number)) (find-append (sets quantity) settings (s ∷ []) ∙ ap (option_or (find (sets quantity) settings)) alone ∙ no_other (find (sets quantity) settings))
  where
    no_other : (found : Option Setting) → option_or found None ≡ found
    no_other None = refl
    no_other (Some t) = refl

pub given_new : (settings : List Setting) (s : Setting) → count_by (sets s.quantity) settings ≡ 0 → given s.quantity (settings ++ s ∷ []) ≡ Some s.number
given_new settings s unset =
    let alone : find (sets s.quantity) (s ∷ []) ≡ Some s = rw (sets_same s.quantity s refl) in
    ap (option_map (λ t. t.number)) (find-append (sets s.quantity) settings (s ∷ []) ∙ ap (λ f. option_or f (find (sets s.quantity) (s ∷ []))) (none_if_unset s.quantity settings unset) ∙ alone)

-- an element of a list behind others
pub all_at : {X : Type 0} (P : X → Type 0) (xs : List X) (x : X) (ys : List X) → All P (xs ++ x ∷ ys) → P x
all_at P [] x ys all = All-head P x ys all
all_at P (y ∷ xs) x ys all = all_at P xs x ys (All-tail P y (xs ++ x ∷ ys) all)

-- A lawful line that begins with the words read so far and one more: the settings that are behind those read, and its folders.
pub record GoesOn (settings : List Setting) (read : List (List ℕ)) (word : List ℕ) (most : ℕ) : Type 0 where
  pub others : List Setting
  pub folder_words : List (List ℕ)
  pub rest : List (List ℕ)
  pub behind : read ++ word ∷ rest ≡ flat_map option_words others ++ folder_words
  pub lawful : All IsSetting (settings ++ others)
  pub once : (quantity : Quantity) → count_by (sets quantity) (settings ++ others) ≤ 1
  pub folders : AreFolders folder_words
  pub few : length folder_words ≤ most

pub goes_on : (words : List (List ℕ)) (most : ℕ) (reading : Reading) (word : List ℕ) (r : Reads words most reading) → IsFront (words ++ word ∷ []) most → GoesOn r.settings (waiting reading.named ++ r.folder_words) word most
goes_on words most reading word r front =
    let line = front.lawful.line in
    let settings = front.lawful.settings in
    let folders = front.lawful.folders in
    let read = waiting reading.named ++ r.folder_words in
    let options = flat_map option_words r.settings in
    let split : options ++ (read ++ word ∷ front.rest) ≡ flat_map option_words settings ++ folders =
    sym (append_assoc options read (word ∷ front.rest))
    ∙ ap (λ w. w ++ word ∷ front.rest) (sym r.joined)
    ∙ sym (append_assoc words (word ∷ []) front.rest)
    ∙ line.joined in
    let parts : Cut r.settings (read ++ word ∷ front.rest) settings folders = cut r.settings (read ++ word ∷ front.rest) settings folders r.lawful line.lawful line.named split in
    record {
      others = parts.others;
      folder_words = folders;
      rest = front.rest;
      behind = parts.behind;
      lawful = subst (λ s. All IsSetting s) parts.whole line.lawful;
      once = λ quantity. subst (λ s. count_by (sets quantity) s ≤ 1) parts.whole (line.once quantity);
      folders = line.named;
      few = line.few;
    }

-- the words read where an option waits for its number, and where none does
pub read_waiting : (words : List (List ℕ)) (most : ℕ) (reading : Reading) (quantity : Quantity) (r : Reads words most reading) → reading.named ≡ Some quantity → waiting reading.named ++ r.folder_words ≡ name_of quantity ∷ []
read_waiting words most reading quantity r named = ap (λ w. w ++ r.folder_words) (ap waiting named) ∙ ap (λ w. name_of quantity ∷ w) (r.alone quantity named)

pub read_folders : (words : List (List ℕ)) (most : ℕ) (reading : Reading) (r : Reads words most reading) → reading.named ≡ None → waiting reading.named ++ r.folder_words ≡ r.folder_words
read_folders words most reading r named = ap (λ w. w ++ r.folder_words) (ap waiting named)

-- a word behind the name of an option that isn't its number
pub no_number : (words : List (List ℕ)) (most : ℕ) (reading : Reading) (word : List ℕ) (quantity : Quantity) → Reads words most reading → reading.named ≡ Some quantity → ((n : ℕ) → IsSetting (record { quantity = quantity; word = word; number = n }) → ⊥) → IsFront (words ++ word ∷ []) most → ⊥
no_number words most reading word quantity r named none front =
    let on = goes_on words most reading word r front in
    let read = ap (λ w. w ++ word ∷ on.rest) (sym (read_waiting words most reading quantity r named)) ∙ on.behind in
    broken on.others on.folder_words on.rest read on.lawful on.folders
  where
    broken : (others : List Setting) (folders rest : List (List ℕ)) → name_of quantity ∷ word ∷ rest ≡ flat_map option_words others ++ folders → All IsSetting (r.settings ++ others) → AreFolders folders → ⊥
    broken [] folders rest same lawful are = no_option quantity (word ∷ rest) folders are same
    broken (s ∷ others) folders rest same lawful are =
        let parts : name_of quantity ∷ word ∷ rest ≡ name_of s.quantity ∷ s.word ∷ (flat_map option_words others ++ folders) = same in
        let behind : word ≡ s.word = cc in
        let is : IsSetting s = all_at IsSetting r.settings s others lawful in
        let with_word : IsSetting (record { quantity = s.quantity; word = word; number = s.number }) = subst (λ w. IsSetting (record { quantity = s.quantity; word = w; number = s.number })) (sym behind) is in
        none s.number (subst (λ q. IsSetting (record { quantity = q; word = word; number = s.number })) (sym (same_name quantity s.quantity (cc))) with_word)

-- the name of an option that was given
pub no_second : (words : List (List ℕ)) (most : ℕ) (reading : Reading) (word : List ℕ) (quantity : Quantity) (r : Reads words most reading) → reading.named ≡ None → reading.folders ≡ 0 → word ≡ name_of quantity → 1 ≤ count_by (sets quantity) r.settings → IsFront (words ++ word ∷ []) most → ⊥
no_second words most reading word quantity r named none is_name given_once front =
    let on = goes_on words most reading word r front in
    let no_folders : r.folder_words ≡ [] = nil_from_length r.folder_words (sym r.counted ∙ none) in
    let read = ap (λ w. w ++ word ∷ on.rest) (sym no_folders ∙ sym (read_folders words most reading r named)) ∙ on.behind in
    broken on.others on.folder_words on.rest read (on.once quantity) on.folders
  where
    broken : (others : List Setting) (folders rest : List (List ℕ)) → word ∷ rest ≡ flat_map option_words others ++ folders → count_by (sets quantity) (r.settings ++ others) ≤ 1 → AreFolders folders → ⊥
    broken [] folders rest same once are = no_option quantity rest folders are (ap (λ w. w ∷ rest) (sym is_name) ∙ same)
    broken (s ∷ others) folders rest same once are =
        let parts : word ∷ rest ≡ name_of s.quantity ∷ s.word ∷ (flat_map option_words others ++ folders) = same in
        let again : sets quantity s ≡ true = sets_same quantity s (same_name quantity s.quantity (cc)) in
        omega (arith, once, given_once, sum_by-append (weight quantity) r.settings (s ∷ others), sum_by-cons (weight quantity) s others, weight_yes quantity s again)

-- a word that is no folder's, or one too many
pub no_folder : (words : List (List ℕ)) (most : ℕ) (reading : Reading) (word : List ℕ) → Reads words most reading → reading.named ≡ None → (reading.folders ≡ 0 → (quantity : Quantity) → word ≢ name_of quantity) → ((is_folder_word word ≡ false) ⊎ (most ≤ reading.folders)) → IsFront (words ++ word ∷ []) most → ⊥
no_folder words most reading word r named no_name why front =
    let on = goes_on words most reading word r front in
    let read = ap (λ w. w ++ word ∷ on.rest) (sym (read_folders words most reading r named)) ∙ on.behind in
    broken on.others r.folder_words on.folder_words on.rest r.folders r.counted read on.folders on.few
  where
    broken : (others : List Setting) (read folders rest : List (List ℕ)) → AreFolders read → reading.folders ≡ length read → read ++ word ∷ rest ≡ flat_map option_words others ++ folders → AreFolders folders → length folders ≤ most → ⊥
    broken [] read folders rest before counted same are few = elim why [
      | inl other ↦ both_ways _ other (all_at (λ w. IsTrue (is_folder_word w)) read word rest (All-same (λ w. IsTrue (is_folder_word w)) (read ++ word ∷ rest) folders same are))
      | inr full ↦ omega (arith, few, full, counted, ap length same, length-append read (word ∷ rest))
    ]
    broken (s ∷ others) [] folders rest before counted same are few =
        let parts : word ∷ rest ≡ name_of s.quantity ∷ s.word ∷ (flat_map option_words others ++ folders) = same in
        no_name counted s.quantity (cc)
    broken (s ∷ others) (f ∷ read) folders rest before counted same are few =
        let parts : f ∷ (read ++ word ∷ rest) ≡ name_of s.quantity ∷ s.word ∷ (flat_map option_words others ++ folders) = same in
        name_no_folder s.quantity f (cc) (All-head (λ w. IsTrue (is_folder_word w)) f read before)
