-- The words read so far and one more that goes on.
use Rattle.std.proofs.Common.{◌≡◌, ℕ, ◌+◌, ◌<◌, ◌≤◌, Bool, true, false, List, [], ◌∷◌, ◌++◌, count_by, Option, Some, None, IsTrue, refl, sym, ap, subst, ◌∙◌, lit≤, arith}
use Rattle.std.specs.List.{flat_map}
use Rattle.std.proofs.lemmas.List.{append-nil, append_assoc, length_push, nil_from_length}
use Rattle.std.proofs.lemmas.List.Elements.{All-nil, All-push}
use Rattle.std.proofs.lemmas.List.Sums.{sum_by_push}
use Rattle.std.proofs.lemmas.Grind.{flat_map-append}
use Rattle.command_line.specs.declared.reading.Quantity.{Quantity}
use Rattle.command_line.specs.declared.reading.Quantity.TheVariants.{Heap, Zone, Speed}
use Rattle.command_line.specs.declared.reading.Reading.{Reading}
use Rattle.command_line.specs.CommandLine.{name_of, Setting, IsSetting, option_words, is_same, sets, is_folder_word, given}
use Rattle.command_line.specs.Reading.{set_to, with_set, waiting, Reads}
use Rattle.command_line.proofs.Readings.{weight, weight_yes, weight_no, read_waiting, read_folders, given_new, given_other}

-- a quantity that an option sets is its own
pub own_quantity : (a b : Quantity) → is_same a b ≡ true → a ≡ b
own_quantity Heap Heap is = refl
own_quantity Heap Zone is = cc
own_quantity Heap Speed is = cc
own_quantity Zone Heap is = cc
own_quantity Zone Zone is = refl
own_quantity Zone Speed is = cc
own_quantity Speed Heap is = cc
own_quantity Speed Zone is = cc
own_quantity Speed Speed is = refl

-- what is set is read back, and each other quantity has the number that it had
set_here : (quantity : Quantity) (number : ℕ) (reading : Reading) → set_to quantity (with_set quantity number reading) ≡ Some number
set_here Heap number reading = refl
set_here Zone number reading = refl
set_here Speed number reading = refl

set_other : (own other : Quantity) (number : ℕ) (reading : Reading) → is_same own other ≡ false → set_to other (with_set own number reading) ≡ set_to other reading
set_other Heap Heap number reading is = cc
set_other Heap Zone number reading is = refl
set_other Heap Speed number reading is = refl
set_other Zone Heap number reading is = refl
set_other Zone Zone number reading is = cc
set_other Zone Speed number reading is = refl
set_other Speed Heap number reading is = refl
set_other Speed Zone number reading is = refl
set_other Speed Speed number reading is = cc

-- nothing waits, and the folders stay
pub set_named : (quantity : Quantity) (number : ℕ) (reading : Reading) → (with_set quantity number reading).named ≡ None
set_named Heap number reading = refl
set_named Zone number reading = refl
set_named Speed number reading = refl

set_folders : (quantity : Quantity) (number : ℕ) (reading : Reading) → (with_set quantity number reading).folders ≡ reading.folders
set_folders Heap number reading = refl
set_folders Zone number reading = refl
set_folders Speed number reading = refl

-- with an option that wasn't given before each is given once at most
once_more : (settings : List Setting) (s : Setting) → ((quantity : Quantity) → count_by (sets quantity) settings ≤ 1) → count_by (sets s.quantity) settings ≡ 0 → (quantity : Quantity) → count_by (sets quantity) (settings ++ s ∷ []) ≤ 1
once_more settings s once unset quantity = by (sets quantity s) refl
  where
    by : (b : Bool) → sets quantity s ≡ b → count_by (sets quantity) (settings ++ s ∷ []) ≤ 1
    by true is =
        let none : count_by (sets quantity) settings ≡ 0 = subst (λ q. count_by (sets q) settings ≡ 0) (own_quantity s.quantity quantity is) unset in
        omega (arith, none, sum_by_push (weight quantity) settings s, weight_yes quantity s is)
    by false is = omega (arith, once quantity, sum_by_push (weight quantity) settings s, weight_no quantity s is)

-- the numbers with one more
numbers_more : (settings : List Setting) (reading : Reading) (s : Setting) → ((quantity : Quantity) → set_to quantity reading ≡ given quantity settings) → count_by (sets s.quantity) settings ≡ 0
    → (quantity : Quantity) → set_to quantity (with_set s.quantity s.number reading) ≡ given quantity (settings ++ s ∷ [])
numbers_more settings reading s numbers unset quantity = by (sets quantity s) refl
  where
    by : (b : Bool) → sets quantity s ≡ b → set_to quantity (with_set s.quantity s.number reading) ≡ given quantity (settings ++ s ∷ [])
    by true is = subst (λ q. set_to q (with_set s.quantity s.number reading) ≡ given q (settings ++ s ∷ [])) (own_quantity s.quantity quantity is)
        (set_here s.quantity s.number reading ∙ sym (given_new settings s unset))
    by false is = set_other s.quantity quantity s.number reading is ∙ numbers quantity ∙ sym (given_other quantity settings s is)

-- the number of the option that waits for one
pub takes_number : (words : List (List ℕ)) (most : ℕ) (reading : Reading) (s : Setting) (r : Reads words most reading) → reading.named ≡ Some s.quantity → IsSetting s → Reads (words ++ s.word ∷ []) most (with_set s.quantity s.number reading)
takes_number words most reading s r named is_setting =
    let next = with_set s.quantity s.number reading in
    let unnamed = set_named s.quantity s.number reading in
    let options = flat_map option_words r.settings in
    let no_folders : r.folder_words ≡ [] = r.alone s.quantity named in
    let read : words ++ s.word ∷ [] ≡ options ++ (name_of s.quantity ∷ s.word ∷ []) =
    ap (λ w. w ++ s.word ∷ []) (r.joined ∙ ap (λ w. options ++ w) (read_waiting words most reading s.quantity r named)) ∙ append_assoc options (name_of s.quantity ∷ []) (s.word ∷ []) in
    let whole : flat_map option_words (r.settings ++ s ∷ []) ++ (waiting next.named ++ r.folder_words) ≡ options ++ (name_of s.quantity ∷ s.word ∷ []) =
    ap (λ n. flat_map option_words (r.settings ++ s ∷ []) ++ (waiting n ++ r.folder_words)) unnamed
    ∙ ap (λ f. flat_map option_words (r.settings ++ s ∷ []) ++ f) no_folders
    ∙ append-nil (flat_map option_words (r.settings ++ s ∷ []))
    ∙ flat_map-append option_words r.settings (s ∷ []) in
    record {
      settings = r.settings ++ s ∷ [];
      folder_words = r.folder_words;
      joined = read ∙ sym whole;
      lawful = All-push IsSetting r.settings s r.lawful is_setting;
      once = once_more r.settings s r.once (r.unset s.quantity named);
      unset = λ q is. absurd (cc (is, unnamed));
      alone = λ q is. no_folders;
      numbers = numbers_more r.settings reading s r.numbers (r.unset s.quantity named);
      folders = r.folders;
      counted = set_folders s.quantity s.number reading ∙ r.counted;
      few = r.few;
    }

-- the numbers are the same where another option waits, or more folders were read
numbers_named : (quantity : Quantity) (named : Option Quantity) (reading : Reading) → set_to quantity (record reading { named = named }) ≡ set_to quantity reading
numbers_named Heap named reading = refl
numbers_named Zone named reading = refl
numbers_named Speed named reading = refl

numbers_folders : (quantity : Quantity) (folders : ℕ) (reading : Reading) → set_to quantity (record reading { folders = folders }) ≡ set_to quantity reading
numbers_folders Heap folders reading = refl
numbers_folders Zone folders reading = refl
numbers_folders Speed folders reading = refl

-- the name of an option that isn't given yet
pub takes_name : (words : List (List ℕ)) (most : ℕ) (reading : Reading) (word : List ℕ) (quantity : Quantity) (r : Reads words most reading) → reading.named ≡ None → reading.folders ≡ 0 → word ≡ name_of quantity → count_by (sets quantity) r.settings ≡ 0 → Reads (words ++ word ∷ []) most (record reading { named = Some quantity })
takes_name words most reading word quantity r named none is_name unset =
    let options = flat_map option_words r.settings in
    let no_folders : r.folder_words ≡ [] = nil_from_length r.folder_words (sym r.counted ∙ none) in
    let read : words ++ word ∷ [] ≡ options ++ (name_of quantity ∷ r.folder_words) =
    ap (λ w. w ++ word ∷ []) (r.joined ∙ ap (λ w. options ++ w) (read_folders words most reading r named ∙ no_folders) ∙ append-nil options)
    ∙ ap (λ w. options ++ (w ∷ [])) is_name ∙ ap (λ w. options ++ (name_of quantity ∷ w)) (sym no_folders) in
    record {
      settings = r.settings;
      folder_words = r.folder_words;
      joined = read;
      lawful = r.lawful;
      once = r.once;
      unset = λ q is. subst (λ p. count_by (sets p) r.settings ≡ 0) (cc) unset;
      alone = λ q is. no_folders;
      numbers = λ q. numbers_named q (Some quantity) reading ∙ r.numbers q;
      folders = r.folders;
      counted = r.counted;
      few = r.few;
    }

-- one folder word more
pub takes_folder : (words : List (List ℕ)) (most : ℕ) (reading : Reading) (word : List ℕ) (r : Reads words most reading) → reading.named ≡ None → is_folder_word word ≡ true → reading.folders < most → Reads (words ++ word ∷ []) most (record reading { folders = reading.folders + 1 })
takes_folder words most reading word r named is_folder room =
    let options = flat_map option_words r.settings in
    let read : words ++ word ∷ [] ≡ options ++ (r.folder_words ++ word ∷ []) =
    ap (λ w. w ++ word ∷ []) (r.joined ∙ ap (λ w. options ++ w) (read_folders words most reading r named)) ∙ append_assoc options r.folder_words (word ∷ []) in
    record {
      settings = r.settings;
      folder_words = r.folder_words ++ word ∷ [];
      joined = read ∙ ap (λ n. options ++ (waiting n ++ (r.folder_words ++ word ∷ []))) (sym named);
      lawful = r.lawful;
      once = r.once;
      unset = r.unset;
      alone = λ q is. absurd (cc (is, named));
      numbers = λ q. numbers_folders q (reading.folders + 1) reading ∙ r.numbers q;
      folders = All-push (λ w. IsTrue (is_folder_word w)) r.folder_words word r.folders is_folder;
      counted = omega (arith, r.counted, length_push r.folder_words word);
      few = omega (arith, r.counted, room, length_push r.folder_words word);
    }

-- before the first word nothing is read
pub reads_none : (most : ℕ) → Reads [] most (record { heap = None; zone = None; speed = None; named = None; folders = 0 })
reads_none most = record {
  settings = [];
  folder_words = [];
  joined = refl;
  lawful = All-nil IsSetting;
  once = λ quantity. lit≤ tt;
  unset = λ q is. absurd (cc);
  alone = λ q is. absurd (cc);
  numbers = none_given;
  folders = All-nil (λ w. IsTrue (is_folder_word w));
  counted = refl;
  few = omega arith;
}
  where
    none_given : (quantity : Quantity) → set_to quantity (record { heap = None; zone = None; speed = None; named = None; folders = 0 }) ≡ given quantity []
    none_given Heap = refl
    none_given Zone = refl
    none_given Speed = refl
