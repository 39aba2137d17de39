-- Words whose reading has come to an end.
use Rattle.std.proofs.Common.{◌≡◌, ℕ, ◌+◌, ◌-◌, ◌*◌, ◌<◌, ◌≤◌, List, [], ◌∷◌, ◌++◌, length, take, Option, Some, None, refl, sym, ap, subst, ◌∙◌, lit≤, codes, inl, inr, arith}
use Rattle.std.specs.Prelude.{unwrap_or}
use Rattle.std.specs.List.{flat_map}
use Rattle.std.proofs.lemmas.Bool.{cases_lt}
use Rattle.std.proofs.lemmas.List.{length-append, take_all}
use Rattle.base_fields.specs.Numbers.{is_number_word}
use Rattle.command_line.specs.declared.reading.Quantity.{Quantity}
use Rattle.command_line.specs.declared.reading.Quantity.TheVariants.{Heap, Zone, Speed}
use Rattle.command_line.specs.declared.reading.Reading.{Reading}
use Rattle.command_line.specs.declared.words.Request.{Request}
use Rattle.command_line.specs.CommandLine.{name_of, Setting, IsSetting, option_words, given, IsAsked, IsLawful, IsFront, IsFirstBad}
use Rattle.command_line.specs.Reading.{waiting, Reads}
use Rattle.command_line.proofs.Lines.{no_option, Cut, cut, lawful_from_asked, front_from_lawful, front_from_longer}
use Rattle.command_line.proofs.Readings.{read_folders, read_waiting}
use Rattle.command_line.proofs.Takes.{takes_folder, takes_number, set_named}

-- each option has two words
pub length_options : (settings : List Setting) → length (flat_map option_words settings) ≡ 2 * length settings
length_options [] = refl
length_options (s ∷ settings) = omega (arith, length_options settings)

abbrev request : ℕ → ℕ → ℕ → ℕ → ℕ → Request
request heap zone speed first folders = record { heap = heap; zone = zone; speed = speed; first = first; folders = folders }

-- with a folder at the end the words ask for what was read
pub finished : (words : List (List ℕ)) (most : ℕ) (reading : Reading) → Reads words most reading → 1 ≤ reading.folders → IsAsked words most (request (unwrap_or reading.heap 16384) (unwrap_or reading.zone 48) (unwrap_or reading.speed 11025) (length words - reading.folders) reading.folders)
finished words most reading r some = by reading.named refl
  where
    by : (named : Option Quantity) → reading.named ≡ named → IsAsked words most (request (unwrap_or reading.heap 16384) (unwrap_or reading.zone 48) (unwrap_or reading.speed 11025) (length words - reading.folders) reading.folders)
    by (Some quantity) named = absurd (omega (arith, some, r.counted, ap length (r.alone quantity named)))
    by None named =
        let joined = r.joined ∙ ap (λ w. flat_map option_words r.settings ++ w) (read_folders words most reading r named) in
        let first : length words - reading.folders ≡ 2 * length r.settings =
        omega (arith, ap length joined, length-append (flat_map option_words r.settings) r.folder_words, length_options r.settings, r.counted) in
        let heap = unwrap_or (given Heap r.settings) 16384 in
        let zone = unwrap_or (given Zone r.settings) 48 in
        let speed = unwrap_or (given Speed r.settings) 11025 in
        record {
          settings = r.settings;
          folders = r.folder_words;
          line = record { joined = joined; lawful = r.lawful; once = r.once; named = r.folders; some = omega (arith, some, r.counted); few = r.few };
          asks =
              ap (λ h. request h (unwrap_or reading.zone 48) (unwrap_or reading.speed 11025) (length words - reading.folders) reading.folders) (ap (λ h. unwrap_or h 16384) (r.numbers Heap))
              ∙ ap (λ z. request heap z (unwrap_or reading.speed 11025) (length words - reading.folders) reading.folders) (ap (λ z. unwrap_or z 48) (r.numbers Zone))
              ∙ ap (λ s. request heap zone s (length words - reading.folders) reading.folders) (ap (λ s. unwrap_or s 11025) (r.numbers Speed))
              ∙ ap (λ f. request heap zone speed f reading.folders) first
              ∙ ap (request heap zone speed (2 * length r.settings)) r.counted;
        }

pub finished_as : (words : List (List ℕ)) (most : ℕ) (reading : Reading) (heap zone speed count : ℕ) → heap ≡ unwrap_or reading.heap 16384 → zone ≡ unwrap_or reading.zone 48 → speed ≡ unwrap_or reading.speed 11025 → count ≡ length words → Reads words most reading → 1 ≤ reading.folders → IsAsked words most (request heap zone speed (count - reading.folders) reading.folders)
finished_as words most reading heap zone speed count heap_is zone_is speed_is count_is r some =
    let same : request (unwrap_or reading.heap 16384) (unwrap_or reading.zone 48) (unwrap_or reading.speed 11025) (length words - reading.folders) reading.folders ≡ request heap zone speed (count - reading.folders) reading.folders = cc in
    subst (λ q. IsAsked words most q) same (finished words most reading r some)

-- with none the words are no lawful line
pub unfinished : (words : List (List ℕ)) (most : ℕ) (reading : Reading) → Reads words most reading → reading.folders ≡ 0 → IsLawful words most → ⊥
unfinished words most reading r none lawful =
    let line = lawful.line in
    let read = waiting reading.named ++ r.folder_words in
    let parts : Cut r.settings read lawful.settings lawful.folders = cut r.settings read lawful.settings lawful.folders r.lawful line.lawful line.named (sym r.joined ∙ line.joined) in
    by reading.named refl parts.others parts.behind
  where
    by : (named : Option Quantity) → reading.named ≡ named → (others : List Setting) → waiting reading.named ++ r.folder_words ≡ flat_map option_words others ++ lawful.folders → ⊥
    by None named others behind =
        omega (arith, lawful.line.some, none, r.counted, ap length (sym (read_folders words most reading r named) ∙ behind), length-append (flat_map option_words others) lawful.folders)
    by (Some quantity) named [] behind = no_option quantity [] lawful.folders lawful.line.named (sym (read_waiting words most reading quantity r named) ∙ behind)
    by (Some quantity) named (s ∷ others) behind =
        let short : name_of quantity ∷ [] ≡ name_of s.quantity ∷ s.word ∷ (flat_map option_words others ++ lawful.folders) = sym (read_waiting words most reading quantity r named) ∙ behind in
        cc

-- with a folder at the end, or with one more
front_at_folders : (words : List (List ℕ)) (most : ℕ) (reading : Reading) → Reads words most reading → 1 ≤ reading.folders → IsFront words most
front_at_folders words most reading r some = front_from_lawful words most (lawful_from_asked words most _ (finished words most reading r some))

front_at_option : (words : List (List ℕ)) (most : ℕ) (reading : Reading) → 1 ≤ most → Reads words most reading → reading.named ≡ None → IsFront words most
front_at_option words most reading some r named = elim (cases_lt 0 reading.folders) [
  | inl folders ↦ front_at_folders words most reading r (omega (arith, folders))
  | inr none ↦
      let next : Reads (words ++ codes "d" ∷ []) most (record reading { folders = reading.folders + 1 }) = takes_folder words most reading (codes "d") r named refl (omega (arith, none, some)) in
      front_from_longer words (codes "d" ∷ []) most (front_at_folders (words ++ codes "d" ∷ []) most (record reading { folders = reading.folders + 1 }) next (omega arith))
]

-- a number that each option takes
any_number : (quantity : Quantity) → IsSetting (record { quantity = quantity; word = codes "1024"; number = 1024 })
unfolding is_number_word
any_number Heap = record { written = refl; least = lit≤ tt; greatest = lit≤ tt }
any_number Zone = record { written = refl; least = lit≤ tt; greatest = lit≤ tt }
any_number Speed = record { written = refl; least = lit≤ tt; greatest = lit≤ tt }

-- the words read so far are the front of a lawful line
pub front_from_reads : (words : List (List ℕ)) (most : ℕ) (reading : Reading) → 1 ≤ most → Reads words most reading → IsFront words most
front_from_reads words most reading some r = by reading.named refl
  where
    by : (named : Option Quantity) → reading.named ≡ named → IsFront words most
    by None named = front_at_option words most reading some r named
    by (Some quantity) named =
        let next = takes_number words most reading (record { quantity = quantity; word = codes "1024"; number = 1024 }) r named (any_number quantity) in
        front_from_longer words (codes "1024" ∷ []) most (front_at_option (words ++ codes "1024" ∷ []) most _ some next (set_named quantity 1024 reading))

-- the word that doesn't go on is the first bad one
pub bad_word : (words : List (List ℕ)) (most : ℕ) (reading : Reading) (number : ℕ) (word : List ℕ) → 1 ≤ most → number < length words → Reads (take number words) most reading → take (number + 1) words ≡ take number words ++ word ∷ [] → (IsFront (take number words ++ word ∷ []) most → ⊥) → IsFirstBad words most number
bad_word words most reading number word some inside r next broken = record {
  within = omega arith;
  front = front_from_reads (take number words) most reading some r;
  breaks = λ _ front. broken (subst (λ w. IsFront w most) next front);
  missing = λ at_end. absurd (omega arith);
}

-- where the words end too early, one is missing
pub missing_word : (words : List (List ℕ)) (most : ℕ) (reading : Reading) → 1 ≤ most → Reads words most reading → reading.folders ≡ 0 → IsFirstBad words most (length words)
missing_word words most reading some r none = record {
  within = omega arith;
  front = subst (λ w. IsFront w most) (sym (take_all (length words) words (omega arith))) (front_from_reads words most reading some r);
  breaks = λ inside. absurd (omega arith);
  missing = λ _. unfinished words most reading r none;
}
