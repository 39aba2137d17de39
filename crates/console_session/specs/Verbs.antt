-- The commands by their names.
use Rattle.std.specs.Prelude.{ℕ, List, [], ◌∷◌, Option, option_map, find, codes}
use Rattle.std.specs.Str.{str_eq_ignore_ascii_case}
use Rattle.console_session.specs.declared.verbs.Verb.{Verb}
use Rattle.console_session.specs.declared.verbs.Verb.TheVariants as verb

-- a command and its name
pub record Named : Type 0 where
  pub name : List ℕ
  pub verb : Verb

abbrev pub named : List ℕ → Verb → Named
named name v = record { name = name; verb = v }

abbrev pub verbs : List Named
verbs =
    named (codes "sound") verb.Sound ∷
    named (codes "model") verb.Model ∷
    named (codes "map") verb.Map ∷
    named (codes "exec") verb.Exec ∷
    named (codes "echo") verb.Echo ∷
    named (codes "wait") verb.Wait ∷
    named (codes "alias") verb.Alias ∷
    named (codes "file") verb.File ∷
    named (codes "info") verb.Info ∷
    named (codes "report") verb.Report ∷
    named (codes "reserve") verb.Reserve ∷
    named (codes "video") verb.Video ∷
    named (codes "level") verb.Level ∷
    named (codes "path") verb.Path ∷
    named (codes "flush") verb.Flush ∷
    named (codes "wad") verb.Wad ∷
    named (codes "pic") verb.Pic ∷
    named (codes "vis") verb.Vis ∷
    named (codes "dump") verb.Dump ∷
    named (codes "quit") verb.Quit ∷
    []

-- the first of these that a word names, in any case
abbrev pub verb_among : List Named → List ℕ → Option Verb
verb_among commands word =
    option_map (λ (n : Named). n.verb) (find (λ (n : Named). str_eq_ignore_ascii_case word n.name) commands)

abbrev pub verb_of : List ℕ → Option Verb
verb_of word = verb_among verbs word
