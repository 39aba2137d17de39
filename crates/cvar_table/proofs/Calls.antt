-- What setting a cvar gives, from what its parts gave.
use Rattle.std.proofs.Common.{◌≡◌, ℕ, List, Some, None, Result, Ok, Err, Bool, true, false, length, get_or, refl, sym, ap, ◌∙◌, position, bytes_eq}
use Rattle.std.specs.Prelude.{slice_set, IfSome}
use Rattle.mem_model.specs.Memory.{Memory}
use Rattle.mem_model.specs.Laid.{Laid, IsText}
use Rattle.mem_model.specs.Answer.{Answers, Gives}
use Rattle.mem_model.specs.Told.{zone_answer}
use Rattle.mem_model.specs.declared.answers.Place.{Place}
use Rattle.mem_model.specs.declared.answers.ZoneError.{ZoneError}
use Rattle.mem_model.specs.declared.answers.ZoneError.TheVariants as zone_error
use Rattle.zone_values.specs.Held.{OthersStay}
use Rattle.zone_values.specs.Values.{replace_value}
use Rattle.cvar_table.specs.Cvars.{Cvar, Default, defaults, CvarSet, cvar_value, set_cvar, places_of, HoldsCvars, ReadAlike, OthersReadAlike}
use Rattle.cvar_table.specs.Told.{listed, zone_told}
use Rattle.cvar_table.proofs.Listing.{cvar_found, cvar_missing, cvar_placed}
use Rattle.cvar_table.proofs.CvarLaws.{set_cvar-found, set_cvar-refused, set_cvar-missing, set_cvar-refusal, HoldsCvars-set_cvar, OthersStay-set_cvar, cvar_value-set_cvar, cvar_value-set_other, cvar_value-kept}
use Rattle.mem_model.proofs.Untouched.{zone_bytes-same}

-- the outcomes, where the default of the name stands at a position
module _ (m n : Memory) (places : List Place) (cvars : List Cvar) (name value : List ℕ) (at : ℕ) (d : Place)
    (eight : length places ≡ 8) (view : listed defaults places ≡ cvars) (here : position (λ (own : Default). bytes_eq own.name name) defaults ≡ Some at) where
  pub set_done : (place : Place) → Answers (replace_value m (get_or places at d).0 value) (Ok place.0) n →
      Answers (set_cvar m cvars name value).given (Ok true) n × (listed defaults (slice_set places at place) ≡ (set_cvar m cvars name value).cvars)
  set_done place given =
      let is = set_cvar-found m cvars name value _ place.0 (cvar_found places name eight cvars view at d here).1 given.answer in (
        record { answer = ap (λ (s : CvarSet). s.given.answer) is; after = given.after ∙ sym (ap (λ (s : CvarSet). s.given.after) is) },
        cvar_placed places name eight cvars view at place here ∙ sym (ap (λ (s : CvarSet). s.cvars) is),
      )

  pub set_undone : (frugal : Bool) (error : ZoneError) → Gives (replace_value m (get_or places at d).0 value) frugal m (zone_answer (Err error)) n →
      Gives (set_cvar m cvars name value).given frugal m (zone_told {A = Bool} (Err error)) n × IfSome (zone_told {A = Bool} (Err error)) (λ told. cvars ≡ (set_cvar m cvars name value).cvars)
  set_undone frugal (zone_error.Full asked) given =
      let is = set_cvar-refused m cvars name value _ asked (cvar_found places name eight cvars view at d here).1 given.answer in
      (record { answer = ap (λ (s : CvarSet). s.given.answer) is; after = given.after ∙ sym (ap (λ (s : CvarSet). s.given.after) is) }, sym (ap (λ (s : CvarSet). s.cvars) is))
  set_undone frugal zone_error.OutOfMemory ran_out = (ran_out, tt)

-- the outcome without a default of the name
module _ (m : Memory) (places : List Place) (cvars : List Cvar) (name value : List ℕ)
    (view : listed defaults places ≡ cvars) (nowhere : position (λ (own : Default). bytes_eq own.name name) defaults ≡ None) where
  pub set_nothing : Answers (set_cvar m cvars name value).given (Ok false) m × (cvars ≡ (set_cvar m cvars name value).cvars)
  set_nothing =
      let is = set_cvar-missing m cvars name value (cvar_missing places name cvars view nowhere) in
      (record { answer = ap (λ (s : CvarSet). s.given.answer) is; after = sym (ap (λ (s : CvarSet). s.given.after) is) }, sym (ap (λ (s : CvarSet). s.cvars) is))

-- After an answer the cvars are held, blocks beside theirs stay, and the other cvars read as before.
module _ (m n : Memory) (cvars after : List Cvar) (name value : List ℕ) (reply : Result Bool ℕ) (laid : Laid m) (holds : HoldsCvars m cvars)
    (given : Answers (set_cvar m cvars name value).given reply n) (is : after ≡ (set_cvar m cvars name value).cvars) where
  pub holds_done : HoldsCvars n after
  holds_done = rw (given.after, is) (HoldsCvars-set_cvar m cvars name value laid holds)

  pub stay_done : OthersStay m n (places_of cvars) (places_of after)
  stay_done = rw (given.after, is) (OthersStay-set_cvar m cvars name value laid holds)

  pub others_done : OthersReadAlike m n cvars after name
  others_done = λ other differ. rw (given.after, is) (cvar_value-set_other m cvars name value other laid holds differ)

  -- What was set is read back.
  pub read_done : IsText value → reply ≡ Ok true → cvar_value n after name ≡ Some value
  read_done text set = rw (given.after, is) (cvar_value-set_cvar m cvars name value laid holds text (given.answer ∙ set))

-- So it is after an error, where all cvars read as before.
module _ (m n : Memory) (cvars : List Cvar) (name value : List ℕ) (frugal : Bool) (laid : Laid m) (holds : HoldsCvars m cvars) where
  pub holds_undone : (error : ZoneError) → Gives (set_cvar m cvars name value).given frugal m (zone_told {A = Bool} (Err error)) n → IfSome (zone_told {A = Bool} (Err error)) (λ told. cvars ≡ (set_cvar m cvars name value).cvars) → HoldsCvars n cvars
  holds_undone (zone_error.Full asked) given is = holds_done m n cvars cvars name value (Err asked) laid holds given is
  holds_undone zone_error.OutOfMemory ran_out is = rw ran_out.after holds

  pub stay_undone : (error : ZoneError) → Gives (set_cvar m cvars name value).given frugal m (zone_told {A = Bool} (Err error)) n → IfSome (zone_told {A = Bool} (Err error)) (λ told. cvars ≡ (set_cvar m cvars name value).cvars) →
      OthersStay m n (places_of cvars) (places_of cvars)
  stay_undone (zone_error.Full asked) given is = stay_done m n cvars cvars name value (Err asked) laid holds given is
  stay_undone zone_error.OutOfMemory ran_out is = λ place bytes none there. (none, rw ran_out.after there)

  pub read_undone : (error : ZoneError) → Gives (set_cvar m cvars name value).given frugal m (zone_told {A = Bool} (Err error)) n → ReadAlike m n cvars cvars
  read_undone (zone_error.Full asked) given =
      let same = ap (λ (k : Memory). k.zone) given.after ∙ (set_cvar-refusal m cvars name value asked given.answer).1 in
      λ own. cvar_value-kept m n cvars own (λ place bytes there. zone_bytes-same n m place same ∙ there) holds
  read_undone zone_error.OutOfMemory ran_out = λ own. rw ran_out.after refl
