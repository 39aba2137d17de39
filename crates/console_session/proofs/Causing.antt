-- The counts of folders and of the sink over steps, and the causes of faults.
use Rattle.std.proofs.Common.{◌≡◌, ◌≤◌, ℕ, List, length, Bool, Option, IfErr, Result, Ok, Err, refl, sym, ◌∙◌, subst, arith}
use Rattle.search_paths.specs.Counts.{NoneFalls}
use Rattle.console_session.specs.States.{CauseOf, HasCauses}
use Rattle.console_session.specs.Telling.{Tells, SinkCause}
use Rattle.console_session.specs.declared.ends.Fault.{Fault}
use Rattle.console_session.specs.declared.ends.Fault.TheVariants as fault

-- no count fell, and no folder came or went
pub record Counted (faults_before faults_now : List ℕ) (sink_before sink_now : ℕ) : Type 0 where
  pub none_falls : NoneFalls faults_before faults_now
  pub folders : length faults_now ≡ length faults_before
  pub sink_counts : sink_before ≤ sink_now

pub counted_none : (faults : List ℕ) (sink : ℕ) → Counted faults faults sink sink
counted_none faults sink = record { none_falls = λ folder. omega arith; folders = refl; sink_counts = omega arith }

module _ (a b c : List ℕ) (s t u : ℕ) where
  pub counted_then : Counted a b s t → Counted b c t u → Counted a c s u
  counted_then first second = record {
    none_falls = λ folder. omega (arith, first.none_falls folder, second.none_falls folder);
    folders = second.folders ∙ first.folders;
    sink_counts = omega (arith, first.sink_counts, second.sink_counts);
  }

  cause_later : (frugal : Bool) (error : Fault) → Counted a b s t → CauseOf frugal b c t u error → CauseOf frugal a c s u error
  cause_later frugal (fault.Folder folder) first cause = (omega (arith, cause.0, first.folders), omega (arith, first.none_falls folder, cause.1))
  cause_later frugal fault.Write first cause = omega (arith, first.sink_counts, cause)
  cause_later frugal fault.Memory first cause = cause

  -- what was counted before, and the causes of what came then
  pub causes_later : {A : Type 0} (frugal : Bool) (result : Result A Fault) → Counted a b s t → HasCauses frugal b c t u result → HasCauses frugal a c s u result
  causes_later frugal (Ok value) first causes = record {
    none_falls = λ folder. omega (arith, first.none_falls folder, causes.none_falls folder);
    folders = causes.folders ∙ first.folders;
    sink_counts = omega (arith, first.sink_counts, causes.sink_counts);
    cause = tt;
  }
  causes_later frugal (Err error) first causes = record {
    none_falls = λ folder. omega (arith, first.none_falls folder, causes.none_falls folder);
    folders = causes.folders ∙ first.folders;
    sink_counts = omega (arith, first.sink_counts, causes.sink_counts);
    cause = cause_later frugal error first causes.cause;
  }

pub counted_of : {A : Type 0} (a b : List ℕ) (s t : ℕ) (frugal : Bool) (result : Result A Fault) → HasCauses frugal a b s t result → Counted a b s t
counted_of a b s t frugal result causes = record { none_falls = causes.none_falls; folders = causes.folders; sink_counts = causes.sink_counts }

-- the causes of a fault are the same in every answer
pub causes_of : {A B : Type 0} (a b : List ℕ) (s t : ℕ) (frugal : Bool) (error : Fault) → HasCauses {A = A} frugal a b s t (Err error) → HasCauses {A = B} frugal a b s t (Err error)
causes_of a b s t frugal error causes = record { none_falls = causes.none_falls; folders = causes.folders; sink_counts = causes.sink_counts; cause = causes.cause }

-- what was counted is all there is to say of a call that succeeded
pub causes_ok : {A : Type 0} (a b : List ℕ) (s t : ℕ) (frugal : Bool) (value : A) → Counted a b s t → HasCauses frugal a b s t (Ok value)
causes_ok a b s t frugal value counted = record { none_falls = counted.none_falls; folders = counted.folders; sink_counts = counted.sink_counts; cause = tt }

-- what was counted, and a put then
pub causes_put : {A : Type 0} (text : List ℕ) (answer : A) (a b : List ℕ) (s t u : ℕ) (frugal : Bool) (result : Result A Fault) (start now : Option (List ℕ)) → Counted a b s t → t ≤ u → Tells (Ok text) answer result start now
    → IfErr result (λ e. SinkCause t u e) → HasCauses frugal a b s u result
causes_put text answer a b s t u frugal (Ok value) start now counted more tells cause = record {
  none_falls = counted.none_falls;
  folders = counted.folders;
  sink_counts = omega (arith, counted.sink_counts, more);
  cause = tt;
}
causes_put text answer a b s t u frugal (Err error) start now counted more tells cause = record {
  none_falls = counted.none_falls;
  folders = counted.folders;
  sink_counts = omega (arith, counted.sink_counts, more);
  cause =
      let rose : SinkCause t u fault.Write = subst (λ e. SinkCause t u e) tells.0 cause in
      let here : CauseOf frugal a b s u fault.Write = omega (arith, counted.sink_counts, rose) in
      subst (λ e. CauseOf frugal a b s u e) (sym tells.0) here;
}
