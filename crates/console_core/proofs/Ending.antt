-- The status of a run that a line ended, or the script's end.
use Rattle.std.proofs.Common.{◌≡◌, ◌≤◌, ℕ, List, length, Bool, true, false, inl, inr, Option, IfSome, Ok, Err, refl, sym, subst}
use Rattle.outside_io.specs.Files.{File}
use Rattle.outside_io.specs.Streams.{Took}
use Rattle.console_session.specs.States.{State, StillPut}
use Rattle.console_session.specs.Frames.{Runs}
use Rattle.console_session.specs.Sessions.{told_end}
use Rattle.console_session.specs.declared.ends.Fault.{Fault}
use Rattle.console_session.specs.declared.ends.Fault.TheVariants as fault
use Rattle.console_session.specs.declared.ends.StepEnd.{StepEnd}
use Rattle.console_session.specs.declared.ends.StepEnd.TheVariants as step
use Rattle.console_core.specs.Outside.{Outside, IsAtEnd}
use Rattle.console_core.specs.Reading.{limit, RanEarlier}
use Rattle.console_core.specs.Runs.{run_lines, lines_of, run}
use Rattle.console_core.specs.Ends.{told_state, IsCutAt, IsWhole, RunEnds, IsStatusOf}
use Rattle.console_core.specs.declared.status.Status.{Status}
use Rattle.console_core.proofs.Whole.{stops_whole}
use Rattle.console_core.proofs.Knowing.{lines_quit, lines_cut, lines_ran, script_put, script_cut}

module _ {F : Type 0} (status : Status F) (word : ℕ) (files : F → Option (List File)) (faults : F → ℕ) (told : List (Option (List File))) (counts : List ℕ)
    (first new : State) (before now : Outside) (taken : List ℕ) (took : Took taken before.rest now.rest) (size : length taken ≤ limit) where
  -- a line of the last piece ended the run
  module _ (end : StepEnd) (stops : end ≡ step.Went → ⊥) (runs : Runs (run_lines first (lines_of taken).whole) (told_end end) new before.got now.got) (earlier : RanEarlier first taken before.got now.got) where
    whole : IfSome before.rest (λ script. Runs (run first script) (told_end end) new before.got now.got)
    whole = stops_whole first new taken end before.rest now.rest before.got now.got stops took runs

    line_cut : (fault : Fault) → told_end end ≡ Err fault → IsCutAt fault (told_state first) before now
    line_cut fault is = record {
      taken = taken;
      took = took;
      size = size;
      put = script_cut first new before.got now.got before.rest fault (subst (λ r. IfSome before.rest (λ script. Runs (run first script) r new before.got now.got)) is whole);
      held = inr (lines_cut first new taken before.got now.got earlier fault (subst (λ r. Runs (run_lines first (lines_of taken).whole) r new before.got now.got) is runs));
    }

  pub ends_in_line : (end : StepEnd) → (end ≡ step.Went → ⊥) → Runs (run_lines first (lines_of taken).whole) (told_end end) new before.got now.got → RanEarlier first taken before.got now.got
      → IsStatusOf end word files faults told counts status → RunEnds (told_state first) word before now status
  ends_in_line step.Went stops runs earlier is = absurd (stops refl)
  ends_in_line step.Quit stops runs earlier is = subst (λ s. RunEnds (told_state first) word before now s) (sym is) (record {
    taken = taken;
    took = took;
    size = size;
    put = script_put first new before.got now.got before.rest true (whole step.Quit stops runs earlier);
    all = inr (lines_quit first new taken before.got now.got earlier runs);
  })
  ends_in_line (step.FolderFault number) stops runs earlier is =
      subst (λ s. RunEnds (told_state first) word before now s) (sym is.1) (number, refl, line_cut (step.FolderFault number) stops runs earlier (fault.Folder number) refl)
  ends_in_line step.WriteFault stops runs earlier is = subst (λ s. RunEnds (told_state first) word before now s) (sym is) (line_cut step.WriteFault stops runs earlier fault.Write refl)
  ends_in_line step.OutOfMemory stops runs earlier is = subst (λ s. RunEnds (told_state first) word before now s) (sym is) (line_cut step.OutOfMemory stops runs earlier fault.Memory refl)

  -- the script's end was run
  module _ (s : State) (mid : Option (List ℕ)) (at_end : IsAtEnd now) (runs : Runs (run_lines first (lines_of taken).whole) (Ok false) s before.got mid) (more : StillPut mid now.got) where
    behind_whole : (quit : Bool) → IfSome before.rest (λ script. Runs (run first script) (Ok quit) new before.got now.got) → IsWhole (told_state first) before now
    behind_whole quit all = record {
      taken = taken;
      took = took;
      size = size;
      put = script_put first new before.got now.got before.rest quit all;
      all = inl (at_end, lines_ran first s before.got mid taken now.got runs more);
    }

    behind_cut : (fault : Fault) → IfSome before.rest (λ script. Runs (run first script) (Err fault) new before.got now.got) → IsCutAt fault (told_state first) before now
    behind_cut fault all = record {
      taken = taken;
      took = took;
      size = size;
      put = script_cut first new before.got now.got before.rest fault all;
      held = inl (at_end, lines_ran first s before.got mid taken now.got runs more);
    }

    pub ends_behind : (end : StepEnd) → IfSome before.rest (λ script. Runs (run first script) (told_end end) new before.got now.got) → IsStatusOf end word files faults told counts status
        → RunEnds (told_state first) word before now status
    ends_behind step.Went all is = subst (λ t. RunEnds (told_state first) word before now t) (sym is) (behind_whole false all)
    ends_behind step.Quit all is = subst (λ t. RunEnds (told_state first) word before now t) (sym is) (behind_whole true all)
    ends_behind (step.FolderFault number) all is = subst (λ t. RunEnds (told_state first) word before now t) (sym is.1) (number, refl, behind_cut (fault.Folder number) all)
    ends_behind step.WriteFault all is = subst (λ t. RunEnds (told_state first) word before now t) (sym is) (behind_cut fault.Write all)
    ends_behind step.OutOfMemory all is = subst (λ t. RunEnds (told_state first) word before now t) (sym is) (behind_cut fault.Memory all)
