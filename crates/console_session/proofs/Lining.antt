-- A line, and what stands before a run.
use Rattle.std.proofs.Common.{◌≡◌, ℕ, List, [], ◌∷◌, ◌++◌, Bool, true, false, Option, Some, None, inl, inr, Result, Ok, Err, refl, sym, ◌∙◌, ap, subst, if◌then◌else◌}
use Rattle.std.specs.Prelude.{codes}
use Rattle.outside_io.specs.Streams.{Adds, AddsFront}
use Rattle.outside_io.proofs.Puts.{adds_none, adds_both}
use Rattle.cmd_buffer.specs.Buffer.{fits_in, input}
use Rattle.console_session.specs.States.{State, Reply, CutsOff}
use Rattle.console_session.specs.Frames.{Ended, Ran, plain, and_then, frame, line, overflowed, texts, GoesAs, IsCutShort, BeginsWith, Runs, NoneAsks}
use Rattle.console_session.specs.declared.ends.Fault.{Fault}
use Rattle.console_session.specs.declared.ends.Fault.TheVariants as fault

-- a reply was put before the run
module _ (reply : Reply) (start mid now : Option (List ℕ)) (put : Adds reply.text start mid) where
  cut_later : (replies : List Reply) (error : Fault) → IsCutShort replies error mid now → IsCutShort (reply ∷ replies) error start now
  cut_later replies error cut = record {
    before = reply ∷ cut.before;
    reply = cut.reply;
    later = cut.later;
    split = ap (λ (rs : List Reply). reply ∷ rs) cut.split;
    mid = cut.mid;
    put = adds_both reply.text (texts cut.before) start mid cut.mid put cut.put;
    part = cut.part;
  }

  begins_later : (replies : List Reply) → BeginsWith replies mid now → BeginsWith (reply ∷ replies) start now
  begins_later replies begins = record { mid = begins.mid; put = adds_both reply.text (texts replies) start mid begins.mid put begins.put; more = begins.more }

  goes_later : (replies : List Reply) (end : Option Ended) (result : Result Bool Fault) (new : State) → GoesAs replies end result new mid now → GoesAs (reply ∷ replies) end result new start now
  goes_later replies (Some end) (Ok quit) new runs = record { quit = runs.quit; after = runs.after; put = adds_both reply.text (texts replies) start mid now put runs.put }
  goes_later replies (Some end) (Err error) new cut = cut_later replies error cut
  goes_later replies None (Ok quit) new begins = begins_later replies begins
  goes_later replies None (Err error) new (inl cut) = inl (cut_later replies error cut)
  goes_later replies None (Err error) new (inr begins) = inr (begins_later replies begins)

  pub then_runs : (ran : Ran) (result : Result Bool Fault) (new : State) → Runs ran result new mid now → Runs (and_then reply ran) result new start now
  then_runs ran result new runs = goes_later ran.replies ran.end result new runs

-- the first reply of a run was cut off
pub first_cut : (reply : Reply) (ran : Ran) (error : Fault) (new : State) (start now : Option (List ℕ)) → CutsOff reply error start now → Runs (and_then reply ran) (Err error) new start now
first_cut reply ran error new start now part = by ran.end
  where
    cut : IsCutShort (reply ∷ ran.replies) error start now
    cut = record { before = []; reply = reply; later = ran.replies; split = refl; mid = start; put = adds_none start; part = part }

    by : (end : Option Ended) → GoesAs (reply ∷ ran.replies) end (Err error) new start now
    by (Some end) = cut
    by None = inl cut

pub overflow_cut : (s new : State) (start now : Option (List ℕ)) → AddsFront (codes "overflow\n") start now → Runs (overflowed s) (Err fault.Write) new start now
unfolding overflowed
overflow_cut s new start now part = first_cut (plain (codes "overflow\n")) (frame false 4096 s) fault.Write new start now part

pub overflow_runs : (s new : State) (result : Result Bool Fault) (start mid now : Option (List ℕ)) → Adds (codes "overflow\n") start mid → Runs (frame false 4096 s) result new mid now → Runs (overflowed s) result new start now
unfolding overflowed
overflow_runs s new result start mid now put runs = then_runs (plain (codes "overflow\n")) start mid now put (frame false 4096 s) result new runs

-- the frame behind `overflow` asks for what the whole asks
pub overflow_none : (s : State) → NoneAsks (overflowed s) → NoneAsks (frame false 4096 s)
unfolding overflowed
overflow_none s none = record { last = none.last; ends = none.ends; none = none.none.1 }

module _ (s : State) (text buffer : List ℕ) (fits : Bool) (fits_is : fits ≡ fits_in (input text) s.buffer) (buffer_is : buffer ≡ (if fits_in (input text) s.buffer then s.buffer ++ input text else s.buffer)) where
  pub line_fits : fits ≡ true → line text s ≡ frame false 4096 (record s { buffer = buffer })
  unfolding line
  line_fits is =
      let test : fits_in (input text) s.buffer ≡ true = sym fits_is ∙ is in
      let state : List ℕ → State = λ (b : List ℕ). record s { buffer = b } in
      let added : buffer ≡ s.buffer ++ input text = buffer_is ∙ ap (λ (t : Bool). (if t then s.buffer ++ input text else s.buffer)) test in
      ap (λ (t : Bool). (if t then frame false 4096 (state (s.buffer ++ input text)) else overflowed s)) test ∙ ap (λ (b : List ℕ). frame false 4096 (state b)) (sym added)

  pub line_over : fits ≡ false → line text s ≡ overflowed (record s { buffer = buffer })
  unfolding line
  line_over is =
      let test : fits_in (input text) s.buffer ≡ false = sym fits_is ∙ is in
      let state : List ℕ → State = λ (b : List ℕ). record s { buffer = b } in
      let same : buffer ≡ s.buffer = buffer_is ∙ ap (λ (t : Bool). (if t then s.buffer ++ input text else s.buffer)) test in
      ap (λ (t : Bool). (if t then frame false 4096 (state (s.buffer ++ input text)) else overflowed s)) test ∙ ap (λ (b : List ℕ). overflowed (state b)) (sym same)

pub same_run : (ran other : Ran) (result : Result Bool Fault) (new : State) (start now : Option (List ℕ)) → ran ≡ other → Runs other result new start now → Runs ran result new start now
same_run ran other result new start now is runs = subst (λ r. Runs r result new start now) (sym is) runs

pub same_none : (ran other : Ran) → ran ≡ other → NoneAsks ran → NoneAsks other
same_none ran other is none = subst (λ r. NoneAsks r) is none
