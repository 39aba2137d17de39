-- A frame, command by command.
use Prim.Native.Nat.{zero, suc}
use Rattle.std.proofs.Common.{◌≡◌, ℕ, ◌<◌, List, [], ◌∷◌, ◌++◌, length, Bool, false, Option, Some, None, ◌⊎◌, inl, inr, Result, Ok, Err, refl, sym, ◌∙◌, ap, subst, arith, append_assoc}
use Rattle.std.specs.Prelude.{codes}
use Rattle.std.specs.Bool.{OnFalse}
use Rattle.std.specs.List.{AllByRecursion}
use Rattle.std.proofs.lemmas.List.{append-nil}
use Rattle.std.proofs.lemmas.Bool.{eq-eqb, ne_eqb}
use Rattle.outside_io.specs.Streams.{Adds}
use Rattle.outside_io.proofs.Puts.{adds_none, adds_both}
use Rattle.console_session.specs.States.{State, Reply, Done, Did, Told, Untold, asks, CutsOff, StillPut, Follows}
use Rattle.console_session.specs.Commands.{command}
use Rattle.console_session.specs.Frames.{Ended, Ran, plain, stopped, untold, and_then, ending, gone_on, continued, frame, texts, IsRun, IsCutShort, BeginsWith, GoesAs, Runs, NoneAsks}
use Rattle.console_session.specs.Telling.{Tells}
use Rattle.console_session.specs.declared.ends.Fault.{Fault}
use Rattle.console_session.specs.declared.ends.Next.{Next}
use Rattle.console_session.proofs.Following.{still_followed, still_both, still_put}

pub frame_empty : (through : Bool) (n : ℕ) (s : State) → length s.buffer ≡ 0 → frame through n s ≡ stopped s [] false
unfolding frame
frame_empty through zero s none = rw (eq-eqb (length s.buffer) 0 none) refl
frame_empty through (suc n) s none = rw (eq-eqb (length s.buffer) 0 none) refl

pub frame_away : (through : Bool) (n : ℕ) (s : State) → n ≡ 0 → 0 < length s.buffer → frame through n s ≡ stopped (record s { buffer = [] }) (plain (codes "runaway\n") ∷ []) false
unfolding frame
frame_away through zero s is some = rw (ne_eqb (length s.buffer) 0 (λ e. omega arith)) refl
frame_away through (suc n) s is some = absurd (omega arith)

pub frame_more : (through : Bool) (n k : ℕ) (s : State) → n ≡ suc k → 0 < length s.buffer → frame through n s ≡ continued (command s) (ending through) (λ after. frame through k after)
unfolding frame
frame_more through n k s is some = ap (λ (m : ℕ). frame through m s) is ∙ rw (ne_eqb (length s.buffer) 0 (λ e. omega arith)) refl

pub texts-append : (xs ys : List Reply) → texts (xs ++ ys) ≡ texts xs ++ texts ys
texts-append [] ys = refl
texts-append (x ∷ xs) ys = ap (λ (t : List ℕ). x.text ++ t) (texts-append xs ys) ∙ sym (append_assoc x.text (texts xs) (texts ys))

-- a part of the run was done, and `left` is left
pub record RunSoFar (whole left : Ran) (start now : Option (List ℕ)) : Type 0 where
  pub before : List Reply
  pub replies : whole.replies ≡ before ++ left.replies
  pub end : whole.end ≡ left.end
  pub put : Adds (texts before) start now

-- the run came to a command that isn't told
pub record IsLost (whole : Ran) (start now : Option (List ℕ)) : Type 0 where
  pub end : whole.end ≡ None
  pub begins : BeginsWith whole.replies start now

abbrev pub SoFar : (whole left : Ran) → (start now : Option (List ℕ)) → Type 0
SoFar whole left start now = RunSoFar whole left start now ⊎ IsLost whole start now

far_start : (whole : Ran) (start : Option (List ℕ)) → RunSoFar whole whole start start
far_start whole start = record { before = []; replies = refl; end = refl; put = adds_none start }

pub so_far_start : (whole : Ran) (start : Option (List ℕ)) → SoFar whole whole start start
so_far_start whole start = inl (far_start whole start)

begins_still : (replies : List Reply) (start mid now : Option (List ℕ)) → BeginsWith replies start mid → StillPut mid now → BeginsWith replies start now
begins_still replies start mid now begins still = record { mid = begins.mid; put = begins.put; more = still_both begins.mid mid now begins.more still }

lost_still : (whole : Ran) (start mid now : Option (List ℕ)) → IsLost whole start mid → StillPut mid now → IsLost whole start now
lost_still whole start mid now lost still = record { end = lost.end; begins = begins_still whole.replies start mid now lost.begins still }

-- nothing is told any more
lose : (whole left : Ran) (start mid now : Option (List ℕ)) → left ≡ untold → RunSoFar whole left start mid → StillPut mid now → IsLost whole start now
lose whole left start mid now is far still = record {
  end = far.end ∙ ap (λ (r : Ran). r.end) is;
  begins = record {
    mid = mid;
    put = subst (λ rs. Adds (texts rs) start mid) (sym (far.replies ∙ ap (λ (r : Ran). far.before ++ r.replies) is ∙ append-nil far.before)) far.put;
    more = still;
  };
}

-- one reply more was put
far_step : (whole left rest : Ran) (reply : Reply) (start mid now : Option (List ℕ)) → left ≡ and_then reply rest → RunSoFar whole left start mid → Adds reply.text mid now → RunSoFar whole rest start now
far_step whole left rest reply start mid now is far put = record {
  before = far.before ++ reply ∷ [];
  replies = far.replies ∙ ap (λ (r : Ran). far.before ++ r.replies) is ∙ sym (append_assoc far.before (reply ∷ []) rest.replies);
  end = far.end ∙ ap (λ (r : Ran). r.end) is;
  put = subst (λ t. Adds t start now) (ap (λ (t : List ℕ). texts far.before ++ t) (sym (append-nil reply.text)) ∙ sym (texts-append far.before (reply ∷ []))) (adds_both (texts far.before) reply.text start mid now far.put put);
}

goes_cut : (replies : List Reply) (end : Option Ended) (error : Fault) (after : State) (start now : Option (List ℕ)) → IsCutShort replies error start now → GoesAs replies end (Err error) after start now
goes_cut replies (Some end) error after start now cut = cut
goes_cut replies None error after start now cut = inl cut

goes_lost : (replies : List Reply) (end : Option Ended) (result : Result Bool Fault) (after : State) (start now : Option (List ℕ)) → end ≡ None → BeginsWith replies start now → GoesAs replies end result after start now
goes_lost replies end (Ok quit) after start now none begins = subst (λ e. GoesAs replies e (Ok quit) after start now) (sym none) begins
goes_lost replies end (Err error) after start now none begins = subst (λ e. GoesAs replies e (Err error) after start now) (sym none) (inr begins)

-- nothing is left
pub so_far_all : (whole left : Ran) (s : State) (quit : Bool) (start now : Option (List ℕ)) → left ≡ stopped s [] quit → SoFar whole left start now → Runs whole (Ok quit) s start now
so_far_all whole left s quit start now is (inl far) =
    let run : IsRun whole.replies (record { after = s; quit = quit }) quit s start now = record {
      quit = refl;
      after = refl;
      put = subst (λ rs. Adds (texts rs) start now) (sym (far.replies ∙ ap (λ (r : Ran). far.before ++ r.replies) is ∙ append-nil far.before)) far.put;
    } in
    subst (λ e. GoesAs whole.replies e (Ok quit) s start now) (sym (far.end ∙ ap (λ (r : Ran). r.end) is)) run
so_far_all whole left s quit start now is (inr lost) = goes_lost whole.replies whole.end (Ok quit) s start now lost.end lost.begins

-- the next reply was cut off
cut_far : (whole left : Ran) (reply : Reply) (later : List Reply) (error : Fault) (start mid now : Option (List ℕ)) → left.replies ≡ reply ∷ later → RunSoFar whole left start mid → CutsOff reply error mid now → IsCutShort whole.replies error start now
cut_far whole left reply later error start mid now is far cut = record {
  before = far.before;
  reply = reply;
  later = later;
  split = far.replies ∙ ap (λ (rs : List Reply). far.before ++ rs) is;
  mid = mid;
  put = far.put;
  part = cut;
}

later_of : Option Bool → Ran → List Reply
later_of None ran = ran.replies
later_of (Some quit) ran = []

gone_replies : (done : Done) (end : Option Bool) (rest : State → Ran) → (gone_on done end rest).replies ≡ done.reply ∷ later_of end (rest done.after)
unfolding later_of
gone_replies done None rest = refl
gone_replies done (Some quit) rest = refl

no_end : (end : Option Ended) (last : Ended) → end ≡ None → end ≡ Some last → ⊥
no_end end last none some = let both : None ≡ Some last = sym none ∙ some in absurd (cc)

module _ (whole left : Ran) (ends : Next → Option Bool) (rest : State → Ran) (did : Did) (new : State) (start mid now : Option (List ℕ)) (left_is : left ≡ continued did ends rest) where
  more : (d : Did) (next : Next) → left ≡ continued d ends rest → RunSoFar whole left start mid → Follows d (Ok next) new mid now → None ≡ ends next → SoFar whole (rest new) start now
  more (Told done) next is far follows goes =
      let one : left ≡ and_then done.reply (rest new) =
      is ∙ ap (λ (o : Option Bool). gone_on done o rest) (ap ends follows.next ∙ sym goes) ∙ ap (λ (after : State). and_then done.reply (rest after)) (sym follows.after) in
      inl (far_step whole left (rest new) done.reply start mid now one far follows.put)
  more Untold next is far follows goes = inr (lose whole left start mid now is far follows)

  last : (d : Did) (next : Next) (quit : Bool) → left ≡ continued d ends rest → RunSoFar whole left start mid → Follows d (Ok next) new mid now → Some quit ≡ ends next → SoFar whole (stopped new [] quit) start now
  last (Told done) next quit is far follows goes =
      let one : left ≡ and_then done.reply (stopped new [] quit) =
      is ∙ ap (λ (o : Option Bool). gone_on done o rest) (ap ends follows.next ∙ sym goes) ∙ ap (λ (after : State). stopped after (done.reply ∷ []) quit) (sym follows.after) in
      inl (far_step whole left (stopped new [] quit) done.reply start mid now one far follows.put)
  last Untold next quit is far follows goes = inr (lose whole left start mid now is far follows)

  cut : (d : Did) (error : Fault) → left ≡ continued d ends rest → RunSoFar whole left start mid → Follows d (Err error) new mid now → Runs whole (Err error) new start now
  cut (Told done) error is far follows =
      goes_cut whole.replies whole.end error new start now
      (cut_far whole left done.reply _ error start mid now (ap (λ (r : Ran). r.replies) is ∙ gone_replies done (ends done.next) rest) far follows)
  cut Untold error is far follows =
      let lost = lose whole left start mid now is far follows in
      goes_lost whole.replies whole.end (Err error) new start now lost.end lost.begins

  -- the run goes on behind this command
  pub step_more : (next : Next) → SoFar whole left start mid → Follows did (Ok next) new mid now → None ≡ ends next → SoFar whole (rest new) start now
  step_more next (inl far) follows goes = more did next left_is far follows goes
  step_more next (inr lost) follows goes = inr (lost_still whole start mid now lost (still_followed did (Ok next) new mid now follows))

  -- the run ends behind this command
  pub step_last : (next : Next) (quit : Bool) → SoFar whole left start mid → Follows did (Ok next) new mid now → Some quit ≡ ends next → SoFar whole (stopped new [] quit) start now
  step_last next quit (inl far) follows goes = last did next quit left_is far follows goes
  step_last next quit (inr lost) follows goes = inr (lost_still whole start mid now lost (still_followed did (Ok next) new mid now follows))

  pub step_cut : (error : Fault) → SoFar whole left start mid → Follows did (Err error) new mid now → Runs whole (Err error) new start now
  step_cut error (inl far) follows = cut did error left_is far follows
  step_cut error (inr lost) follows =
      goes_lost whole.replies whole.end (Err error) new start now lost.end (begins_still whole.replies start mid now lost.begins (still_followed did (Err error) new mid now follows))

-- Where no command of a run asks for a file, this one doesn't.
all_behind : (before : List Reply) (reply : Reply) (later : List Reply) → AllByRecursion (λ (r : Reply). r.load ≡ false) (before ++ reply ∷ later) → reply.load ≡ false
all_behind [] reply later all = all.0
all_behind (r ∷ before) reply later all = all_behind before reply later all.1

module _ (whole left : Ran) (ends : Next → Option Bool) (rest : State → Ran) (start now : Option (List ℕ)) where
  asks_none : (did : Did) → left ≡ continued did ends rest → RunSoFar whole left start now → NoneAsks whole → asks did ≡ false
  asks_none (Told done) is far none =
      let replies : whole.replies ≡ far.before ++ done.reply ∷ later_of (ends done.next) (rest done.after) =
      far.replies ∙ ap (λ (rs : List Reply). far.before ++ rs) (ap (λ (r : Ran). r.replies) is ∙ gone_replies done (ends done.next) rest) in
      all_behind far.before done.reply _ (subst (λ rs. AllByRecursion (λ (r : Reply). r.load ≡ false) rs) replies none.none)
  asks_none Untold is far none = absurd (no_end whole.end none.last (far.end ∙ ap (λ (r : Ran). r.end) is) none.ends)

  pub calls_none : {P : Type 0} (did : Did) → left ≡ continued did ends rest → SoFar whole left start now → NoneAsks whole → OnFalse (asks did) P → P
  calls_none {P} did is (inl far) none calls = let here : OnFalse false P = subst (λ b. OnFalse b P) (asks_none did is far none) calls in here
  calls_none did is (inr lost) none calls = absurd (no_end whole.end none.last lost.end none.ends)

-- the last reply, which is no command's
pub last_runs : (whole left : Ran) (s : State) (text : List ℕ) (end : Bool) (result : Result Bool Fault) (start mid now : Option (List ℕ)) → left ≡ stopped s (plain text ∷ []) end
    → SoFar whole left start mid → Tells (Ok text) end result mid now → Runs whole result s start now
last_runs whole left s text end (Ok quit) start mid now is (inl far) tells =
    subst (λ q. Runs whole (Ok q) s start now) (sym tells.0) (so_far_all whole (stopped s [] end) s end start now refl (inl (far_step whole left (stopped s [] end) (plain text) start mid now is far tells.1)))
last_runs whole left s text end (Err error) start mid now is (inl far) tells =
    goes_cut whole.replies whole.end error s start now (cut_far whole left (plain text) [] error start mid now (ap (λ (r : Ran). r.replies) is) far (subst (λ e. CutsOff (plain text) e mid now) (sym tells.0) tells.1))
last_runs whole left s text end result start mid now is (inr lost) tells =
    goes_lost whole.replies whole.end result s start now lost.end (begins_still whole.replies start mid now lost.begins (still_put (Ok text) end result mid now tells))
