-- Lines of what was taken so far, and their run.
use Prim.Native.Nat.{zero, suc}
use Rattle.std.proofs.Common.{inl, inr, Some, None, option_map, ◌≡◌, ◌≢◌, ℕ, ◌≤◌, List, [], ◌∷◌, ◌++◌, length, take, Bool, true, false, Option, Result, Ok, Err, refl, sym, ◌∙◌, ap, subst, append_assoc, ◌==◌}
use Rattle.std.proofs.lemmas.List.{append-nil, take_all}
use Rattle.std.proofs.lemmas.Bool.{eq-eqb, ne_eqb}
use Rattle.outside_io.specs.Streams.{Adds, Took}
use Rattle.outside_io.proofs.Puts.{adds_none, adds_both}
use Rattle.console_session.specs.States.{State, Reply, CutsOff, StillPut}
use Rattle.console_session.specs.Frames.{Ended, Ran, stopped, line, texts, IsCutShort, BeginsWith, GoesAs, Runs}
use Rattle.console_core.specs.Runs.{joined_runs, go_on, behind, followed, run_lines, HasNoNewline, Lines, begun, one_byte, lines_of}
use Rattle.console_session.specs.declared.ends.Fault.{Fault}
use Rattle.console_session.specs.declared.ends.Fault.TheVariants as fault
use Rattle.console_session.specs.Sessions.{told_end}
use Rattle.console_session.specs.declared.ends.StepEnd.{StepEnd}
use Rattle.console_session.specs.declared.ends.StepEnd.TheVariants.{Went, Quit, FolderFault, WriteFault, OutOfMemory}
use Rattle.console_session.proofs.Following.{still_both}
use Rattle.console_session.proofs.Framing.{texts-append}
use Rattle.console_core.proofs.Shortening.{take_front, line_front}

-- a byte more, at the end
abbrev pub more_byte : ℕ → Lines → Lines
more_byte byte lines = record { whole = lines.whole; rest = lines.rest ++ byte ∷ [] }

-- a newline more, at the end
abbrev pub more_line : Lines → Lines
more_line lines = record { whole = lines.whole ++ lines.rest ∷ []; rest = [] }

begun_more_byte : (b byte : ℕ) (whole : List (List ℕ)) (rest : List ℕ) → begun b whole (rest ++ byte ∷ []) ≡ more_byte byte (begun b whole rest)
begun_more_byte b byte [] rest = refl
begun_more_byte b byte (text ∷ others) rest = refl

begun_more_line : (b : ℕ) (whole : List (List ℕ)) (rest : List ℕ) → begun b (whole ++ rest ∷ []) [] ≡ more_line (begun b whole rest)
begun_more_line b [] rest = refl
begun_more_line b (text ∷ others) rest = refl

one_more_byte : (newline : Bool) (b byte : ℕ) (lines : Lines) → one_byte newline b (more_byte byte lines) ≡ more_byte byte (one_byte newline b lines)
one_more_byte true b byte lines = refl
one_more_byte false b byte lines = begun_more_byte b byte lines.whole lines.rest

one_more_line : (newline : Bool) (b : ℕ) (lines : Lines) → one_byte newline b (more_line lines) ≡ more_line (one_byte newline b lines)
one_more_line true b lines = refl
one_more_line false b lines = begun_more_line b lines.whole lines.rest

pub lines_more : (taken : List ℕ) (byte : ℕ) → byte ≢ 10 → lines_of (taken ++ byte ∷ []) ≡ more_byte byte (lines_of taken)
lines_more [] byte other = rw (ne_eqb byte 10 other) refl
lines_more (b ∷ bs) byte other = ap (λ (lines : Lines). one_byte (b == 10) b lines) (lines_more bs byte other) ∙ one_more_byte (b == 10) b byte (lines_of bs)

pub lines_newline : (taken : List ℕ) (byte : ℕ) → byte ≡ 10 → lines_of (taken ++ byte ∷ []) ≡ more_line (lines_of taken)
lines_newline [] byte is = rw (eq-eqb byte 10 is) refl
lines_newline (b ∷ bs) byte is = ap (λ (lines : Lines). one_byte (b == 10) b lines) (lines_newline bs byte is) ∙ one_more_line (b == 10) b (lines_of bs)

-- more bytes leave the whole lines that there are
pub lines_later : (taken more : List ℕ) → (later : List (List ℕ)) × ((lines_of (taken ++ more)).whole ≡ (lines_of taken).whole ++ later)
lines_later [] more = ((lines_of more).whole, refl)
lines_later (b ∷ bs) more = later_byte (b == 10) b (lines_of bs) (lines_of (bs ++ more)) (lines_later bs more)
  where
    later_byte : (newline : Bool) (b : ℕ) (small large : Lines) → (later : List (List ℕ)) × (large.whole ≡ small.whole ++ later) → (later : List (List ℕ)) × ((one_byte newline b large).whole ≡ (one_byte newline b small).whole ++ later)
    later_byte true b small large h = (h.0, ap (λ (ls : List (List ℕ)). [] ∷ ls) h.1)
    later_byte false b small large h = later_begun b small.whole small.rest large.whole large.rest h.0 h.1
      where
        later_begun : (b : ℕ) (small : List (List ℕ)) (small_rest : List ℕ) (large : List (List ℕ)) (large_rest : List ℕ) (later : List (List ℕ)) → large ≡ small ++ later → (found : List (List ℕ)) × ((begun b large large_rest).whole ≡ (begun b small small_rest).whole ++ found)
        later_begun b [] small_rest large large_rest later is = ((begun b large large_rest).whole, refl)
        later_begun b (text ∷ others) small_rest large large_rest later is = (later, ap (λ (ls : List (List ℕ)). (begun b ls large_rest).whole) is)

-- what follows a run that is followed itself
go_on_joined : (quit : Bool) (first second : List Reply) (after : State) (rest : State → Ran) → joined_runs first (go_on quit second after rest) ≡ go_on quit (first ++ second) after rest
go_on_joined true first second after rest = refl
go_on_joined false first second after rest =
    let run_of : List Reply → Ran = λ (rs : List Reply). record { replies = rs; end = (rest after).end } in
    ap run_of (sym (append_assoc first second (rest after).replies))

behind_joined : (first second : List Reply) (end : Option Ended) (rest : State → Ran) → joined_runs first (behind second end rest) ≡ behind (first ++ second) end rest
behind_joined first second None rest = refl
behind_joined first second (Some end) rest = go_on_joined end.quit first second end.after rest

go_on_assoc : (quit : Bool) (replies : List Reply) (after : State) (one two : State → Ran) → go_on quit replies after (λ s. followed (one s) two) ≡ followed (go_on quit replies after one) two
go_on_assoc true replies after one two = refl
go_on_assoc false replies after one two = behind_joined replies (one after).replies (one after).end two

behind_assoc : (replies : List Reply) (end : Option Ended) (one two : State → Ran) → behind replies end (λ s. followed (one s) two) ≡ followed (behind replies end one) two
behind_assoc replies None one two = refl
behind_assoc replies (Some end) one two = go_on_assoc end.quit replies end.after one two

go_on_same : (quit : Bool) (replies : List Reply) (after : State) (one two : State → Ran) → ((s : State) → one s ≡ two s) → go_on quit replies after one ≡ go_on quit replies after two
go_on_same true replies after one two same = refl
go_on_same false replies after one two same = ap (joined_runs replies) (same after)

behind_same : (replies : List Reply) (end : Option Ended) (one two : State → Ran) → ((s : State) → one s ≡ two s) → behind replies end one ≡ behind replies end two
behind_same replies None one two same = refl
behind_same replies (Some end) one two same = go_on_same end.quit replies end.after one two same

pub run_append : (s : State) (first second : List (List ℕ)) → run_lines s (first ++ second) ≡ followed (run_lines s first) (λ after. run_lines after second)
run_append s [] second = refl
run_append s (text ∷ texts) second =
    let ran = line text s in
    behind_same ran.replies ran.end (λ after. run_lines after (texts ++ second)) (λ after. followed (run_lines after texts) (λ last. run_lines last second)) (λ after. run_append after texts second)
    ∙ behind_assoc ran.replies ran.end (λ after. run_lines after texts) (λ last. run_lines last second)

-- whatever a run did, what stood is only added to
cut_still : (reply : Reply) (error : Fault) (start now : Option (List ℕ)) → CutsOff reply error start now → StillPut start now
cut_still reply fault.Write start now part = (take part.0 reply.text, part.2)
cut_still reply (fault.Folder folder) start now part = ([], subst (λ n. Adds [] start n) (sym part.1) (adds_none start))
cut_still reply fault.Memory start now part = ([], subst (λ n. Adds [] start n) (sym part.1) (adds_none start))

short_still : (replies : List Reply) (error : Fault) (start now : Option (List ℕ)) → IsCutShort replies error start now → StillPut start now
short_still replies error start now cut = still_both start cut.mid now (texts cut.before, cut.put) (cut_still cut.reply error cut.mid now cut.part)

begins_still : (replies : List Reply) (start now : Option (List ℕ)) → BeginsWith replies start now → StillPut start now
begins_still replies start now begins = still_both start begins.mid now (texts replies, begins.put) begins.more

pub goes_still : (replies : List Reply) (end : Option Ended) (result : Result Bool Fault) (new : State) (start now : Option (List ℕ)) → GoesAs replies end result new start now → StillPut start now
goes_still replies (Some end) (Ok quit) new start now runs = (texts replies, runs.put)
goes_still replies (Some end) (Err error) new start now cut = short_still replies error start now cut
goes_still replies None (Ok quit) new start now begins = begins_still replies start now begins
goes_still replies None (Err error) new start now (inl cut) = short_still replies error start now cut
goes_still replies None (Err error) new start now (inr begins) = begins_still replies start now begins

-- replies that were put before
module _ (first : List Reply) (start mid now : Option (List ℕ)) (put : Adds (texts first) start mid) where
  puts_more : (replies : List Reply) (last : Option (List ℕ)) → Adds (texts replies) mid last → Adds (texts (first ++ replies)) start last
  puts_more replies last more = subst (λ t. Adds t start last) (sym (texts-append first replies)) (adds_both (texts first) (texts replies) start mid last put more)

  cut_more : (replies : List Reply) (error : Fault) → IsCutShort replies error mid now → IsCutShort (first ++ replies) error start now
  cut_more replies error cut = record {
    before = first ++ cut.before;
    reply = cut.reply;
    later = cut.later;
    split = ap (λ (rs : List Reply). first ++ rs) cut.split ∙ sym (append_assoc first cut.before (cut.reply ∷ cut.later));
    mid = cut.mid;
    put = puts_more cut.before cut.mid cut.put;
    part = cut.part;
  }

  begins_more : (replies : List Reply) → BeginsWith replies mid now → BeginsWith (first ++ replies) start now
  begins_more replies begins = record { mid = begins.mid; put = puts_more replies begins.mid begins.put; more = begins.more }

  goes_more : (replies : List Reply) (end : Option Ended) (result : Result Bool Fault) (new : State) → GoesAs replies end result new mid now → GoesAs (first ++ replies) end result new start now
  goes_more replies (Some end) (Ok quit) new runs = record { quit = runs.quit; after = runs.after; put = puts_more replies now runs.put }
  goes_more replies (Some end) (Err error) new cut = cut_more replies error cut
  goes_more replies None (Ok quit) new begins = begins_more replies begins
  goes_more replies None (Err error) new (inl cut) = inl (cut_more replies error cut)
  goes_more replies None (Err error) new (inr begins) = inr (begins_more replies begins)

-- a run that lost its end, and whatever came then
lost_more : (replies : List Reply) (result : Result Bool Fault) (new : State) (start mid now : Option (List ℕ)) → BeginsWith replies start mid → StillPut mid now → GoesAs replies None result new start now
lost_more replies (Ok quit) new start mid now begins still = record { mid = begins.mid; put = begins.put; more = still_both begins.mid mid now begins.more still }
lost_more replies (Err error) new start mid now begins still = inr (record { mid = begins.mid; put = begins.put; more = still_both begins.mid mid now begins.more still })

-- a run without `quit`, and then another
goes_both : (replies : List Reply) (end : Option Ended) (rest : State → Ran) (result : Result Bool Fault) (s new : State) (start mid now : Option (List ℕ)) → GoesAs replies end (Ok false) s start mid → Runs (rest s) result new mid now
    → Runs (behind replies end rest) result new start now
goes_both replies None rest result s new start mid now begins runs =
    lost_more replies result new start mid now begins (goes_still (rest s).replies (rest s).end result new mid now runs)
goes_both replies (Some end) rest result s new start mid now so_far runs =
    subst (λ q. Runs (go_on q replies end.after rest) result new start now) (sym so_far.quit)
    (goes_more replies start mid now so_far.put (rest end.after).replies (rest end.after).end result new (subst (λ a. Runs (rest a) result new mid now) so_far.after runs))

pub both_run : (first : Ran) (rest : State → Ran) (result : Result Bool Fault) (s new : State) (start mid now : Option (List ℕ)) → Runs first (Ok false) s start mid → Runs (rest s) result new mid now → Runs (followed first rest) result new start now
both_run first rest result s new start mid now so_far runs = goes_both first.replies first.end rest result s new start mid now so_far runs

-- nothing behind a run
nothing_then : (quit : Bool) (replies : List Reply) (after : State) → go_on quit replies after (λ last. stopped last [] false) ≡ stopped after replies quit
nothing_then true replies after = refl
nothing_then false replies after =
    let run_of : List Reply → Ran = λ (rs : List Reply). stopped after rs false in
    ap run_of (append-nil replies)

nothing_behind : (replies : List Reply) (end : Option Ended) → behind replies end (λ after. stopped after [] false) ≡ record { replies = replies; end = end }
nothing_behind replies None = refl
nothing_behind replies (Some end) = nothing_then end.quit replies end.after

nothing_more : (ran : Ran) → followed ran (λ after. stopped after [] false) ≡ ran
nothing_more ran = nothing_behind ran.replies ran.end

-- what follows a run that quit, or that a fault ended
goes_quit : (replies : List Reply) (end : Option Ended) (rest : State → Ran) (new : State) (start now : Option (List ℕ)) → GoesAs replies end (Ok true) new start now → Runs (behind replies end rest) (Ok true) new start now
goes_quit replies None rest new start now begins = begins
goes_quit replies (Some end) rest new start now runs =
    let here : Runs (go_on true replies end.after rest) (Ok true) new start now = record { quit = refl; after = runs.after; put = runs.put } in
    subst (λ q. Runs (go_on q replies end.after rest) (Ok true) new start now) (sym runs.quit) here

pub quit_run : (ran : Ran) (rest : State → Ran) (new : State) (start now : Option (List ℕ)) → Runs ran (Ok true) new start now → Runs (followed ran rest) (Ok true) new start now
quit_run ran rest new start now runs = goes_quit ran.replies ran.end rest new start now runs

cut_before : (replies more : List Reply) (error : Fault) (start now : Option (List ℕ)) → IsCutShort replies error start now → IsCutShort (replies ++ more) error start now
cut_before replies more error start now cut = record {
  before = cut.before;
  reply = cut.reply;
  later = cut.later ++ more;
  split = ap (λ (rs : List Reply). rs ++ more) cut.split ∙ append_assoc cut.before (cut.reply ∷ cut.later) more;
  mid = cut.mid;
  put = cut.put;
  part = cut.part;
}

goes_cut : (replies : List Reply) (end : Option Ended) (error : Fault) (new : State) (start now : Option (List ℕ)) → IsCutShort replies error start now → GoesAs replies end (Err error) new start now
goes_cut replies (Some end) error new start now cut = cut
goes_cut replies None error new start now cut = inl cut

go_on_cut : (quit : Bool) (replies : List Reply) (after : State) (rest : State → Ran) (error : Fault) (new : State) (start now : Option (List ℕ)) → IsCutShort replies error start now → Runs (go_on quit replies after rest) (Err error) new start now
go_on_cut true replies after rest error new start now cut = cut
go_on_cut false replies after rest error new start now cut = goes_cut (replies ++ (rest after).replies) (rest after).end error new start now (cut_before replies (rest after).replies error start now cut)

behind_cut : (replies : List Reply) (end : Option Ended) (rest : State → Ran) (error : Fault) (new : State) (start now : Option (List ℕ)) → GoesAs replies end (Err error) new start now → Runs (behind replies end rest) (Err error) new start now
behind_cut replies None rest error new start now runs = runs
behind_cut replies (Some end) rest error new start now cut = go_on_cut end.quit replies end.after rest error new start now cut

pub cut_run : (ran : Ran) (rest : State → Ran) (error : Fault) (new : State) (start now : Option (List ℕ)) → Runs ran (Err error) new start now → Runs (followed ran rest) (Err error) new start now
cut_run ran rest error new start now cut = behind_cut ran.replies ran.end rest error new start now cut

-- a text without a newline has no whole line
lone : (text : List ℕ) → HasNoNewline text → lines_of text ≡ record { whole = []; rest = text }
lone [] none = refl
lone (byte ∷ bytes) none = ap (λ (t : Bool). one_byte t byte (lines_of bytes)) none.0 ∙ ap (λ (lines : Lines). one_byte false byte lines) (lone bytes none.1)

-- nothing was run of what is pending
pub start_run : (s : State) (pending : List ℕ) (start : Option (List ℕ)) → HasNoNewline pending → Runs (run_lines s (lines_of pending).whole) (Ok false) s start start
start_run s pending start none =
    let here : Runs (run_lines s []) (Ok false) s start start = record { quit = refl; after = refl; put = adds_none start } in
    subst (λ (lines : Lines). Runs (run_lines s lines.whole) (Ok false) s start start) (sym (lone pending none)) here

pub start_rest : (pending : List ℕ) → length pending ≤ 8192 → HasNoNewline pending → pending ≡ take 8192 (lines_of pending).rest
start_rest pending short none = sym (ap (λ (lines : Lines). take 8192 lines.rest) (lone pending none) ∙ take_all 8192 pending short)

-- what follows a run that ended is not run
pub ended_run : (ran : Ran) (rest : State → Ran) (end : StepEnd) (new : State) (start now : Option (List ℕ)) → (end ≡ Went → ⊥) → Runs ran (told_end end) new start now → Runs (followed ran rest) (told_end end) new start now
ended_run ran rest Went new start now stops runs = absurd (stops refl)
ended_run ran rest Quit new start now stops runs = quit_run ran rest new start now runs
ended_run ran rest (FolderFault folder) new start now stops runs = cut_run ran rest (fault.Folder folder) new start now runs
ended_run ran rest WriteFault new start now stops runs = cut_run ran rest fault.Write new start now runs
ended_run ran rest OutOfMemory new start now stops runs = cut_run ran rest fault.Memory new start now runs

-- the lines of more bytes are behind those so far
pub later_run : (first : State) (taken more : List ℕ) → run_lines first (lines_of (taken ++ more)).whole ≡ followed (run_lines first (lines_of taken).whole) (λ after. run_lines after (lines_later taken more).0)
later_run first taken more =
    let later = lines_later taken more in
    ap (run_lines first) later.1 ∙ run_append first (lines_of taken).whole later.0

-- so lines that ended a run end it before more bytes too
pub lines_end : (first new : State) (taken more : List ℕ) (end : StepEnd) (start now : Option (List ℕ)) → (end ≡ Went → ⊥) → Runs (run_lines first (lines_of taken).whole) (told_end end) new start now
    → Runs (run_lines first (lines_of (taken ++ more)).whole) (told_end end) new start now
lines_end first new taken more end start now stops runs =
    let later = (lines_later taken more).0 in
    subst (λ r. Runs r (told_end end) new start now) (sym (later_run first taken more))
    (ended_run (run_lines first (lines_of taken).whole) (λ after. run_lines after later) end new start now stops runs)

-- the lines of a rest, and then of more bytes
abbrev pub lines_then : Lines → List ℕ → Lines
lines_then lines more = record { whole = lines.whole ++ (lines_of (lines.rest ++ more)).whole; rest = (lines_of (lines.rest ++ more)).rest }

begun_then : (b : ℕ) (whole : List (List ℕ)) (rest more : List ℕ) → (b == 10) ≡ false → begun b (lines_then (record { whole = whole; rest = rest }) more).whole (lines_then (record { whole = whole; rest = rest }) more).rest ≡ lines_then (begun b whole rest) more
begun_then b [] rest more other =
    let to : Bool → Lines = λ (t : Bool). one_byte t b (lines_of (rest ++ more)) in
    ap to (sym other)
begun_then b (text ∷ others) rest more other = refl

one_then : (newline : Bool) (b : ℕ) (lines : Lines) (more : List ℕ) → (b == 10) ≡ newline → one_byte newline b (lines_then lines more) ≡ lines_then (one_byte newline b lines) more
one_then true b lines more is = refl
one_then false b lines more is = begun_then b lines.whole lines.rest more is

pub lines_append : (taken more : List ℕ) → lines_of (taken ++ more) ≡ lines_then (lines_of taken) more
lines_append [] more = refl
lines_append (b ∷ bs) more = ap (λ (lines : Lines). one_byte (b == 10) b lines) (lines_append bs more) ∙ one_then (b == 10) b (lines_of bs) more refl

-- the first of the lines, behind a front
front_of : List ℕ → List (List ℕ) → List (List ℕ)
front_of front [] = []
front_of front (text ∷ texts) = (front ++ text) ∷ texts

-- what has no end yet, which is behind the front where there is no line
rest_of : List ℕ → List (List ℕ) → List ℕ → List ℕ
rest_of front [] rest = front ++ rest
rest_of front (text ∷ texts) rest = rest

front_of_none : (whole : List (List ℕ)) → front_of [] whole ≡ whole
unfolding front_of
front_of_none [] = refl
front_of_none (text ∷ texts) = refl

rest_of_none : (whole : List (List ℕ)) (rest : List ℕ) → rest_of [] whole rest ≡ rest
unfolding rest_of
rest_of_none [] rest = refl
rest_of_none (text ∷ texts) rest = refl

begun_behind : (byte : ℕ) (bytes : List ℕ) (whole : List (List ℕ)) (rest : List ℕ) → begun byte (front_of bytes whole) (rest_of bytes whole rest) ≡ record { whole = front_of (byte ∷ bytes) whole; rest = rest_of (byte ∷ bytes) whole rest }
unfolding front_of rest_of
begun_behind byte bytes [] rest = refl
begun_behind byte bytes (text ∷ texts) rest = refl

-- the lines of a text behind a front without a newline
lines_behind : (front more : List ℕ) → HasNoNewline front → lines_of (front ++ more) ≡ record { whole = front_of front (lines_of more).whole; rest = rest_of front (lines_of more).whole (lines_of more).rest }
lines_behind [] more none =
    let lines : List (List ℕ) → List ℕ → Lines = λ (ws : List (List ℕ)) (r : List ℕ). record { whole = ws; rest = r } in
    ap (λ (ws : List (List ℕ)). lines ws (lines_of more).rest) (sym (front_of_none (lines_of more).whole)) ∙ ap (λ (r : List ℕ). lines (front_of [] (lines_of more).whole) r) (sym (rest_of_none (lines_of more).whole (lines_of more).rest))
lines_behind (byte ∷ bytes) more none =
    ap (λ (t : Bool). one_byte t byte (lines_of (bytes ++ more))) none.0
    ∙ ap (λ (lines : Lines). one_byte false byte lines) (lines_behind bytes more none.1)
    ∙ begun_behind byte bytes (lines_of more).whole (lines_of more).rest

none_in_begun : (byte : ℕ) (whole : List (List ℕ)) (rest : List ℕ) → (byte == 10) ≡ false → HasNoNewline rest → HasNoNewline (begun byte whole rest).rest
none_in_begun byte [] rest other none = (other, none)
none_in_begun byte (text ∷ texts) rest other none = none

none_in_one : (newline : Bool) (byte : ℕ) (lines : Lines) → (byte == 10) ≡ newline → HasNoNewline lines.rest → HasNoNewline (one_byte newline byte lines).rest
none_in_one true byte lines is none = none
none_in_one false byte lines is none = none_in_begun byte lines.whole lines.rest is none

-- what has no end yet has no newline
none_in_rest : (taken : List ℕ) → HasNoNewline (lines_of taken).rest
none_in_rest [] = tt
none_in_rest (byte ∷ bytes) = none_in_one (byte == 10) byte (lines_of bytes) refl (none_in_rest bytes)

none_in_front : (n : ℕ) (text : List ℕ) → HasNoNewline text → HasNoNewline (take n text)
none_in_front zero text none = tt
none_in_front (suc n) [] none = tt
none_in_front (suc n) (byte ∷ bytes) none = (none.0, none_in_front n bytes none.1)

pub is_pending : (taken pending : List ℕ) → pending ≡ take 8192 (lines_of taken).rest → HasNoNewline pending
is_pending taken pending is = subst HasNoNewline (sym is) (none_in_front 8192 (lines_of taken).rest (none_in_rest taken))

first_short : (s : State) (front : List ℕ) (whole : List (List ℕ)) → run_lines s (front_of (take 8192 front) whole) ≡ run_lines s (front_of front whole)
unfolding front_of
first_short s front [] = refl
first_short s front (text ∷ texts) = ap (λ (ran : Ran). followed ran (λ after. run_lines after texts)) (line_front s front text)

rest_short : (front : List ℕ) (whole : List (List ℕ)) (rest : List ℕ) → take 8192 (rest_of (take 8192 front) whole rest) ≡ take 8192 (rest_of front whole rest)
unfolding rest_of
rest_short front [] rest = take_front 8192 front rest
rest_short front (text ∷ texts) rest = refl

module _ (s : State) (front more : List ℕ) (none : HasNoNewline front) where
  kept_behind : lines_of (take 8192 front ++ more) ≡ record { whole = front_of (take 8192 front) (lines_of more).whole; rest = rest_of (take 8192 front) (lines_of more).whole (lines_of more).rest }
  kept_behind = lines_behind (take 8192 front) more (none_in_front 8192 front none)

  -- the lines behind what is kept run as those behind all of it
  kept_runs : run_lines s (lines_of (take 8192 front ++ more)).whole ≡ run_lines s (lines_of (front ++ more)).whole
  kept_runs =
      ap (λ (lines : Lines). run_lines s lines.whole) kept_behind ∙ first_short s front (lines_of more).whole
      ∙ sym (ap (λ (lines : Lines). run_lines s lines.whole) (lines_behind front more none))

  kept_rest : take 8192 (lines_of (take 8192 front ++ more)).rest ≡ take 8192 (lines_of (front ++ more)).rest
  kept_rest =
      ap (λ (lines : Lines). take 8192 lines.rest) kept_behind ∙ rest_short front (lines_of more).whole (lines_of more).rest
      ∙ sym (ap (λ (lines : Lines). take 8192 lines.rest) (lines_behind front more none))

-- a piece more is its whole lines behind those so far
pub piece_run : (first : State) (taken piece pending : List ℕ) → pending ≡ take 8192 (lines_of taken).rest
    → run_lines first (lines_of (taken ++ piece)).whole ≡ followed (run_lines first (lines_of taken).whole) (λ after. run_lines after (lines_of (pending ++ piece)).whole)
piece_run first taken piece pending is =
    let rest = (lines_of taken).rest in
    let more : List (List ℕ) = (lines_of (rest ++ piece)).whole in
    let ran = run_lines first (lines_of taken).whole in
    let kept : (s : State) → run_lines s more ≡ run_lines s (lines_of (pending ++ piece)).whole = λ s.
    sym (ap (λ (p : List ℕ). run_lines s (lines_of (p ++ piece)).whole) is ∙ kept_runs s rest piece (none_in_rest taken)) in
    ap (λ (l : Lines). run_lines first l.whole) (lines_append taken piece) ∙ run_append first (lines_of taken).whole more
    ∙ behind_same ran.replies ran.end (λ after. run_lines after more) (λ after. run_lines after (lines_of (pending ++ piece)).whole) kept

-- a piece more was taken, and its whole lines were run
pub piece_runs : (first s new : State) (taken piece pending : List ℕ) (result : Result Bool Fault) (start mid now : Option (List ℕ)) → Runs (run_lines first (lines_of taken).whole) (Ok false) s start mid → pending ≡ take 8192 (lines_of taken).rest
    → Runs (run_lines s (lines_of (pending ++ piece)).whole) result new mid now → Runs (run_lines first (lines_of (taken ++ piece)).whole) result new start now
piece_runs first s new taken piece pending result start mid now so_far is runs =
    subst (λ r. Runs r result new start now) (sym (piece_run first taken piece pending is))
    (both_run (run_lines first (lines_of taken).whole) (λ after. run_lines after (lines_of (pending ++ piece)).whole) result s new start mid now so_far runs)

pub piece_rest : (taken piece pending now : List ℕ) (s : State) → pending ≡ take 8192 (lines_of taken).rest → now ≡ take 8192 (lines_of (pending ++ piece)).rest → now ≡ take 8192 (lines_of (taken ++ piece)).rest
piece_rest taken piece pending now s is now_is =
    now_is ∙ ap (λ (p : List ℕ). take 8192 (lines_of (p ++ piece)).rest) is ∙ kept_rest s (lines_of taken).rest piece (none_in_rest taken) ∙ sym (ap (λ (l : Lines). take 8192 l.rest) (lines_append taken piece))

none_in_both : (first second : List ℕ) → HasNoNewline first → HasNoNewline second → HasNoNewline (first ++ second)
none_in_both [] second none more = more
none_in_both (byte ∷ bytes) second none more = (none.0, none_in_both bytes second none.1 more)

-- a piece that has one line is that line, behind what is pending
line_piece : (pending front : List ℕ) → HasNoNewline pending → HasNoNewline front → lines_of (pending ++ (front ++ 10 ∷ [])) ≡ record { whole = (pending ++ front) ∷ []; rest = [] }
line_piece pending front none more =
    ap lines_of (sym (append_assoc pending front (10 ∷ []))) ∙ lines_newline (pending ++ front) 10 refl ∙ ap more_line (lone (pending ++ front) (none_in_both pending front none more))

module _ (first s : State) (done pending front : List ℕ) (is : pending ≡ take 8192 (lines_of done).rest) (none : HasNoNewline front) where
  line_is : lines_of (pending ++ (front ++ 10 ∷ [])) ≡ record { whole = (pending ++ front) ∷ []; rest = [] }
  line_is = line_piece pending front (is_pending done pending is) none

  -- a line more is that line behind those so far
  pub line_run : run_lines first (lines_of (done ++ (front ++ 10 ∷ []))).whole ≡ followed (run_lines first (lines_of done).whole) (line (pending ++ front))
  line_run =
      let ran = run_lines first (lines_of done).whole in
      let alone : (after : State) → run_lines after (lines_of (pending ++ (front ++ 10 ∷ []))).whole ≡ line (pending ++ front) after = λ after.
      ap (λ (lines : Lines). run_lines after lines.whole) line_is ∙ nothing_more (line (pending ++ front) after) in
      piece_run first done (front ++ 10 ∷ []) pending is
      ∙ behind_same ran.replies ran.end (λ after. run_lines after (lines_of (pending ++ (front ++ 10 ∷ []))).whole) (line (pending ++ front)) alone

  -- a line more was run
  pub line_runs : (end : Result Bool Fault) (new : State) (start mid now : Option (List ℕ)) → Runs (run_lines first (lines_of done).whole) (Ok false) s start mid → Runs (line (pending ++ front) s) end new mid now
      → Runs (run_lines first (lines_of (done ++ (front ++ 10 ∷ []))).whole) end new start now
  line_runs end new start mid now so_far runs =
      subst (λ r. Runs r end new start now) (sym line_run)
      (both_run (run_lines first (lines_of done).whole) (line (pending ++ front)) end s new start mid now so_far runs)

  pub line_rest : [] ≡ take 8192 (lines_of (done ++ (front ++ 10 ∷ []))).rest
  line_rest = piece_rest done (front ++ 10 ∷ []) pending [] s is (sym (ap (λ (lines : Lines). take 8192 lines.rest) line_is))

-- nothing but a rest of a line was left
module _ (first s : State) (done pending left : List ℕ) (is : pending ≡ take 8192 (lines_of done).rest) (none : HasNoNewline left) where
  left_is : lines_of (pending ++ left) ≡ record { whole = []; rest = pending ++ left }
  left_is = lone (pending ++ left) (none_in_both pending left (is_pending done pending is) none)

  pub left_runs : (start now : Option (List ℕ)) → Runs (run_lines first (lines_of done).whole) (Ok false) s start now → Runs (run_lines first (lines_of (done ++ left)).whole) (Ok false) s start now
  left_runs start now so_far =
      let here : Runs (run_lines s []) (Ok false) s now now = record { quit = refl; after = refl; put = adds_none now } in
      piece_runs first s s done left pending (Ok false) start now now so_far is (subst (λ (lines : Lines). Runs (run_lines s lines.whole) (Ok false) s now now) (sym left_is) here)

  pub left_rest : take 8192 (pending ++ left) ≡ take 8192 (lines_of (done ++ left)).rest
  left_rest = piece_rest done left pending (take 8192 (pending ++ left)) s is (sym (ap (λ (lines : Lines). take 8192 lines.rest) left_is))

-- a piece that was taken, behind what was taken before
pub took_more : (taken piece : List ℕ) (start mid now : Option (List ℕ)) → Took taken start mid → Took piece mid now → Took (taken ++ piece) start now
took_more taken piece start mid None before more = before ∙ ap (option_map (λ left. taken ++ left)) more
took_more taken piece start mid (Some left) before more = before ∙ ap (option_map (λ left. taken ++ left)) more ∙ ap (λ (l : List ℕ). Some l) (sym (append_assoc taken piece left))
