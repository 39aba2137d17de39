use Rattle.std.proofs.Common.{◌≡◌, ◌+◌, ◌-◌, ◌≤◌, ◌++◌, ◌∙◌, ℕ, List, [], ◌∷◌, length, take, drop, min, Option, Ok, false, refl, sym, ap, subst, arith, length-append, length-take}
use Rattle.std.proofs.lemmas.List.{append-nil, take_all, take-append-le}
use Rattle.outside_io.specs.Streams.{Took, TakesFront}
use Rattle.outside_io.proofs.Puts.{adds_none}
use Rattle.outside_io.proofs.Takes.{took_none}
use Rattle.console_session.specs.Frames.{Runs}
use Rattle.console_core.specs.Runs.{run_lines, lines_of}
use Rattle.console_core.specs.Outside.{Outside, outside_of}
use Rattle.console_core.specs.Reading.{limit, most_read, ReadsPast, HasRead, CallsAsAsked}
use Rattle.console_session.specs.Sessions.{Seen, told_end}
use Rattle.console_core.specs.declared.script.ReadEnd.{ReadEnd}
use Rattle.console_core.specs.declared.script.ReadEnd.TheVariants.{AtEnd, Ended, Failed, TooLong}
use Rattle.console_session.proofs.Causing.{counted_none, counted_of, counted_then}
use Rattle.console_core.proofs.Scripts.{is_pending, piece_runs, piece_rest, took_more, goes_still}
use Rattle.console_core.proofs.Asking.{piece_calls}
use Rattle.console_core.proofs.script.run_script.Goals as goal

took_piece : (into tail : List ℕ) (count : ℕ) (mid now : Option (List ℕ)) → count ≤ length into → TakesFront mid now count into → Took (take count (into ++ tail)) mid now
took_piece into tail count mid now within front = subst (λ p. Took p mid now) (sym (take-append-le count into tail within)) front.taken

took_nothing : (taken : List ℕ) (start mid now : Option (List ℕ)) → Took taken start mid → Took [] mid now → Took taken start now
took_nothing taken start mid now so_far more = subst (λ t. Took t start now) (append-nil taken) (took_more taken [] start mid now so_far more)

-- the first bytes of those and one more
first_of : (taken : List ℕ) (byte : ℕ) → length taken ≡ limit → take limit (taken ++ byte ∷ []) ≡ taken
first_of taken byte size = take-append-le limit taken (byte ∷ []) (omega (arith, size)) ∙ take_all limit taken (omega (arith, size))

-- what the read past the limit leaves
module _ (old new : Seen) (taken pending : List ℕ) (before mid now : Outside) (so_far : Took taken before.rest mid.rest) (size : length taken ≡ limit) (kept : pending ≡ take 8192 (lines_of taken).rest)
    (run : Runs (run_lines old.state (lines_of taken).whole) (Ok false) new.state before.got now.got) (calls : CallsAsAsked (run_lines old.state (lines_of taken).whole) old.calls new.calls) where
  past_read : (end : ReadEnd) → ReadsPast end mid.rest now.rest → HasRead old new end pending before now
  past_read AtEnd past =
      record { taken = taken; took = took_nothing taken before.rest mid.rest now.rest so_far past.0; ends = (omega (arith, size), past.1); keeps = kept; run = run; calls = calls }
  past_read (Ended end) past = absurd past
  past_read Failed past =
      record { taken = taken; took = took_nothing taken before.rest mid.rest now.rest so_far past; ends = omega (arith, size); keeps = tt; run = run; calls = calls }
  past_read TooLong past =
      let front = sym (first_of taken past.0 size) in
      record {
        taken = taken ++ past.0 ∷ [];
        took = took_more taken (past.0 ∷ []) before.rest mid.rest now.rest so_far past.1;
        ends = length-append taken (past.0 ∷ []) ∙ ap (λ (n : ℕ). n + 1) size;
        keeps = tt;
        run = subst (λ t. Runs (run_lines old.state (lines_of t).whole) (Ok false) new.state before.got now.got) front run;
        calls = subst (λ t. CallsAsAsked (run_lines old.state (lines_of t).whole) old.calls new.calls) front calls;
      }

piece_fits : (taken into tail : List ℕ) (count left : ℕ) → length taken + left ≡ limit → count ≤ left → length (taken ++ take count (into ++ tail)) ≤ limit
piece_fits taken into tail count left size fits = omega (arith, length-append taken (take count (into ++ tail)), length-take count (into ++ tail), size, fits)

-- a read into room for what is left takes no more
read_fits : (into piece : List ℕ) (count most left : ℕ) → count ≤ length into → length into ≡ length (take most piece) → most ≡ min 4096 left → count ≤ left
read_fits into piece count most left within size most_is = omega (arith, length-take most piece, within, size, most_is)

-- nor more than a piece has at most
read_short : (into tail piece : List ℕ) (count most left : ℕ) → count ≤ length into → length into ≡ length (take most piece) → most ≡ min 4096 left → length (take count (into ++ tail)) ≤ most_read
read_short into tail piece count most left within size most_is = omega (arith, length-take count (into ++ tail), length-take most piece, within, size, most_is)

more_size : (taken into tail : List ℕ) (count left : ℕ) → length taken + left ≡ limit → count ≤ length into → count ≤ left → length (taken ++ take count (into ++ tail)) + (left - count) ≡ limit
more_size taken into tail count left size within fits =
    omega (arith, length-append taken (take count (into ++ tail)), length-take count (into ++ tail), length-append into tail, size, within, fits)

pub read-init : goal.read-init
read-init g c = record {
  taken = [];
  took = took_none _;
  size = refl;
  told = record { quit = refl; after = refl; put = adds_none _ };
  rest = c.requires.empty;
  going = c.requires.going;
  path = refl;
  calls = λ none. refl;
  counted = counted_none _ _;
  handed_on = λ none. none;
  script_counts = omega arith;
}

pub feed-requires-clause-pending : goal.feed-requires-clause-pending
feed-requires-clause-pending g c = is_pending c.read.invariant.taken c.read.pending.items c.read.invariant.rest

pub feed-requires-clause-short : goal.feed-requires-clause-short
feed-requires-clause-short g c = omega (arith, ap length c.read.invariant.rest, length-take 8192 (lines_of c.read.invariant.taken).rest)

pub returns-in_default-feed-clause-read : goal.returns-in_default-feed-clause-read
returns-in_default-feed-clause-read g c =
    let inv = c.read.invariant in
    let first = c.args.session.now.state in
    let piece = take c.in-Ok.count (c.read-in-read.new.into ++ drop c.min-most.result c.read.piece) in
    let fits = read_fits c.read-in-read.new.into c.read.piece c.in-Ok.count c.min-most.result c.read.left c.in-Ok.ensures.within c.read-in-read.auto.into c.min-most.ensures in
    let ran = c.feed.ensures.runs.told in
    record {
      taken = inv.taken ++ piece;
      took = took_more inv.taken piece _ _ _ inv.took (took_piece c.read-in-read.new.into (drop c.min-most.result c.read.piece) c.in-Ok.count _ _ c.in-Ok.ensures.within c.in-Ok.ensures.taken);
      ends = (piece_fits inv.taken c.read-in-read.new.into (drop c.min-most.result c.read.piece) c.in-Ok.count c.read.left inv.size fits, c.in_default-feed.not-Went);
      keeps = tt;
      run = (
        piece_runs first c.read.session.state c.feed.new.session.state inv.taken piece c.read.pending.items (told_end c.feed.result) _ _ _ inv.told inv.rest ran,
        record {
          earlier = inv.taken;
          piece = piece;
          is = refl;
          short = read_short c.read-in-read.new.into (drop c.min-most.result c.read.piece) c.read.piece c.in-Ok.count c.min-most.result c.read.left c.in-Ok.ensures.within c.read-in-read.auto.into c.min-most.ensures;
          after = c.read.session.state;
          mid = g.O.Sink.got c.read.out;
          run = inv.told;
          more =
              let more_ran = run_lines c.read.session.state (lines_of (c.read.pending.items ++ piece)).whole in
              goes_still more_ran.replies more_ran.end (told_end c.feed.result) c.feed.new.session.state _ _ ran;
        },
      );
      calls = piece_calls first c.read.session.state inv.taken piece c.read.pending.items _ _ c.args.session.now.calls c.read.session.calls c.feed.new.session.calls inv.told inv.rest inv.calls c.feed.ensures.runs.calls;
    }

pub read-preserved : goal.read-preserved
read-preserved g c =
    let piece = take c.in-Ok.count (c.read-in-read.new.into ++ drop c.min-most.result c.read.piece) in
    record {
      taken = c.read.invariant.taken ++ piece;
      took = took_more c.read.invariant.taken piece _ _ _ c.read.invariant.took (took_piece c.read-in-read.new.into (drop c.min-most.result c.read.piece) c.in-Ok.count _ _ c.in-Ok.ensures.within c.in-Ok.ensures.taken);
      size = more_size c.read.invariant.taken c.read-in-read.new.into (drop c.min-most.result c.read.piece) c.in-Ok.count c.read.left c.read.invariant.size c.in-Ok.ensures.within (read_fits c.read-in-read.new.into c.read.piece c.in-Ok.count c.min-most.result c.read.left c.in-Ok.ensures.within c.read-in-read.auto.into c.min-most.ensures);
      told = piece_runs c.args.session.now.state c.read.session.state c.feed.new.session.state c.read.invariant.taken piece c.read.pending.items (Ok false) _ _ _ c.read.invariant.told c.read.invariant.rest c.in-Went.ensures.runs.told;
      rest = piece_rest c.read.invariant.taken piece c.read.pending.items c.feed.new.pending.items c.args.session.now.state c.read.invariant.rest (c.in-Went.ensures.rest refl);
      going = c.in-Went.ensures.ended;
      path = c.in-Went.ensures.runs.path ∙ c.read.invariant.path;
      calls = piece_calls c.args.session.now.state c.read.session.state c.read.invariant.taken piece c.read.pending.items _ _ c.args.session.now.calls c.read.session.calls c.feed.new.session.calls c.read.invariant.told c.read.invariant.rest c.read.invariant.calls c.in-Went.ensures.runs.calls;
      counted = counted_then _ _ _ _ _ _ c.read.invariant.counted (counted_of _ _ _ _ _ _ c.in-Went.ensures.runs.causes);
      handed_on = λ none. c.in-Went.ensures.handed_on;
      script_counts = omega (arith, c.read.invariant.script_counts, c.in-Ok.ensures.cause.never_falls);
    }

pub returns-clause-read : goal.returns-clause-read
returns-clause-read g c =
    past_read c.args.session.now c.read.session c.read.invariant.taken c.read.pending.items
    (outside_of g.S.Source g.O.Sink c.args.script.now c.args.out.now) (outside_of g.S.Source g.O.Sink c.read.script c.read.out) (outside_of g.S.Source g.O.Sink c.read_past.new.script c.read.out)
    c.read.invariant.took (omega arith) c.read.invariant.rest c.read.invariant.told c.read.invariant.calls c.read_past.result c.read_past.ensures.past
