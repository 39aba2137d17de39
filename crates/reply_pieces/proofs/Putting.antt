-- A text that is put part by part.
use Rattle.std.proofs.Common.{◌≡◌, ◌≤◌, ℕ, List, [], ◌++◌, Result, Ok, Err, refl, sym, subst, arith}
use Rattle.std.proofs.lemmas.List.{append-nil}
use Rattle.outside_io.proofs.Puts.{PutSoFar, nothing_put, one_put, front_put, all_put}
use Rattle.outside_io.specs.declared.outside.Sink.{Ghosts as SinkGhosts}
use Rattle.outside_io.specs.declared.outside.SinkFailed.{SinkFailed}
use Rattle.reply_pieces.specs.Pieces.{PutsText}

module _ {O : Type 0} (sink : SinkGhosts O) where
  -- a front of the text was put, and this rest of it is left
  pub record PutsSoFar (text rest : List ℕ) (start now : O) : Type 0 where
    pub put : PutSoFar text (sink.got start) rest (sink.got now)
    pub faults : sink.sink_faults start ≤ sink.sink_faults now

  pub none_put : (text : List ℕ) (start : O) → PutsSoFar text text start start
  none_put text start = record { put = nothing_put text (sink.got start); faults = omega arith }

  module _ (text part rest : List ℕ) {left : List ℕ} {start mid : O} (so_far : PutsSoFar text left start mid) (is : left ≡ part ++ rest) where
    here : PutSoFar text (sink.got start) (part ++ rest) (sink.got mid)
    here = subst (λ l. PutSoFar text (sink.got start) l (sink.got mid)) is so_far.put

    -- the next part was put
    pub part_put : {A : Type 0} {now : O} {answer : A} → PutsText sink part mid now (Ok answer) → PutsSoFar text rest start now
    part_put puts = record {
      put = one_put text part rest _ _ _ here puts.whole;
      faults = omega (arith, so_far.faults, puts.cause.never_falls);
    }

    -- the next part was cut off, and with it the text
    pub part_cut : {A B : Type 0} {now : O} {failed : SinkFailed} → PutsText {A = A} sink part mid now (Err failed) →
        PutsText {A = B} sink text start now (Err failed)
    part_cut puts = record {
      whole = tt;
      front = front_put text part rest _ _ _ here puts.front;
      cause = record {
        never_falls = omega (arith, so_far.faults, puts.cause.never_falls);
        failed = omega (arith, so_far.faults, puts.cause.failed);
      };
    }

  pub all_was_put : {A : Type 0} {text left : List ℕ} {start now : O} {answer : A} → PutsSoFar text left start now → left ≡ [] →
      PutsText sink text start now (Ok answer)
  all_was_put {text} {left} {start} {now} so_far end = record {
    whole = all_put _ _ _ (subst (λ l. PutSoFar text (sink.got start) l (sink.got now)) end so_far.put);
    front = tt;
    cause = record { never_falls = so_far.faults; failed = tt };
  }

  -- what is left was put as a whole, or cut off
  pub rest_put : {A : Type 0} {text left : List ℕ} {start mid now : O} (result : Result A SinkFailed) → PutsSoFar text left start mid →
      PutsText sink left mid now result → PutsText sink text start now result
  rest_put {A} {text} {left} {start} {mid} (Ok answer) so_far puts =
      all_was_put (part_put text left [] so_far (sym (append-nil left)) puts) refl
  rest_put {A} {text} {left} (Err failed) so_far puts = part_cut text left [] so_far (sym (append-nil left)) puts
