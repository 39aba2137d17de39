-- What the commands on the high hunk and the cache leave of the rest of the memory.
use Rattle.std.proofs.Common.{Bool, ◌≡◌, ℕ, List, [], Option, Some, None, Result, sym, ap, ◌∙◌, subst}
use Rattle.mem_model.specs.Answer.{Answers, Gives}
use Rattle.mem_model.specs.Event.{Shortage}
use Rattle.mem_model.specs.Hunk.{without_temp}
use Rattle.mem_model.specs.Keeps.{Keeps, beside_cache, beside_high}
use Rattle.mem_model.specs.Laid.{Laid, IsText}
use Rattle.mem_model.specs.Memory.{Memory}
use Rattle.mem_model.specs.Operations.{high_alloc, high_free, high_mark}
use Rattle.mem_model.proofs.CacheLaws.{beside-high_alloc, beside-high_free, beside-high_mark, beside-without_temp}
use Rattle.mem_model.proofs.Keeping.{Keeps-answer, Keeps-gives, Keeps-high_alloc, Keeps-high_free, Keeps-high_mark, Keeps-more, Keeps-without_temp}
use Rattle.res_table.specs.Held.{lows_of}
use Rattle.console_session.specs.States.{State}
use Rattle.map_change.specs.Marks.{IsLowMark}
use Rattle.console_session.specs.Holding.{Holds}
use Rattle.console_session.proofs.Holding.{holds_memory}

-- The high hunk changed alone.
pub holds_high : (s : State) (m : Memory) → Holds s → Laid m → beside_high m ≡ beside_high s.memory → Keeps (lows_of s.table) [] s.memory m → Holds (record s { memory = m })
holds_high s m h laid beside keeps =
    holds_memory s m h laid (subst (λ low. IsLowMark low s.level) (sym (ap (λ (n : Memory). n.low) beside)) h.level) (ap (λ (n : Memory). n.zone) beside) keeps

-- The cache changed alone.
pub holds_cache : (s : State) (m : Memory) → Holds s → Laid m → beside_cache m ≡ beside_cache s.memory → Keeps (lows_of s.table) [] s.memory m → Holds (record s { memory = m })
holds_cache s m h laid beside keeps =
    holds_memory s m h laid (subst (λ low. IsLowMark low s.level) (sym (ap (λ (n : Memory). n.low) beside)) h.level) (ap (λ (n : Memory). n.zone) beside) keeps

-- The high hunk was cleared, and a block was asked for there.
module _ (m marked freed new : Memory) (size : ℕ) (name : List ℕ) (frugal : Bool) (mark : ℕ) (answer : Result (Unit {0}) ℕ) (reply : Option (Result ℕ Shortage))
    (marking : Answers (high_mark m) mark marked) (freeing : Answers (high_free marked 0) answer freed) (given : Gives (high_alloc freed size name) frugal (without_temp freed) reply new) where
  beside_given : (r : Option (Result ℕ Shortage)) → Gives (high_alloc freed size name) frugal (without_temp freed) r new → beside_high new ≡ beside_high freed
  beside_given None given = ap beside_high given.after ∙ beside-without_temp freed
  beside_given (Some reply) given = ap beside_high given.after ∙ beside-high_alloc freed size name

  pub beside_video : beside_high new ≡ beside_high m
  beside_video =
      beside_given reply given ∙ ap beside_high freeing.after ∙ beside-high_free marked 0 ∙ ap beside_high marking.after ∙ beside-high_mark m

  pub keeps_video : (lows : List ℕ) → Laid m → Laid marked → Laid freed → IsText name → Keeps lows [] m new
  keeps_video lows laid laid_marked laid_freed text =
      Keeps-more (Keeps-answer marking (Keeps-high_mark lows [] m laid))
      (Keeps-more (Keeps-answer freeing (Keeps-high_free lows [] marked 0 laid_marked))
      (Keeps-gives (high_alloc freed size name) frugal reply given (Keeps-high_alloc lows [] freed size name laid_freed text) (Keeps-without_temp lows [] freed laid_freed)))
