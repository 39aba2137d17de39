-- What a load leaves of the blocks that a table names.
use Rattle.std.proofs.Common.{◌≡◌, ℕ, List, [], Bool, Option, Result, Ok, ap, ◌∙◌}
use Rattle.mem_model.specs.Answer.{Answers, Gives}
use Rattle.mem_model.specs.Event.{Shortage}
use Rattle.mem_model.specs.Hunk.{low_bytes, with_low_bytes, with_temp_bytes, without_temp}
use Rattle.mem_model.specs.Keeps.{Keeps, KeepsAll}
use Rattle.mem_model.specs.Laid.{Laid, IsText}
use Rattle.mem_model.specs.Memory.{Memory}
use Rattle.mem_model.specs.Operations.{low_alloc, temp_alloc}
use Rattle.mem_model.proofs.Keeping.{Keeps-all, Keeps-answer, Keeps-gives, Keeps-low_alloc, Keeps-more, Keeps-temp_alloc, Keeps-with_low_bytes, Keeps-with_temp_bytes, Keeps-without_temp, none_excepted}
use Rattle.mem_model.proofs.Laws.{low_bytes-elsewhere, low_bytes-low_alloc, low_place_apart}

pub kept_same : (m : Memory) → KeepsAll [] m m
kept_same m = λ lows. Keeps-all lows [] m

-- a low block is asked for
pub kept_low : (m mid : Memory) (size : ℕ) (name : List ℕ) (frugal : Bool) (reply : Option (Result ℕ Shortage)) → Laid m → IsText name → Gives (low_alloc m size name) frugal m reply mid → KeepsAll [] m mid
kept_low m mid size name frugal reply laid text gives = λ lows. Keeps-gives (low_alloc m size name) frugal reply gives (Keeps-low_alloc lows [] m size name laid text) (Keeps-all lows [] m)

-- it was given, and is none of those that were there, whose bytes a write into it leaves
pub kept_low_written : (m mid new : Memory) (size place : ℕ) (name bytes : List ℕ) → Laid m → IsText name → Answers (low_alloc m size name) (Ok place) mid → new ≡ with_low_bytes mid place bytes → KeepsAll [] m new
kept_low_written m mid new size place name bytes laid text gives wrote = λ lows.
    let given : Keeps [] [] m mid = Keeps-answer gives (Keeps-low_alloc [] [] m size name laid text) in
    let beside : Keeps [] [] m (with_low_bytes mid place bytes) = Keeps-more given (Keeps-with_low_bytes [] [] mid place bytes (none_excepted place)) in
    rw wrote (record {
      low = λ other old in_table there.
          low_bytes-elsewhere mid place other bytes (low_place_apart m size place other name old laid gives.answer there)
          ∙ ap (λ (n : Memory). low_bytes n other) gives.after ∙ low_bytes-low_alloc m size name other old there;
      users = beside.users;
      count = beside.count;
    })

-- a temporary block is asked for, and written to
pub kept_temp : (m mid : Memory) (size : ℕ) (frugal : Bool) (reply : Option (Result ℕ Shortage)) → Laid m → Gives (temp_alloc m size) frugal (without_temp m) reply mid → KeepsAll [] m mid
kept_temp m mid size frugal reply laid gives = λ lows. Keeps-gives (temp_alloc m size) frugal reply gives (Keeps-temp_alloc lows [] m size laid) (Keeps-without_temp lows [] m laid)

pub kept_temp_written : (m mid new : Memory) (size place : ℕ) (bytes : List ℕ) → Laid m → Answers (temp_alloc m size) (Ok place) mid → new ≡ with_temp_bytes mid bytes → KeepsAll [] m new
kept_temp_written m mid new size place bytes laid gives wrote = λ lows.
    let given : Keeps lows [] m mid = Keeps-answer gives (Keeps-temp_alloc lows [] m size laid) in
    rw wrote (Keeps-more given (Keeps-with_temp_bytes lows [] mid bytes))
