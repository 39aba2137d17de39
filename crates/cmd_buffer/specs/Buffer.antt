-- Commands, cut from the front of a buffer.
use Rattle.std.specs.Prelude.{◌≡◌, ℕ, ◌+◌, ◌%◌, Bool, true, false, ◌&&◌, ◌||◌, ◌==◌, nat_le, if◌then◌else◌, List, [], ◌∷◌, ◌++◌, length, count_by, Option, Some, None}
use Rattle.base_fields.specs.Texts.{until_zero}
use Rattle.cmd_buffer.specs.declared.buffer.TheConstants.{SPACE, LONGEST}
use Rattle.cmd_buffer.specs.declared.buffer.Taken.{Taken}
use Rattle.cmd_buffer.specs.declared.buffer.Taken.TheVariants.{Text, TooLong}

-- a text has room beside what a buffer has
abbrev pub fits_in : List ℕ → List ℕ → Bool
fits_in text buffer = nat_le (length buffer + length text) SPACE

-- what an input line adds to the buffer: it up to its first zero byte, and a newline
abbrev pub input : List ℕ → List ℕ
input text = until_zero text ++ 10 ∷ []

-- a command, and what follows it in the buffer
pub record Cut : Type 0 where
  pub command : List ℕ
  pub rest : List ℕ

-- the number of the byte `"`
abbrev pub quotes_in : List ℕ → ℕ
quotes_in text = count_by (λ byte. byte == 34) text

-- The byte ends the command that stands before it: a newline, or a semicolon behind an even number of quotes.
abbrev pub is_end : List ℕ → ℕ → Bool
is_end before byte = (byte == 10) || ((byte == 59) && (quotes_in before % 2 == 0))

-- the cut, where no byte of `before` ended the command
abbrev pub cut_after : List ℕ → List ℕ → Cut
cut_after before [] = record { command = before; rest = [] }
cut_after before (byte ∷ bytes) =
    if is_end before byte then record { command = before; rest = bytes }
    else cut_after (before ++ byte ∷ []) bytes

-- the first command of a buffer, and what follows its end
unfoldable pub cut : List ℕ → Cut
cut buffer = cut_after [] buffer

-- what follows a command: its end, where there is one, and the rest
abbrev pub from_end : Option ℕ → List ℕ → List ℕ
from_end None rest = rest
from_end (Some byte) rest = byte ∷ rest

-- The byte ends the command, or all of the buffer is the command.
abbrev pub IsEnded : List ℕ → Option ℕ → List ℕ → Type 0
IsEnded command None rest = rest ≡ []
IsEnded command (Some byte) rest = is_end command byte ≡ true

-- The command is the shortest prefix that the next byte ends, or the whole buffer: where it is split before
-- one of its bytes, that byte doesn't end what stands before it.
pub record IsCut (buffer command rest : List ℕ) : Type 0 where
  pub end : Option ℕ
  pub parts : buffer ≡ command ++ from_end end rest
  pub ended : IsEnded command end rest
  pub shortest : (before : List ℕ) (byte : ℕ) (after : List ℕ) → command ≡ before ++ byte ∷ after → is_end before byte ≡ false

-- the text of a command that isn't too long
abbrev pub short_command : List ℕ → Option (List ℕ)
short_command text = if nat_le (length text) LONGEST then Some text else None

-- the first command, where there is one
abbrev pub first_command : List ℕ → Option (Option (List ℕ))
first_command buffer = if length buffer == 0 then None else Some (short_command (cut buffer).command)

-- the text of what was taken, or none of a command that is too long
abbrev pub taken_text : List ℕ → Taken → Option (List ℕ)
taken_text text Text = Some text
taken_text text TooLong = None
