-- A reply as pieces of text.
use Rattle.std.specs.Prelude.{ℕ, List, [], ◌∷◌, ◌++◌, Result, OnOk, OnErr, decimal}
use Rattle.outside_io.specs.Causes.{HasCause}
use Rattle.outside_io.specs.Streams.{Adds, AddsFront}
use Rattle.outside_io.specs.declared.outside.Sink.{Ghosts as SinkGhosts}
use Rattle.outside_io.specs.declared.outside.SinkFailed.{SinkFailed}
use Rattle.reply_pieces.specs.declared.Piece.{Piece}
use Rattle.reply_pieces.specs.declared.Piece.TheVariants.{Text, Byte, Number}

-- what a piece prints
abbrev pub piece_text : Piece → List ℕ
piece_text (Text text) = text.now
piece_text (Byte byte) = byte ∷ []
piece_text (Number n) = decimal n

-- what pieces print, one after another
abbrev pub text_of : List Piece → List ℕ
text_of [] = []
text_of (piece ∷ pieces) = piece_text piece ++ text_of pieces

-- parts of a text, one after another
abbrev pub joined : List (List ℕ) → List ℕ
joined [] = []
joined (part ∷ parts) = part ++ joined parts

-- A text was put; or, after an error, a front of it, and the sink's count of faults rose.
pub record PutsText {A O : Type 0} (sink : SinkGhosts O) (text : List ℕ) (before now : O)
    (result : Result A SinkFailed) : Type 0 where
  pub whole : OnOk result (Adds text (sink.got before) (sink.got now))
  pub front : OnErr result (AddsFront text (sink.got before) (sink.got now))
  pub cause : HasCause (sink.sink_faults before) (sink.sink_faults now) result
