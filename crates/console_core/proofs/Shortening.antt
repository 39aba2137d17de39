-- A line is the same as its first 8192 bytes, which are more than the buffer holds.
use Prim.Native.Nat.{zero, suc}
use Rattle.std.proofs.Common.{◌≡◌, ℕ, ◌+◌, ◌≤◌, List, [], ◌∷◌, ◌++◌, length, take, Bool, true, false, ◌==◌, inl, inr, refl, sym, ◌∙◌, ap, arith, if◌then◌else◌, length-append, one-add}
use Rattle.std.specs.Prelude.{◌⊎◌}
use Rattle.std.proofs.lemmas.Bool.{lt-leb}
use Rattle.std.proofs.lemmas.Bool.Decides.{eqb_tells}
use Rattle.base_fields.specs.Texts.{until_zero}
use Rattle.cmd_buffer.specs.Buffer.{fits_in, input}
use Rattle.console_session.specs.States.{State}
use Rattle.console_session.specs.Frames.{Ran, frame, line, overflowed}

-- what a front keeps of a text is what it keeps of a front of the text and more
pub take_front : (n : ℕ) (text more : List ℕ) → take n (take n text ++ more) ≡ take n (text ++ more)
take_front zero text more = refl
take_front (suc n) [] more = refl
take_front (suc n) (byte ∷ bytes) more = ap (λ (t : List ℕ). byte ∷ t) (take_front n bytes more)

until_here : (byte : ℕ) (bytes : List ℕ) → (byte == 0) ≡ true → until_zero (byte ∷ bytes) ≡ []
until_here byte bytes zero_is = rw zero_is refl

until_later : (byte : ℕ) (bytes : List ℕ) → (byte == 0) ≡ false → until_zero (byte ∷ bytes) ≡ byte ∷ until_zero bytes
until_later byte bytes other = rw (other, one-add) refl

-- a front has the same bytes before the first zero, or it has as many as the front has, and so has the text
cut_same : (n : ℕ) (text : List ℕ) → (until_zero (take n text) ≡ until_zero text) ⊎ ((n ≤ length (until_zero (take n text))) × (n ≤ length (until_zero text)))
cut_same zero text = inr (omega arith, omega arith)
cut_same (suc n) [] = inl refl
cut_same (suc n) (byte ∷ bytes) = elim (eqb_tells byte 0) [
  | inl at ↦ inl (until_here byte (take n bytes) at.0 ∙ sym (until_here byte bytes at.0))
  | inr off ↦ elim (cut_same n bytes) [
    | inl same ↦ inl (until_later byte (take n bytes) off.0 ∙ ap (λ (t : List ℕ). byte ∷ t) same ∙ sym (until_later byte bytes off.0))
    | inr long ↦ inr (rw (until_later byte (take n bytes) off.0) (omega (arith, long.0)), rw (until_later byte bytes off.0) (omega (arith, long.1)))
  ]
]

-- a line that is longer than the buffer
line_long : (s : State) (text : List ℕ) → 8192 ≤ length (until_zero text) → line text s ≡ overflowed s
unfolding line
line_long s text long =
    let size : length (input text) ≡ length (until_zero text) + 1 = length-append (until_zero text) (10 ∷ []) in
    let no_room : fits_in (input text) s.buffer ≡ false = lt-leb (length s.buffer + length (input text)) 8191 (omega (arith, size)) in
    ap (λ (t : Bool). if t then frame false 4096 (record s { buffer = s.buffer ++ input text }) else overflowed s) no_room

-- a line that has the same bytes before its first zero
line_same : (s : State) (text other : List ℕ) → until_zero text ≡ until_zero other → line text s ≡ line other s
unfolding line
line_same s text other same =
    let ran : List ℕ → Ran = λ (t : List ℕ). if fits_in (t ++ 10 ∷ []) s.buffer then frame false 4096 (record s { buffer = s.buffer ++ (t ++ 10 ∷ []) }) else overflowed s in
    ap ran same

pub line_short : (s : State) (text : List ℕ) → line (take 8192 text) s ≡ line text s
line_short s text = elim (cut_same 8192 text) [
  | inl same ↦ line_same s (take 8192 text) text same
  | inr long ↦ line_long s (take 8192 text) long.0 ∙ sym (line_long s text long.1)
]

-- the same before more bytes
pub line_front : (s : State) (front text : List ℕ) → line (take 8192 front ++ text) s ≡ line (front ++ text) s
line_front s front text =
    sym (line_short s (take 8192 front ++ text)) ∙ ap (λ (t : List ℕ). line t s) (take_front 8192 front text) ∙ line_short s (front ++ text)
