-- The text of a command that was taken from the buffer.
use Rattle.std.proofs.Common.{◌≡◌, ◌≢◌, ℕ, ◌<◌, List, length, ◌++◌, true, false, Option, Some, None, IfSome, sym, subst, arith, refl, leb, if◌then◌else◌}
use Rattle.std.proofs.lemmas.Bool.{ne_eqb}
use Rattle.std.proofs.lemmas.List.{take_at, drop_at}
use Rattle.std.proofs.lemmas.List.Elements.{All-take, All-drop}
use Rattle.mem_model.specs.Laid.{IsText}
use Rattle.cmd_buffer.specs.Buffer.{cut, short_command, first_command, from_end, IsCut}

front_text : (front rest : List ℕ) → IsText (front ++ rest) → IsText front
front_text front rest text = subst IsText (take_at front rest (length front) refl) (All-take (λ b. b ≢ 0) (length front) (front ++ rest) text)

rest_text : (front rest : List ℕ) → IsText (front ++ rest) → IsText rest
rest_text front rest text = subst IsText (drop_at front rest (length front) refl) (All-drop (λ b. b ≢ 0) (length front) (front ++ rest) text)

end_text : (end : Option ℕ) (rest : List ℕ) → IsText (from_end end rest) → IsText rest
end_text None rest text = text
end_text (Some byte) rest text = All-drop (λ b. b ≢ 0) 1 (from_end (Some byte) rest) text

module _ (buffer command rest : List ℕ) (is : IsCut buffer command rest) (text : IsText buffer) where
  -- what is left in the buffer has no zeros
  pub cut_rest : IsText rest
  cut_rest = end_text is.end rest (rest_text command (from_end is.end rest) (subst IsText is.parts text))

  cut_command : IsText command
  cut_command = front_text command (from_end is.end rest) (subst IsText is.parts text)

  kept_text : IfSome (short_command command) (λ text. IsText text)
  kept_text = elim (leb (length command) 1023) as (λ t. IfSome (if t then Some command else None) (λ text. IsText text)) [ true ↦ cut_command | false ↦ tt ]

some_same : (a b : Option (List ℕ)) → Some a ≡ Some b → a ≡ b
some_same a b e = cc

-- nor has the command
pub taken_text : (buffer rest : List ℕ) (taken : Option (List ℕ)) → IsCut buffer (cut buffer).command rest → IsText buffer → 0 < length buffer → Some taken ≡ first_command buffer → IfSome taken (λ text. IsText text)
taken_text buffer rest taken is text some first =
    let taken_is : taken ≡ short_command (cut buffer).command = some_same taken (short_command (cut buffer).command) (rw (ne_eqb (length buffer) 0 (λ e. omega arith)) at first) in
    subst (λ (o : Option (List ℕ)). IfSome o (λ text. IsText text)) (sym taken_is) (kept_text buffer (cut buffer).command rest is text)
