-- How a cut goes on, byte by byte, and that it is the shortest.
use Rattle.std.proofs.Common.{◌≡◌, ℕ, ◌+◌, ◌%◌, ◌<◌, Bool, true, false, not, if◌then◌else◌, List, [], ◌∷◌, ◌++◌, length, get_or, take, drop, Some, None, sym, ◌∙◌, ap, subst, refl, append_assoc, arith, nat_eq}
use Rattle.std.proofs.lemmas.List.{take_more, drop_more}
use Rattle.std.proofs.lemmas.Bool.Decides.{nat_tests}
use Rattle.cmd_buffer.specs.Buffer.{cut, cut_after, is_end, Cut, IsCut}

module _ (text : List ℕ) (i : ℕ) (inside : i < length text) where
  chosen : Bool → Cut
  chosen b = if b then record { command = take i text; rest = drop (i + 1) text } else cut_after (take i text ++ get_or text i 0 ∷ []) (drop (i + 1) text)

  reads : cut_after (take i text) (drop i text) ≡ chosen (is_end (take i text) (get_or text i 0))
  unfolding chosen
  reads = ap (λ (bytes : List ℕ). cut_after (take i text) bytes) (drop_more text i 0 inside)

  -- a byte that ends the command
  pub ended : is_end (take i text) (get_or text i 0) ≡ true → cut_after (take i text) (drop i text) ≡ record { command = take i text; rest = drop (i + 1) text }
  unfolding chosen
  ended is = reads ∙ ap chosen is

  -- a byte that doesn't
  pub went_on : is_end (take i text) (get_or text i 0) ≡ false → cut_after (take (i + 1) text) (drop (i + 1) text) ≡ cut_after (take i text) (drop i text)
  unfolding chosen
  went_on is = ap (λ (before : List ℕ). cut_after before (drop (i + 1) text)) (take_more text i 0 inside) ∙ sym (reads ∙ ap chosen is)

-- one number more changes whether there is an even number
pub odd_more : (n : ℕ) → nat_eq ((n + 1) % 2) 0 ≡ not (nat_eq (n % 2) 0)
odd_more n = grind (arith, nat_tests)

-- wherever a text is split before one of its bytes, that byte doesn't pass behind what stands before it
abbrev NonePasses : (List ℕ → ℕ → Bool) → List ℕ → Type 0
NonePasses passes text = (before : List ℕ) (byte : ℕ) (after : List ℕ) → text ≡ before ++ byte ∷ after → passes before byte ≡ false

none_of_nothing : (passes : List ℕ → ℕ → Bool) → NonePasses passes []
none_of_nothing passes [] byte after is = cc
none_of_nothing passes (x ∷ before) byte after is = cc

none_more : (passes : List ℕ → ℕ → Bool) (text : List ℕ) (last : ℕ) → NonePasses passes text → passes text last ≡ false → NonePasses passes (text ++ last ∷ [])
none_more passes [] last none fails [] byte after is = cc
none_more passes [] last none fails (x ∷ []) byte after is = cc
none_more passes [] last none fails (x ∷ y ∷ before) byte after is = cc
none_more passes (first ∷ text) last none fails [] byte after is = none [] byte text (cc)
none_more passes (first ∷ text) last none fails (x ∷ before) byte after is =
    let same : first ≡ x = cc in
    none_more (λ front. passes (x ∷ front)) text last (λ front found behind split. none (x ∷ front) found behind (cc)) (cc) before byte after (cc)

cut_by : Bool → List ℕ → ℕ → List ℕ → Cut
cut_by ends before byte bytes = if ends then record { command = before; rest = bytes } else cut_after (before ++ byte ∷ []) bytes

is_cut_by : (ends : Bool) (before : List ℕ) (byte : ℕ) (bytes : List ℕ) → is_end before byte ≡ ends → NonePasses is_end before → (is_end before byte ≡ false → IsCut ((before ++ byte ∷ []) ++ bytes) (cut_after (before ++ byte ∷ []) bytes).command (cut_after (before ++ byte ∷ []) bytes).rest) → IsCut (before ++ byte ∷ bytes) (cut_by ends before byte bytes).command (cut_by ends before byte bytes).rest
unfolding cut_by
is_cut_by true before byte bytes ends none later = record { end = Some byte; parts = refl; ended = ends; shortest = none }
is_cut_by false before byte bytes goes none later =
    let cut_of : Cut = cut_after (before ++ byte ∷ []) bytes in
    let P : List ℕ → Type 0 = λ buffer. IsCut buffer cut_of.command cut_of.rest in
    subst P (append_assoc before (byte ∷ []) bytes) (later goes)

is_cut_after : (before bytes : List ℕ) → NonePasses is_end before → IsCut (before ++ bytes) (cut_after before bytes).command (cut_after before bytes).rest
unfolding cut_by
is_cut_after before [] none = record { end = None; parts = refl; ended = refl; shortest = none }
is_cut_after before (byte ∷ bytes) none = is_cut_by (is_end before byte) before byte bytes refl none (λ goes. is_cut_after (before ++ byte ∷ []) bytes (none_more is_end before byte none goes))

-- what is cut off is the shortest prefix that the next byte ends
pub is_cut : (buffer rest : List ℕ) → rest ≡ (cut buffer).rest → IsCut buffer (cut buffer).command rest
unfolding cut
is_cut buffer rest is =
    let P : List ℕ → Type 0 = λ left. IsCut buffer (cut_after [] buffer).command left in
    subst P (sym is) (is_cut_after [] buffer (none_of_nothing is_end))
