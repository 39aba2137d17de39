-- What is written over all bytes of a block alone stands there: an earlier write into the block leaves nothing.
use Rattle.std.proofs.Common.{◌≡◌, ℕ, ◌+◌, List, [], ◌∷◌, length, Some, refl, sym, ap, ◌∙◌, inl, inr}
use Rattle.std.proofs.lemmas.Bool.Decides.{eqb_tells}
use Rattle.mem_model.specs.Blocks.{HunkBlock}
use Rattle.mem_model.specs.Memory.{Memory}
use Rattle.mem_model.specs.Hunk.{over, with_bytes, bytes_from, with_bytes_from, bytes_above, with_bytes_above, low_bytes, with_low_bytes, last_bytes, with_last_bytes, temp_bytes, with_temp_bytes}
use Rattle.mem_model.proofs.Laying.{over_same, length-over}
use Rattle.mem_model.proofs.Newest.{mark_of, temp_bytes-some, with_temp_bytes-some}

over_twice : (old first last : List ℕ) → length last ≡ length old → over (over old first) last ≡ over old last
over_twice old first last same = over_same (over old first) last (same ∙ sym (length-over old first)) ∙ sym (over_same old last same)

block_twice : (b : HunkBlock) (old first last : List ℕ) → b.bytes ≡ old → length last ≡ length old → with_bytes (with_bytes b first) last ≡ with_bytes b last
block_twice b old first last is same = ap (λ bytes. record b { bytes = bytes }) (over_twice b.bytes first last (same ∙ ap length (sym is)))

twice_from : (start : ℕ) (blocks : List HunkBlock) (place : ℕ) (old first last : List ℕ) → bytes_from start blocks place ≡ Some old → length last ≡ length old
    → with_bytes_from start (with_bytes_from start blocks place first) place last ≡ with_bytes_from start blocks place last
twice_from start [] place old first last is same = refl
twice_from start (b ∷ bs) place old first last is same =
    elim (eqb_tells (start + 16) place) [
      | inl at ↦ rw (at.0, at.0) (let here : Some b.bytes ≡ Some old = rw at.0 at is in ap (λ (c : HunkBlock). c ∷ bs) (block_twice b old first last (cc) same))
      | inr off ↦ rw (off.0, off.0) (let there : bytes_from (start + b.size) bs place ≡ Some old = rw off.0 at is in ap (λ cs. b ∷ cs) (twice_from (start + b.size) bs place old first last there same))
    ]

twice_above : (low : List HunkBlock) (place : ℕ) (old first last : List ℕ) → bytes_above low place ≡ Some old → length last ≡ length old
    → with_bytes_above (with_bytes_above low place first) place last ≡ with_bytes_above low place last
twice_above [] place old first last is same = refl
twice_above (zone ∷ blocks) place old first last is same = ap (λ cs. zone ∷ cs) (twice_from zone.size blocks place old first last is same)

pub with_low_bytes-twice : (m : Memory) (place : ℕ) (old first last : List ℕ) → low_bytes m place ≡ Some old → length last ≡ length old
    → with_low_bytes (with_low_bytes m place first) place last ≡ with_low_bytes m place last
unfolding low_bytes with_low_bytes
with_low_bytes-twice m place old first last is same = ap (λ low. record m { low = low }) (twice_above m.low place old first last is same)

over_left : (b : HunkBlock) (bs : List HunkBlock) (c : HunkBlock) (first last : List ℕ) → with_last_bytes (b ∷ with_last_bytes (c ∷ bs) first) last ≡ b ∷ with_last_bytes (with_last_bytes (c ∷ bs) first) last
over_left b [] c first last = refl
over_left b (d ∷ ds) c first last = refl

twice_last : (blocks : List HunkBlock) (old first last : List ℕ) → last_bytes blocks ≡ Some old → length last ≡ length old → with_last_bytes (with_last_bytes blocks first) last ≡ with_last_bytes blocks last
twice_last [] old first last is same = refl
twice_last (b ∷ []) old first last is same = ap (λ (c : HunkBlock). c ∷ []) (block_twice b old first last (cc) same)
twice_last (b ∷ c ∷ cs) old first last is same = over_left b cs c first last ∙ ap (λ bs. b ∷ bs) (twice_last (c ∷ cs) old first last is same)

pub with_temp_bytes-twice : (m : Memory) (old first last : List ℕ) → temp_bytes m ≡ Some old → length last ≡ length old → with_temp_bytes (with_temp_bytes m first) last ≡ with_temp_bytes m last
with_temp_bytes-twice m old first last is same =
    let mark = mark_of m (rw is refl) in
    let once = with_temp_bytes-some m mark.0 first mark.1 in
    let here : last_bytes m.high ≡ Some old = sym (temp_bytes-some m mark.0 mark.1) ∙ is in
    ap (λ (n : Memory). with_temp_bytes n last) once ∙ with_temp_bytes-some (record m { high = with_last_bytes m.high first }) mark.0 last mark.1
    ∙ ap (λ high. record m { high = high }) (twice_last m.high old first last here same) ∙ sym (with_temp_bytes-some m mark.0 last mark.1)
