-- A value written over the front of a block's bytes.
use Rattle.std.proofs.Common.{◌≡◌, ℕ, ◌+◌, ◌<◌, ◌≤◌, suc, List, [], ◌∷◌, ◌++◌, Some, None, true, false, if◌then◌else◌, length, drop, refl, sym, ap, ◌∙◌, arith, append_assoc, length-append, length-drop, drop-cons, eqb, cond}
use Rattle.std.proofs.lemmas.List.{set_at, take_all}
use Rattle.std.specs.Prelude.{slice_set}
use Rattle.mem_model.specs.Blocks.{ZoneBlock}
use Rattle.mem_model.specs.Memory.{Memory}
use Rattle.mem_model.specs.Hunk.{over}
use Rattle.mem_model.specs.Zone.{zone_bytes, with_zone_bytes, used_bytes, used_bytes_from, with_payload, with_payload_from}
use Rattle.mem_model.proofs.Laying.{over_front, over_same, length-over}
use Rattle.zone_values.specs.Values.{with_zero}

-- the value, and then its zero
pub written_over : (old value : List ℕ) → length value < length old → slice_set (value ++ drop (length value) old) (length value) 0 ≡ over old (with_zero value)
written_over old value short =
    ap (λ rest. slice_set (value ++ rest) (length value) 0) (drop-cons old (length value) 0 short)
    ∙ set_at value _ (drop (suc (length value)) old) 0 (length value) refl
    ∙ sym (over_front old (with_zero value) (omega (arith, length-append value (0 ∷ [])))
    ∙ append_assoc value (0 ∷ []) (drop (length (with_zero value)) old)
    ∙ ap (λ n. value ++ 0 ∷ drop n old) (let n : length (with_zero value) ≡ suc (length value) = omega (arith, length-append value (0 ∷ [])) in n))

-- bytes that were written over the old ones are written like what they came of
payload_over : (b : ZoneBlock) (old bytes : List ℕ) → used_bytes b ≡ Some old → with_payload b (over old bytes) ≡ with_payload b bytes
payload_over b old bytes h =
    elim b.used as (λ used. (if used then Some b.bytes else None) ≡ Some old → with_payload b (over old bytes) ≡ with_payload b bytes) [
      | true ↦ λ here. (let same : b.bytes ≡ old = cc in ap (λ bs. record b { bytes = bs }) (ap (λ o. over b.bytes (over o bytes)) (sym same) ∙ over_same b.bytes (over b.bytes bytes) (length-over b.bytes bytes)))
      | false ↦ λ none. absurd (cc)
    ] h

payload_over_from : (start : ℕ) (blocks : List ZoneBlock) (place : ℕ) (old bytes : List ℕ) → used_bytes_from start blocks place ≡ Some old →
    with_payload_from start blocks place (over old bytes) ≡ with_payload_from start blocks place bytes
payload_over_from start [] place old bytes h = refl
payload_over_from start (b ∷ bs) place old bytes h =
    elim (eqb (start + 24) place) as (λ t. cond t (used_bytes b) (used_bytes_from (start + b.size) bs place) ≡ Some old →
    cond t (with_payload b (over old bytes) ∷ bs) (b ∷ with_payload_from (start + b.size) bs place (over old bytes)) ≡ cond t (with_payload b bytes ∷ bs) (b ∷ with_payload_from (start + b.size) bs place bytes)) [
      | true ↦ λ here. ap (λ new. new ∷ bs) (payload_over b old bytes here)
      | false ↦ λ there. ap (λ rest. b ∷ rest) (payload_over_from (start + b.size) bs place old bytes there)
    ] h

pub with_zone_bytes-over : (m : Memory) (place : ℕ) (old bytes : List ℕ) → zone_bytes m place ≡ Some old → with_zone_bytes m place (over old bytes) ≡ with_zone_bytes m place bytes
unfolding zone_bytes with_zone_bytes
with_zone_bytes-over m place old bytes h =
    ap (λ (blocks : List ZoneBlock). record m { zone = record m.zone { blocks = blocks } }) (payload_over_from 48 m.zone.blocks place old bytes h)
