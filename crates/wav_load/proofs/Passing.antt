-- What the tests say of a sound that passed them.
use Rattle.std.proofs.Common.{◌≡◌, ℕ, ◌+◌, ◌*◌, ◌/◌, ◌≤◌, ◌⊎◌, Bool, true, false, not, ◌||◌, Option, Some, None}
use Rattle.std.proofs.Common.{Result, Ok, Err, refl, sym, subst, arith, inl, inr}
use Rattle.std.specs.Prelude.{IfSome, IfOk, ◌==◌, nat_lt, is_none, unwrap_or}
use Rattle.std.proofs.Math.Nat.{mul-le-mul_left}
use Rattle.std.proofs.lemmas.Bool.Decides.{nat_tests}
use Rattle.base_fields.specs.Faults.{first_fault}
use Rattle.base_fields.proofs.FaultLaws.{passes, unless_ok}
use Rattle.wav_load.specs.declared.parts.Parts.{Parts}
use Rattle.wav_load.specs.declared.parts.Stretch.{Stretch}
use Rattle.wav_load.specs.declared.sound.Sound.{Sound}
use Rattle.wav_load.specs.declared.fault.WavFault.{WavFault}
use Rattle.wav_load.specs.Ratios.{ratio_of, IsSmall}
use Rattle.wav_load.specs.Faults.{coding_in, stretch_in, width_in, played_in, tests, passing_sound, sound_in}
use Rattle.wav_load.specs.Faults.{IsInside}
use Rattle.wav_load.proofs.RatioLaws.{ratio_small}

width_is : (bits : ℕ) → not (bits == 8 || bits == 16) ≡ false → (bits / 8 ≡ 1) ⊎ (bits / 8 ≡ 2)
width_is bits other =
    let is : (bits ≡ 8) ⊎ (bits ≡ 16) = grind (arith, nat_tests, other) in
    elim is [ inl eight ↦ inl (omega arith) | inr sixteen ↦ inr (omega arith) ]

not_above : (a b : ℕ) → nat_lt a b ≡ false → b ≤ a
not_above a b other = grind (arith, nat_tests, other)

both_false : (a b : Bool) → (a || b) ≡ false → (a ≡ false) × (b ≡ false)
both_false true b e = absurd cc
both_false false b e = (refl, e)

-- a value that is there
there : {A : Type 0} (P : A → Type 0) (found : Option A) (other : A) → IfSome found P → is_none found ≡ false
    → P (unwrap_or found other)
there P None other all is = absurd cc
there P (Some x) other all is = all

start_there : (start : Option ℕ) (n : ℕ) → unwrap_or start 0 ≤ n → IfSome start (λ s. s ≤ n)
start_there None n le = tt
start_there (Some s) n le = le

samples_fit : (width length played : ℕ) → (width ≡ 1) ⊎ (width ≡ 2) → played ≤ length / width → width * played ≤ length
samples_fit width length played is fits =
    let most : width * played ≤ width * (length / width) = mul-le-mul_left width fits in
    elim is [ inl one ↦ omega (arith, most) | inr two ↦ omega (arith, most) ]

-- a sound that is told stands inside
passing_inside : (parts : Parts) (speed n : ℕ) → IfSome parts.stretch (λ s. s.from + s.length ≤ n)
    → first_fault (tests parts speed) ≡ None → IsInside n (passing_sound parts speed)
passing_inside parts speed n ends none =
    let t = passes (tests parts speed) none in
    let width = width_is (coding_in parts).bits t.1.1.1.1.0 in
    let stretch : (stretch_in parts).from + (stretch_in parts).length ≤ n =
    there (λ (s : Stretch). s.from + s.length ≤ n) parts.stretch _ ends t.1.1.1.1.1.0 in
    let loops = both_false _ _ t.1.1.1.1.1.1.0 in
    let fits : width_in parts * played_in parts ≤ (stretch_in parts).length =
    samples_fit (width_in parts) (stretch_in parts).length (played_in parts) width (not_above _ _ loops.0) in
    record {
      width = width;
      few = not_above _ _ t.1.1.1.1.1.1.1.0;
      ends = omega (arith, stretch, fits);
      ratio = there IsSmall (ratio_of (coding_in parts).rate speed) _ (ratio_small (coding_in parts).rate speed)
          t.1.1.1.1.1.1.1.1.0;
      loop_start = start_there parts.loop_start (played_in parts) (not_above _ _ loops.1);
    }

pub is_inside : (parts : Parts) (speed n : ℕ) (result : Result Sound WavFault) → result ≡ sound_in parts speed
    → IfSome parts.stretch (λ s. s.from + s.length ≤ n) → IfOk result (IsInside n)
unfolding sound_in
is_inside parts speed n (Err fault) is ends = tt
is_inside parts speed n (Ok sound) is ends =
    let told = unless_ok (first_fault (tests parts speed)) (passing_sound parts speed) sound (sym is) in
    subst (λ (s : Sound). IsInside n s) told.1 (passing_inside parts speed n ends told.0)
