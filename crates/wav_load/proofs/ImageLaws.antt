-- How long the image of a sound is.
use Rattle.std.proofs.Common.{◌≡◌, ℕ, ◌+◌, ◌*◌, ◌/◌, ◌^◌, ◌≤◌, List, length, Option, Some, None, Result, Ok, Err, refl}
use Rattle.std.proofs.Common.{◌++◌, sym, ap, ◌∙◌, arith, inl, inr}
use Rattle.std.specs.Prelude.{IfSome, option_map}
use Rattle.std.proofs.Math.Nat.{div-le_self, mul-le-mul_left}
use Rattle.wav_load.specs.declared.ratio.Ratio.{Ratio}
use Rattle.wav_load.specs.declared.ratio.Ratio.TheVariants.{Times, Part}
use Rattle.wav_load.specs.declared.sound.Sound.{Sound}
use Rattle.wav_load.specs.declared.fault.WavFault.{WavFault}
use Rattle.wav_load.specs.Chunks.{places_in}
use Rattle.wav_load.specs.Parts.{stretch_at, parts_in}
use Rattle.wav_load.specs.Ratios.{scaled, IsSmall}
use Rattle.wav_load.specs.Faults.{sound_in, IsInside}
use Rattle.wav_load.specs.Headers.{header_bytes}
use Rattle.wav_load.specs.Images.{count_of, samples_of, header_of, image_from, image_of}
use Rattle.wav_load.proofs.Walking.{are_inside}
use Rattle.wav_load.proofs.Passing.{is_inside}
use Rattle.wav_load.proofs.SoundLaws.{length-image}

-- the samples stand inside the file
stretch_inside : (bytes : List ℕ) → IfSome (parts_in bytes).stretch (λ s. s.from + s.length ≤ length bytes)
unfolding parts_in
stretch_inside bytes = mapped (places_in bytes).samples (are_inside bytes).samples where
  mapped : (o : Option ℕ) → IfSome o (λ p. p + 8 ≤ length bytes)
      → IfSome (option_map (stretch_at bytes) o) (λ s. s.from + s.length ≤ length bytes)
  mapped None h = tt
  mapped (Some p) h = omega (arith, h)

scaled_few : (ratio : Ratio) (count : ℕ) → IsSmall ratio → count ≤ 2 ^ 22 → scaled ratio count ≤ 2 ^ 30
scaled_few (Times power) count small few = omega (arith, div-le_self count power)
scaled_few (Part power) count small few =
    let most : count * power ≤ count * 256 = mul-le-mul_left count small.most in
    omega (arith, most)

samples_few : (width count : ℕ) → width ≤ 2 → count ≤ 2 ^ 30 → width * count ≤ 2 ^ 31
samples_few width count narrow few = let most : count * width ≤ count * 2 = mul-le-mul_left count narrow in omega (arith, most)

image_sized : (bytes image : List ℕ) (speed : ℕ) (heard : Result Sound WavFault) → heard ≡ sound_in (parts_in bytes) speed
    → image_from bytes speed heard ≡ Ok image → (20 ≤ length image) × (length image ≤ 2 ^ 31 + 20)
image_sized bytes image speed (Err fault) is made = absurd (cc)
image_sized bytes image speed (Ok sound) is made =
    let inside = is_inside (parts_in bytes) speed (length bytes) (Ok sound) is (stretch_inside bytes) in
    let narrow : sound.width ≤ 2 = elim inside.width [ inl one ↦ omega (arith, one) | inr two ↦ omega (arith, two) ] in
    let few = samples_few sound.width (count_of sound) narrow (scaled_few sound.ratio sound.played inside.ratio inside.few) in
    let long : length image ≡ 20 + sound.width * count_of sound = (let same : image ≡ header_bytes (header_of sound speed) ++ samples_of bytes sound = cc in ap length same ∙ length-image bytes sound speed inside) in
    (omega (arith, long), omega (arith, long, few))

-- the image of a sound has its header, and at most 2 ^ 22 samples of 2 bytes, each at most 256 times
pub length_of_image : (speed : ℕ) (bytes image : List ℕ) → image_of speed bytes ≡ Ok image
    → (20 ≤ length image) × (length image ≤ 2 ^ 31 + 20)
unfolding image_of
length_of_image speed bytes image made = image_sized bytes image speed (sound_in (parts_in bytes) speed) refl made
