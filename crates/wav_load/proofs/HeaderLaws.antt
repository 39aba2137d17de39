-- The header of an image tells its sound.
use Rattle.std.proofs.Common.{◌≡◌, ℕ, ◌+◌, ◌*◌, ◌/◌, ◌^◌, ◌<◌, ◌≤◌, Bool, false, cond, List, ◌++◌, length, Option}
use Rattle.std.proofs.Common.{Some, None, Result, Ok, Err, refl, ap, inl, inr, ◌∙◌, mul-le-mul_left}
use Rattle.std.proofs.Common.{arith}
use Rattle.std.specs.Prelude.{◌==◌, IfSome, IfOk, IsOkAnd, unwrap_or, option_map}
use Rattle.std.proofs.lemmas.Bool.Decides.{nat_tests}
use Rattle.base_fields.specs.Fields.{u32_in}
use Rattle.base_fields.proofs.FieldLaws.{little_endian-u32_bytes}
use Rattle.wav_load.specs.declared.header.SoundHeader.{SoundHeader}
use Rattle.wav_load.specs.declared.ratio.Ratio.{Ratio}
use Rattle.wav_load.specs.declared.ratio.Ratio.TheVariants.{Times, Part}
use Rattle.wav_load.specs.declared.sound.Sound.{Sound}
use Rattle.wav_load.specs.declared.fault.WavFault.{WavFault}
use Rattle.wav_load.specs.Chunks.{places_in}
use Rattle.wav_load.specs.Parts.{stretch_at, parts_in}
use Rattle.wav_load.specs.Ratios.{scaled, IsSmall}
use Rattle.wav_load.specs.Faults.{sound_in, IsInside}
use Rattle.wav_load.specs.Headers.{no_loop, start_of, header_bytes, header_in}
use Rattle.wav_load.specs.Images.{header_of, samples_of, image_from, image_of, TellsSound}
use Rattle.wav_load.proofs.Walking.{are_inside}
use Rattle.wav_load.proofs.Passing.{is_inside}

-- its numbers have four bytes, and its start isn't that of no loop
record Fits (header : SoundHeader) : Type 0 where
  length : header.length < 4294967296
  loop_start : IfSome header.loop_start (λ start. start < no_loop)
  speed : header.speed < 4294967296
  width : header.width < 4294967296

word_fits : (start : Option ℕ) → IfSome start (λ s. s < no_loop) → unwrap_or start no_loop < 4294967296
word_fits None fits = omega arith
word_fits (Some s) fits = omega arith

start_back : (start : Option ℕ) → IfSome start (λ s. s < no_loop) → start_of (unwrap_or start no_loop) ≡ start
start_back None fits = refl
start_back (Some s) fits =
    let other : (s == no_loop) ≡ false = grind (arith, nat_tests, fits) in
    ap (λ (b : Bool). cond b None (Some s)) other

abbrev header_with : ℕ → Option ℕ → ℕ → ℕ → SoundHeader
header_with length start speed width = record { length = length; loop_start = start; speed = speed; width = width }

same_header : (a : ℕ) (b : Option ℕ) (c d e : ℕ) (f : Option ℕ) (g h : ℕ) → a ≡ e → b ≡ f → c ≡ g → d ≡ h
    → header_with a b c d ≡ header_with e f g h
same_header a b c d e f g h p q r s = cc

-- what was written at the front is what is read
header_in-header_bytes : (header : SoundHeader) (rest : List ℕ) → Fits header
    → header_in (header_bytes header ++ rest) ≡ header
unfolding u32_in
header_in-header_bytes header rest fits =
    let one = little_endian-u32_bytes header.length fits.length in
    let two = ap start_of
    (little_endian-u32_bytes (unwrap_or header.loop_start no_loop) (word_fits header.loop_start fits.loop_start))
    ∙ start_back header.loop_start fits.loop_start in
    let three = little_endian-u32_bytes header.speed fits.speed in
    let four = little_endian-u32_bytes header.width fits.width in
    same_header _ _ _ _ _ _ _ _ one two three four

scaled_most : (ratio : Ratio) (count : ℕ) → IsSmall ratio → count ≤ 2 ^ 22 → scaled ratio count ≤ 2 ^ 30
scaled_most (Times power) count small few =
    let least = small.least in
    let most : count / power * 1 ≤ count / power * power = mul-le-mul_left (count / power) (omega arith) in
    omega (arith, most)
scaled_most (Part power) count small few =
    let most : count * power ≤ count * 256 = mul-le-mul_left count small.most in
    omega (arith, most)

start_most : (ratio : Ratio) (start : Option ℕ) (count : ℕ) → IsSmall ratio → count ≤ 2 ^ 22
    → IfSome start (λ s. s ≤ count) → IfSome (option_map (scaled ratio) start) (λ s. s < no_loop)
start_most ratio None count small few inside = tt
start_most ratio (Some s) count small few inside = omega (arith, scaled_most ratio s small (omega arith))

header_fits : (sound : Sound) (speed n : ℕ) → IsInside n sound → speed < 2 ^ 32 → Fits (header_of sound speed)
header_fits sound speed n inside fits =
    let few = inside.few in
    record {
      length = omega (arith, scaled_most sound.ratio sound.played inside.ratio few);
      loop_start = start_most sound.ratio sound.loop_start sound.played inside.ratio few inside.loop_start;
      speed = fits;
      width = elim inside.width [ inl one ↦ omega (arith, one) | inr two ↦ omega (arith, two) ];
    }

stretch_inside : (bytes : List ℕ) (p : Option ℕ) → IfSome p (λ q. q + 8 ≤ length bytes)
    → IfSome (option_map (stretch_at bytes) p) (λ s. s.from + s.length ≤ length bytes)
stretch_inside bytes None inside = tt
stretch_inside bytes (Some q) inside = omega arith

sound_inside : (bytes : List ℕ) (speed : ℕ) → IfOk (sound_in (parts_in bytes) speed) (IsInside (length bytes))
unfolding parts_in
sound_inside bytes speed =
    is_inside (parts_in bytes) speed (length bytes) (sound_in (parts_in bytes) speed) refl
    (stretch_inside bytes (places_in bytes).samples (are_inside bytes).samples)

header_heard : (header : SoundHeader) (image source : List ℕ) (speed : ℕ) (heard : Result Sound WavFault)
    → header ≡ header_in image → speed < 2 ^ 32 → IfOk heard (IsInside (length source))
    → image_from source speed heard ≡ Ok image → IsOkAnd heard (λ sound. header ≡ header_of sound speed)
header_heard header image source speed (Err fault) read fits inside is = absurd cc
header_heard header image source speed (Ok sound) read fits inside is =
    let same : image ≡ header_bytes (header_of sound speed) ++ samples_of source sound = cc in
    read ∙ ap header_in same
    ∙ header_in-header_bytes (header_of sound speed) _ (header_fits sound speed (length source) inside fits)

pub header_tells : (header : SoundHeader) (image : List ℕ) → header ≡ header_in image → TellsSound header image
unfolding image_of
header_tells header image read speed source fits is =
    header_heard header image source speed (sound_in (parts_in source) speed) read fits (sound_inside source speed) is
