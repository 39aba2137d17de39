-- The image of a sound that stands inside its file.
use Rattle.std.proofs.Common.{◌≡◌, ℕ, zero, suc, ◌+◌, ◌*◌, ◌/◌, ◌≤◌, ◌<◌, true, false, cond}
use Rattle.std.proofs.Common.{List, ◌++◌, length, map, Result, Ok, refl, sym, ap, subst}
use Rattle.std.proofs.Common.{◌∙◌, mul-le-mul_right, arith}
use Rattle.std.specs.Prelude.{◌==◌, IsOkAnd}
use Rattle.std.proofs.lemmas.Nat.{div_below}
use Rattle.std.proofs.lemmas.List.{length-append, length-map}
use Rattle.base_fields.specs.Fields.{field}
use Rattle.base_fields.proofs.FieldLaws.{length-field}
use Rattle.mem_model.specs.Images.{image_size}
use Rattle.wav_load.specs.declared.ratio.Ratio.{Ratio}
use Rattle.wav_load.specs.declared.ratio.Ratio.TheVariants.{Times, Part}
use Rattle.wav_load.specs.declared.sound.Sound.{Sound}
use Rattle.wav_load.specs.declared.fault.WavFault.{WavFault}
use Rattle.wav_load.specs.Ratios.{scaled, input_of, IsSmall}
use Rattle.wav_load.specs.Faults.{IsInside}
use Rattle.wav_load.specs.Headers.{header_bytes}
use Rattle.wav_load.specs.Images.{centred, kept, output, outputs, input_in, count_of, samples_of, header_of, image_from}
use Rattle.wav_load.proofs.SampleLaws.{texts_more}

-- an output sample is an input sample that is there
pub input_below : (ratio : Ratio) (count i : ℕ) → IsSmall ratio → i < scaled ratio count → input_of ratio i < count
input_below (Times power) count i small inside =
    let most : (i + 1) * power ≤ count / power * power = mul-le-mul_right power (omega arith) in
    let least = small.least in
    omega (arith, most, least)
input_below (Part power) count i small inside = div_below i power count small.least inside

length-kept : (width : ℕ) (sample : List ℕ) → length (kept width sample) ≡ length sample
length-kept width sample =
    elim (width == 1) as (λ b. length (cond b (map centred sample) sample) ≡ length sample)
    [ true ↦ length-map sample centred | false ↦ refl ]

length-output : (width : ℕ) (ratio : Ratio) (input : List ℕ) (count i : ℕ) → length input ≡ width * count
    → input_of ratio i < count → length (output width ratio input i) ≡ width
length-output width ratio input count i whole inside =
    let k = input_of ratio i in
    let most : (k + 1) * width ≤ count * width = mul-le-mul_right width (omega arith) in
    length-kept width (field width input (width * k)) ∙ length-field width input (width * k) (omega (arith, most, whole))

length-outputs : (width : ℕ) (ratio : Ratio) (input : List ℕ) (count n : ℕ) → IsSmall ratio
    → length input ≡ width * count → n ≤ scaled ratio count → length (outputs width ratio input n) ≡ width * n
length-outputs width ratio input count zero small whole few = omega arith
length-outputs width ratio input count (suc n) small whole few =
    let before : length (outputs width ratio input n) ≡ width * n =
    length-outputs width ratio input count n small whole (omega arith) in
    let here : length (output width ratio input n) ≡ width =
    length-output width ratio input count n whole (input_below ratio count n small (omega arith)) in
    let more : length (outputs width ratio input (n + 1)) ≡ width * (n + 1) =
    ap length (texts_more (output width ratio input) n)
    ∙ length-append (outputs width ratio input n) (output width ratio input n) ∙ omega (arith, before, here) in
    subst (λ (k : ℕ). length (outputs width ratio input k) ≡ width * k) (omega arith) more

length-samples : (bytes : List ℕ) (sound : Sound) → IsInside (length bytes) sound
    → length (samples_of bytes sound) ≡ sound.width * count_of sound
length-samples bytes sound inside =
    let ends = inside.ends in
    length-outputs sound.width sound.ratio (input_in bytes sound) sound.played (count_of sound) inside.ratio
    (length-field (sound.width * sound.played) bytes sound.from (omega (arith, ends))) (omega arith)

pub length-image : (bytes : List ℕ) (sound : Sound) (speed : ℕ) → IsInside (length bytes) sound
    → length (header_bytes (header_of sound speed) ++ samples_of bytes sound) ≡ 20 + sound.width * count_of sound
length-image bytes sound speed inside =
    length-append (header_bytes (header_of sound speed)) (samples_of bytes sound)
    ∙ omega (arith, length-samples bytes sound inside)

-- the length of the image, from what the file was heard as
pub image_size-heard : (bytes : List ℕ) (speed : ℕ) (sound : Sound) (heard : Result Sound WavFault) → Ok sound ≡ heard
    → IsInside (length bytes) sound
    → Ok (20 + sound.width * count_of sound) ≡ image_size (image_from bytes speed heard)
image_size-heard bytes speed sound heard is inside =
    subst (λ (r : Result Sound WavFault). Ok (20 + sound.width * count_of sound) ≡ image_size
    (image_from bytes speed r)) is (ap (λ (n : ℕ). Ok n) (sym (length-image bytes sound speed inside)))

-- the room that an image of so many bytes has
pub image_room : (bytes : List ℕ) (speed : ℕ) (sound : Sound) (heard : Result Sound WavFault) (n : ℕ)
    → Ok sound ≡ heard → IsInside (length bytes) sound
    → IsOkAnd (image_from bytes speed heard) (λ image. length image ≡ n) → n ≡ 20 + sound.width * count_of sound
image_room bytes speed sound heard n is inside fits =
    let here : length (header_bytes (header_of sound speed) ++ samples_of bytes sound) ≡ n =
    subst (λ (r : Result Sound WavFault). IsOkAnd (image_from bytes speed r) (λ image. length image ≡ n)) (sym is) fits in
    sym here ∙ length-image bytes sound speed inside
