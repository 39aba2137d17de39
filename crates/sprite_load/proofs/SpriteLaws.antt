-- What the header and the frames together say of the whole file.
use Rattle.std.proofs.Common.{◌≡◌, ℕ, ◌+◌, ◌*◌, List, length, Result, Ok, Err, sym, ap, subst, ◌∙◌}
use Rattle.std.specs.Prelude.{IsOkAnd}
use Rattle.base_fields.specs.Fields.{u32_in}
use Rattle.mem_model.specs.Images.{image_size}
use Rattle.part_plan.specs.Plan.{Plan, run, seen, folded, folding, viewed}
use Rattle.part_plan.proofs.Each.{seen_ok, seen_err, each_len}
use Rattle.sprite_load.specs.declared.fault.SpriteFault.{SpriteFault}
use Rattle.sprite_load.specs.declared.sizes.Sizes.{Sizes}
use Rattle.sprite_load.specs.Sprites.{Frame, Sprite}
use Rattle.sprite_load.specs.Parts.{frame, frames, sprite_of, body, sprite}
use Rattle.sprite_load.specs.Images.{image, image_of}
use Rattle.sprite_load.specs.Sizes.{add_frame, no_sizes, sizes_of}
use Rattle.sprite_load.proofs.FrameLaws.{body_is}
use Rattle.sprite_load.specs.Passing.{IsSprite}
use Rattle.sprite_load.proofs.SpellingLaws.{sprite_found}
use Rattle.sprite_load.proofs.LengthLaws.{image_len}

abbrev pub all_frames : ℕ → Plan SpriteFault (List Frame)
all_frames n = frames n

frames_len : (n : ℕ) (bytes : List ℕ) (a : List Frame × List ℕ) → run (frames n) bytes ≡ Ok a → length a.0 ≡ n
unfolding frames
frames_len n bytes a e = each_len frame n 0 bytes a e

pub header_refused : (bytes : List ℕ) (e : SpriteFault) → run sprite bytes ≡ Err e → Err e ≡ image_size (image_of bytes)
unfolding image_of
header_refused bytes e is = sym (ap (λ (r : Result (Sprite × List ℕ) SpriteFault). image_size (seen (λ read. image read.0) r)) is)

-- The whole file where its frames were read.
pub record IsRead (bytes header inner : List ℕ) (sizes : Sizes) (count : ℕ) : Type 0 where
  pub frames : List Frame
  pub rest : List ℕ
  pub is : run sprite bytes ≡ Ok (sprite_of header frames, rest)
  pub good : IsSprite (sprite_of header frames)
  pub len : length frames ≡ count
  pub read : run (all_frames count) inner ≡ Ok (frames, rest)
  pub sized : folded add_frame no_sizes frames ≡ sizes

pub is_read : (bytes header body_bytes : List ℕ) (count : ℕ) (sizes : Sizes) (rest : List ℕ) → run sprite bytes ≡ run (body header) body_bytes → count ≡ u32_in header 24
    → Ok (sizes, rest) ≡ folding add_frame no_sizes (run (frames count) body_bytes) → IsRead bytes header body_bytes sizes count
is_read bytes header body_bytes count sizes rest is count-is are =
    let a = seen_ok (λ (a : List Frame × List ℕ). (folded add_frame no_sizes a.0, a.1)) (run (frames count) body_bytes) (sizes, rest) are in
    let there : run (frames (u32_in header 24)) body_bytes ≡ Ok a.0 = subst (λ (n : ℕ). run (frames n) body_bytes ≡ Ok a.0) count-is a.1 in
    let whole : run sprite bytes ≡ Ok (sprite_of header a.0.0, a.0.1) = is ∙ body_is header body_bytes ∙ ap (viewed (sprite_of header)) there in
    record {
      frames = a.0.0;
      rest = a.0.1;
      is = whole;
      good = (sprite_found bytes a.0.1 (sprite_of header a.0.0) whole).1;
      read = a.1;
      len = frames_len count body_bytes a.0 a.1;
      sized = ap (λ (p : Sizes × List ℕ). p.0) a.2;
    }

pub body_refused : (bytes header body_bytes : List ℕ) (count : ℕ) (e : SpriteFault) → run sprite bytes ≡ run (body header) body_bytes → count ≡ u32_in header 24
    → Err e ≡ folding add_frame no_sizes (run (frames count) body_bytes) → Err e ≡ image_size (image_of bytes)
body_refused bytes header body_bytes count e is count-is are =
    let a = seen_err (λ (a : List Frame × List ℕ). (folded add_frame no_sizes a.0, a.1)) (run (frames count) body_bytes) e are in
    let there : run (frames (u32_in header 24)) body_bytes ≡ Err e = subst (λ (n : ℕ). run (frames n) body_bytes ≡ Err e) count-is a in
    header_refused bytes e (is ∙ body_is header body_bytes ∙ ap (viewed (sprite_of header)) there)

pub size_is : (bytes header inner : List ℕ) (sizes : Sizes) (count : ℕ) → IsRead bytes header inner sizes count → Ok (36 + 12 * count + 24 * sizes.pictures + sizes.pixels) ≡ image_size (image_of bytes)
unfolding image_of
size_is bytes header inner sizes count r =
    let s = sprite_of header r.frames in
    let one : image_size (seen (λ (read : Sprite × List ℕ). image read.0) (run sprite bytes)) ≡ Ok (length (image s)) = ap (λ (x : Result (Sprite × List ℕ) SpriteFault). image_size (seen (λ read. image read.0) x)) r.is in
    let len : length (image s) ≡ 36 + 12 * length r.frames + 24 * (sizes_of s).pictures + (sizes_of s).pixels = image_len s r.good in
    let two : 36 + 12 * length r.frames + 24 * (sizes_of s).pictures + (sizes_of s).pixels ≡ 36 + 12 * count + 24 * sizes.pictures + sizes.pixels
    = ap (λ (n : ℕ). 36 + 12 * n + 24 * (sizes_of s).pictures + (sizes_of s).pixels) r.len ∙ ap (λ (x : Sizes). 36 + 12 * count + 24 * x.pictures + x.pixels) r.sized in
    sym (one ∙ ap (λ (n : ℕ). Ok n) (len ∙ two))

pub refuted : (r : Result (List ℕ) SpriteFault) (e : SpriteFault) (P : List ℕ → Type 0) → Err e ≡ image_size r → IsOkAnd r P → ⊥
refuted (Ok x) e P is ok = cc
refuted (Err f) e P is ok = ok
