-- The header of an image tells its model.
use Rattle.std.proofs.Common.{◌≡◌, ℕ, ◌+◌, ◌^◌, ◌<◌, ◌≤◌, List, ◌++◌, length, take, drop, Result, Ok, Err, sym, ap}
use Rattle.std.proofs.Common.{refl, ◌∙◌, append_assoc, arith}
use Rattle.std.specs.Prelude.{IsOkAnd}
use Rattle.std.proofs.lemmas.List.{length-append, length-take, length-drop, drop-drop}
use Rattle.base_fields.specs.Fields.{little_endian, field, u32_in, u32_bytes}
use Rattle.base_fields.proofs.FieldLaws.{field-front, field-behind, field-take, u32_in-written}
use Rattle.part_plan.specs.Plan.{run, seen}
use Rattle.alias_load.specs.declared.fault.AliasFault.{AliasFault}
use Rattle.alias_load.specs.declared.image_header.AliasHeader.{AliasHeader}
use Rattle.alias_load.specs.Models.{Alias}
use Rattle.alias_load.specs.Reading.{numskins, skinwidth, skinheight, numverts, numtris, numframes, skins_of, frames_of, alias}
use Rattle.alias_load.specs.Images.{count_of, pieces, skin_row, frame_row, interval_piece, pose_piece, picture_piece}
use Rattle.alias_load.specs.Images.{vertex_piece, front_of, image, image_of}
use Rattle.alias_load.specs.Headers.{header_in, header_of, TellsAlias}
use Rattle.alias_load.specs.Sizes.{IsAlias}
use Rattle.alias_load.proofs.SpellingLaws.{alias_found}
use Rattle.alias_load.proofs.FileLaws.{skins_few, frames_few}
use Rattle.alias_load.proofs.PieceLaws.{count_few}
use Rattle.alias_load.proofs.ImageLaws.{length-front}

length-kept : (header : List ℕ) → length header ≡ 84 → length (field 76 header 8) ≡ 76
length-kept header sized = omega (arith, length-take 76 (drop 8 header), length-drop 8 header, sized)

-- a number of the file's header stands in the image
number_kept : (header rest : List ℕ) (pictures poses at : ℕ) → length header ≡ 84 → at + 4 ≤ 76
    → u32_in (front_of header pictures poses ++ rest) (4 + at) ≡ u32_in header (8 + at)
unfolding u32_in
number_kept header rest pictures poses at sized inside =
    let kept = field 76 header 8 in
    let counts = u32_bytes pictures ++ u32_bytes poses in
    let front = front_of header pictures poses in
    let one : field 4 (front ++ rest) (4 + at) ≡ field 4 front (4 + at) =
    field-front 4 front rest (4 + at) (omega (arith, length-front header pictures poses sized, inside)) in
    let two : field 4 front (4 + at) ≡ field 4 (kept ++ counts) at = field-behind 4 (u32_bytes 2) (kept ++ counts) at in
    let three : field 4 (kept ++ counts) at ≡ field 4 kept at = field-front 4 kept counts at (omega (arith, length-kept header sized, inside)) in
    let four : field 4 kept at ≡ field 4 (drop 8 header) at = field-take 4 (drop 8 header) 76 at inside in
    let five : field 4 (drop 8 header) at ≡ field 4 header (8 + at) = ap (take 4) (drop-drop at 8 header) in
    ap little_endian (one ∙ two ∙ three ∙ four ∙ five)

-- so do the counts of pictures and of poses
counts_behind : (header rest : List ℕ) (pictures poses : ℕ) → front_of header pictures poses ++ rest
    ≡ (u32_bytes 2 ++ field 76 header 8) ++ (u32_bytes pictures ++ (u32_bytes poses ++ rest))
counts_behind header rest pictures poses =
    let two = u32_bytes 2 in
    let kept = field 76 header 8 in
    let counts = u32_bytes pictures ++ u32_bytes poses in
    append_assoc two (kept ++ counts) rest
    ∙ ap (λ (t : List ℕ). two ++ t) (append_assoc kept counts rest ∙ ap (λ (t : List ℕ). kept ++ t) (append_assoc (u32_bytes pictures) (u32_bytes poses) rest))
    ∙ sym (append_assoc two kept (u32_bytes pictures ++ (u32_bytes poses ++ rest)))

pictures_kept : (header rest : List ℕ) (pictures poses : ℕ) → length header ≡ 84 → pictures < 2 ^ 32
    → u32_in (front_of header pictures poses ++ rest) 80 ≡ pictures
pictures_kept header rest pictures poses sized fits =
    let front = u32_bytes 2 ++ field 76 header 8 in
    let long : length front ≡ 80 = length-append (u32_bytes 2) (field 76 header 8) ∙ omega (arith, length-kept header sized) in
    ap (λ (l : List ℕ). u32_in l 80) (counts_behind header rest pictures poses)
    ∙ u32_in-written front (u32_bytes poses ++ rest) 80 pictures long fits

poses_kept : (header rest : List ℕ) (pictures poses : ℕ) → length header ≡ 84 → poses < 2 ^ 32
    → u32_in (front_of header pictures poses ++ rest) 84 ≡ poses
poses_kept header rest pictures poses sized fits =
    let front = u32_bytes 2 ++ field 76 header 8 in
    let long : length front ≡ 80 = length-append (u32_bytes 2) (field 76 header 8) ∙ omega (arith, length-kept header sized) in
    let longer : length (front ++ u32_bytes pictures) ≡ 84 = length-append front (u32_bytes pictures) ∙ omega (arith, long) in
    ap (λ (l : List ℕ). u32_in l 84)
    (counts_behind header rest pictures poses ∙ sym (append_assoc front (u32_bytes pictures) (u32_bytes poses ++ rest)))
    ∙ u32_in-written (front ++ u32_bytes pictures) rest 84 poses longer fits

pictures_fit : (model : Alias) → IsAlias model → count_of model.skins < 2 ^ 32
pictures_fit model is =
    omega (arith, count_few (skins_of model.header) model.skins is.skins, is.numskins, skins_few model.header is.passed)

poses_fit : (model : Alias) → IsAlias model → count_of model.frames < 2 ^ 32
poses_fit model is =
    omega (arith, count_few (frames_of model.header) model.frames is.frames, is.numframes, frames_few model.header is.passed)

abbrev header_with : ℕ → ℕ → ℕ → ℕ → ℕ → ℕ → ℕ → ℕ → AliasHeader
header_with a b c d e f g h = record {
  skins = a;
  width = b;
  height = c;
  vertices = d;
  triangles = e;
  frames = f;
  pictures = g;
  poses = h;
}

same_header : (a b c d e f g h i j k l m n o p : ℕ) → a ≡ i → b ≡ j → c ≡ k → d ≡ l → e ≡ m → f ≡ n → g ≡ o → h ≡ p
    → header_with a b c d e f g h ≡ header_with i j k l m n o p
same_header a b c d e f g h i j k l m n o p q r s t u v w x = cc

header_in-image : (model : Alias) → IsAlias model → header_in (image model) ≡ header_of model
unfolding image
header_in-image model is =
    let h = model.header in
    let made = image model in
    let m = count_of model.skins in
    let n = count_of model.frames in
    let rest =
    pieces skin_row 0 model.skins ++ (pieces frame_row 0 model.frames ++ (pieces interval_piece 0 model.skins ++ (pieces pose_piece 0 model.frames
    ++ (model.st_vertices ++ (model.triangles ++ (pieces picture_piece 0 model.skins ++ pieces vertex_piece 0 model.frames)))))) in
    let skins : u32_in made 44 ≡ numskins h = number_kept h rest m n 40 is.header (omega arith) in
    let width : u32_in made 48 ≡ skinwidth h = number_kept h rest m n 44 is.header (omega arith) in
    let height : u32_in made 52 ≡ skinheight h = number_kept h rest m n 48 is.header (omega arith) in
    let vertices : u32_in made 56 ≡ numverts h = number_kept h rest m n 52 is.header (omega arith) in
    let triangles : u32_in made 60 ≡ numtris h = number_kept h rest m n 56 is.header (omega arith) in
    let frames : u32_in made 64 ≡ numframes h = number_kept h rest m n 60 is.header (omega arith) in
    let pictures : u32_in made 80 ≡ m = pictures_kept h rest m n is.header (pictures_fit model is) in
    let poses : u32_in made 84 ≡ n = poses_kept h rest m n is.header (poses_fit model is) in
    same_header (u32_in made 44) (u32_in made 48) (u32_in made 52) (u32_in made 56) (u32_in made 60) (u32_in made 64) (u32_in made 80) (u32_in made 84)
    (numskins h) (skinwidth h) (skinheight h) (numverts h) (numtris h) (numframes h) m n
    skins width height vertices triangles frames pictures poses

told : (header : AliasHeader) (made source : List ℕ) (read : Result (Alias × List ℕ) AliasFault) → header ≡ header_in made
    → run alias source ≡ read → seen (λ r. image r.0) read ≡ Ok made → IsOkAnd read (λ r. header ≡ header_of r.0)
told header made source (Err fault) here is e = absurd cc
told header made source (Ok r) here is e =
    let same : made ≡ image r.0 = cc in
    here ∙ ap header_in same ∙ header_in-image r.0 (alias_found source r.1 r.0 is).1

pub header_tells : (header : AliasHeader) (made : List ℕ) → header ≡ header_in made → TellsAlias header made
unfolding image_of
header_tells header made here source is = told header made source (run alias source) here refl is
