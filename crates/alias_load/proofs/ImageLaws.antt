-- How long the image of an alias model is.
use Rattle.std.proofs.Common.{◌≡◌, ℕ, ◌+◌, ◌-◌, ◌*◌, ◌^◌, ◌≤◌, List, ◌++◌, length, drop, Result, Ok, Err, refl, sym, ap, subst, ◌∙◌, arith}
use Rattle.std.specs.Prelude.{IfOk, IsOkAnd}
use Rattle.std.specs.List.{flat_map}
use Rattle.std.proofs.lemmas.List.{length-append, length-take, length-drop}
use Rattle.base_fields.specs.Fields.{field, u32_bytes}
use Rattle.mem_model.specs.Images.{image_size}
use Rattle.part_plan.specs.Plan.{run, seen}
use Rattle.alias_load.specs.declared.fault.AliasFault.{AliasFault}
use Rattle.alias_load.specs.declared.file.File.{File}
use Rattle.alias_load.specs.declared.section.Section.{Section}
use Rattle.alias_load.specs.declared.section.Section.TheVariants.{SkinRows, FrameRows, Intervals, PoseRows, Pictures, Vertices}
use Rattle.alias_load.specs.Models.{Series, Alias, spell_series, spell}
use Rattle.alias_load.specs.Reading.{skins_of, frames_of, numskins, numverts, numframes, alias}
use Rattle.alias_load.specs.Images.{count_of, pieces, skin_row, frame_row, interval_piece, pose_piece, picture_piece, vertex_piece, front_of, image_text, image, image_of}
use Rattle.alias_load.specs.Sizes.{IsAlias, IsFile}
use Rattle.alias_load.specs.Sections.{Suits, piece_of, bytes_of}
use Rattle.alias_load.specs.Measures.{skins_bytes, frames_bytes, skins_in, frames_in, IsMeasured, length_of, text_of}
use Rattle.alias_load.proofs.PieceLaws.{length-pieces, all_spelled}
use Rattle.alias_load.proofs.SpellingLaws.{alias_found}
use Rattle.alias_load.proofs.FileLaws.{most_skins, most_frames}

-- frames suit each section
pub poses_suit : (section : Section) (header : List ℕ) → Suits section (frames_of header)
poses_suit SkinRows header = tt
poses_suit FrameRows header = (refl, omega arith)
poses_suit Intervals header = tt
poses_suit PoseRows header = (refl, omega arith)
poses_suit Pictures header = tt
poses_suit Vertices header = (refl, omega arith)

skins_length : (section : Section) (model : Alias) → Suits section (skins_of model.header) → IsAlias model
    → length (pieces (piece_of section) 0 model.skins) ≡ bytes_of section (skins_of model.header) (numskins model.header) (count_of model.skins)
skins_length section model suits is =
    length-pieces section (skins_of model.header) 0 model.skins suits is.skins
    ∙ ap (λ (n : ℕ). bytes_of section (skins_of model.header) n (count_of model.skins)) is.numskins

frames_length : (section : Section) (model : Alias) → IsAlias model
    → length (pieces (piece_of section) 0 model.frames) ≡ bytes_of section (frames_of model.header) (numframes model.header) (count_of model.frames)
frames_length section model is =
    length-pieces section (frames_of model.header) 0 model.frames (poses_suit section model.header) is.frames
    ∙ ap (λ (n : ℕ). bytes_of section (frames_of model.header) n (count_of model.frames)) is.numframes

file_skins : (bytes : List ℕ) (file : File) (r : IsFile bytes file) (section : Section) → Suits section (skins_of file.header.now) → length (pieces (piece_of section) 0 r.model.skins) ≡ skins_bytes file section
file_skins bytes file r section suits =
    skins_length section r.model (subst (λ (h : List ℕ). Suits section (skins_of h)) (sym r.header_is) suits) r.is
    ∙ ap (λ (h : List ℕ). bytes_of section (skins_of h) (numskins h) (count_of r.model.skins)) r.header_is
    ∙ ap (λ (n : ℕ). bytes_of section (skins_of file.header.now) (numskins file.header.now) n) r.pictures_are

file_frames : (bytes : List ℕ) (file : File) (r : IsFile bytes file) (section : Section) → length (pieces (piece_of section) 0 r.model.frames) ≡ frames_bytes file section
file_frames bytes file r section =
    frames_length section r.model r.is
    ∙ ap (λ (h : List ℕ). bytes_of section (frames_of h) (numframes h) (count_of r.model.frames)) r.header_is
    ∙ ap (λ (n : ℕ). bytes_of section (frames_of file.header.now) (numframes file.header.now) n) r.poses_are

pub is_measured : (bytes : List ℕ) (file : File) → IsFile bytes file → IsMeasured file
is_measured bytes file r = record {
  skins = λ section suits. subst (λ (x : Result (List Series × List ℕ) AliasFault). IsOkAnd x (λ a. length (pieces (piece_of section) 0 a.0) ≡ skins_bytes file section)) (sym r.skins_read) (file_skins bytes file r section suits);
  frames = λ section. subst (λ (x : Result (List Series × List ℕ) AliasFault). IsOkAnd x (λ a. length (pieces (piece_of section) 0 a.0) ≡ frames_bytes file section)) (sym r.frames_read) (file_frames bytes file r section);
}

pub length-front : (header : List ℕ) (pictures poses : ℕ) → length header ≡ 84 → length (front_of header pictures poses) ≡ 88
length-front header pictures poses long =
    let middle : length (field 76 header 8) ≡ 76 = omega (arith, long, length-take 76 (drop 8 header), length-drop 8 header) in
    omega (arith, length-append (field 76 header 8) (u32_bytes pictures ++ u32_bytes poses), middle)

image_parts : (model : Alias) → length model.header ≡ 84 → length (image model)
    ≡ 88 + (length (pieces skin_row 0 model.skins) + length (pieces interval_piece 0 model.skins) + length (pieces picture_piece 0 model.skins))
    + (length (pieces frame_row 0 model.frames) + length (pieces pose_piece 0 model.frames) + length (pieces vertex_piece 0 model.frames))
    + length model.st_vertices + length model.triangles
unfolding image
image_parts m long =
    let front = front_of m.header (count_of m.skins) (count_of m.frames) in
    let p = pieces skin_row 0 m.skins in
    let q = pieces frame_row 0 m.frames in
    let i = pieces interval_piece 0 m.skins in
    let o = pieces pose_piece 0 m.frames in
    let x = pieces picture_piece 0 m.skins in
    let v = pieces vertex_piece 0 m.frames in
    let tail : length (m.st_vertices ++ (m.triangles ++ (x ++ v))) ≡ length m.st_vertices + (length m.triangles + (length x + length v))
    = omega (arith, length-append m.st_vertices (m.triangles ++ (x ++ v)), length-append m.triangles (x ++ v), length-append x v) in
    let rest = m.st_vertices ++ (m.triangles ++ (x ++ v)) in
    let middle : length (p ++ (q ++ (i ++ (o ++ rest)))) ≡ length p + (length q + (length i + (length o + length rest)))
    = omega (arith, length-append p (q ++ (i ++ (o ++ rest))), length-append q (i ++ (o ++ rest)), length-append i (o ++ rest), length-append o rest) in
    length-append front (p ++ (q ++ (i ++ (o ++ rest))))
    ∙ omega (arith, length-front m.header (count_of m.skins) (count_of m.frames) long, middle, tail)

pub length-image : (bytes : List ℕ) (file : File) (r : IsFile bytes file) → length (image r.model) ≡ length_of file
length-image bytes file r =
    let m = r.model in
    let sp : length (pieces skin_row 0 m.skins) ≡ skins_bytes file SkinRows = file_skins bytes file r SkinRows tt in
    let si : length (pieces interval_piece 0 m.skins) ≡ skins_bytes file Intervals = file_skins bytes file r Intervals tt in
    let sx : length (pieces picture_piece 0 m.skins) ≡ skins_bytes file Pictures = file_skins bytes file r Pictures tt in
    let fq : length (pieces frame_row 0 m.frames) ≡ frames_bytes file FrameRows = file_frames bytes file r FrameRows in
    let fo : length (pieces pose_piece 0 m.frames) ≡ frames_bytes file PoseRows = file_frames bytes file r PoseRows in
    let fv : length (pieces vertex_piece 0 m.frames) ≡ frames_bytes file Vertices = file_frames bytes file r Vertices in
    image_parts m r.is.header ∙ omega (arith, sp, si, sx, fq, fo, fv, ap length r.st_vertices_are, ap length r.triangles_are)

pub image_is : (bytes : List ℕ) (file : File) (r : IsFile bytes file) → image_of bytes ≡ Ok (image r.model)
unfolding image_of
image_is bytes file r = ap (λ (x : Result (Alias × List ℕ) AliasFault). seen (λ read. image read.0) x) r.read

pub size_is : (bytes : List ℕ) (file : File) → IsFile bytes file → Ok (length_of file) ≡ image_size (image_of bytes)
size_is bytes file r = sym (ap image_size (image_is bytes file r) ∙ ap (λ (n : ℕ). Ok n) (length-image bytes file r))

pub fault_is : (bytes : List ℕ) (fault : AliasFault) → run alias bytes ≡ Err fault → Err fault ≡ image_size (image_of bytes)
unfolding image_of
fault_is bytes fault is = sym (ap (λ (x : Result (Alias × List ℕ) AliasFault). image_size (seen (λ read. image read.0) x)) is)

pub ruleset size_laws = (size_is, fault_is)

-- ---- writing it

room_is : (piece : ℕ → Series → List ℕ) (read : Result (List Series × List ℕ) AliasFault) (n m : ℕ) → IsOkAnd read (λ x. length (pieces piece 0 x.0) ≡ n) → m ≡ n → IsOkAnd read (λ x. length (pieces piece 0 x.0) ≡ m)
room_is piece read n m is same = subst (λ (k : ℕ). IsOkAnd read (λ x. length (pieces piece 0 x.0) ≡ k)) (sym same) is

pub skins_room : (file : File) (section : Section) (m : ℕ) → IsMeasured file → Suits section (skins_of file.header.now) → m ≡ skins_bytes file section → IsOkAnd (skins_in file) (λ x. length (pieces (piece_of section) 0 x.0) ≡ m)
skins_room file section m is suits same = room_is (piece_of section) (skins_in file) (skins_bytes file section) m (is.skins section suits) same

pub frames_room : (file : File) (section : Section) (m : ℕ) → IsMeasured file → m ≡ frames_bytes file section → IsOkAnd (frames_in file) (λ x. length (pieces (piece_of section) 0 x.0) ≡ m)
frames_room file section m is same = room_is (piece_of section) (frames_in file) (frames_bytes file section) m (is.frames section) same

pub joined : (s f : Result (List Series × List ℕ) AliasFault) (front p q i o st triangles x v : List ℕ)
    → IfOk s (λ a. p ≡ pieces skin_row 0 a.0) → IfOk f (λ a. q ≡ pieces frame_row 0 a.0) → IfOk s (λ a. i ≡ pieces interval_piece 0 a.0) → IfOk f (λ a. o ≡ pieces pose_piece 0 a.0)
    → IfOk s (λ a. x ≡ pieces picture_piece 0 a.0) → IfOk f (λ a. v ≡ pieces vertex_piece 0 a.0)
    → IfOk s (λ a. IfOk f (λ b. front ++ (p ++ (q ++ (i ++ (o ++ (st ++ (triangles ++ (x ++ v)))))))
    ≡ front ++ (pieces skin_row 0 a.0 ++ (pieces frame_row 0 b.0 ++ (pieces interval_piece 0 a.0 ++ (pieces pose_piece 0 b.0 ++ (st ++ (triangles ++ (pieces picture_piece 0 a.0 ++ pieces vertex_piece 0 b.0)))))))))
joined (Ok a) (Ok b) front p q i o st triangles x v ps qs is os xs vs = rw (ps, qs, is, os, xs, vs) refl
joined (Ok a) (Err g) front p q i o st triangles x v ps qs is os xs vs = tt
joined (Err e) f front p q i o st triangles x v ps qs is os xs vs = tt

pub room_of : (bytes : List ℕ) (file : File) (n : ℕ) → IsFile bytes file → IsOkAnd (image_of bytes) (λ image. length image ≡ n) → n ≡ length_of file
room_of bytes file n r fits =
    let here : length (image r.model) ≡ n = subst (λ (x : Result (List ℕ) AliasFault). IsOkAnd x (λ image. length image ≡ n)) (image_is bytes file r) fits in
    sym here ∙ length-image bytes file r

pub image_made : (bytes : List ℕ) (file : File) (made : List ℕ) → IsFile bytes file → IfOk (skins_in file) (λ x. IfOk (frames_in file) (λ y. made ≡ text_of file x.0 y.0)) → image_of bytes ≡ Ok made
unfolding image
image_made bytes file made r wrote =
    let m = r.model in
    let P : Result (List Series × List ℕ) AliasFault → Result (List Series × List ℕ) AliasFault → Type 0 = λ s f. IfOk s (λ x. IfOk f (λ y. made ≡ text_of file x.0 y.0)) in
    let here : made ≡ text_of file m.skins m.frames = subst (λ (f : Result (List Series × List ℕ) AliasFault). P (Ok (m.skins, r.skins_rest)) f) r.frames_read (subst (λ (s : Result (List Series × List ℕ) AliasFault). P s (frames_in file)) r.skins_read wrote) in
    let T : List ℕ → ℕ → ℕ → List ℕ → List ℕ → Result (List ℕ) AliasFault = λ h p q st t. Ok (image_text h p q m.skins st t m.frames) in
    image_is bytes file r
    ∙ ap (λ (h : List ℕ). T h (count_of m.skins) (count_of m.frames) m.st_vertices m.triangles) r.header_is
    ∙ ap (λ (n : ℕ). T file.header.now n (count_of m.frames) m.st_vertices m.triangles) r.pictures_are
    ∙ ap (λ (n : ℕ). T file.header.now file.pictures n m.st_vertices m.triangles) r.poses_are
    ∙ ap (λ (st : List ℕ). T file.header.now file.pictures file.poses st m.triangles) r.st_vertices_are
    ∙ ap (λ (t : List ℕ). T file.header.now file.pictures file.poses file.st_vertices.now t) r.triangles_are
    ∙ ap (λ (t : List ℕ). Ok t) (sym here)

pub refuted : (bytes : List ℕ) (fault : AliasFault) (P : List ℕ → Type 0) → run alias bytes ≡ Err fault → IsOkAnd (image_of bytes) P → ⊥
unfolding image_of
refuted bytes fault P is ok = subst (λ (x : Result (Alias × List ℕ) AliasFault). IsOkAnd (seen (λ read. image read.0) x) P) is ok

pub ruleset image_laws = (is_measured, room_of, image_made, refuted)

-- ---- how much longer than the file it is

-- it has 4 more in front, and at most 16 more for each skin and 24 for each frame
image_bounds : (model : Alias) → IsAlias model → (88 ≤ length (image model)) × (length (image model) ≤ length (spell model) + 2 ^ 15)
image_bounds model is =
    let h = model.header in
    let m = count_of model.skins in
    let n = count_of model.frames in
    let long = image_parts model is.header in
    let p : length (pieces skin_row 0 model.skins) ≡ 12 * numskins h = skins_length SkinRows model tt is ∙ omega arith in
    let i : length (pieces interval_piece 0 model.skins) ≡ 4 * m = skins_length Intervals model tt is ∙ omega arith in
    let x : length (pieces picture_piece 0 model.skins) ≡ (skins_of h).item * m = skins_length Pictures model tt is ∙ omega arith in
    let q : length (pieces frame_row 0 model.frames) ≡ 20 * numframes h = frames_length FrameRows model is ∙ omega arith in
    let o : length (pieces pose_piece 0 model.frames) ≡ 28 * n = frames_length PoseRows model is ∙ omega arith in
    let rest : (frames_of h).item - 24 ≡ 4 * numverts h = omega arith in
    let v : length (pieces vertex_piece 0 model.frames) ≡ 4 * numverts h * n =
    frames_length Vertices model is ∙ ap (λ (k : ℕ). 0 * numframes h + k * n) rest ∙ omega arith in
    let skins = all_spelled (skins_of h) model.skins is.skins in
    let frames = all_spelled (frames_of h) model.frames is.frames in
    let s = flat_map spell_series model.skins in
    let f = flat_map spell_series model.frames in
    let whole : length (spell model) ≡ length h + (length s + (length model.st_vertices + (length model.triangles + length f)))
    = omega (
      arith,
      length-append h (s ++ (model.st_vertices ++ (model.triangles ++ f))),
      length-append s (model.st_vertices ++ (model.triangles ++ f)),
      length-append model.st_vertices (model.triangles ++ f),
      length-append model.triangles f,
    ) in
    let ns = most_skins h is.passed in
    let nf = most_frames h is.passed in
    (omega (arith, long), omega (arith, long, p, i, x, q, o, v, skins, frames, whole, is.header, is.numskins, is.numframes, ns, nf))

image_sized : (bytes made : List ℕ) (read : Result (Alias × List ℕ) AliasFault) → run alias bytes ≡ read → seen (λ r. image r.0) read ≡ Ok made
    → (88 ≤ length made) × (length made ≤ length bytes + 2 ^ 15)
image_sized bytes made (Err fault) is e = absurd cc
image_sized bytes made (Ok r) is e =
    let same : image r.0 ≡ made = cc in
    let found = alias_found bytes r.1 r.0 is in
    let bounds = image_bounds r.0 found.1 in
    let n : length (image r.0) ≡ length made = ap length same in
    let whole : length bytes ≡ length (spell r.0) + length r.1 = ap length found.0 ∙ length-append (spell r.0) r.1 in
    (omega (arith, n, bounds.0), omega (arith, n, bounds.1, whole))

-- the image of a model has its front, and at most 2 ^ 15 bytes more than the file
pub length_of_image : (bytes made : List ℕ) → image_of bytes ≡ Ok made → (88 ≤ length made) × (length made ≤ length bytes + 2 ^ 15)
unfolding image_of
length_of_image bytes made is = image_sized bytes made (run alias bytes) refl is
