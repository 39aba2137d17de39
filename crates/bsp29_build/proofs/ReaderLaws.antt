-- What the readers of an image ask of its length.
use Rattle.std.proofs.Common.{◌≡◌, ℕ, ◌+◌, ◌-◌, ◌*◌, ◌/◌, ◌≤◌, ◌<◌, List, [], length, get_or, refl, sym, ap, ◌∙◌, arith}
use Rattle.std.proofs.lemmas.Bool.{and_parts, leb-true}
use Rattle.std.proofs.lemmas.Option.{slice_get-get_or}
use Rattle.base_fields.specs.Fields.{field, u32_in}
use Rattle.base_fields.proofs.FieldLaws.{u32_in-part}
use Rattle.bsp29_tables.specs.declared.lumps.Lump.TheVariants.{Textures, Visibility, Leafs, Models}
use Rattle.bsp29_tables.specs.Checks.{fine}
use Rattle.bsp29_tables.specs.Lumps.{lump_of, rows_of, count_of}
use Rattle.bsp29_tables.specs.Rows.{counts_of}
use Rattle.bsp29_tables.proofs.Cutting.{length-rows_in, get_or-rows_in}
use Rattle.bsp29_tables.specs.Sizes.{section_size, image_size}
use Rattle.bsp29_tables.proofs.SoundLaws.{sound_from_fine}
use Rattle.bsp29_build.specs.declared.sections.Section.TheVariants.{Of}
use Rattle.bsp29_build.specs.Images.{image, image_of}
use Rattle.bsp29_build.specs.Readers.{offset_told, count_told, visleafs_told, HasSection, IsBrush}
use Rattle.bsp29_build.specs.Sections.{bytes_in}
use Rattle.bsp29_build.proofs.FineLaws.{lump_long}
use Rattle.bsp29_build.proofs.ImageLaws.{image_long, image_from, sections_told}
use Rattle.bsp29_tables.specs.Order.{check_of}

pub has_pairs : (told : List ℕ) → IsBrush told → 132 ≤ length told
unfolding image_of image_size
has_pairs told brush =
    let both = image_from (image brush.file) (check_of brush.file) told brush.is in
    omega (arith, ap length both.1, image_long brush.file both.0)

pub model_inside : (told : List ℕ) → IsBrush told → offset_told told 14 + 64 ≤ length told
unfolding image_of section_size
model_inside told brush =
    let both = image_from (image brush.file) (check_of brush.file) told brush.is in
    let models = sections_told told brush.file 14 (Of Models) brush.is refl in
    omega (arith, models.inside, (sound_from_fine brush.file both.0).models)

pub texture_inside : (told : List ℕ) (texture : ℕ) → IsBrush told → texture < count_told told 2
    → offset_told told 2 + 68 * texture + 68 ≤ length told
unfolding section_size
texture_inside told texture brush below =
    let textures = sections_told told brush.file 2 (Of Textures) brush.is refl in
    omega (arith, textures.inside, textures.count, below)

pub leaf_inside : (told : List ℕ) (leaf : ℕ) → IsBrush told → leaf < count_told told 10
    → offset_told told 10 + 32 * leaf + 32 ≤ length told
unfolding section_size
leaf_inside told leaf brush below =
    let leafs = sections_told told brush.file 10 (Of Leafs) brush.is refl in
    omega (arith, leafs.inside, leafs.count, below)

pub visibility_inside : (told : List ℕ) → IsBrush told → offset_told told 4 + count_told told 4 ≤ length told
unfolding section_size
visibility_inside told brush =
    let bytes = sections_told told brush.file 4 (Of Visibility) brush.is refl in
    omega (arith, bytes.inside, bytes.count)

-- the leafs of a file without a fault are at most 32768
few_leafs : (file : List ℕ) → check_of file ≡ fine → count_of file Leafs ≤ 32768
few_leafs file e =
    let few = ((sound_from_fine file e).lumps Leafs).few refl in
    rw (length-rows_in 28 (lump_of file Leafs), lump_long file Leafs e) few

-- in such a file the first model sees no more leafs than there are
seen_in_file : (file : List ℕ) → check_of file ≡ fine → u32_in (lump_of file Models) 52 ≤ count_of file Leafs
unfolding counts_of
seen_in_file file e =
    let inside : 0 + 52 + 4 ≤ 64 = omega arith in
    let sound = sound_from_fine file e in
    let bytes = lump_of file Models in
    let models = rows_of file Models in
    let fields = get_or models 0 [] in
    let passes = (and_parts _ _ (sound.rows Models 0 fields (slice_get-get_or models 0 [] sound.models))).1 in
    let there : 0 < length bytes / 64 = rw (← length-rows_in 64 bytes) sound.models in
    let is : fields ≡ field 64 bytes 0 = get_or-rows_in 64 bytes 0 there in
    let same : u32_in fields 52 ≡ u32_in bytes 52 =
    ap (λ (l : List ℕ). u32_in l 52) is ∙ u32_in-part bytes 0 64 52 inside in
    let few : u32_in fields 52 ≤ count_of file Leafs = leb-true _ _ passes in
    rw (← same) few

-- the first model is where the section of models begins
seen_told : (told file : List ℕ) → check_of file ≡ fine → HasSection file told 14 (Of Models)
    → visleafs_told told ≡ u32_in (lump_of file Models) 52
unfolding section_size bytes_in
seen_told told file e models =
    let start = offset_told told 14 in
    let size = 64 * count_of file Models in
    let inside : start + 52 + 4 ≤ start + size = omega (arith, (sound_from_fine file e).models) in
    let width : start + size - start ≡ size = omega arith in
    sym (u32_in-part told start (start + size) 52 inside)
    ∙ rw width (ap (λ (l : List ℕ). u32_in l 52) models.stands)

pub visleafs_few : (told : List ℕ) → IsBrush told → visleafs_told told ≤ 32768
unfolding image_of
visleafs_few told brush =
    let both = image_from (image brush.file) (check_of brush.file) told brush.is in
    let models = sections_told told brush.file 14 (Of Models) brush.is refl in
    omega (arith, seen_told told brush.file both.0 models, seen_in_file brush.file both.0, few_leafs brush.file both.0)

pub ruleset reader_laws = (has_pairs, model_inside, texture_inside, leaf_inside, visibility_inside, visleafs_few)
