-- One more file of those still to come, and the end of them.
use Rattle.std.proofs.Common.{Result, Ok, Err, IfOk, ◌≡◌, ℕ, ◌+◌, ◌-◌, ◌<◌, ◌≤◌, List, ◌++◌, length, arith}
use Rattle.std.proofs.Common.{refl, ap, ◌∙◌, append_assoc, append-nil, length-append}
use Rattle.world_gen.specs.declared.resources.Resource.{Resource}
use Rattle.world_gen.specs.Packs.{File, files_from, behind_files, contents, row, rows_from, pack_header, pack}
use Rattle.world_gen.specs.Resources.{numbered, file_name, file_of, behind_file}
use Rattle.world_gen.proofs.DrawLaws.{one_less, none_left}
use Rattle.world_gen.proofs.LengthLaws.{length-file, length-row}

pub files_step : (new done : List ℕ) (resource : Resource) (count n state after : ℕ)
    → n < count → resource ≡ numbered n → new ≡ done ++ file_of resource state → after ≡ behind_file resource state
    → new ++ contents (files_from (count - (n + 1)) (n + 1) after) ≡ done ++ contents (files_from (count - n) n state)
unfolding contents files_from
files_step new done resource count n state after below named grown drawn =
    rw (drawn, grown, named, one_less count n below, append_assoc) refl

pub rows_step : (rows old new done : List ℕ) (resource : Resource) (count n state after at size : ℕ)
    → n < count → resource ≡ numbered n → new ≡ done ++ file_of resource state → after ≡ behind_file resource state
    → at ≡ 12 + length done → size ≡ length new - length done → rows ≡ old ++ row (file_name resource) at size
    → rows ++ rows_from (12 + length new) (files_from (count - (n + 1)) (n + 1) after)
    ≡ old ++ rows_from (12 + length done) (files_from (count - n) n state)
unfolding rows_from files_from
rows_step rows old new done resource count n state after at size below named grown drawn begins sized written =
    let file = file_of (numbered n) state in
    let added : new ≡ done ++ file = grown ∙ ap (λ (r : Resource). done ++ file_of r state) named in
    let long : length new ≡ length done + length file = ap length added ∙ length-append done file in
    let whole : size ≡ length file = omega arith in
    let ends : 12 + length new ≡ 12 + length done + length file = omega arith in
    rw (written, drawn, named, begins, whole, ends, one_less count n below, append_assoc) refl

pub behind_step : (resource : Resource) (count n state after : ℕ)
    → n < count → resource ≡ numbered n → after ≡ behind_file resource state
    → behind_files (count - (n + 1)) (n + 1) after ≡ behind_files (count - n) n state
unfolding behind_files
behind_step resource count n state after below named drawn = rw (drawn, named, one_less count n below) refl

-- what is added is short
pub short_step : (new done : List ℕ) (resource : Resource) (state : ℕ)
    → new ≡ done ++ file_of resource state → length new ≤ length done + 65536
short_step new done resource state grown =
    let file = file_of resource state in
    let long : length new ≡ length done + length file = ap length grown ∙ length-append done file in
    omega (arith, length-file resource state)

pub few_step : (rows old : List ℕ) (resource : Resource) (at size : ℕ)
    → rows ≡ old ++ row (file_name resource) at size → length rows ≡ length old + 64
few_step rows old resource at size written =
    let added = row (file_name resource) at size in
    let long : length rows ≡ length old + length added = ap length written ∙ length-append old added in
    omega (arith, length-row resource at size)

pub contents_end : (done : List ℕ) (count n state : ℕ)
    → n ≡ count → done ++ contents (files_from (count - n) n state) ≡ done
unfolding contents files_from
contents_end done count n state ended = rw (none_left count n ended) (append-nil done)

pub rows_end : (rows : List ℕ) (at count n state : ℕ)
    → n ≡ count → rows ++ rows_from at (files_from (count - n) n state) ≡ rows
unfolding rows_from files_from
rows_end rows at count n state ended = rw (none_left count n ended) (append-nil rows)

pub behind_end : (count n state : ℕ) → n ≡ count → behind_files (count - n) n state ≡ state
unfolding behind_files
behind_end count n state ended = rw (none_left count n ended) refl

-- a pack of parts that are those of its files
packed : (files : List File) (held rows bytes : List ℕ) → held ≡ contents files → rows ≡ rows_from 12 files
    → bytes ≡ pack_header (12 + length held) (length rows) ++ held ++ rows → bytes ≡ pack files
unfolding pack
packed files held rows bytes first second whole = whole ∙ rw (first, second) refl

pub joined_is : {T E : Type 0} (result : Result T E) (seen : T → List ℕ) (files : List File) (held rows : List ℕ)
    → held ≡ contents files → rows ≡ rows_from 12 files
    → IfOk result (λ x. seen x ≡ pack_header (12 + length held) (length rows) ++ held ++ rows)
    → IfOk result (λ x. seen x ≡ pack files)
joined_is (Ok x) seen files held rows first second whole = packed files held rows (seen x) first second whole
joined_is (Err e) seen files held rows first second whole = tt

pub ruleset pack_laws = (short_step, behind_end)
