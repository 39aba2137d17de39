-- Reading a whole file.
use Rattle.std.proofs.Common.{◌≡◌, ℕ, ◌+◌, ◌*◌, ◌^◌, ◌≤◌, Bool, false, not, ◌&&◌, List, [], ◌∷◌, length, None, Ok, Err, refl, sym, ap, subst, ◌∙◌, arith}
use Rattle.std.proofs.lemmas.Bool.Decides.{nat_tests}
use Rattle.std.proofs.Math.Nat.{mul-le-mul}
use Rattle.base_fields.specs.Faults.{first_fault}
use Rattle.base_fields.proofs.FaultLaws.{passes}
use Rattle.part_plan.specs.Plan.{Plan, Done, ◌>>=◌, run, folded, folding}
use Rattle.part_plan.specs.Checks.{is_between}
use Rattle.part_plan.proofs.Runs.{run-bind}
use Rattle.part_plan.proofs.Each.{seen_ok, seen_err}
use Rattle.alias_load.specs.declared.fault.AliasFault.{AliasFault}
use Rattle.alias_load.specs.declared.header.Kind.{Kind}
use Rattle.alias_load.specs.Models.{Series}
use Rattle.alias_load.specs.Reading.{header_tests, all_series, skins_of, frames_of, numskins, skinwidth, skinheight, numverts, numtris, numframes, st_part, triangle_part, body, alias}
use Rattle.alias_load.specs.Images.{count_of}
use Rattle.alias_load.specs.Views.{add_count}
use Rattle.alias_load.specs.Sections.{IsOfPoses}
use Rattle.alias_load.specs.Sizes.{HasParts}
use Rattle.alias_load.proofs.SpellingLaws.{between, model_of, after_triangles, after_st, after_skins, alias_found}

-- ---- the header

between_and : (low high n : ℕ) (b : Bool) → not (is_between low high n && b) ≡ false → n ≤ high
between_and low high n b is = grind (arith, nat_tests, is)

pub skins_small : (header : List ℕ) → first_fault (header_tests header) ≡ None → (skins_of header).item ≤ 2 ^ 24
skins_small header none =
    let t = passes (header_tests header) none in
    let wide = between_and 4 4096 (skinwidth header) _ t.1.1.0 in
    let high = between 1 4096 (skinheight header) t.1.1.1.0 in
    let most : skinwidth header * skinheight header ≤ 4096 * 4096 = mul-le-mul wide high in
    omega (arith, most)

pub frames_small : (header : List ℕ) → first_fault (header_tests header) ≡ None → (frames_of header).item ≤ 2 ^ 24
frames_small header none =
    let t = passes (header_tests header) none in
    let few = between 1 2000 (numverts header) t.1.1.1.1.0 in
    omega (arith, few)

pub most_skins : (header : List ℕ) → first_fault (header_tests header) ≡ None → numskins header ≤ 256
most_skins header none = between 1 256 (numskins header) (passes (header_tests header) none).1.0

pub most_frames : (header : List ℕ) → first_fault (header_tests header) ≡ None → numframes header ≤ 1024
most_frames header none = between 1 1024 (numframes header) (passes (header_tests header) none).1.1.1.1.1.1.0

pub skins_few : (header : List ℕ) → first_fault (header_tests header) ≡ None → numskins header ≤ 2 ^ 16
skins_few header none = omega (arith, most_skins header none)

pub frames_few : (header : List ℕ) → first_fault (header_tests header) ≡ None → numframes header ≤ 2 ^ 16
frames_few header none = omega (arith, most_frames header none)

pub are_of_poses : (header : List ℕ) → IsOfPoses (frames_of header)
are_of_poses header = (refl, omega arith)

pub ruleset header_laws = (skins_small, frames_small, skins_few, frames_few, are_of_poses)

-- ---- the parts behind it

folded_count : (n : ℕ) (xs : List Series) → folded add_count n xs ≡ n + count_of xs
folded_count n [] = omega arith
folded_count n (x ∷ xs) = folded_count (n + length x.items) xs ∙ omega arith

then_read : {A B : Type 0} (plan : Plan AliasFault A) (f : A → Plan AliasFault B) (bytes : List ℕ) (x : A) (rest : List ℕ) → run plan bytes ≡ Ok (x, rest) → run (plan >>= f) bytes ≡ run (f x) rest
then_read plan f bytes x rest is = run-bind plan f bytes ∙ rw is refl

then_fail : {A B : Type 0} (plan : Plan AliasFault A) (f : A → Plan AliasFault B) (bytes : List ℕ) (fault : AliasFault) → run plan bytes ≡ Err fault → run (plan >>= f) bytes ≡ Err fault
then_fail plan f bytes fault is = run-bind plan f bytes ∙ rw is refl

-- skins or frames, of which the code has the number
pub record Counted (kind : Kind) (n : ℕ) (bytes : List ℕ) (k : ℕ) (rest : List ℕ) : Type 0 where
  pub are : List Series
  pub read : run (all_series kind n) bytes ≡ Ok (are, rest)
  pub number : count_of are ≡ k

pub counted : (kind : Kind) (n : ℕ) (bytes : List ℕ) (k : ℕ) (rest : List ℕ) → Ok (k, rest) ≡ folding add_count 0 (run (all_series kind n) bytes) → Counted kind n bytes k rest
counted kind n bytes k rest is =
    let a = seen_ok (λ (a : List Series × List ℕ). (folded add_count 0 a.0, a.1)) (run (all_series kind n) bytes) (k, rest) is in
    record {
      are = a.0.0;
      read = a.1 ∙ ap (λ (p : ℕ × List ℕ). Ok (a.0.0, p.1)) a.2;
      number = omega (arith, folded_count 0 a.0.0, ap (λ (p : ℕ × List ℕ). p.0) a.2);
    }

count_failed : (kind : Kind) (n : ℕ) (bytes : List ℕ) (fault : AliasFault) → Err fault ≡ folding add_count 0 (run (all_series kind n) bytes) → run (all_series kind n) bytes ≡ Err fault
count_failed kind n bytes fault is = seen_err (λ (a : List Series × List ℕ). (folded add_count 0 a.0, a.1)) (run (all_series kind n) bytes) fault is

body_is : (header bytes : List ℕ) → run (body header) bytes ≡ run (all_series (skins_of header) (numskins header) >>= after_skins header) bytes
unfolding body
body_is header bytes = refl

pub skins_fault : (bytes header skins : List ℕ) (kind : Kind) (n : ℕ) (fault : AliasFault) → run alias bytes ≡ run (body header) skins → kind ≡ skins_of header → n ≡ numskins header
    → Err fault ≡ folding add_count 0 (run (all_series kind n) skins) → run alias bytes ≡ Err fault
skins_fault bytes header skins kind n fault is kind-is n-is fails =
    let here : run (all_series (skins_of header) (numskins header)) skins ≡ Err fault
    = subst (λ (m : ℕ). run (all_series (skins_of header) m) skins ≡ Err fault) n-is (subst (λ (k : Kind). run (all_series k n) skins ≡ Err fault) kind-is (count_failed kind n skins fault fails)) in
    is ∙ body_is header skins ∙ then_fail (all_series (skins_of header) (numskins header)) (after_skins header) skins fault here

-- what is left to read behind the skins
pub skins_done : (bytes header skins : List ℕ) (kind : Kind) (n k : ℕ) (rest : List ℕ) → run alias bytes ≡ run (body header) skins → kind ≡ skins_of header → n ≡ numskins header
    → Ok (k, rest) ≡ folding add_count 0 (run (all_series kind n) skins)
    → (c : Counted (skins_of header) (numskins header) skins k rest) × (run alias bytes ≡ run (after_skins header c.are) rest)
skins_done bytes header skins kind n k rest is kind-is n-is are =
    let c = counted (skins_of header) (numskins header) skins k rest
    (subst (λ (m : ℕ). Ok (k, rest) ≡ folding add_count 0 (run (all_series (skins_of header) m) skins)) n-is (subst (λ (x : Kind). Ok (k, rest) ≡ folding add_count 0 (run (all_series x n) skins)) kind-is are)) in
    (c, is ∙ body_is header skins ∙ then_read (all_series (skins_of header) (numskins header)) (after_skins header) skins c.are rest c.read)

pub st_fault : (bytes header skins : List ℕ) (kind : Kind) (n k : ℕ) (rest : List ℕ) (verts : ℕ) (fault : AliasFault) → run alias bytes ≡ run (body header) skins → kind ≡ skins_of header → n ≡ numskins header
    → Ok (k, rest) ≡ folding add_count 0 (run (all_series kind n) skins) → verts ≡ numverts header
    → Err fault ≡ run (st_part verts) rest → run alias bytes ≡ Err fault
st_fault bytes header skins kind n k rest verts fault is kind-is n-is are verts-is fails =
    let s = skins_done bytes header skins kind n k rest is kind-is n-is are in
    let here : run (st_part (numverts header)) rest ≡ Err fault = subst (λ (v : ℕ). run (st_part v) rest ≡ Err fault) verts-is (sym fails) in
    s.1 ∙ then_fail (st_part (numverts header)) (after_st header s.0.are) rest fault here

pub st_done : (bytes header : List ℕ) (skins : List Series) (rest : List ℕ) (verts : ℕ) (st left : List ℕ) → run alias bytes ≡ run (after_skins header skins) rest → verts ≡ numverts header
    → Ok (st, left) ≡ run (st_part verts) rest → run alias bytes ≡ run (after_st header skins st) left
st_done bytes header skins rest verts st left is verts-is read =
    is ∙ then_read (st_part (numverts header)) (after_st header skins) rest st left (subst (λ (v : ℕ). run (st_part v) rest ≡ Ok (st, left)) verts-is (sym read))

pub triangles_fault : (bytes header : List ℕ) (skins : List Series) (st rest : List ℕ) (verts n : ℕ) (fault : AliasFault) → run alias bytes ≡ run (after_st header skins st) rest → verts ≡ numverts header → n ≡ numtris header
    → Err fault ≡ run (triangle_part verts n) rest → run alias bytes ≡ Err fault
triangles_fault bytes header skins st rest verts n fault is verts-is n-is fails =
    let here : run (triangle_part (numverts header) (numtris header)) rest ≡ Err fault
    = subst (λ (v : ℕ). run (triangle_part v (numtris header)) rest ≡ Err fault) verts-is (subst (λ (m : ℕ). run (triangle_part verts m) rest ≡ Err fault) n-is (sym fails)) in
    is ∙ then_fail (triangle_part (numverts header) (numtris header)) (after_triangles header skins st) rest fault here

pub triangles_done : (bytes header : List ℕ) (skins : List Series) (st rest : List ℕ) (verts n : ℕ) (triangles left : List ℕ) → run alias bytes ≡ run (after_st header skins st) rest → verts ≡ numverts header → n ≡ numtris header
    → Ok (triangles, left) ≡ run (triangle_part verts n) rest → run alias bytes ≡ run (after_triangles header skins st triangles) left
triangles_done bytes header skins st rest verts n triangles left is verts-is n-is read =
    let here : run (triangle_part (numverts header) (numtris header)) rest ≡ Ok (triangles, left)
    = subst (λ (v : ℕ). run (triangle_part v (numtris header)) rest ≡ Ok (triangles, left)) verts-is (subst (λ (m : ℕ). run (triangle_part verts m) rest ≡ Ok (triangles, left)) n-is (sym read)) in
    is ∙ then_read (triangle_part (numverts header) (numtris header)) (after_triangles header skins st) rest triangles left here

pub frames_fault : (bytes header : List ℕ) (skins : List Series) (st triangles frames : List ℕ) (kind : Kind) (n : ℕ) (fault : AliasFault) → run alias bytes ≡ run (after_triangles header skins st triangles) frames → kind ≡ frames_of header → n ≡ numframes header
    → Err fault ≡ folding add_count 0 (run (all_series kind n) frames) → run alias bytes ≡ Err fault
frames_fault bytes header skins st triangles frames kind n fault is kind-is n-is fails =
    let here : run (all_series (frames_of header) (numframes header)) frames ≡ Err fault
    = subst (λ (m : ℕ). run (all_series (frames_of header) m) frames ≡ Err fault) n-is (subst (λ (k : Kind). run (all_series k n) frames ≡ Err fault) kind-is (count_failed kind n frames fault fails)) in
    is ∙ then_fail (all_series (frames_of header) (numframes header)) (λ fs. Done (model_of header skins st triangles fs)) frames fault here

pub file_done : (bytes header skins : List ℕ) (pictures : ℕ) (skins_rest : List ℕ) (c : Counted (skins_of header) (numskins header) skins pictures skins_rest) (st triangles frames : List ℕ)
    (kind : Kind) (n poses : ℕ) (rest : List ℕ) → run alias bytes ≡ run (after_triangles header c.are st triangles) frames → kind ≡ frames_of header → n ≡ numframes header
    → Ok (poses, rest) ≡ folding add_count 0 (run (all_series kind n) frames) → HasParts bytes header skins pictures st triangles frames poses
file_done bytes header skins pictures skins_rest c st triangles frames kind n poses rest is kind-is n-is are =
    let d = counted (frames_of header) (numframes header) frames poses rest
    (subst (λ (m : ℕ). Ok (poses, rest) ≡ folding add_count 0 (run (all_series (frames_of header) m) frames)) n-is (subst (λ (x : Kind). Ok (poses, rest) ≡ folding add_count 0 (run (all_series x n) frames)) kind-is are)) in
    let model = model_of header c.are st triangles d.are in
    let whole : run alias bytes ≡ Ok (model, rest) = is ∙ then_read (all_series (frames_of header) (numframes header)) (λ fs. Done (model_of header c.are st triangles fs)) frames d.are rest d.read in
    record {
      model = model;
      rest = rest;
      read = whole;
      is = (alias_found bytes rest model whole).1;
      header_is = refl;
      skins_rest = skins_rest;
      skins_read = c.read;
      pictures_are = c.number;
      st_vertices_are = refl;
      triangles_are = refl;
      frames_rest = rest;
      frames_read = d.read;
      poses_are = d.number;
    }
