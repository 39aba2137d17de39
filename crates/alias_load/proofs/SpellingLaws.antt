-- What is read of a file is spelled so.
use Rattle.std.proofs.Common.{◌≡◌, ℕ, ◌*◌, ◌≤◌, Bool, true, false, not, cond, List, [], ◌∷◌, ◌++◌, length, None, Ok, refl, sym, ap, subst, ◌∙◌, ◌⊎◌, inl, inr, arith}
use Rattle.std.specs.Prelude.{◌==◌}
use Rattle.std.specs.List.{concat, flat_map}
use Rattle.std.proofs.lemmas.Bool.Decides.{nat_tests}
use Rattle.std.proofs.lemmas.List.{append-nil}
use Rattle.base_fields.specs.Faults.{first_fault}
use Rattle.base_fields.specs.Fields.{u32_in}
use Rattle.base_fields.proofs.FaultLaws.{passes}
use Rattle.part_plan.specs.Plan.{Plan, Done, ◌>>=◌, run, each, Follows}
use Rattle.part_plan.specs.Checks.{is_between}
use Rattle.part_plan.proofs.Runs.{run_found, run_again}
use Rattle.part_plan.proofs.Each.{each_len}
use Rattle.part_plan.proofs.Spelled.{follows_split, ends, Spells, each_spells}
use Rattle.alias_load.specs.declared.fault.AliasFault.{AliasFault}
use Rattle.alias_load.specs.declared.header.Kind.{Kind}
use Rattle.alias_load.specs.Models.{Head, Series, Alias, spell_head, spell_series, spell}
use Rattle.alias_load.specs.Reading.{header_tests, single, count_tests, group, head, many, item, items, series, all_series, skins_of, frames_of, numskins, numverts, numtris, numframes, st_part, triangle_part, body, alias}
use Rattle.alias_load.specs.Sizes.{IsHead, IsSeries, IsAlias}

-- a number that passes is no higher than the highest
pub between : (low high n : ℕ) → not (is_between low high n) ≡ false → n ≤ high
between low high n is = grind (arith, nat_tests, is)

-- one of two plans was followed
chosen : {A : Type 0} (b : Bool) (p q : Plan AliasFault A) (parts : List (List ℕ)) (value : A) → Follows (cond b p q) parts value
    → ((b ≡ true) × Follows p parts value) ⊎ ((b ≡ false) × Follows q parts value)
chosen true p q parts value f = inl (refl, f)
chosen false p q parts value f = inr (refl, f)

single_spells : (kind : Kind) (word : List ℕ) (parts : List (List ℕ)) (value : Head) → (u32_in word 0 == 0) ≡ true → Follows {F = AliasFault} (Done (single word)) parts value
    → (word ++ concat parts ≡ spell_head value) × IsHead kind value
single_spells kind word parts value is f =
    let end = ends AliasFault (single word) parts value f in
    subst (λ (h : Head). (word ++ concat parts ≡ spell_head h) × IsHead kind h) end.1 (ap (λ (x : List ℕ). word ++ x) end.0, inl is)

group_spells : (kind : Kind) (row : ℕ) (word : List ℕ) (parts : List (List ℕ)) (value : Head) → (u32_in word 0 == 0) ≡ false → Follows (group kind row word) parts value
    → (word ++ concat parts ≡ spell_head value) × IsHead kind value
unfolding group
group_spells kind row word [] value is f = absurd f
group_spells kind row word (count ∷ []) value is f = absurd f.2
group_spells kind row word (count ∷ intervals ∷ []) value is f =
    let few = between 1 1024 (u32_in count 0) (passes (count_tests kind row count) f.1).0 in
    subst (λ (h : Head). (word ++ (count ++ (intervals ++ [])) ≡ spell_head h) × IsHead kind h) f.2.2
    (ap (λ (x : List ℕ). word ++ (count ++ x)) (append-nil intervals), inr (is, f.0, f.2.0, few))
group_spells kind row word (count ∷ intervals ∷ x ∷ parts) value is f = absurd f.2.2

head_spells : (kind : Kind) (row : ℕ) → Spells spell_head (IsHead kind) (head kind row)
unfolding head
head_spells kind row [] value f = absurd f
head_spells kind row (word ∷ parts) value f =
    elim (chosen (u32_in word 0 == 0) (Done (single word)) (group kind row word) parts value f.2) [
      | inl g ↦ single_spells kind word parts value g.0 g.1
      | inr g ↦ group_spells kind row word parts value g.0 g.1
    ]

-- a part that is the value
part_spells : (text : List ℕ) (parts : List (List ℕ)) (value : List ℕ) → Follows {F = AliasFault} (Done text) parts value → text ++ concat parts ≡ value
part_spells text parts value f =
    let end = ends AliasFault text parts value f in
    ap (λ (x : List ℕ). text ++ x) end.0 ∙ append-nil text ∙ end.1

item_spells : (kind : Kind) (i : ℕ) → Spells (λ text. text) (λ text. length text ≡ kind.item) (item kind i)
unfolding item
item_spells kind i [] value f = absurd f
item_spells kind i (text ∷ parts) value f =
    let end = ends AliasFault text parts value f.2 in
    (part_spells text parts value f.2, ap length (sym end.1) ∙ f.0)

flat-same : (xs : List (List ℕ)) → flat_map (λ text. text) xs ≡ concat xs
flat-same [] = refl
flat-same (x ∷ xs) = ap (λ (t : List ℕ). x ++ t) (flat-same xs)

abbrev made : Head → List (List ℕ) → Series
made h xs = record { head = h; items = xs }

-- as many as were asked for
follows_len : {A : Type 0} (item : ℕ → Plan AliasFault A) (n : ℕ) (parts : List (List ℕ)) (xs : List A) → Follows (each item n 0) parts xs → length xs ≡ n
follows_len item n parts xs f = each_len item n 0 (concat parts ++ []) (xs, []) (run_again (each item n 0) parts [] xs f)

series_spells : (kind : Kind) (row : ℕ) → Spells spell_series (IsSeries kind) (series kind row)
unfolding series items
series_spells kind row parts value f =
    let s = follows_split (head kind row) (λ h. items kind (many h) >>= λ xs. Done (made h xs)) parts value f in
    let h = s.between in
    let t = follows_split (items kind (many h)) (λ xs. Done (made h xs)) s.second value s.seconds in
    let a = head_spells kind row s.first h s.firsts in
    let b = each_spells (λ text. text) (λ text. length text ≡ kind.item) (item kind) (item_spells kind) (many h) 0 t.first t.between t.firsts in
    let end = ends AliasFault (made h t.between) t.second value t.seconds in
    let tail : concat s.second ≡ concat t.between = t.whole ∙ ap (λ (x : List ℕ). concat t.first ++ x) end.0 ∙ append-nil (concat t.first) ∙ b.0 ∙ flat-same t.between in
    let is : IsSeries kind (made h t.between) = record { head = a.1; number = follows_len (item kind) (many h) t.first t.between t.firsts; items = b.1 } in
    subst (λ (y : Series). (concat parts ≡ spell_series y) × IsSeries kind y) end.1
    (s.whole ∙ ap (λ (x : List ℕ). x ++ concat s.second) a.0 ∙ ap (λ (x : List ℕ). spell_head h ++ x) tail, is)

pub series_is : (kind : Kind) (row : ℕ) (bytes : List ℕ) (x : Series) (rest : List ℕ) → Ok (x, rest) ≡ run (series kind row) bytes → IsSeries kind x
series_is kind row bytes x rest is = let r = run_found (series kind row) bytes rest x (sym is) in (series_spells kind row r.0 x r.2).1

st_spells : (n : ℕ) → Spells (λ text. text) (λ text. length text ≡ 12 * n) (st_part n)
unfolding st_part
st_spells n [] value f = absurd f
st_spells n (text ∷ parts) value f =
    let end = ends AliasFault text parts value f.2 in
    (part_spells text parts value f.2, ap length (sym end.1) ∙ f.0)

triangles_spell : (verts n : ℕ) → Spells (λ text. text) (λ text. length text ≡ 16 * n) (triangle_part verts n)
unfolding triangle_part
triangles_spell verts n [] value f = absurd f
triangles_spell verts n (text ∷ parts) value f =
    let end = ends AliasFault text parts value f.2 in
    (part_spells text parts value f.2, ap length (sym end.1) ∙ f.0)

-- what comes after the skins, after the st vertices and after the triangles
abbrev pub model_of : List ℕ → List Series → List ℕ → List ℕ → List Series → Alias
model_of header skins st_vertices triangles frames = record { header = header; skins = skins; st_vertices = st_vertices; triangles = triangles; frames = frames }

abbrev pub after_triangles : List ℕ → List Series → List ℕ → List ℕ → Plan AliasFault Alias
after_triangles header skins st triangles = all_series (frames_of header) (numframes header) >>= λ frames. Done (model_of header skins st triangles frames)

abbrev pub after_st : List ℕ → List Series → List ℕ → Plan AliasFault Alias
after_st header skins st = triangle_part (numverts header) (numtris header) >>= after_triangles header skins st

abbrev pub after_skins : List ℕ → List Series → Plan AliasFault Alias
after_skins header skins = st_part (numverts header) >>= after_st header skins

body_spells : (header : List ℕ) (parts : List (List ℕ)) (value : Alias) → length header ≡ 84 → first_fault (header_tests header) ≡ None → Follows (body header) parts value
    → (header ++ concat parts ≡ spell value) × IsAlias value
unfolding body all_series
body_spells header parts value long passed f =
    let sk = skins_of header in
    let fr = frames_of header in
    let s = follows_split (all_series sk (numskins header)) (after_skins header) parts value f in
    let t = follows_split (st_part (numverts header)) (after_st header s.between) s.second value s.seconds in
    let u = follows_split (triangle_part (numverts header) (numtris header)) (after_triangles header s.between t.between) t.second value t.seconds in
    let v = follows_split (all_series fr (numframes header)) (λ frames. Done (model_of header s.between t.between u.between frames)) u.second value u.seconds in
    let model = model_of header s.between t.between u.between v.between in
    let end = ends AliasFault model v.second value v.seconds in
    let a = each_spells spell_series (IsSeries sk) (series sk) (series_spells sk) (numskins header) 0 s.first s.between s.firsts in
    let b = st_spells (numverts header) t.first t.between t.firsts in
    let d = triangles_spell (numverts header) (numtris header) u.first u.between u.firsts in
    let e = each_spells spell_series (IsSeries fr) (series fr) (series_spells fr) (numframes header) 0 v.first v.between v.firsts in
    let four : concat u.second ≡ flat_map spell_series v.between = v.whole ∙ ap (λ (x : List ℕ). concat v.first ++ x) end.0 ∙ append-nil (concat v.first) ∙ e.0 in
    let three : concat t.second ≡ u.between ++ flat_map spell_series v.between = u.whole ∙ ap (λ (x : List ℕ). x ++ concat u.second) d.0 ∙ ap (λ (x : List ℕ). u.between ++ x) four in
    let two : concat s.second ≡ t.between ++ (u.between ++ flat_map spell_series v.between) = t.whole ∙ ap (λ (x : List ℕ). x ++ concat t.second) b.0 ∙ ap (λ (x : List ℕ). t.between ++ x) three in
    let one : concat parts ≡ flat_map spell_series s.between ++ (t.between ++ (u.between ++ flat_map spell_series v.between))
    = s.whole ∙ ap (λ (x : List ℕ). x ++ concat s.second) a.0 ∙ ap (λ (x : List ℕ). flat_map spell_series s.between ++ x) two in
    let is : IsAlias model = record {
      header = long;
      passed = passed;
      skins = a.1;
      numskins = follows_len (series sk) (numskins header) s.first s.between s.firsts;
      st_vertices = b.1;
      triangles = d.1;
      frames = e.1;
      numframes = follows_len (series fr) (numframes header) v.first v.between v.firsts;
    } in
    subst (λ (y : Alias). (header ++ concat parts ≡ spell y) × IsAlias y) end.1 (ap (λ (x : List ℕ). header ++ x) one, is)

pub alias_spells : Spells spell IsAlias alias
unfolding alias
alias_spells [] value f = absurd f
alias_spells (header ∷ parts) value f = body_spells header parts value f.0 f.1 f.2

-- What is read is spelled so, by parts that pass their tests.
pub alias_found : (bytes rest : List ℕ) (model : Alias) → run alias bytes ≡ Ok (model, rest) → (bytes ≡ spell model ++ rest) × IsAlias model
alias_found bytes rest model e =
    let r = run_found alias bytes rest model e in
    let t = alias_spells r.0 model r.2 in
    (r.1 ∙ ap (λ (x : List ℕ). x ++ rest) t.0, t.1)

-- What is spelled so by parts that pass their tests is read, whatever follows.
pub alias_again : (parts : List (List ℕ)) (rest : List ℕ) (model : Alias) → Follows alias parts model → run alias (spell model ++ rest) ≡ Ok (model, rest)
alias_again parts rest model f = ap (λ (x : List ℕ). run alias (x ++ rest)) (sym (alias_spells parts model f).0) ∙ run_again alias parts rest model f
