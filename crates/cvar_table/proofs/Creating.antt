-- The creation of cvars one after another.
use Rattle.std.proofs.Common.{◌≡◌, ℕ, ◌+◌, ◌<◌, ◌≤◌, suc, zero, List, [], ◌∷◌, ◌++◌, Some, Result, Ok, Err, Bool, length, take, drop, get_or, map, inl, inr, refl, sym, ap, subst, ◌∙◌, arith, add-one, drop-cons}
use Rattle.std.specs.Prelude.{slice_set, slice_get}
use Rattle.mem_model.specs.Laid.{Laid}
use Rattle.std.proofs.lemmas.Bool.{cases_lt}
use Rattle.std.proofs.lemmas.List.{take_more, take-append-drop, take_all}
use Rattle.mem_model.specs.Memory.{Memory}
use Rattle.mem_model.specs.Answer.{Answered, Answers, Gives}
use Rattle.mem_model.specs.Told.{zone_answer}
use Rattle.mem_model.specs.declared.answers.Place.{Place}
use Rattle.mem_model.specs.declared.answers.ZoneError.{ZoneError}
use Rattle.mem_model.specs.declared.answers.ZoneError.TheVariants as zone_error
use Rattle.zone_values.specs.Values.{put_value}
use Rattle.cvar_table.specs.Cvars.{Cvar, Default, created, created_by, created_first}
use Rattle.cvar_table.specs.Told.{listed, zone_told}
use Rattle.cvar_table.proofs.CreatedLaws.{is_created}

-- some cvars before those of an answer
pub fronted : List Cvar → Result (List Cvar) ℕ → Result (List Cvar) ℕ
fronted front (Ok cvars) = Ok (front ++ cvars)
fronted front (Err asked) = Err asked

fronted_none : (answer : Result (List Cvar) ℕ) → fronted [] answer ≡ answer
unfolding fronted
fronted_none (Ok cvars) = refl
fronted_none (Err asked) = refl

fronted_first : (cvar : Cvar) (front : List Cvar) (answer : Result (List Cvar) ℕ) → created_first cvar (fronted front answer) ≡ fronted (cvar ∷ front) answer
unfolding fronted
fronted_first cvar front (Ok cvars) = refl
fronted_first cvar front (Err asked) = refl

pub with_front : List Cvar → Answered (Result (List Cvar) ℕ) → Answered (Result (List Cvar) ℕ)
with_front front given = record { answer = fronted front given.answer; after = given.after }

-- Creating all is creating the first ones and then the others.
created-front : (m n : Memory) (xs ys : List Default) (front : List Cvar) → Answers (created m xs) (Ok front) n → created m (xs ++ ys) ≡ with_front front (created n ys)
unfolding created with_front
created-front m n [] ys front given =
    let none : [] ≡ front = (let ok = given.answer in cc) in
    subst (λ (f : List Cvar). created m ys ≡ with_front f (created n ys)) none
    (subst (λ (k : Memory). created m ys ≡ with_front [] (created k ys)) (sym given.after)
    (ap (λ (answer : Result (List Cvar) ℕ). record { answer = answer; after = (created m ys).after }) (sym (fronted_none (created m ys).answer))))
created-front m n (d ∷ xs) ys front given =
    let is = is_created m d xs front given.answer in
    let k = (put_value m d.value).after in
    let cvar : Cvar = record { name = d.name; place = is.place } in
    let others = created-front k n xs ys is.others (record { answer = is.rest; after = given.after ∙ is.after }) in
    subst (λ (f : List Cvar). created m (d ∷ (xs ++ ys)) ≡ with_front f (created n ys)) (sym is.all)
    (ap (λ (answer : Result ℕ ℕ). created_by d.name answer k (λ j. created j (xs ++ ys))) is.put
    ∙ ap (λ (a : Answered (Result (List Cvar) ℕ)). record { answer = created_first cvar a.answer; after = a.after }) others
    ∙ ap (λ (answer : Result (List Cvar) ℕ). record { answer = answer; after = (created n ys).after }) (fronted_first cvar is.others (created n ys).answer))

-- what the next default gives, behind those that were created
pub created-next : (m n : Memory) (xs ys : List Default) (d : Default) (front : List Cvar) → Answers (created m xs) (Ok front) n →
    created m (xs ++ d ∷ ys) ≡ with_front front (created_by d.name (put_value n d.value).answer (put_value n d.value).after (λ k. created k ys))
unfolding created
created-next m n xs ys d front given = created-front m n xs (d ∷ ys) front given

-- none was created yet
pub created-none : (m : Memory) → Answers (created m []) (Ok []) m
unfolding created
created-none m = record { answer = refl; after = refl }

-- one place more in the table
listed_more : (ds : List Default) (places : List Place) (at : ℕ) (d : Default) (place : Place) → length places ≡ length ds → at < length ds →
    listed ds (take (at + 1) (slice_set places at place)) ≡ listed ds (take at places) ++ record { name = (get_or ds at d).name; place = place.0 } ∷ []
listed_more [] places at d place same inside = absurd (omega arith)
listed_more (x ∷ ds) [] at d place same inside = absurd (omega arith)
listed_more (x ∷ ds) (p ∷ places) zero d place same inside = nothing ds where
  nothing : (ds : List Default) → record { name = x.name; place = place.0 } ∷ listed ds [] ≡ record { name = x.name; place = place.0 } ∷ []
  nothing [] = refl
  nothing (y ∷ ds) = refl
listed_more (x ∷ ds) (p ∷ places) (suc at) d place same inside =
    rw add-one (ap (λ (cs : List Cvar). record { name = x.name; place = p.0 } ∷ cs)
    (ap (λ n. listed ds (take n (slice_set places at place))) (sym (add-one at)) ∙ listed_more ds places at d place (omega arith) (omega arith)))

-- the value at a position
value_there : (ds : List Default) (at : ℕ) (d : Default) (value : List ℕ) → slice_get (map (λ (own : Default). own.value) ds) at ≡ Some value → (at < length ds) × (value ≡ (get_or ds at d).value)
value_there [] at d value h = absurd (cc)
value_there (x ∷ ds) zero d value h = (omega arith, cc)
value_there (x ∷ ds) (suc at) d value h = let rest = value_there ds at d value h in (omega (arith, rest.0), rest.1)

no_default : Default
no_default = record { name = []; value = [] }

-- One cvar more is created.
pub created-more : (m n k : Memory) (ds : List Default) (places : List Place) (at : ℕ) (place : Place) (value : List ℕ) → length places ≡ length ds → slice_get (map (λ (own : Default). own.value) ds) at ≡ Some value →
    Answers (created m (take at ds)) (Ok (listed ds (take at places))) n → Answers (put_value n value) (Ok place.0) k →
    Answers (created m (take (at + 1) ds)) (Ok (listed ds (take (at + 1) (slice_set places at place)))) k
unfolding created with_front fronted
created-more m n k ds places at place value same is given put =
    let there = value_there ds at no_default value is in
    let x = get_or ds at no_default in
    let here = subst (λ v. Answers (put_value n v) (Ok place.0) k) there.1 put in
    let all = ap (created m) (take_more ds at no_default there.0) ∙ created-next m n (take at ds) [] x (listed ds (take at places)) given
    ∙ ap (λ (answer : Result ℕ ℕ). with_front (listed ds (take at places)) (created_by x.name answer (put_value n x.value).after (λ j. created j []))) here.answer in
    record {
      answer = ap (λ (a : Answered (Result (List Cvar) ℕ)). a.answer) all ∙ ap (λ (cs : List Cvar). Ok cs) (sym (listed_more ds places at no_default place same there.0));
      after = here.after ∙ sym (ap (λ (a : Answered (Result (List Cvar) ℕ)). a.after) all);
    }

-- No more is created.
pub created-stops : (m n k : Memory) (ds : List Default) (cvars : List Cvar) (at : ℕ) (value : List ℕ) (frugal : Bool) (error : ZoneError) → slice_get (map (λ (own : Default). own.value) ds) at ≡ Some value →
    Answers (created m (take at ds)) (Ok cvars) n → Gives (put_value n value) frugal n (zone_answer (Err error)) k →
    (front : ℕ) × Gives (created m ds) frugal (created m (take front ds)).after (zone_told {A = List Cvar} (Err error)) k
unfolding with_front fronted
created-stops m n k ds cvars at value frugal (zone_error.Full asked) is given refusal =
    let there = value_there ds at no_default value is in
    let x = get_or ds at no_default in
    let here = subst (λ v. Answers (put_value n v) (Err asked) k) there.1 refusal in
    let parts : ds ≡ take at ds ++ x ∷ drop (suc at) ds = sym (take-append-drop at ds) ∙ ap (λ rest. take at ds ++ rest) (drop-cons ds at no_default there.0) in
    let all = ap (created m) parts ∙ created-next m n (take at ds) (drop (suc at) ds) x cvars given
    ∙ ap (λ (answer : Result ℕ ℕ). with_front cvars (created_by x.name answer (put_value n x.value).after (λ j. created j (drop (suc at) ds)))) here.answer in
    (at, record { answer = ap (λ (a : Answered (Result (List Cvar) ℕ)). a.answer) all; after = here.after ∙ sym (ap (λ (a : Answered (Result (List Cvar) ℕ)). a.after) all) })
created-stops m n k ds cvars at value frugal zone_error.OutOfMemory is given ran_out =
    (at, record { not_frugal = ran_out.not_frugal; after = ran_out.after ∙ given.after })

-- All are created.
pub created-whole : (m n : Memory) (ds : List Default) (places : List Place) (at : ℕ) → length places ≡ length ds → length ds ≤ at → Answers (created m (take at ds)) (Ok (listed ds (take at places))) n →
    Answers (created m ds) (Ok (listed ds places)) n
created-whole m n ds places at same end given =
    let all = subst (λ xs. Answers (created m xs) (Ok (listed ds (take at places))) n) (take_all at ds end) given in
    subst (λ ps. Answers (created m ds) (Ok (listed ds ps)) n) (take_all at places (omega arith)) all

-- a memory was laid out at the start where it is so now, and nothing has changed or it is known to
pub laid_start : (start now : Memory) (at : ℕ) → (at ≡ 0 → now ≡ start) → (0 < at → Laid start) → Laid now → Laid start
laid_start start now at same known laid =
    elim (cases_lt 0 at) [
      | inl some ↦ known some
      | inr none ↦ subst Laid (same (omega arith)) laid
    ]
