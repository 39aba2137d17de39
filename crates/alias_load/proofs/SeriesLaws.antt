-- Reading skins and frames.
use Rattle.std.proofs.Common.{◌≡◌, ℕ, zero, suc, ◌+◌, ◌-◌, ◌*◌, ◌≤◌, ◌<◌, Bool, true, false, ltb, List, ◌∷◌, length, take, drop, Result, Ok, Err, refl, sym, ap, subst, ◌∙◌, arith}
use Rattle.std.proofs.lemmas.Bool.{ltb-true, ltb-false, lt-ltb, le-ltb}
use Rattle.std.proofs.lemmas.List.{length-drop, take-take, drop-drop, drop-take}
use Rattle.part_plan.specs.Plan.{Plan, Done, ◌>>=◌, run, each, seen, folding, viewed}
use Rattle.part_plan.proofs.Runs.{◌>>>◌, run-bind}
use Rattle.part_plan.proofs.Each.{then_done, each_more, each_fail, fold_more, fold_fail, fold_done}
use Rattle.alias_load.specs.declared.fault.AliasFault.{AliasFault}
use Rattle.alias_load.specs.declared.fault.AliasFault.TheVariants.{Truncated}
use Rattle.alias_load.specs.declared.header.Kind.{Kind}
use Rattle.alias_load.specs.Models.{Head, Series}
use Rattle.alias_load.specs.Reading.{head, many, item, items, series}
use Rattle.alias_load.specs.Views.{cut, series_in, add_count}

item_read : (kind : Kind) (i : ℕ) (bytes : List ℕ) → kind.item ≤ length bytes → run (item kind i) bytes ≡ Ok (take kind.item bytes, drop kind.item bytes)
unfolding item
item_read kind i bytes there = rw (le-ltb _ _ there) refl

item_short : (kind : Kind) (i : ℕ) (bytes : List ℕ) → length bytes < kind.item → run (item kind i) bytes ≡ Err (Truncated kind.part)
unfolding item
item_short kind i bytes short = rw (lt-ltb _ _ short) refl

-- pictures or poses that are all there
items_read : (kind : Kind) (n i : ℕ) (bytes : List ℕ) → kind.item * n ≤ length bytes
    → run (each (item kind) n i) bytes ≡ Ok (cut kind.item n bytes, drop (kind.item * n) bytes)
unfolding each cut
items_read kind zero i bytes there = let none : kind.item * 0 ≡ 0 = omega arith in rw none refl
items_read kind (suc n) i bytes there =
    let more : kind.item * suc n ≡ kind.item + kind.item * n = omega arith in
    let rest = drop kind.item bytes in
    let one = item_read kind i bytes (omega (arith, there, more)) in
    let others = items_read kind n (i + 1) rest (omega (arith, there, more, length-drop kind.item bytes)) in
    each_more (item kind) n i bytes (take kind.item bytes) rest one
    ∙ ap (seen (λ a. (take kind.item bytes ∷ a.0, a.1))) others
    ∙ ap (λ (left : List ℕ). Ok (take kind.item bytes ∷ cut kind.item n rest, left)) (drop-drop (kind.item * n) kind.item bytes ∙ ap (λ (k : ℕ). drop k bytes) (sym more))

-- and where the file ends within one
items_short : (kind : Kind) (n i : ℕ) (bytes : List ℕ) → length bytes < kind.item * n → run (each (item kind) n i) bytes ≡ Err (Truncated kind.part)
items_short kind zero i bytes short = absurd (omega (arith, short))
items_short kind (suc n) i bytes short = by (ltb (length bytes) kind.item) refl (items_short kind n (i + 1) (drop kind.item bytes))
  where
    by : (b : Bool) → ltb (length bytes) kind.item ≡ b
        → (length (drop kind.item bytes) < kind.item * n → run (each (item kind) n (i + 1)) (drop kind.item bytes) ≡ Err (Truncated kind.part))
        → run (each (item kind) (suc n) i) bytes ≡ Err (Truncated kind.part)
    by true here later = each_fail (item kind) n i bytes (Truncated kind.part) (item_short kind i bytes (ltb-true _ _ here))
    by false here later =
        let there : kind.item ≤ length bytes = ltb-false _ _ here in
        let more : kind.item * suc n ≡ kind.item + kind.item * n = omega arith in
        let rest = drop kind.item bytes in
        each_more (item kind) n i bytes (take kind.item bytes) rest (item_read kind i bytes there)
        ∙ ap (seen (λ a. (take kind.item bytes ∷ a.0, a.1))) (later (omega (arith, short, more, length-drop kind.item bytes)))

-- the pieces of a front
cut_front : (n length : ℕ) (bytes : List ℕ) → cut length n (take (length * n) bytes) ≡ cut length n bytes
unfolding cut
cut_front zero length bytes = refl
cut_front (suc n) length bytes =
    let more : length * suc n ≡ length + length * n = omega arith in
    let front : take length (take (length * suc n) bytes) ≡ take length bytes = take-take length (length * suc n) bytes (omega (arith, more)) in
    let back : drop length (take (length * suc n) bytes) ≡ take (length * n) (drop length bytes) = ap (λ (k : ℕ). drop length (take k bytes)) more ∙ drop-take length (length * n) bytes in
    rw (front, back) (ap (λ (xs : List (List ℕ)). take length bytes ∷ xs) (cut_front n length (drop length bytes)))

abbrev made : Head → List (List ℕ) → Series
made h xs = record { head = h; items = xs }

series_parts : (kind : Kind) (row : ℕ) (bytes : List ℕ) (h : Head) (middle : List ℕ) → Ok (h, middle) ≡ run (head kind row) bytes
    → run (series kind row) bytes ≡ viewed (made h) (run (items kind (many h)) middle)
unfolding series
series_parts kind row bytes h middle is =
    let f : Head → Plan AliasFault Series = λ h. items kind (many h) >>= λ xs. Done (made h xs) in
    let one : run (head kind row >>= f) bytes ≡ (run (head kind row) bytes >>> f) = run-bind (head kind row) f bytes in
    let two : (run (head kind row) bytes >>> f) ≡ run (f h) middle = rw (← is) refl in
    let three : run (f h) middle ≡ (run (items kind (many h)) middle >>> λ xs. Done (made h xs)) = run-bind (items kind (many h)) (λ xs. Done (made h xs)) middle in
    one ∙ two ∙ three ∙ then_done (run (items kind (many h)) middle) (made h)

pub series_read : (kind : Kind) (row : ℕ) (bytes : List ℕ) (h : Head) (middle : List ℕ) (n : ℕ) → Ok (h, middle) ≡ run (head kind row) bytes → n ≡ many h
    → kind.item * n ≤ length middle → Ok (series_in kind h n (take (kind.item * n) middle), drop (kind.item * n) middle) ≡ run (series kind row) bytes
unfolding items
series_read kind row bytes h middle n is number there =
    let read : run (items kind n) middle ≡ Ok (cut kind.item n middle, drop (kind.item * n) middle) = items_read kind n 0 middle there in
    let same : run (items kind (many h)) middle ≡ Ok (cut kind.item n middle, drop (kind.item * n) middle) = subst (λ (k : ℕ). run (items kind k) middle ≡ Ok (cut kind.item n middle, drop (kind.item * n) middle)) number read in
    ap (λ (xs : List (List ℕ)). Ok (made h xs, drop (kind.item * n) middle)) (cut_front n kind.item middle)
    ∙ sym (series_parts kind row bytes h middle is ∙ ap (viewed (made h)) same)

pub series_short : (kind : Kind) (row : ℕ) (bytes : List ℕ) (h : Head) (middle : List ℕ) (n : ℕ) → Ok (h, middle) ≡ run (head kind row) bytes → n ≡ many h
    → length middle < kind.item * n → Err (Truncated kind.part) ≡ run (series kind row) bytes
unfolding items
series_short kind row bytes h middle n is number short =
    let read : run (items kind n) middle ≡ Err (Truncated kind.part) = items_short kind n 0 middle short in
    let same : run (items kind (many h)) middle ≡ Err (Truncated kind.part) = subst (λ (k : ℕ). run (items kind k) middle ≡ Err (Truncated kind.part)) number read in
    sym (series_parts kind row bytes h middle is ∙ ap (viewed (made h)) same)

pub series_fail : (kind : Kind) (row : ℕ) (bytes : List ℕ) (e : AliasFault) → Err e ≡ run (head kind row) bytes → Err e ≡ run (series kind row) bytes
unfolding series
series_fail kind row bytes e is =
    let f : Head → Plan AliasFault Series = λ h. items kind (many h) >>= λ xs. Done (made h xs) in
    let one : run (head kind row >>= f) bytes ≡ (run (head kind row) bytes >>> f) = run-bind (head kind row) f bytes in
    let two : (run (head kind row) bytes >>> f) ≡ Err e = rw (← is) refl in
    sym (one ∙ two)

pub ruleset series_laws = (series_read, series_short, series_fail)

pub length-cut : (n length_of : ℕ) (bytes : List ℕ) → length (cut length_of n bytes) ≡ n
unfolding cut
length-cut zero l bytes = refl
length-cut (suc n) l bytes = ap suc (length-cut n l (drop l bytes))

-- counting
pub count_more : (kind : Kind) (s n i : ℕ) (bytes : List ℕ) (h : Head) (k : ℕ) (xs : List ℕ) (rest : List ℕ) (total : Result (ℕ × List ℕ) AliasFault) → i < n
    → Ok (series_in kind h k xs, rest) ≡ run (series kind i) bytes
    → folding add_count s (run (each (series kind) (n - i) i) bytes) ≡ total → folding add_count (s + k) (run (each (series kind) (n - (i + 1)) (i + 1)) rest) ≡ total
count_more kind s n i bytes h k xs rest total lt is so_far =
    let x = series_in kind h k xs in
    let more = fold_more (series kind) add_count s n i bytes x rest total lt (sym is) so_far in
    subst (λ (m : ℕ). folding add_count (s + m) (run (each (series kind) (n - (i + 1)) (i + 1)) rest) ≡ total) (length-cut k kind.item xs) more

pub count_fail : (kind : Kind) (s n i : ℕ) (bytes : List ℕ) (f : AliasFault) (total : Result (ℕ × List ℕ) AliasFault) → i < n → Err f ≡ run (series kind i) bytes
    → folding add_count s (run (each (series kind) (n - i) i) bytes) ≡ total → total ≡ Err f
count_fail kind s n i bytes f total lt is so_far = fold_fail (series kind) add_count s n i bytes f total lt (sym is) so_far

pub count_done : (kind : Kind) (s n i : ℕ) (bytes : List ℕ) (total : Result (ℕ × List ℕ) AliasFault) → n ≤ i
    → folding add_count s (run (each (series kind) (n - i) i) bytes) ≡ total → total ≡ Ok (s, bytes)
count_done kind s n i bytes total le so_far = fold_done (series kind) add_count s n i bytes total le so_far

pub ruleset count_laws = (count_more, count_fail, count_done)
