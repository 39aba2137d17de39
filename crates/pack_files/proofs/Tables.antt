-- The first row of each name, as a list that grows, and as a map.
use Rattle.std.proofs.Common.{◌≡◌, ℕ, ◌+◌, ◌<◌, Bool, true, false, not, cond, List, [], ◌∷◌, ◌++◌, length, take, get_or, map, filter, Option, Some, None, nat_eq, refl, sym, ap, ◌∙◌}
use Rattle.std.specs.Prelude.{is_some, unwrap_or, bytes_eq}
use Rattle.std.specs.Cmp.Lexicographic.{pointwise}
use Rattle.std.specs.Map.{lookup}
use Rattle.indexmap.specs.IndexMap.{IndexMap, insert_entry}
use Rattle.indexmap.proofs.CallerLemmas.{insert_entry-new}
use Rattle.std.proofs.lemmas.List.{append-nil, map-append, map_more}
use Rattle.std.proofs.lemmas.List.Elements.{filter-append}
use Rattle.std.proofs.lemmas.Slice.Eq.{bytes_eq-Decides}
use Rattle.pack_files.specs.declared.entries.Entry.{Entry}
use Rattle.pack_files.specs.declared.names.Name.{Name}
use Rattle.pack_files.specs.Packs.{Row, row_of, first_rows, entry_of, table_of}

abbrev row_with : List ℕ → Entry → Row
row_with name entry = record { name = name; entry = entry }

-- the rows of other names
abbrev others : Row → Row → Bool
others row other = not (bytes_eq other.name row.name)

-- a row alone, where its name is this one, and where it is another
gone : (x r : Row) → bytes_eq r.name x.name ≡ true → filter (others x) (r ∷ []) ≡ []
gone x r same = rw same

kept : (x r : Row) → bytes_eq r.name x.name ≡ false → filter (others x) (r ∷ []) ≡ r ∷ []
kept x r other = rw other

-- With one row more there is one first row more, where none before it has its name.
abbrev after : List Row → Row → Bool → List Row
after rows r there = cond there rows (rows ++ r ∷ [])

grown_cons : (x : Row) (xs : List Row) (r : Row) (here later : Bool) → bytes_eq r.name x.name ≡ here → is_some (entry_of r.name xs) ≡ later → first_rows (xs ++ r ∷ []) ≡ after (first_rows xs) r later → first_rows (x ∷ (xs ++ r ∷ [])) ≡ after (first_rows (x ∷ xs)) r (is_some (entry_of r.name (x ∷ xs)))
grown_cons x xs r true true same is_later rest = rw same (ap (λ l. x ∷ filter (others x) l) rest)
grown_cons x xs r true false same is_later rest =
    let kept_are : filter (others x) (first_rows xs ++ r ∷ []) ≡ filter (others x) (first_rows xs) =
    filter-append (others x) (first_rows xs) (r ∷ []) ∙ ap (λ l. filter (others x) (first_rows xs) ++ l) (gone x r same) ∙ append-nil (filter (others x) (first_rows xs)) in
    rw same (ap (λ l. x ∷ filter (others x) l) rest ∙ ap (λ l. x ∷ l) kept_are)
grown_cons x xs r false true other is_later rest = rw (other, is_later) (ap (λ l. x ∷ filter (others x) l) rest)
grown_cons x xs r false false other is_later rest =
    let kept_are : filter (others x) (first_rows xs ++ r ∷ []) ≡ filter (others x) (first_rows xs) ++ r ∷ [] =
    filter-append (others x) (first_rows xs) (r ∷ []) ∙ ap (λ l. filter (others x) (first_rows xs) ++ l) (kept x r other) in
    rw (other, is_later) (ap (λ l. x ∷ filter (others x) l) rest ∙ ap (λ l. x ∷ l) kept_are)

grown : (xs : List Row) (r : Row) → first_rows (xs ++ r ∷ []) ≡ after (first_rows xs) r (is_some (entry_of r.name xs))
grown [] r = refl
grown (x ∷ xs) r = grown_cons x xs r (bytes_eq r.name x.name) (is_some (entry_of r.name xs)) refl refl (grown xs r)

-- The first row of a name is found among the first rows as among all.
skips : (name : List ℕ) (row : Row) (rows : List Row) → bytes_eq name row.name ≡ false → entry_of name (filter (others row) rows) ≡ entry_of name rows
skips name row [] other = refl
skips name row (x ∷ rows) other = by (bytes_eq x.name row.name) refl (skips name row rows other)
  where
    by : (same : Bool) → bytes_eq x.name row.name ≡ same → entry_of name (filter (others row) rows) ≡ entry_of name rows → entry_of name (filter (others row) (x ∷ rows)) ≡ entry_of name (x ∷ rows)
    by true same rest =
        let x_is : x.name ≡ row.name = (bytes_eq-Decides x.name row.name).0 same in
        let no : bytes_eq name x.name ≡ false = ap (bytes_eq name) x_is ∙ other in
        rw (same, no) rest
    by false differs rest = rw differs (ap (λ found. cond (bytes_eq name x.name) (Some x.entry) found) rest)

pub entry_of-first_rows : (name : List ℕ) (rows : List Row) → entry_of name (first_rows rows) ≡ entry_of name rows
entry_of-first_rows name [] = refl
entry_of-first_rows name (row ∷ rows) = by (bytes_eq name row.name) refl (entry_of-first_rows name rows)
  where
    by : (same : Bool) → bytes_eq name row.name ≡ same → entry_of name (first_rows rows) ≡ entry_of name rows → entry_of name (first_rows (row ∷ rows)) ≡ entry_of name (row ∷ rows)
    by true same rest = rw same refl
    by false other rest = rw other (skips name row (first_rows rows) other ∙ rest)

-- the rows read so far and one more
rows_more : (rows : List (List ℕ)) (i : ℕ) → i < length rows → map row_of (take (i + 1) rows) ≡ map row_of (take i rows) ++ row_of (get_or rows i []) ∷ []
rows_more rows i inside = map_more row_of rows i [] inside

-- a row of a name that came before adds nothing
row_again : (entries : List Row) (rows : List (List ℕ)) (i : ℕ) (name : List ℕ) → i < length rows → name ≡ (row_of (get_or rows i [])).name → entries ≡ first_rows (map row_of (take i rows)) → is_some (entry_of name entries) ≡ true → entries ≡ first_rows (map row_of (take (i + 1) rows))
row_again entries rows i name inside name_is read found =
    let row = row_of (get_or rows i []) in
    let before = map row_of (take i rows) in
    let there : is_some (entry_of row.name before) ≡ true = ap is_some (sym (entry_of-first_rows row.name before) ∙ ap (entry_of row.name) (sym read) ∙ ap (λ (n : List ℕ). entry_of n entries) (sym name_is)) ∙ found in
    let same : first_rows (before ++ row ∷ []) ≡ first_rows before = grown before row ∙ ap (after (first_rows before) row) there in
    read ∙ sym same ∙ ap first_rows (sym (rows_more rows i inside))

-- and one of a new name is put last
row_new : (entries now : List Row) (rows : List (List ℕ)) (i : ℕ) (name : List ℕ) (entry : Entry) → i < length rows → name ≡ (row_of (get_or rows i [])).name → entry ≡ (row_of (get_or rows i [])).entry → entries ≡ first_rows (map row_of (take i rows)) → is_some (entry_of name entries) ≡ false → now ≡ entries ++ row_with name entry ∷ [] → now ≡ first_rows (map row_of (take (i + 1) rows))
row_new entries now rows i name entry inside name_is entry_is read none added =
    let row = row_of (get_or rows i []) in
    let before = map row_of (take i rows) in
    let absent : is_some (entry_of row.name before) ≡ false = ap is_some (sym (entry_of-first_rows row.name before) ∙ ap (entry_of row.name) (sym read) ∙ ap (λ (n : List ℕ). entry_of n entries) (sym name_is)) ∙ none in
    let more : first_rows (before ++ row ∷ []) ≡ first_rows before ++ row ∷ [] = grown before row ∙ ap (after (first_rows before) row) absent in
    let last : row_with name entry ≡ row = ap (λ n. row_with n entry) name_is ∙ ap (row_with row.name) entry_is in
    added
    ∙ ap (λ r. entries ++ r ∷ []) last
    ∙ ap (λ l. l ++ row ∷ []) read
    ∙ sym more ∙ ap first_rows (sym (rows_more rows i inside))

-- keys are the same where their bytes are
abbrev pub same_key : Name → Name → Bool
same_key key other = pointwise nat_eq key.bytes.items other.bytes.items

-- a look-up in a map is one in its rows
pub lookup_is_entry : (name : List ℕ) (entries : List (Name × Entry)) → lookup (λ key. pointwise nat_eq name key.bytes.items) entries ≡ entry_of name (table_of entries)
lookup_is_entry name [] = refl
lookup_is_entry name (e ∷ entries) = ap (λ found. cond (bytes_eq name e.0.bytes.items) (Some e.1) found) (lookup_is_entry name entries)

-- an insert of what is there changes nothing
inserted_again : (key : Name) (found : Entry) (entries : List (Name × Entry)) → lookup (same_key key) entries ≡ Some found → insert_entry same_key entries key found ≡ entries
inserted_again key found [] is = cc
inserted_again key found (e ∷ entries) is = by (same_key key e.0) refl (inserted_again key found entries)
  where
    by : (same : Bool) → same_key key e.0 ≡ same → (lookup (same_key key) entries ≡ Some found → insert_entry same_key entries key found ≡ entries) → insert_entry same_key (e ∷ entries) key found ≡ e ∷ entries
    by true same rest =
        let here : Some e.1 ≡ Some found = sym (ap (λ (b : Bool). cond b (Some e.1) (lookup (same_key key) entries)) same) ∙ is in
        let value : e.1 ≡ found = cc (here) in
        rw same (ap (λ (v : Entry). (e.0, v) ∷ entries) (sym value))
    by false other rest =
        let there : lookup (same_key key) entries ≡ Some found = sym (ap (λ (b : Bool). cond b (Some e.1) (lookup (same_key key) entries)) other) ∙ is in
        rw other (ap (λ (l : List (Name × Entry)). e ∷ l) (rest there))

-- a row's entry is put where none of its name is, and else the one that is there stays
pub row_put : {S : Type 0} (entries : IndexMap Name Entry S) (now : List (Name × Entry)) (rows : List (List ℕ)) (i : ℕ) (name : List ℕ) (key : Name) (entry : Entry) → i < length rows → name ≡ (row_of (get_or rows i [])).name → key.bytes.items ≡ name → entry ≡ (row_of (get_or rows i [])).entry → table_of entries.entries ≡ first_rows (map row_of (take i rows)) → now ≡ insert_entry same_key entries.entries key (unwrap_or (lookup (same_key key) entries.entries) entry) → table_of now ≡ first_rows (map row_of (take (i + 1) rows))
row_put entries now rows i name key entry inside name_is key_is entry_is read put = by (lookup (same_key key) entries.entries) refl
  where
    by : (found : Option Entry) → lookup (same_key key) entries.entries ≡ found → table_of now ≡ first_rows (map row_of (take (i + 1) rows))
    by None none =
        let absent : is_some (entry_of name (table_of entries.entries)) ≡ false =
        ap is_some (ap (λ (n : List ℕ). entry_of n (table_of entries.entries)) (sym key_is) ∙ sym (lookup_is_entry key.bytes.items entries.entries) ∙ none) in
        let added : now ≡ entries.entries ++ (key, entry) ∷ [] =
        put ∙ ap (λ (o : Option Entry). insert_entry same_key entries.entries key (unwrap_or o entry)) none ∙ insert_entry-new same_key entries key entry none in
        row_new (table_of entries.entries) (table_of now) rows i name entry inside name_is entry_is read absent
        (ap table_of added ∙ map-append (λ (e : Name × Entry). row_with e.0.bytes.items e.1) entries.entries ((key, entry) ∷ [])
        ∙ ap (λ (n : List ℕ). table_of entries.entries ++ row_with n entry ∷ []) key_is)
    by (Some found) there =
        let present : is_some (entry_of name (table_of entries.entries)) ≡ true =
        ap is_some (ap (λ (n : List ℕ). entry_of n (table_of entries.entries)) (sym key_is) ∙ sym (lookup_is_entry key.bytes.items entries.entries) ∙ there) in
        let same : now ≡ entries.entries =
        put ∙ ap (λ (o : Option Entry). insert_entry same_key entries.entries key (unwrap_or o entry)) there ∙ inserted_again key found entries.entries there in
        ap table_of same ∙ row_again (table_of entries.entries) rows i name inside name_is read present
