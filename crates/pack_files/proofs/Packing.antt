-- What is answered for a pack, by what was read of it.
use Rattle.std.proofs.Common.{◌≡◌, ℕ, ◌+◌, ◌*◌, ◌/◌, List, length, take, map, Option, Some, None, IfSome, Ok, Err, refl, sym, ap, ◌∙◌, lit≤, arith}
use Rattle.std.specs.Prelude.{slice_range, option_map}
use Rattle.std.specs.Option.{ForSome}
use Rattle.std.specs.Simd.{first_chunks}
use Rattle.base_fields.proofs.FieldLaws.{u32_in-part}
use Rattle.outside_io.specs.Files.{File, bytes_of, length_of}
use Rattle.pack_files.specs.declared.faults.PackFault.{PackFault}
use Rattle.pack_files.specs.declared.faults.PackError.{PackError}
use Rattle.pack_files.specs.declared.faults.PackError.TheVariants.{Bad, FolderFault, OutOfMemory}
use Rattle.pack_files.specs.Packs.{Row, PackTable, row_of, rows_of, first_rows, directory_at, count_of, directory_of, fault_of, unless, entry_of, pack_of}
use Rattle.pack_files.specs.Answers.{IsHeader, IsAnswer}
use Rattle.pack_files.proofs.Tables.{entry_of-first_rows}

-- a fault of the header is that of the pack
bad_bytes : (bytes : List ℕ) (error : PackError) → IsHeader bytes (Err error) → IsAnswer (pack_of bytes) (Err error)
unfolding pack_of
bad_bytes bytes (Bad fault) is = rw is
bad_bytes bytes FolderFault is = tt
bad_bytes bytes OutOfMemory is = absurd is

bad_file : (file : Option (List ℕ)) (error : PackError) → IfSome file (λ bytes. IsHeader bytes (Err error)) → IfSome file (λ bytes. IsAnswer (pack_of bytes) (Err error))
bad_file None error is = tt
bad_file (Some bytes) error is = bad_bytes bytes error is

pub bad_answer : (told : Option (List File)) (name : List ℕ) (error : PackError) → IfSome told (λ files. IfSome (bytes_of name files) (λ bytes. IsHeader bytes (Err error))) → IfSome told (λ files. IfSome (bytes_of name files) (λ bytes. IsAnswer (pack_of bytes) (Err error)))
bad_answer None name error is = tt
bad_answer (Some files) name error is = bad_file (bytes_of name files) error is

-- the table of a pack that was read
abbrev pub table : List Row → ℕ → ℕ → PackTable
table rows count whole = record { rows = rows; count = count; whole = whole }

good_bytes : (bytes header read : List ℕ) (rows : List Row) (n : ℕ) → header ≡ take 12 bytes → fault_of bytes (length bytes) ≡ None → length bytes ≡ n → read ≡ directory_of header bytes → length read ≡ 64 * count_of header → rows ≡ first_rows (map row_of (first_chunks 64 (length read / 64) read)) → pack_of bytes ≡ Ok (table rows (count_of header) n)
unfolding pack_of
good_bytes bytes header read rows n front passes whole part sized made =
    let place : directory_at header ≡ directory_at bytes = ap directory_at front ∙ u32_in-part bytes 0 12 4 (lit≤ tt) in
    let count : count_of header ≡ count_of bytes = ap count_of front ∙ ap (λ size. size / 64) (u32_in-part bytes 0 12 8 (lit≤ tt)) in
    let number : length read / 64 ≡ count_of bytes = omega (arith, sized, count) in
    let all : read ≡ directory_of bytes bytes =
    part ∙ ap (λ p. slice_range bytes p (p + 64 * count_of header)) place ∙ ap (λ k. slice_range bytes (directory_at bytes) (directory_at bytes + 64 * k)) count in
    let chunks : first_chunks 64 (length read / 64) read ≡ first_chunks 64 (count_of bytes) (directory_of bytes bytes) =
    ap (λ k. first_chunks 64 k read) number ∙ ap (first_chunks 64 (count_of bytes)) all in
    let rows_are : rows ≡ first_rows (rows_of bytes) = made ∙ ap (λ c. first_rows (map row_of c)) chunks in
    ap (λ fault. unless fault (table (first_rows (rows_of bytes)) (count_of bytes) (length bytes))) passes
    ∙ ap (λ r. Ok (table r (count_of bytes) (length bytes))) (sym rows_are)
    ∙ ap (λ k. Ok (table rows k (length bytes))) (sym count)
    ∙ ap (λ w. Ok (table rows (count_of header) w)) whole

good_file : (file : Option (List ℕ)) (header read : List ℕ) (rows : List Row) (n : ℕ) → option_map length file ≡ Some n → IfSome file (λ bytes. IsHeader bytes (Ok header)) → IfSome file (λ bytes. read ≡ directory_of header bytes) → length read ≡ 64 * count_of header → rows ≡ first_rows (map row_of (first_chunks 64 (length read / 64) read)) → IfSome file (λ bytes. IsAnswer (pack_of bytes) (Ok (table rows (count_of header) n)))
good_file None header read rows n whole is part sized made = tt
good_file (Some bytes) header read rows n whole is part sized made = good_bytes bytes header read rows n is.0 is.1 (cc (whole)) part sized made

pub good_answer : (told : Option (List File)) (name header read : List ℕ) (rows : List Row) (n : ℕ) → ForSome told (λ files. length_of name files ≡ Some n) → IfSome told (λ files. IfSome (bytes_of name files) (λ bytes. IsHeader bytes (Ok header))) → IfSome told (λ files. IfSome (bytes_of name files) (λ bytes. read ≡ directory_of header bytes)) → length read ≡ 64 * count_of header → rows ≡ first_rows (map row_of (first_chunks 64 (length read / 64) read))
    → IfSome told (λ files. IfSome (bytes_of name files) (λ bytes. IsAnswer (pack_of bytes) (Ok (table rows (count_of header) n))))
good_answer None name header read rows n whole is part sized made = tt
good_answer (Some files) name header read rows n whole is part sized made = good_file (bytes_of name files) header read rows n (whole files refl) is part sized made

-- bytes that are a pack have no fault, and this is their table
pub record Packed (bytes : List ℕ) (is : PackTable) : Type 0 where
  pub passes : fault_of bytes (length bytes) ≡ None
  pub rows : is.rows ≡ first_rows (rows_of bytes)
  pub count : is.count ≡ count_of bytes
  pub whole : is.whole ≡ length bytes

pub packed : (bytes : List ℕ) (is : PackTable) → pack_of bytes ≡ Ok is → Packed bytes is
unfolding pack_of
packed bytes is same = by (fault_of bytes (length bytes)) refl same
  where
    by : (fault : Option PackFault) → fault_of bytes (length bytes) ≡ fault → unless fault (table (first_rows (rows_of bytes)) (count_of bytes) (length bytes)) ≡ Ok is → Packed bytes is
    by None none ok =
        let made : table (first_rows (rows_of bytes)) (count_of bytes) (length bytes) ≡ is = cc in
        record { passes = none; rows = ap (λ (t : PackTable). t.rows) (sym made); count = ap (λ (t : PackTable). t.count) (sym made); whole = ap (λ (t : PackTable). t.whole) (sym made) }
    by (Some fault) some ok = absurd (cc)

-- a look-up in the table of a pack finds the first entry of the name among all
pub entry_of-packed : (bytes name : List ℕ) (is : PackTable) → pack_of bytes ≡ Ok is → entry_of name is.rows ≡ entry_of name (rows_of bytes)
entry_of-packed bytes name is same = ap (entry_of name) (packed bytes is same).rows ∙ entry_of-first_rows name (rows_of bytes)
