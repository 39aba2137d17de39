-- How many reads were made of a pack, by what was read of it.
use Rattle.std.proofs.Common.{◌≡◌, ℕ, ◌+◌, ◌≤◌, ◌⊎◌, inl, inr, Bool, true, false, cond, nat_lt, List, length, Option, Some, None, Result, Ok, Err, IfSome, refl, ap, ◌∙◌, arith}
use Rattle.std.specs.Prelude.{option_map, IsOk}
use Rattle.std.specs.Option.{ForSome}
use Rattle.outside_io.specs.Causes.{many_more}
use Rattle.outside_io.specs.Files.{File, bytes_of, length_of}
use Rattle.outside_io.proofs.Counts.{many_more-twice}
use Rattle.pack_files.specs.declared.faults.PackError.{PackError}
use Rattle.pack_files.specs.declared.faults.PackError.TheVariants.{FolderFault, OutOfMemory}
use Rattle.pack_files.specs.Answers.{IfTold, IsHeader, IsAnswer}
use Rattle.pack_files.specs.Packs.{PackTable, fault_of, pack_of}
use Rattle.pack_files.specs.Reads.{Reads, HasRead, header_reads, reads_of, row_reads}

abbrev reads_where : Bool → ℕ
reads_where short = cond short 0 1

-- bytes without a fault have a header
has_header : (bytes : List ℕ) (size : ℕ) → fault_of bytes size ≡ None → header_reads size ≡ 1
has_header bytes size passes = by (nat_lt size 12) refl
  where
    by : (short : Bool) → nat_lt size 12 ≡ short → reads_where short ≡ 1
    by true short = let none = rw short at passes in cc
    by false long = refl

-- and are a pack
is_pack : (bytes header : List ℕ) → IsHeader bytes (Ok header) → IsOk (pack_of bytes)
unfolding pack_of
is_pack bytes header is = rw is.1 refl

all_reads : (bytes header : List ℕ) → IsHeader bytes (Ok header) → reads_of bytes ≡ 2
all_reads bytes header is = rw (has_header bytes (length bytes) is.1, is_pack bytes header is) refl

-- where a folder tells a pack, what follows from a fact of its bytes
told_so : (told : Option (List File)) (name : List ℕ) (P Q : List ℕ → Type 0) → ((bytes : List ℕ) → P bytes → Q bytes) → IfTold told name P → IfTold told name Q
told_so None name P Q so is = tt
told_so (Some files) name P Q so is = by (bytes_of name files) is
  where
    by : (found : Option (List ℕ)) → IfSome found P → IfSome found Q
    by None is = tt
    by (Some bytes) is = so bytes is

sized : (told : Option (List File)) (name : List ℕ) (size : ℕ) → ForSome told (λ files. length_of name files ≡ Some size) → IfTold told name (λ bytes. length bytes ≡ size)
sized None name size is = tt
sized (Some files) name size is = by (bytes_of name files) (is files refl)
  where
    by : (found : Option (List ℕ)) → option_map length found ≡ Some size → IfSome found (λ bytes. length bytes ≡ size)
    by None is = tt
    by (Some bytes) is = cc

-- The header passes, and the rows are not read or have no room.
pub good_answer_lost : (told : Option (List File)) (name header : List ℕ) (error : PackError) → (error ≡ FolderFault) ⊎ (error ≡ OutOfMemory) → IfTold told name (λ bytes. IsHeader bytes (Ok header)) → IfTold told name (λ bytes. IsAnswer (pack_of bytes) (Err error))
good_answer_lost told name header error (inl is) read = rw is (told_so told name (λ bytes. IsHeader bytes (Ok header)) (λ bytes. IsAnswer (pack_of bytes) (Err FolderFault)) (λ bytes there. tt) read)
good_answer_lost told name header error (inr is) read = rw is (told_so told name (λ bytes. IsHeader bytes (Ok header)) (λ bytes. IsAnswer (pack_of bytes) (Err OutOfMemory)) (λ bytes there. is_pack bytes header there) read)

module _ {F : Type 0} (files : F → Option (List File)) (calls : F → ℕ) (name : List ℕ) (size : ℕ) (before : F) where
  -- the header alone was read, or nothing
  pub header_read : (after : F) (error : PackError) → ForSome (files before) (λ all. length_of name all ≡ Some size) → calls after ≡ many_more (header_reads size) (calls before) → HasRead size (header_reads size) (Err error)
      → Reads files calls name size before after (Err error)
  header_read after error there called made = record {
    reads = header_reads size;
    called = called;
    has_read = made;
    needed = told_so (files before) name (λ bytes. length bytes ≡ size) (λ bytes. header_reads size ≤ reads_of bytes) (λ bytes is. rw (← is) (omega arith)) (sized (files before) name size there);
  }

  module _ (mid after : F) (header : List ℕ) (passes : fault_of header size ≡ None) (first : calls mid ≡ many_more (header_reads size) (calls before)) (told : IfTold (files before) name (λ bytes. IsHeader bytes (Ok header))) where
    needs : (reads : ℕ) → reads ≤ 2 → IfTold (files before) name (λ bytes. reads ≤ reads_of bytes)
    needs reads few = told_so (files before) name (λ bytes. IsHeader bytes (Ok header)) (λ bytes. reads ≤ reads_of bytes) (λ bytes is. rw (all_reads bytes header is) few) told

    counted : (more : ℕ) → calls after ≡ many_more more (calls mid) → calls after ≡ many_more (1 + more) (calls before)
    counted more then = then ∙ ap (many_more more) first ∙ many_more-twice (header_reads size) more (calls before) ∙ ap (λ n. many_more (n + more) (calls before)) (has_header header size passes)

    -- the rows were not read
    pub rows_lost : (error : PackError) → (error ≡ FolderFault) ⊎ (error ≡ OutOfMemory) → calls after ≡ many_more (row_reads {T = List ℕ} (Err error)) (calls mid) → Reads files calls name size before after (Err error)
    rows_lost error (inl is) then = rw is (record { reads = 2; called = counted 1 (rw is at then); has_read = (omega arith, omega arith); needed = needs 2 (omega arith) })
    rows_lost error (inr is) then = rw is (record { reads = 1; called = counted 0 (rw is at then); has_read = (omega arith, omega arith); needed = needs 1 (omega arith) })

    -- they were
    pub rows_read : (result : Result PackTable PackError) → HasRead size 2 result → calls after ≡ many_more 1 (calls mid) → Reads files calls name size before after result
    rows_read result made then = record { reads = 2; called = counted 1 then; has_read = made; needed = needs 2 (omega arith) }
