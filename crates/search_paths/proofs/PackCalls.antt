-- The calls for the packs of a folder.
use Rattle.std.proofs.Common.{◌≡◌, ◌≢◌, ◌==◌, ℕ, ◌+◌, ◌-◌, ◌*◌, ◌<◌, ◌≤◌, ◌++◌, ◌⊎◌, inl, inr, List, length, reverse, Option, Some, None, Result, Ok, Err, IfSome, OnOk, refl, sym, ap, ◌∙◌, subst, arith}
use Rattle.std.specs.Prelude.{option_map, if◌then◌else◌, IfErr, IsOk, IsSomeAnd}
use Rattle.std.proofs.lemmas.Bool.{cases_eq}
use Rattle.std.proofs.lemmas.Bool.Decides.{nat_tests}
use Rattle.std.proofs.lemmas.List.{length-append, length-map, length-reverse}
use Rattle.outside_io.specs.Causes.{one_more, many_more}
use Rattle.outside_io.specs.Files.{File, bytes_of, length_of}
use Rattle.outside_io.proofs.Counts.{many_more-none, many_more-twice}
use Rattle.pack_files.specs.declared.faults.PackFault.{PackFault}
use Rattle.pack_files.specs.declared.faults.PackError.{PackError}
use Rattle.pack_files.specs.declared.faults.PackError.TheVariants as read
use Rattle.pack_files.specs.Answers.{IfTold, IsAnswer}
use Rattle.pack_files.specs.Packs.{PackTable, pack_of}
use Rattle.pack_files.specs.Reads.{Reads, header_reads, reads_of}
use Rattle.search_paths.specs.declared.answers.MountError.{MountError}
use Rattle.search_paths.specs.declared.answers.MountError.TheVariants as error
use Rattle.search_paths.specs.declared.mounted.Mounted.{Mounted}
use Rattle.search_paths.specs.Calls.{AreTaken, calls_for, AreNeeded, Asks, AsksPack}
use Rattle.search_paths.specs.Kept.{row_of}
use Rattle.search_paths.specs.Mounts.{pack_name}
use Rattle.search_paths.proofs.AddedFolder.{length_packs}
use Rattle.search_paths.proofs.OwnMounts.{AreListed}

-- the calls for a pack that is there
needs : (told : Option (List File)) (name : List ℕ) (size reads : ℕ) → IfSome told (λ files. Some size ≡ length_of name files) → IfTold told name (λ bytes. reads ≤ reads_of bytes) → IfSome told (λ files. 1 + reads ≤ calls_for (bytes_of name files))
needs None name size reads there few = tt
needs (Some files) name size reads there few = by (bytes_of name files) there few
  where
    by : (found : Option (List ℕ)) → Some size ≡ option_map length found → IfSome found (λ bytes. reads ≤ reads_of bytes) → 1 + reads ≤ calls_for found
    by None is few = cc
    by (Some bytes) is few = omega arith

bad_reads : (bytes : List ℕ) (fault : PackFault) → pack_of bytes ≡ Err fault → reads_of bytes ≡ header_reads (length bytes)
bad_reads bytes fault is = rw is (omega arith)

needs_bad : (told : Option (List File)) (name : List ℕ) (size : ℕ) (fault : PackFault) → IfSome told (λ files. Some size ≡ length_of name files) → IfTold told name (λ bytes. IsAnswer (pack_of bytes) (Err (read.Bad fault))) → IfSome told (λ files. 1 + header_reads size ≡ calls_for (bytes_of name files))
needs_bad None name size fault there bad = tt
needs_bad (Some files) name size fault there bad = by (bytes_of name files) there bad
  where
    by : (found : Option (List ℕ)) → Some size ≡ option_map length found → IfSome found (λ bytes. IsAnswer (pack_of bytes) (Err (read.Bad fault))) → 1 + header_reads size ≡ calls_for found
    by None is bad = cc
    by (Some bytes) is bad = let same : size ≡ length bytes = cc (is) in ap (λ n. 1 + n) (ap header_reads same ∙ sym (bad_reads bytes fault bad))

few_headers : (size : ℕ) → header_reads size ≤ 1
few_headers size = grind (arith, nat_tests)

-- What was asked for one pack whose length was told, and which was not taken.
module _ {F : Type 0} (files : F → Option (List File)) (calls : F → ℕ) (pack number size : ℕ) (few : pack < 32) (before mid after : F) (first : calls mid ≡ one_more (calls before)) (same : files mid ≡ files before)
    (there : IfSome (files before) (λ all. Some size ≡ length_of (pack_name pack) all)) where
  abbrev Read : PackError → Type 0
  Read fault = Reads files calls (pack_name pack) size mid after (Err fault)

  counted : (reads : ℕ) → calls after ≡ many_more reads (calls mid) → calls after ≡ many_more (1 + reads) (calls before)
  counted reads called = called ∙ ap (many_more reads) first ∙ many_more-twice 1 reads (calls before)

  need : (reads : ℕ) → IfTold (files mid) (pack_name pack) (λ bytes. reads ≤ reads_of bytes) → IfSome (files before) (λ all. 1 + reads ≤ calls_for (bytes_of (pack_name pack) all))
  need reads few_reads = needs (files before) (pack_name pack) size reads there (subst (λ told. IfTold told (pack_name pack) (λ bytes. reads ≤ reads_of bytes)) same few_reads)

  pub asks_bad : {T : Type 0} → (fault : PackFault) → Read (read.Bad fault) → IfTold (files before) (pack_name pack) (λ bytes. IsAnswer (pack_of bytes) (Err (read.Bad fault)))
      → AsksPack {T = T} files calls pack before after (Err (error.BadPack number pack fault))
  asks_bad fault did bad = record {
    next = 1 + did.reads;
    called = counted did.reads did.called;
    stops = (refl, omega arith, omega (arith, did.has_read, few_headers size));
    needed = rw did.has_read (needs_bad (files before) (pack_name pack) size fault there bad);
  }

  pub asks_unread : {T : Type 0} → Read read.FolderFault → AsksPack {T = T} files calls pack before after (Err (error.FolderFault number))
  asks_unread did = record { next = 1 + did.reads; called = counted did.reads did.called; stops = (few, omega arith, omega (arith, did.has_read.1)); needed = need did.reads did.needed }

  pub asks_short : {T : Type 0} → Read read.OutOfMemory → AsksPack {T = T} files calls pack before after (Err error.OutOfMemory)
  asks_short did = record { next = 1 + did.reads; called = counted did.reads did.called; stops = (omega arith, omega (arith, did.has_read.1)); needed = need did.reads did.needed }

-- the packs that are taken, and one more
none_taken : (files : List File) → AreTaken 0 files
none_taken files pack low = absurd (omega arith)

taken_more : (pack : ℕ) (files : List File) (directory : PackTable) → option_map pack_of (bytes_of (pack_name pack) files) ≡ Some (Ok directory) → AreTaken pack files → AreTaken (pack + 1) files
taken_more pack files directory found taken number low = by (cases_eq number pack)
  where
    last : (bytes : Option (List ℕ)) → option_map pack_of bytes ≡ Some (Ok directory) → IsSomeAnd bytes (λ b. IsOk (pack_of b))
    last None is = cc
    last (Some bytes) is = let ok : pack_of bytes ≡ Ok directory = cc in rw ok refl

    by : (number ≡ pack) ⊎ (number ≢ pack) → IsSomeAnd (bytes_of (pack_name number) files) (λ bytes. IsOk (pack_of bytes))
    by (inl is) = rw is (last (bytes_of (pack_name pack) files) found)
    by (inr other) = taken number (omega arith)

pub none_taken_told : (told : Option (List File)) → IfSome told (AreTaken 0)
none_taken_told None = tt
none_taken_told (Some files) = none_taken files

pub more_taken_told : (pack : ℕ) (told : Option (List File)) (directory : PackTable) → IfSome told (λ files. option_map pack_of (bytes_of (pack_name pack) files) ≡ Some (Ok directory)) → IfSome told (AreTaken pack) → IfSome told (AreTaken (pack + 1))
more_taken_told pack None directory found taken = tt
more_taken_told pack (Some files) directory found taken = taken_more pack files directory found taken

-- each pack takes a call at least
one_at_least : (found : Option (List ℕ)) → 1 ≤ calls_for found
one_at_least None = omega arith
one_at_least (Some bytes) = omega arith

always : {X : Type 0} (told : Option X) (P : X → Type 0) → ((x : X) → P x) → IfSome told P
always None P is = tt
always (Some x) P is = is x

-- the calls for the pack that is missing, unless no more are taken
abbrev calls_at_end : ℕ → ℕ
calls_at_end mounted = if mounted == 32 then 0 else 1

few_at_end : (mounted : ℕ) → calls_at_end mounted ≤ 1
few_at_end mounted = grind (arith, nat_tests)

one_last : (pack : ℕ) → pack < 32 → 1 ≡ calls_at_end pack
one_last pack few = grind (arith, nat_tests)

-- a folder has a mount more than packs
as_many : (folder pack : ℕ) (mounts : List Mounted) → AreListed folder pack mounts → length mounts ≡ pack + 1
as_many folder pack mounts listed = omega (arith, ap length listed.2, length-map mounts row_of, length_packs folder 0 listed.0, listed.1)

-- What was asked for all.
module _ {F : Type 0} (files : F → Option (List File)) (calls : F → ℕ) (before mid after : F) (pack : ℕ) (same : files mid ≡ files before) (so_far : calls mid ≡ many_more (3 * pack) (calls before)) where
  counted_all : (next : ℕ) → calls after ≡ many_more next (calls mid) → calls after ≡ many_more (3 * pack + next) (calls before)
  counted_all next called = called ∙ ap (many_more next) so_far ∙ many_more-twice (3 * pack) next (calls before)

  -- one more pack is taken
  pub asks_more : {T : Type 0} (directory : T) → AsksPack files calls pack mid after (Ok (Some directory)) → calls after ≡ many_more (3 * (pack + 1)) (calls before)
  asks_more directory did =
      let three : 3 * pack + did.next ≡ 3 * (pack + 1) = omega (arith, did.stops) in
      counted_all did.next did.called ∙ ap (λ n. many_more n (calls before)) three

  -- all calls were for packs that are taken, and memory is wanting
  pub asks_short_of_memory : pack ≤ 32 → IfSome (files before) (AreTaken pack) → calls after ≡ calls mid → Asks files calls 0 before after (Err error.OutOfMemory)
  asks_short_of_memory few taken called = record {
    taken = pack;
    next = 0;
    called = counted_all 0 (called ∙ sym (many_more-none (calls mid)));
    stops = (few, omega arith);
    good = taken;
    needed = always (files before) (λ all. 0 ≤ calls_for (bytes_of (pack_name pack) all)) (λ all. omega arith);
  }

  module _ (taken : IfSome (files before) (AreTaken pack)) where
    -- the next pack ends it
    pub asks_stopped : {T : Type 0} (fault : MountError) → AsksPack {T = T} files calls pack mid after (Err fault) → Asks files calls 0 before after (Err fault)
    asks_stopped fault did = record {
      taken = pack;
      next = did.next;
      called = counted_all did.next did.called;
      stops = did.stops;
      good = taken;
      needed = subst (λ told. IfSome told (λ all. AreNeeded did.next (calls_for (bytes_of (pack_name pack) all)) (Err fault))) same did.needed;
    }

    ended : (mounted next : ℕ) → pack ≡ mounted → next ≤ 1 → next ≡ calls_at_end pack → calls after ≡ many_more next (calls mid) → Asks files calls mounted before after (Ok tt)
    ended mounted next is few last called = record {
      taken = pack;
      next = next;
      called = counted_all next called;
      stops = (is, last ∙ ap calls_at_end is);
      good = taken;
      needed = always (files before) (λ all. next ≤ calls_for (bytes_of (pack_name pack) all)) (λ all. omega (arith, one_at_least (bytes_of (pack_name pack) all)));
    }

    -- it is missing
    pub asks_ended : {T : Type 0} (number : ℕ) (mounts : List Mounted) → pack < 32 → AreListed number pack mounts → AsksPack {T = T} files calls pack mid after (Ok None) → Asks files calls (length mounts - 1) before after (Ok tt)
    asks_ended number mounts few listed did = ended (length mounts - 1) did.next (omega (arith, as_many number pack mounts listed)) (omega (arith, did.stops)) (did.stops ∙ one_last pack few) did.called

    -- or no more are taken
    pub asks_all : (number : ℕ) (mounts : List Mounted) → pack ≡ 32 → AreListed number pack mounts → calls after ≡ calls mid → Asks files calls (length mounts - 1) before after (Ok tt)
    asks_all number mounts full listed called = ended (length mounts - 1) 0 (omega (arith, as_many number pack mounts listed)) (omega arith) (sym (ap calls_at_end full)) (called ∙ sym (many_more-none (calls mid)))

-- The mounts are put in front of the path, or memory is wanting.
pub asks_put : {F : Type 0} (files : F → Option (List File)) (calls : F → ℕ) (before after : F) (result : Result (Unit {0}) MountError) (new own mounts : List Mounted) → Asks files calls (length own - 1) before after (Ok tt) → length own ≤ 33
    → OnOk result (new ≡ reverse own ++ mounts) → IfErr result (λ fault. fault ≡ error.OutOfMemory) → Asks files calls (length new - (length mounts + 1)) before after result
asks_put files calls before after (Ok done) new own mounts asks few front memory =
    let same : length own - 1 ≡ length new - (length mounts + 1) = omega (arith, ap length front, length-append (reverse own) mounts, length-reverse own) in
    subst (λ n. Asks files calls n before after (Ok tt)) same asks
asks_put files calls before after (Err fault) new own mounts asks few front memory =
    rw memory (record { taken = asks.taken; next = asks.next; called = asks.called; stops = (omega (arith, asks.stops), omega (arith, few_at_end (length own - 1), asks.stops)); good = asks.good; needed = asks.needed })
