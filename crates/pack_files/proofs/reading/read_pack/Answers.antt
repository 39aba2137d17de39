use Rattle.std.proofs.Common.{◌/◌, length, map, IfSome, Ok, refl, inr, sym, ap, subst, ◌∙◌, arith}
use Rattle.std.specs.Simd.{first_chunks}
use Rattle.std.proofs.lemmas.Result.{err_from_is_err_and}
use Rattle.outside_io.specs.Files.{bytes_of}
use Rattle.pack_files.specs.Packs.{row_of, first_rows, table_of, pack_of}
use Rattle.pack_files.specs.Answers.{IsAnswer}
use Rattle.pack_files.proofs.Packing.{table, bad_answer, good_answer}
use Rattle.pack_files.proofs.Counting.{good_answer_lost, header_read, rows_lost, rows_read}
use Rattle.pack_files.proofs.reading.read_pack.Goals as goal

pub returns-in_err-header-clause-told : goal.returns-in_err-header-clause-told
returns-in_err-header-clause-told g c =
    let p = err_from_is_err_and c.from_residual.result c.from_residual.ensures.1 in
    rw (p.1, p.2) (bad_answer (g.F.Folder.files c.args.folder.now) c.args.name.now c.in_err-header.field-0.0 c.in_err-header.ensures.told)

pub returns-in-Ok-clause-told : goal.returns-in-Ok-clause-told
returns-in-Ok-clause-told g c =
    let told = g.F.Folder.files c.args.folder.now in
    let read = c.in_ok-bytes.bytes.items in
    let rows = table_of c.in-Ok.entries.entries in
    let part = rw c.in_ok-header.ensures.same at c.in_ok-bytes.ensures.told in
    let sized = ap length (sym c.deref.ensures.value) ∙ c.deref.ensures.len ∙ c.in_ok-bytes.ensures.sized in
    let made =
    c.in-Ok.ensures
    ∙ ap (λ chunks. first_rows (map row_of chunks)) c.as_chunks.ensures.front
    ∙ ap (λ bytes. first_rows (map row_of (first_chunks 64 (length bytes / 64) bytes))) c.deref.ensures.value in
    subst (λ count. IfSome told (λ files. IfSome (bytes_of c.args.name.now files) (λ bytes. IsAnswer (pack_of bytes) (Ok (table rows count c.args.length))))) (sym c.row_count.ensures)
    (good_answer told c.args.name.now c.in_ok-header.header read rows c.args.length c.requires c.in_ok-header.ensures.told part sized made)

pub returns-in_err-header-clause-reads : goal.returns-in_err-header-clause-reads
returns-in_err-header-clause-reads g c =
    let p = err_from_is_err_and c.from_residual.result c.from_residual.ensures.1 in
    rw (p.1, p.2) (header_read g.F.Folder.files g.F.Folder.folder_calls c.args.name.now c.args.length c.args.folder.now _ c.in_err-header.field-0.0 c.requires c.in_err-header.ensures.calls c.in_err-header.ensures.read)

pub returns-in_err-bytes-clause-told : goal.returns-in_err-bytes-clause-told
returns-in_err-bytes-clause-told g c =
    let p = err_from_is_err_and c.from_residual-in_err-bytes.result c.from_residual-in_err-bytes.ensures.1 in
    rw (p.1, p.2) (good_answer_lost (g.F.Folder.files c.args.folder.now) c.args.name.now c.in_ok-header.header c.in_err-bytes.field-0.0 c.in_err-bytes.ensures.error c.in_ok-header.ensures.told)

pub returns-in_err-bytes-clause-reads : goal.returns-in_err-bytes-clause-reads
returns-in_err-bytes-clause-reads g c =
    let p = err_from_is_err_and c.from_residual-in_err-bytes.result c.from_residual-in_err-bytes.ensures.1 in
    rw (p.1, p.2) (rows_lost g.F.Folder.files g.F.Folder.folder_calls c.args.name.now c.args.length c.args.folder.now _ _ c.in_ok-header.header c.in_ok-header.ensures.passes c.in_ok-header.ensures.calls c.in_ok-header.ensures.told
    c.in_err-bytes.field-0.0 c.in_err-bytes.ensures.error c.in_err-bytes.ensures.calls)

pub returns-in-Ok-clause-reads : goal.returns-in-Ok-clause-reads
returns-in-Ok-clause-reads g c =
    rows_read g.F.Folder.files g.F.Folder.folder_calls c.args.name.now c.args.length c.args.folder.now _ _ c.in_ok-header.header c.in_ok-header.ensures.passes c.in_ok-header.ensures.calls c.in_ok-header.ensures.told
    _ refl c.in_ok-bytes.ensures.calls

pub returns-clause-told : goal.returns-clause-told
returns-clause-told g c = good_answer_lost (g.F.Folder.files c.args.folder.now) c.args.name.now c.in_ok-header.header _ (inr refl) c.in_ok-header.ensures.told

pub returns-clause-reads : goal.returns-clause-reads
returns-clause-reads g c =
    rows_read g.F.Folder.files g.F.Folder.folder_calls c.args.name.now c.args.length c.args.folder.now _ _ c.in_ok-header.header c.in_ok-header.ensures.passes c.in_ok-header.ensures.calls c.in_ok-header.ensures.told
    _ (omega arith, omega arith) c.in_ok-bytes.ensures.calls
