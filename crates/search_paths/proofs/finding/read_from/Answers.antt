use Rattle.std.proofs.Common.{◌≡◌, ◌+◌, ◌≤◌, map, length, subst, sym, Result, Ok, Err, arith}
use Rattle.std.specs.Prelude.{OnOk, IfSome}
use Rattle.std.specs.Option.{ForSome}
use Rattle.outside_io.specs.Files.{HasRange, IsPartOf}
use Rattle.search_paths.specs.Kept.{told_at, IsDirectory}
use Rattle.search_paths.specs.Mounts.{pack_name}
use Rattle.search_paths.proofs.Ranges.{folder_range, folder_part, pack_range, pack_part}
use Rattle.search_paths.proofs.finding.read_from.Goals as goal

on_ok : {T E P Q : Type 0} (result : Result T E) → (P → Q) → OnOk result P → OnOk result Q
on_ok (Ok value) follows is = follows is
on_ok (Err error) follows is = tt

pub read_in-requires-clause-range : goal.read_in-requires-clause-range
read_in-requires-clause-range g c =
    let there = rw c.in-Folder.is at c.requires.there in
    folder_range c.args.name.now c.args.file.now c.args.at c.requires.within (length c.args.into.now) c.requires.range (map g.F.Folder.files c.args.folders.now) c.in-Folder.folder there

pub returns-in-Folder-clause-filled : goal.returns-in-Folder-clause-filled
returns-in-Folder-clause-filled g c =
    let there = rw c.in-Folder.is at c.requires.there in
    let range : c.args.at + length c.read_in.new.into ≤ c.args.file.now.length = omega (arith, c.requires.range, c.read_in.auto.into) in
    rw c.in-Folder.is (on_ok c.read_in.result (folder_part c.args.name.now c.args.file.now c.args.at c.requires.within c.read_in.new.into range (map g.F.Folder.files c.args.folders.now) c.in-Folder.folder there) c.read_in.ensures.filled)

pub read_in-requires-in-Pack-clause-range : goal.read_in-requires-in-Pack-clause-range
read_in-requires-in-Pack-clause-range g c =
    let there = rw c.in-Pack.is at c.requires.there in
    let read = subst (λ m. IsDirectory (map g.F.Folder.files c.args.folders.now) m) c.in-Pack.is c.requires.read in
    let name : c.as_bytes.result.now ≡ pack_name c.in-Pack.pack = cc in
    subst (λ n. ForSome (told_at c.in-Pack.folder (map g.F.Folder.files c.args.folders.now)) (HasRange n (c.args.file.now.offset + c.args.at) (length c.args.into.now))) (sym name)
    (pack_range c.args.name.now c.args.file.now c.args.at c.requires.within c.in-Pack.folder c.in-Pack.pack c.in-Pack.directory (length c.args.into.now) c.requires.range (map g.F.Folder.files c.args.folders.now) read there)

pub returns-in-Pack-clause-filled : goal.returns-in-Pack-clause-filled
returns-in-Pack-clause-filled g c =
    let there = rw c.in-Pack.is at c.requires.there in
    let range : c.args.at + length c.read_in-in-Pack.new.into ≤ c.args.file.now.length = omega (arith, c.requires.range, c.read_in-in-Pack.auto.into) in
    let name : c.as_bytes.result.now ≡ pack_name c.in-Pack.pack = cc in
    let filled = subst (λ n. OnOk c.read_in-in-Pack.result (IfSome (told_at c.in-Pack.folder (map g.F.Folder.files c.args.folders.now)) (IsPartOf n (c.args.file.now.offset + c.args.at) c.read_in-in-Pack.new.into))) name c.read_in-in-Pack.ensures.filled in
    rw c.in-Pack.is (on_ok c.read_in-in-Pack.result (pack_part c.args.name.now c.args.file.now c.args.at c.requires.within c.in-Pack.folder c.in-Pack.pack c.in-Pack.directory c.read_in-in-Pack.new.into range (map g.F.Folder.files c.args.folders.now) there) filled)
