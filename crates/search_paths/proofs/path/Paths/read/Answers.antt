use Rattle.std.proofs.Common.{◌≡◌, ◌<◌, length, map, ap, subst, sym, arith}
use Rattle.std.specs.Prelude.{OnOk}
use Rattle.std.proofs.lemmas.List.{length-map}
use Rattle.search_paths.specs.Answers.{IsFilePart}
use Rattle.search_paths.specs.Kept.{row_of}
use Rattle.search_paths.proofs.Calls.{called_in, written_back, still_path, still_same}
use Rattle.search_paths.proofs.First.{mount_read}
use Rattle.search_paths.proofs.path.Paths.read.Goals as goal

pub returns-clause-filled : goal.returns-clause-filled
returns-clause-filled g c =
    let filled = rw (c.deref_mut.ensures.value, c.bytes.ensures.value) at c.read_from.ensures.filled in
    let mounts = c.self.inside.mounts.items in
    let some = rw (← c.self.view_is) at c.requires.mount in
    let inside : c.args.file.now.mount < length mounts = omega (arith, some, length-map mounts row_of) in
    let mount = mount_read (map g.F.Folder.files c.self.inside.folders.items) mounts c.args.file.now.mount c.index-mounted.result.now inside c.index-mounted.ensures in
    rw (← c.self.view_is) (subst (λ m. OnOk c.read_from.result (IsFilePart c.args.name.now c.args.at c.read_from.new.into m)) (sym mount) filled)

pub returns-clause-asked : goal.returns-clause-asked
returns-clause-asked g c =
    let folders = c.self.inside.folders.items in
    let mounts = c.self.inside.mounts.items in
    let some = rw (← c.self.view_is) at c.requires.mount in
    let inside : c.args.file.now.mount < length mounts = omega (arith, some, length-map mounts row_of) in
    let whole : c.self.inside.folders.len ≡ length folders = omega arith in
    let same : length c.read_from.new.folders ≡ length folders = omega (arith, c.read_from.auto.folders, ap length c.deref_mut.ensures.value) in
    rw (← c.self.view_is, written_back c.self.inside.folders.len c.read_from.new.folders folders whole same)
    (called_in g.F.Folder.folder_calls _ _ mounts c.args.file.now.mount c.index-mounted.result.now c.index-mounted.ensures inside (rw c.deref_mut.ensures.value at c.read_from.ensures.asked))

pub returns-clause-same : goal.returns-clause-same
returns-clause-same g c =
    let folders = c.self.inside.folders.items in
    let whole : c.self.inside.folders.len ≡ length folders = omega arith in
    let same : length c.read_from.new.folders ≡ length folders = omega (arith, c.read_from.auto.folders, ap length c.deref_mut.ensures.value) in
    rw (← c.self.view_is, written_back c.self.inside.folders.len c.read_from.new.folders folders whole same)
    (still_same g.F.Folder.files folders c.read_from.new.folders c.self.inside.mounts.items (rw c.deref_mut.ensures.value at c.read_from.ensures.told))

pub invariant_of-self : goal.invariant_of-self
invariant_of-self g c =
    let folders = c.self.inside.folders.items in
    let whole : c.self.inside.folders.len ≡ length folders = omega arith in
    let same : length c.read_from.new.folders ≡ length folders = omega (arith, c.read_from.auto.folders, ap length c.deref_mut.ensures.value) in
    rw (written_back c.self.inside.folders.len c.read_from.new.folders folders whole same)
    (still_path g.F.Folder.files folders c.read_from.new.folders c.self.inside.mounts.items (rw c.deref_mut.ensures.value at c.read_from.ensures.told) c.self.inside.filters.items c.self.invariant)
