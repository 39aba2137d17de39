use Rattle.std.proofs.Common.{◌≡◌, All, ap, ◌∙◌, List, ℕ, rules, length-append, ◌+◌, ◌*◌, ◌<◌, ◌++◌, ◌∷◌, [], length, map, refl, subst, sym, arith, inr}
use Rattle.std.proofs.lemmas.List.{length-map}
use Rattle.search_paths.specs.Kept.{folder_of, IsDirectory, IsFiltered}
use Rattle.std.specs.Prelude.{IsOk}
use Rattle.pack_files.specs.declared.filter.Filter.{Filter}
use Rattle.search_paths.proofs.Filters.{filters_before, filters_own}
use Rattle.search_paths.proofs.AddedFolder.{told_now, folders_told, folders_before, folders_own, directories_before, directories_own, front_or_before, few_own, few_in_front, as_before, as_before_where, mounted_told}
use Rattle.search_paths.proofs.PackCalls.{asks_put}
use Rattle.search_paths.proofs.path.Paths.mount.Goals as goal

pub invariant_of-self : goal.invariant_of-self
invariant_of-self g c = rw c.in_default-reserve.ensures.items c.self.invariant

pub invariant_of-self-in-Err : goal.invariant_of-self-in-Err
invariant_of-self-in-Err g c =
    let files = g.F.Folder.files in
    let held = c.self.inside.folders in
    let mounts = c.self.inside.mounts.items in
    let told = map files held.items in
    let now = told_now files held.items c.push.new.self.items c.read_mounts-read.new.folder c.in-Ok-push.ensures.items in
    let before = folders_told files held.items (length held.items) mounts refl c.self.invariant.inside in
    let some = rw (← c.self.view_is) at c.requires in
    let size : length c.push.new.self.items ≡ length held.items + 1 = omega (arith, c.in-Ok-push.ensures.len, c.push.new.self.ok.0, held.ok.0) in
    let filters = c.self.inside.filters.items in
    let filter = c.read_mounts-read.new.filter in
    let pushed : IsOk c.push-2.result = search rules in
    let kept_are : c.reserve.new.self.items ≡ filters = c.in-Ok-reserve.ensures.items in
    let more : c.push-2.new.self.items ≡ filters ++ filter ∷ [] = (rw pushed at c.push-2.ensures.items) ∙ ap (λ (l : List Filter). l ++ filter ∷ []) kept_are in
    record {
      most = omega (arith, some, size);
      few = omega (arith, c.self.invariant.few, size);
      inside = folders_before (length held.items) (length c.push.new.self.items) mounts (omega (arith, size)) c.self.invariant.inside;
      read = rw now (directories_before told (files c.read_mounts-read.new.folder) mounts before c.self.invariant.read);
      one_each = omega (arith, size, c.self.invariant.one_each, length-append filters (filter ∷ []), ap length more);
      filtered = rw more (filters_before filters filter mounts (subst (λ (n : ℕ). All (λ mounted. folder_of mounted < n) mounts) (sym c.self.invariant.one_each) c.self.invariant.inside) c.self.invariant.filtered);
    }

pub invariant_of-self-in-Ok-read : goal.invariant_of-self-in-Ok-read
invariant_of-self-in-Ok-read g c =
    let files = g.F.Folder.files in
    let held = c.self.inside.folders in
    let mounts = c.self.inside.mounts.items in
    let own = c.in-Ok-read.own.items in
    let told = map files held.items in
    let last = files c.args.folder in
    let now = rw c.in-Ok-read.ensures.same at (told_now files held.items c.push.new.self.items c.read_mounts-read.new.folder c.in-Ok-push.ensures.items) in
    let before = folders_told files held.items (length held.items) mounts refl c.self.invariant.inside in
    let front = c.put_in_front.ensures.front in
    let same = c.put_in_front.ensures.same in
    let few = few_in_front c.put_in_front.result (33 * length held.items) c.put_in_front.new.mounts.items own mounts front same (few_own c.len.result own c.in-Ok-read.ensures.rows) c.self.invariant.few in
    let some = rw (← c.self.view_is) at c.requires in
    let size : length c.push.new.self.items ≡ length held.items + 1 = omega (arith, c.in-Ok-push.ensures.len, c.push.new.self.ok.0, held.ok.0) in
    let number : c.len.result ≡ length held.items = omega (arith, held.ok.0) in
    let filters = c.self.inside.filters.items in
    let filter = c.read_mounts-read.new.filter in
    let pushed : IsOk c.push-2.result = search rules in
    let kept_are : c.reserve.new.self.items ≡ filters = c.in-Ok-reserve.ensures.items in
    let more : c.push-2.new.self.items ≡ filters ++ filter ∷ [] = (rw pushed at c.push-2.ensures.items) ∙ ap (λ (l : List Filter). l ++ filter ∷ []) kept_are in
    record {
      most = omega (arith, some, size);
      few = omega (arith, few, size);
      inside = front_or_before c.put_in_front.result (λ mounted. folder_of mounted < length c.push.new.self.items) c.put_in_front.new.mounts.items own mounts front same
          (folders_own c.len.result (length c.push.new.self.items) last own (omega (arith, number, size)) c.in-Ok-read.ensures.own)
          (folders_before (length held.items) (length c.push.new.self.items) mounts (omega (arith, size)) c.self.invariant.inside);
      read = rw now (front_or_before c.put_in_front.result (IsDirectory (told ++ last ∷ [])) c.put_in_front.new.mounts.items own mounts front same
          (directories_own told last c.len.result own (omega (arith, number, length-map held.items files)) c.in-Ok-read.ensures.own) (directories_before told last mounts before c.self.invariant.read));
      one_each = omega (arith, size, c.self.invariant.one_each, length-append filters (filter ∷ []), ap length more);
      filtered = rw more (front_or_before c.put_in_front.result (IsFiltered (filters ++ filter ∷ [])) c.put_in_front.new.mounts.items own mounts front same
          (filters_own filters filter last c.len.result own (omega (arith, number, c.self.invariant.one_each)) c.in-Ok-read.ensures.own c.in-Ok-read.ensures.filtered)
          (filters_before filters filter mounts (subst (λ (n : ℕ). All (λ mounted. folder_of mounted < n) mounts) (sym c.self.invariant.one_each) c.self.invariant.inside) c.self.invariant.filtered));
    }

pub returns-in-Ok-read-clause-mounted : goal.returns-in-Ok-read-clause-mounted
returns-in-Ok-read-clause-mounted g c =
    let files = g.F.Folder.files in
    let held = c.self.inside.folders in
    let mounts = c.self.inside.mounts.items in
    let number : c.len.result ≡ length held.items = omega (arith, held.ok.0) in
    let told = map files held.items in
    let last = files c.args.folder in
    let now = rw c.in-Ok-read.ensures.same at (told_now files held.items c.push.new.self.items c.read_mounts-read.new.folder c.in-Ok-push.ensures.items) in
    let before = folders_told files held.items (length held.items) mounts refl c.self.invariant.inside in
    rw (← c.self.view_is)
    (mounted_told c.put_in_front.result told last (map files c.push.new.self.items) (length held.items) c.in-Ok-read.own.items mounts c.put_in_front.new.mounts.items now (rw number at c.in-Ok-read.ensures.mounted)
    (omega (arith, length-map held.items files)) (rw number at c.in-Ok-read.ensures.own) before c.put_in_front.ensures.front c.put_in_front.ensures.error)

pub returns-in-Ok-read-clause-same : goal.returns-in-Ok-read-clause-same
returns-in-Ok-read-clause-same g c =
    let files = g.F.Folder.files in
    let held = c.self.inside.folders.items in
    let mounts = c.self.inside.mounts.items in
    let now = told_now files held c.push.new.self.items c.read_mounts-read.new.folder c.in-Ok-push.ensures.items in
    let before = folders_told files held (length held) mounts refl c.self.invariant.inside in
    rw (← c.self.view_is)
    (as_before_where c.put_in_front.result (map files held) (files c.read_mounts-read.new.folder) (map files c.push.new.self.items) mounts c.put_in_front.new.mounts.items now c.put_in_front.ensures.same before)

pub returns-in-Err-clause-same : goal.returns-in-Err-clause-same
returns-in-Err-clause-same g c =
    let files = g.F.Folder.files in
    let held = c.self.inside.folders.items in
    let mounts = c.self.inside.mounts.items in
    let now = told_now files held c.push.new.self.items c.read_mounts-read.new.folder c.in-Ok-push.ensures.items in
    let before = folders_told files held (length held) mounts refl c.self.invariant.inside in
    rw (← c.self.view_is) (as_before (map files held) (files c.read_mounts-read.new.folder) (map files c.push.new.self.items) mounts mounts now refl before)

pub returns-in-Ok-read-clause-kept : goal.returns-in-Ok-read-clause-kept
returns-in-Ok-read-clause-kept g c =
    let own = c.in-Ok-read.own.items in
    rw (← c.self.view_is) (inr (record {
      now = c.read_mounts-read.new.folder;
      last = c.in-Ok-push.ensures.items;
      told = c.in-Ok-read.ensures.same;
      fault_count = c.in-Ok-read.ensures.faults;
      asks = asks_put g.F.Folder.files g.F.Folder.folder_calls c.args.folder c.read_mounts-read.new.folder c.put_in_front.result c.put_in_front.new.mounts.items own c.self.inside.mounts.items
          c.in-Ok-read.ensures.asks (few_own c.len.result own c.in-Ok-read.ensures.rows) c.put_in_front.ensures.front c.put_in_front.ensures.error;
      caused = search rules;
    }))
