use Rattle.std.proofs.Common.{◌+◌, ◌-◌, refl, sym, ◌∙◌, arith}
use Rattle.std.proofs.lemmas.List.Elements.{All-push}
use Rattle.outside_io.proofs.Counts.{many_more-none}
use Rattle.search_paths.specs.Own.{IsOwn, IsIn}
use Rattle.search_paths.proofs.OwnMounts.{first_in, still_in, first_told, first_listed, first_own, more_told, missing_told, full_told, bad_told, more_listed, all_listed}
use Rattle.search_paths.proofs.PackCalls.{none_taken_told, more_taken_told, asks_more, asks_stopped, asks_ended, asks_all, asks_short_of_memory}
use Rattle.search_paths.proofs.mounting.read_mounts.Goals as goal

pub loop-pack-init : goal.loop-pack-init
loop-pack-init g c =
    let told = g.F.Folder.files c.args.folder.now in
    let alone = rw c.new-mounts.ensures.items at c.in-Ok.ensures.items in
    record {
      made = first_told c.args.number told c.push.new.self.items alone;
      listed = first_listed c.args.number c.push.new.self.items alone;
      own = first_own c.args.number told c.push.new.self.items alone;
      filtered = first_in c.args.filter.now c.args.number c.push.new.self.items alone;
      same = refl;
      faults = omega arith;
      calls = sym (many_more-none (g.F.Folder.folder_calls c.args.folder.now));
      taken = none_taken_told told;
    }

pub returns-in-Ok-None-clause-mounted : goal.returns-in-Ok-None-clause-mounted
returns-in-Ok-None-clause-mounted g c =
    let found = rw (c.in-Ok-None.field-0-is, c.loop-pack.invariant.same) at c.in-Ok-None.ensures.found in
    missing_told c.args.number c.loop-pack.pack (32 - c.loop-pack.pack) (g.F.Folder.files c.args.folder.now) c.loop-pack.mounts.items found c.loop-pack.invariant.made

pub returns-in-Ok-None-clause-rows : goal.returns-in-Ok-None-clause-rows
returns-in-Ok-None-clause-rows g c = all_listed c.args.number c.loop-pack.pack c.loop-pack.mounts.items (omega arith) c.loop-pack.invariant.listed

pub returns-in-Err-clause-bad : goal.returns-in-Err-clause-bad
returns-in-Err-clause-bad g c =
    let found = rw c.loop-pack.invariant.same at c.in-Err.ensures.found in
    bad_told c.args.number c.loop-pack.pack (32 - c.loop-pack.pack) (31 - c.loop-pack.pack) (g.F.Folder.files c.args.folder.now) c.loop-pack.mounts.items c.in-Err.error (omega arith) found c.loop-pack.invariant.made

pub loop-pack-preserved : goal.loop-pack-preserved
loop-pack-preserved g c =
    let told = g.F.Folder.files c.args.folder.now in
    let found = rw (c.in-Ok-Some.field-0-is, c.loop-pack.invariant.same) at c.in-Ok-Some.ensures.found in
    record {
      made = rw c.in-Ok-push.ensures.items (more_told c.args.number c.loop-pack.pack (32 - c.loop-pack.pack) (32 - (c.loop-pack.pack + 1)) told c.loop-pack.mounts.items c.in-Ok-Some.directory (omega arith) found c.loop-pack.invariant.made);
      listed = rw c.in-Ok-push.ensures.items (more_listed c.args.number c.loop-pack.pack c.loop-pack.mounts.items c.in-Ok-Some.directory c.loop-pack.invariant.listed);
      own = rw c.in-Ok-push.ensures.items (All-push (IsOwn c.args.number told) c.loop-pack.mounts.items _ c.loop-pack.invariant.own (refl, found));
      filtered = rw c.in-Ok-push.ensures.items (All-push (IsIn c.add_all.new.self) c.loop-pack.mounts.items _ (still_in c.loop-pack.filter c.add_all.new.self c.add_all.ensures.kept c.loop-pack.mounts.items c.loop-pack.invariant.filtered) (omega arith, c.add_all.ensures.added));
      same = c.in-Ok-Some.ensures.same ∙ c.loop-pack.invariant.same;
      faults = omega arith;
      calls = asks_more g.F.Folder.files g.F.Folder.folder_calls c.args.folder.now c.loop-pack.folder _ c.loop-pack.pack c.loop-pack.invariant.same c.loop-pack.invariant.calls c.in-Ok-Some.directory (rw c.in-Ok-Some.field-0-is at c.in-Ok-Some.ensures.asks);
      taken = more_taken_told c.loop-pack.pack told c.in-Ok-Some.directory found c.loop-pack.invariant.taken;
    }

pub returns-clause-mounted : goal.returns-clause-mounted
returns-clause-mounted g c = full_told c.args.number c.loop-pack.pack (32 - c.loop-pack.pack) (g.F.Folder.files c.args.folder.now) c.loop-pack.mounts.items (omega arith) c.loop-pack.invariant.made

pub returns-clause-rows : goal.returns-clause-rows
returns-clause-rows g c = all_listed c.args.number c.loop-pack.pack c.loop-pack.mounts.items (omega arith) c.loop-pack.invariant.listed

pub returns-in-Ok-None-clause-asks : goal.returns-in-Ok-None-clause-asks
returns-in-Ok-None-clause-asks g c =
    asks_ended g.F.Folder.files g.F.Folder.folder_calls c.args.folder.now c.loop-pack.folder _ c.loop-pack.pack c.loop-pack.invariant.same c.loop-pack.invariant.calls c.loop-pack.invariant.taken
    c.args.number c.loop-pack.mounts.items c.loop-pack-test.true c.loop-pack.invariant.listed (rw c.in-Ok-None.field-0-is at c.in-Ok-None.ensures.asks)

pub returns-in-Err-clause-asked : goal.returns-in-Err-clause-asked
returns-in-Err-clause-asked g c =
    asks_stopped g.F.Folder.files g.F.Folder.folder_calls c.args.folder.now c.loop-pack.folder _ c.loop-pack.pack c.loop-pack.invariant.same c.loop-pack.invariant.calls c.loop-pack.invariant.taken
    c.in-Err.error c.in-Err.ensures.asks

pub returns-clause-asks : goal.returns-clause-asks
returns-clause-asks g c =
    asks_all g.F.Folder.files g.F.Folder.folder_calls c.args.folder.now c.loop-pack.folder _ c.loop-pack.pack c.loop-pack.invariant.same c.loop-pack.invariant.calls c.loop-pack.invariant.taken
    c.args.number c.loop-pack.mounts.items (omega arith) c.loop-pack.invariant.listed refl

pub returns-in_default-push-clause-asked : goal.returns-in_default-push-clause-asked
returns-in_default-push-clause-asked g c =
    let told = g.F.Folder.files c.args.folder.now in
    let found = rw (c.in-Ok-Some.field-0-is, c.loop-pack.invariant.same) at c.in-Ok-Some.ensures.found in
    let calls = asks_more g.F.Folder.files g.F.Folder.folder_calls c.args.folder.now c.loop-pack.folder _ c.loop-pack.pack c.loop-pack.invariant.same c.loop-pack.invariant.calls c.in-Ok-Some.directory (rw c.in-Ok-Some.field-0-is at c.in-Ok-Some.ensures.asks) in
    asks_short_of_memory g.F.Folder.files g.F.Folder.folder_calls c.args.folder.now _ _ (c.loop-pack.pack + 1) (c.in-Ok-Some.ensures.same ∙ c.loop-pack.invariant.same) calls (omega arith)
    (more_taken_told c.loop-pack.pack told c.in-Ok-Some.directory found c.loop-pack.invariant.taken) refl
