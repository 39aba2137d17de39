use Rattle.std.proofs.Common.{take}
use Rattle.console_session.specs.Sessions.{told_end}
use Rattle.console_session.proofs.Causing.{Counted, causes_later}
use Rattle.console_core.specs.Outside.{outside_of}
use Rattle.console_core.specs.Reading.{limit}
use Rattle.console_core.specs.Runs.{rest_run}
use Rattle.console_core.proofs.Scripts.{goes_still}
use Rattle.console_core.proofs.Whole.{ends_whole}
use Rattle.console_core.proofs.Knowing.{lines_put}
use Rattle.console_core.proofs.Ending.{ends_in_line, ends_behind}
use Rattle.console_core.proofs.Faulting.{hands_over}
use Rattle.console_core.proofs.top.run_session.Goals as goal

pub returns-in-Ended-clause-ends : goal.returns-in-Ended-clause-ends
returns-in-Ended-clause-ends g c =
    let read = c.in-Ended.ensures.read in
    ends_in_line c.status_of-in-Ended.result c.args.request.first g.F.Folder.files g.F.Folder.folder_faults _ _ c.args.session.state c.run_script.new.session.state
    (outside_of g.S.Source g.O.Sink c.args.script.now c.args.out.now) (outside_of g.S.Source g.O.Sink c.run_script.new.script c.run_script.new.out)
    read.taken read.took read.ends.0 c.in-Ended.end read.ends.1 read.run.0 read.run.1 (rw c.run_script.ensures.path at c.status_of-in-Ended.ensures)

pub returns-in-Failed-clause-ends : goal.returns-in-Failed-clause-ends
returns-in-Failed-clause-ends g c =
    let read = c.in-Failed.ensures.read in
    record {
      taken = read.taken;
      took = read.took;
      size = read.ends;
      put = lines_put c.args.session.state c.run_script.new.session.state _ _ read.taken read.run;
    }

pub returns-in-TooLong-clause-ends : goal.returns-in-TooLong-clause-ends
returns-in-TooLong-clause-ends g c =
    let read = c.in-TooLong.ensures.read in
    record {
      taken = read.taken;
      took = read.took;
      size = read.ends;
      put = lines_put c.args.session.state c.run_script.new.session.state _ _ (take limit read.taken) read.run;
    }

pub returns-in-AtEnd-clause-ends : goal.returns-in-AtEnd-clause-ends
returns-in-AtEnd-clause-ends g c =
    let first = c.args.session.state in
    let between = c.run_script.new.session.state in
    let new = c.run_rest-end.new.session.state in
    let read = c.in-AtEnd.ensures.read in
    let kept = c.run_script.new.pending.items in
    let rest = rest_run between kept in
    let ran = rw c.as_slice.ensures.value at c.run_rest-end.ensures.runs.told in
    let start = g.O.Sink.got c.args.out.now in
    let mid = g.O.Sink.got c.run_script.new.out in
    let now = g.O.Sink.got c.run_rest-end.new.out in
    let all = ends_whole first between new read.taken kept (told_end c.run_rest-end.result) (g.S.Source.rest c.args.script.now) (g.S.Source.rest c.run_script.new.script) start mid now read.took read.ends.1 read.keeps read.run ran in
    ends_behind c.status_of.result c.args.request.first g.F.Folder.files g.F.Folder.folder_faults _ _ first new
    (outside_of g.S.Source g.O.Sink c.args.script.now c.args.out.now) (outside_of g.S.Source g.O.Sink c.run_script.new.script c.run_rest-end.new.out)
    read.taken read.took read.ends.0 between mid read.ends.1 read.run (goes_still rest.replies rest.end (told_end c.run_rest-end.result) new mid now ran)
    c.run_rest-end.result all (rw (c.run_rest-end.ensures.runs.path, c.run_script.ensures.path) at c.status_of.ensures)

pub returns-in-Ended-clause-handed_over : goal.returns-in-Ended-clause-handed_over
returns-in-Ended-clause-handed_over g c =
    hands_over c.status_of-in-Ended.result c.args.request.first g.F.Folder.files g.F.Folder.folder_faults _ _ _ _ _ _ c.in-Ended.end c.in-Ended.ensures.causes.cause (rw c.run_script.ensures.path at c.status_of-in-Ended.ensures)

pub returns-in-AtEnd-clause-handed_over : goal.returns-in-AtEnd-clause-handed_over
returns-in-AtEnd-clause-handed_over g c =
    let read = c.in-AtEnd.ensures.causes in
    let counted : Counted _ _ _ _ = record { none_falls = read.none_falls; folders = read.folders; sink_counts = read.counts.sink } in
    let causes = causes_later _ _ _ _ _ _ _ _ counted c.run_rest-end.ensures.runs.causes in
    hands_over c.status_of.result c.args.request.first g.F.Folder.files g.F.Folder.folder_faults _ _ _ _ _ _ c.run_rest-end.result causes.cause (rw (c.run_rest-end.ensures.runs.path, c.run_script.ensures.path) at c.status_of.ensures)
