use Rattle.std.proofs.Common.{◌≡◌, ◌+◌, Ok, Err, refl, length, arith}
use Rattle.console_core.proofs.Faulting.{hands_back}
use Rattle.console_core.proofs.top.run.Goals as goal

pub returns-in-Err : goal.returns-in-Err
returns-in-Err g c = record {
  asked = Err c.in-Err.error.word;
  is = (c.in-Err.ensures.refused c.in-Err.error).0 refl;
  usage = refl;
  too_small = tt;
  ends = record { rest = refl; put = refl };
  handed_on = λ none. none;
  counts = record { script = omega arith; sink = omega arith };
  cause = (refl, refl);
  handed_back = tt;
}

pub returns : goal.returns
returns g c =
    let all : c.in-Ok.request.first + c.in-Ok.request.folders ≡ length c.args.folders.items = omega (arith, c.in-Ok.ensures.folders, c.requires.one_each) in
    record {
      asked = Ok c.in-Ok.request;
      is = (c.in-Ok.ensures.asked c.in-Ok.request).0 refl;
      usage = c.run_folders.ensures.usage;
      too_small = c.run_folders.ensures.too_small;
      ends = rw c.from_word-folders.ensures at c.run_folders.ensures.ends;
      handed_on = c.run_folders.ensures.handed_on;
      counts = c.run_folders.ensures.counts;
      cause = c.run_folders.ensures.cause;
      handed_back = hands_back g.F.Folder.files g.F.Folder.folder_faults c.args.folders.items c.from_word-folders.result.items c.in-Ok.request c.from_word-folders.ensures c.run_folders.result all c.run_folders.ensures.handed_over;
    }
