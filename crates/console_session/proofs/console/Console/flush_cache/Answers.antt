use Rattle.std.proofs.Common.{[], rules, ap, ◌∙◌}
use Rattle.mem_model.specs.Keeps.{beside_cache}
use Rattle.mem_model.proofs.CacheLaws.{beside-flush}
use Rattle.mem_model.proofs.Keeping.{Keeps-answer, Keeps-flush}
use Rattle.res_table.specs.Held.{lows_of}
use Rattle.console_session.specs.Serving.{seen}
use Rattle.console_session.proofs.Clearing.{holds_cache}
use Rattle.console_session.proofs.console.Console.flush_cache.Goals as goal

pub returns : goal.returns
returns g c =
    let s = seen g.M.Store g.F.Folder c.args.self.now in
    record {
      told = search rules;
      path = search rules;
      holds = holds_cache s (g.M.Store.state c.flush.new.self) c.requires.holds c.flush.ensures.laid (ap beside_cache c.flush.ensures.gives.after ∙ beside-flush s.memory)
          (Keeps-answer c.flush.ensures.gives (Keeps-flush (lows_of s.table) [] s.memory c.requires.holds.laid));
      causes = search rules;
      calls = search rules;
    }
