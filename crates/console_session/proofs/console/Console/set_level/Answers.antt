use Rattle.std.proofs.Common.{rules}
use Rattle.console_session.specs.Serving.{seen}
use Rattle.console_session.proofs.Holding.{holds_level}
use Rattle.console_session.proofs.console.Console.set_level.Goals as goal

pub returns : goal.returns
returns g c =
    let s = seen g.M.Store g.F.Folder c.args.self.now in
    record {
      told = search rules;
      path = search rules;
      holds = holds_level s _ c.requires.holds c.set_level-self.ensures.level;
      causes = search rules;
      calls = search rules;
    }
