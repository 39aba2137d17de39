use Rattle.std.proofs.Common.{codes, refl}
use Rattle.console_session.specs.Commands.{shown_file}
use Rattle.console_session.proofs.Loading.{does_refused}
use Rattle.console_session.proofs.console.Console.file.Goals as goal

pub returns-in-Err : goal.returns-in-Err
returns-in-Err g c = rw c.in-Some.is (does_refused g.M.Store g.F.Folder g.O.Sink (codes "not found: ") _ shown_file (λ s m place bytes. (refl, refl)) c.args.self.now c.load.new.self c.args.out.now _ _ c.in-Err.error
    c.in-Err.ensures.told c.in-Err.ensures.rest c.put_load_error.ensures)
