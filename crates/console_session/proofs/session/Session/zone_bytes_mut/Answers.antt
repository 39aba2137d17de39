use Rattle.console_session.specs.Serving.{seen}
use Rattle.console_session.proofs.Hosts.{host_zone_written}
use Rattle.console_session.proofs.session.Session.zone_bytes_mut.Goals as goal

pub invariant_of-self-lent : goal.invariant_of-self-lent
invariant_of-self-lent g c = λ w.
    rw g.met.M.Store.zone_writes (host_zone_written (seen g.M.Store g.F.Folder c.self.inside.console) c.args.place.0 w c.self.invariant (rw (← c.self.view_is) at c.requires.own))
