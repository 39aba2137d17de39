use Rattle.console_session.specs.Serving.{seen}
use Rattle.console_session.proofs.Hosts.{host_temp_written}
use Rattle.console_session.proofs.session.Session.temp_bytes_mut.Goals as goal

pub invariant_of-self-lent : goal.invariant_of-self-lent
invariant_of-self-lent g c = λ w.
    rw g.met.M.Store.temp_writes (host_temp_written (seen g.M.Store g.F.Folder c.self.inside.console) w c.self.invariant)
