use Rattle.search_paths.proofs.Looking.{pack_ref}
use Rattle.search_paths.proofs.finding.find_packed.Goals as goal

pub returns-in-Some-clause-found : goal.returns-in-Some-clause-found
returns-in-Some-clause-found c bytes sized = cc (pack_ref c.args.name.now bytes c.args.directory.now.rows c.args.number c.args.directory.now.whole _ c.in-Some.ensures sized)

pub returns-in-None-clause-found : goal.returns-in-None-clause-found
returns-in-None-clause-found c bytes sized = pack_ref c.args.name.now bytes c.args.directory.now.rows c.args.number c.args.directory.now.whole _ c.in-None.ensures sized
