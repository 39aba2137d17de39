use Rattle.example_server.proofs.Scores.{score_put}
use Rattle.example_server.proofs.level.put_score.Goals as goal

pub returns-clause-score : goal.returns-clause-score
returns-clause-score g c =
    score_put c.args.session.now.state.memory c.z_alloc.new.self.state.memory c.in_ok-place.place.0 c.args.score c.zone_bytes_mut.result.now c.put_u32.new.bytes
    c.in_ok-place.ensures.was_laid c.in_ok-place.ensures.gives c.zone_bytes_mut.ensures.shows c.ranges.score.fits c.put_u32.ensures
