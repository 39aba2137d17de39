use Rattle.std.proofs.Common.{◌≡◌, length, map}
use Rattle.console_session.specs.Verbs.{named, verb_among}
use Rattle.console_session.proofs.verbs.verb_among.Given as goal

abbrev pub invariant-verbs : goal.invariant-verbs
invariant-verbs l =
    verb_among (map (λ n. named n.0.now n.1) l.verbs) l.word
    ≡ verb_among (map (λ n. named n.0.now n.1) l.initial.verbs) l.word

abbrev pub decreases-verbs : goal.decreases-verbs
decreases-verbs l = length l.verbs
