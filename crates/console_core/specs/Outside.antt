-- What stands outside of a run: the script and the sink.
use Rattle.std.specs.Prelude.{◌≡◌, ◌≤◌, ℕ, List, [], Option, IfSome}
use Rattle.outside_io.specs.declared.outside.Sink.{Ghosts as SinkGhosts}
use Rattle.outside_io.specs.declared.outside.Source.{Ghosts as SourceGhosts}

-- What is left of the script and what the sink got, where each tells it; how many of their calls have failed; and how many
-- bytes the sink holds back of what it got.
pub record Outside : Type 0 where
  pub rest : Option (List ℕ)
  pub got : Option (List ℕ)
  pub script_faults : ℕ
  pub sink_faults : ℕ
  pub held_back : ℕ

abbrev pub outside_of : {S O : Type 0} → SourceGhosts S → SinkGhosts O → S → O → Outside
outside_of source sink script out = record {
  rest = source.rest script;
  got = sink.got out;
  script_faults = source.source_faults script;
  sink_faults = sink.sink_faults out;
  held_back = sink.held_back out;
}

-- no count fell
pub record NoneFell (before now : Outside) : Type 0 where
  pub script : before.script_faults ≤ now.script_faults
  pub sink : before.sink_faults ≤ now.sink_faults

-- nothing was taken and nothing was put
pub record IsUntouched (before now : Outside) : Type 0 where
  pub rest : now.rest ≡ before.rest
  pub put : now.got ≡ before.got

-- Nothing is held back any more, where nothing was before.
abbrev pub IsHandedOn : (before now : Outside) → Type 0
IsHandedOn before now = before.held_back ≡ 0 → now.held_back ≡ 0

-- the script was taken to its end
abbrev pub IsAtEnd : Outside → Type 0
IsAtEnd now = IfSome now.rest (λ left. left ≡ [])
