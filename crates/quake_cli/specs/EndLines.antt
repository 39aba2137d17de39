-- What the program prints of a run's end.
use Rattle.std.specs.Prelude.{ℕ, ◌==◌, if◌then◌else◌, List, [], ◌∷◌, ◌++◌}
use Rattle.console_core.specs.declared.status.Status.{Status}
use Rattle.console_core.specs.Ends.{code_of, status_text}

-- the line of a run that ended so: its text and a newline, or nothing where it ended well
abbrev pub end_line : {F : Type 0} → Status F → List ℕ
end_line status = if code_of status == 0 then [] else status_text status ++ 10 ∷ []
