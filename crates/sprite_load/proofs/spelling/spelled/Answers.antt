use Rattle.part_plan.proofs.Runs.{run_fault, run_fault_again}
use Rattle.sprite_load.specs.Parts.{sprite}
use Rattle.sprite_load.proofs.SpellingLaws.{sprite_found}
use Rattle.sprite_load.proofs.ReadingLaws.{sprite_reads}
use Rattle.sprite_load.proofs.spelling.spelled.Goals as goal

pub returns-clause-found : goal.returns-clause-found
returns-clause-found c = sprite_found

pub returns-clause-only : goal.returns-clause-only
returns-clause-only c = sprite_reads

pub returns-clause-fault : goal.returns-clause-fault
returns-clause-fault c = λ source e h. run_fault sprite source e h

pub returns-clause-first : goal.returns-clause-first
returns-clause-first c = λ parts rest e h. run_fault_again sprite parts rest e h
