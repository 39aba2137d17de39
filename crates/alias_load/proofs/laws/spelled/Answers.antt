use Rattle.part_plan.proofs.Runs.{run_found, run_fault, run_fault_again}
use Rattle.alias_load.specs.Reading.{alias}
use Rattle.alias_load.proofs.SpellingLaws.{alias_found, alias_again}
use Rattle.alias_load.proofs.laws.spelled.Goals as goal

pub returns-clause-found : goal.returns-clause-found
returns-clause-found c = λ bytes rest model e. let r = run_found alias bytes rest model e in (r.0, r.2, (alias_found bytes rest model e).0)

pub returns-clause-only : goal.returns-clause-only
returns-clause-only c = alias_again

pub returns-clause-fault : goal.returns-clause-fault
returns-clause-fault c = λ bytes e h. run_fault alias bytes e h

pub returns-clause-first : goal.returns-clause-first
returns-clause-first c = λ parts rest e h. run_fault_again alias parts rest e h
