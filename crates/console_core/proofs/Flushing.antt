-- Replies that are handed on.
use Rattle.std.proofs.Common.{◌≤◌, ℕ, Bool, List, Result, Ok, Err, IfErr, arith}
use Rattle.console_session.specs.States.{HasCauses, CauseOf}
use Rattle.console_session.specs.declared.ends.Fault.{Fault}
use Rattle.console_session.specs.declared.ends.Fault.TheVariants as fault

-- a cause is one where the sink's count rises further
still_cause : (frugal : Bool) (before counts : List ℕ) (sink_before sink_mid sink_now : ℕ) (fault : Fault) → sink_mid ≤ sink_now → CauseOf frugal before counts sink_before sink_mid fault → CauseOf frugal before counts sink_before sink_now fault
still_cause frugal before counts sink_before sink_mid sink_now (fault.Folder folder) more cause = cause
still_cause frugal before counts sink_before sink_mid sink_now fault.Write more cause = omega (arith, more, cause)
still_cause frugal before counts sink_before sink_mid sink_now fault.Memory more cause = cause

still_caused : {A : Type 0} (frugal : Bool) (before counts : List ℕ) (sink_before sink_mid sink_now : ℕ) (result : Result A Fault) → sink_mid ≤ sink_now → IfErr result (λ fault. CauseOf frugal before counts sink_before sink_mid fault) → IfErr result (λ fault. CauseOf frugal before counts sink_before sink_now fault)
still_caused frugal before counts sink_before sink_mid sink_now (Ok value) more cause = tt
still_caused frugal before counts sink_before sink_mid sink_now (Err fault) more cause = still_cause frugal before counts sink_before sink_mid sink_now fault more cause

pub causes_then : {A : Type 0} (frugal : Bool) (before counts : List ℕ) (sink_before sink_mid sink_now : ℕ) (result : Result A Fault) → sink_mid ≤ sink_now → HasCauses frugal before counts sink_before sink_mid result → HasCauses frugal before counts sink_before sink_now result
causes_then frugal before counts sink_before sink_mid sink_now result more causes = record {
  none_falls = causes.none_falls;
  folders = causes.folders;
  sink_counts = omega (arith, more, causes.sink_counts);
  cause = still_caused frugal before counts sink_before sink_mid sink_now result more causes.cause;
}
