use Rattle.std.proofs.Common.{Option, ap, refl, sym, arith}
use Rattle.std.specs.Prelude.{is_some}
use Rattle.cvar_table.specs.Cvars.{Cvar}
use Rattle.cvar_table.proofs.Listing.{cvar_found, cvar_missing}
use Rattle.cvar_table.proofs.Calls.{set_done, set_undone, set_nothing, holds_done, holds_undone, stay_done, stay_undone, read_done, others_done, read_undone}
use Rattle.cvar_table.proofs.Cvars.set.Goals as goal

pub returns-in-Ok : goal.returns-in-Ok
returns-in-Ok g c =
    let m = g.M.Store.state c.args.store.now in
    let cvars = c.args.self.now in
    let name = c.args.name.now in
    let value = c.args.value.now in
    let here = sym c.in-Some.ensures in
    let laid = c.in-Ok.ensures.was_laid in
    let done = set_done m _ c.self.inside.places cvars name value c.in-Some.at (record { 0 = 0 }) (omega arith) c.self.view_is here c.in-Ok.place c.in-Ok.ensures.gives in
    record {
      gives = done.0;
      cvars = done.1;
      stays = tt;
      found = sym (ap (λ (o : Option Cvar). is_some o) (cvar_found c.self.inside.places name (omega arith) cvars c.self.view_is c.in-Some.at (record { 0 = 0 }) here).1);
      read_back = λ ok. read_done m _ cvars _ name value _ laid c.requires.holds done.0 done.1 c.requires.text refl;
      others_read = λ ok. others_done m _ cvars _ name value _ laid c.requires.holds done.0 done.1;
      unset_read = λ unset. absurd (unset refl);
      holds = holds_done m _ cvars _ name value _ laid c.requires.holds done.0 done.1;
      others = stay_done m _ cvars _ name value _ laid c.requires.holds done.0 done.1;
      beside = c.in-Ok.ensures.beside;
      laid = λ was. c.in-Ok.ensures.laid;
    }

pub returns-in-Err : goal.returns-in-Err
returns-in-Err g c =
    let m = g.M.Store.state c.args.store.now in
    let cvars = c.args.self.now in
    let name = c.args.name.now in
    let value = c.args.value.now in
    let laid = c.in-Err.ensures.was_laid in
    let undone = set_undone m _ c.self.inside.places cvars name value c.in-Some.at (record { 0 = 0 }) (omega arith) c.self.view_is (sym c.in-Some.ensures) _ c.in-Err.error c.in-Err.ensures.gives in
    record {
      gives = undone.0;
      cvars = undone.1;
      stays = refl;
      found = tt;
      read_back = λ ok. absurd (cc);
      others_read = λ ok. absurd (cc);
      unset_read = λ unset. read_undone m _ cvars name value _ laid c.requires.holds c.in-Err.error undone.0;
      holds = holds_undone m _ cvars name value _ laid c.requires.holds c.in-Err.error undone.0 undone.1;
      others = stay_undone m _ cvars name value _ laid c.requires.holds c.in-Err.error undone.0 undone.1;
      beside = c.in-Err.ensures.beside;
      laid = λ was. c.in-Err.ensures.laid;
    }

pub returns-in-None : goal.returns-in-None
returns-in-None g c =
    let nothing = set_nothing (g.M.Store.state c.args.store.now) c.self.inside.places c.args.self.now c.args.name.now c.args.value.now c.self.view_is (sym c.in-None.ensures) in
    record {
      gives = nothing.0;
      cvars = nothing.1;
      stays = tt;
      found = sym (ap (λ (o : Option Cvar). is_some o) (cvar_missing c.self.inside.places c.args.name.now c.args.self.now c.self.view_is (sym c.in-None.ensures)));
      read_back = λ ok. absurd (cc);
      others_read = λ ok. absurd (cc);
      unset_read = λ unset name. refl;
      holds = c.requires.holds;
      others = λ place bytes none there. (none, there);
      beside = refl;
      laid = λ was. was;
    }
