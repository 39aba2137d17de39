-- From what a reply put to what a command did.
use Rattle.std.proofs.Common.{◌≡◌, ℕ, ◌<◌, length, List, [], ◌++◌, Bool, true, take, Option, Some, IfErr, Result, Ok, Err, refl, sym, ◌∙◌, ap, subst, arith}
use Rattle.std.specs.Bool.{OnFalse}
use Rattle.std.proofs.lemmas.Bool.{ne_eqb}
use Rattle.outside_io.specs.Streams.{Adds, AddsFront}
use Rattle.outside_io.proofs.Puts.{adds_none, adds_both}
use Rattle.cmd_buffer.specs.Buffer.{cut, short_command, first_command}
use Rattle.console_session.specs.Commands.{by_text, command}
use Rattle.console_session.specs.States.{State, Done, Did, Told, Untold, asks, CutsOff, StillPut, Follows, CauseOf}
use Rattle.console_session.specs.Telling.{Tells, SinkCause}
use Rattle.console_session.specs.declared.ends.Next.{Next}
use Rattle.console_session.specs.declared.ends.Next.TheVariants.{Goes}
use Rattle.console_session.specs.declared.ends.Fault.{Fault}
use Rattle.console_session.specs.declared.ends.Fault.TheVariants as fault

-- a command may end by this fault before it says anything
abbrev pub MayEndBy : Done → Fault → Type 0
MayEndBy done fault.Write = ⊥
MayEndBy done (fault.Folder folder) = done.reply.load ≡ true
MayEndBy done fault.Memory = done.reply.takes ≡ true

-- what a command says is this, and it leaves this state; or it may end by this fault
abbrev pub IsSaid : Done → Result (List ℕ) Fault → State → Type 0
IsSaid done (Ok text) after = (done.reply.text ≡ text) × (done.next ≡ Goes) × (after ≡ done.after)
IsSaid done (Err error) after = MayEndBy done error

cuts_off : (done : Done) (error : Fault) (start now : Option (List ℕ)) → MayEndBy done error → now ≡ start → CutsOff done.reply error start now
cuts_off done fault.Write start now may same = absurd may
cuts_off done (fault.Folder folder) start now may same = (may, same)
cuts_off done fault.Memory start now may same = (may, same)

-- A command whose reply was put was done.
pub follows : (done : Done) (reply : Result (List ℕ) Fault) (result : Result Next Fault) (after : State) (start now : Option (List ℕ)) → IsSaid done reply after → Tells reply Goes result start now → Follows (Told done) result after start now
follows done (Ok text) (Ok next) after start now said tells = record {
  next = said.1 ∙ sym tells.0;
  after = said.2;
  put = subst (λ t. Adds t start now) (sym said.0) tells.1;
}
follows done (Ok text) (Err error) after start now said tells =
    subst (λ e. CutsOff done.reply e start now) (sym tells.0) (subst (λ t. AddsFront t start now) (sym said.0) tells.1)
follows done (Err error) result after start now said tells =
    subst (λ r. Follows (Told done) r after start now) (sym tells.0) (cuts_off done error start now said tells.1)

-- what stood is only added to
pub still_put : {A : Type 0} (reply : Result (List ℕ) Fault) (answer : A) (result : Result A Fault) (start now : Option (List ℕ)) → Tells reply answer result start now → StillPut start now
still_put (Ok text) answer (Ok given) start now tells = (text, tells.1)
still_put (Ok text) answer (Err error) start now tells = (take tells.1.0 text, tells.1.2)
still_put (Err error) answer result start now tells = ([], subst (λ n. Adds [] start n) (sym tells.1) (adds_none start))

-- a command that asks for a file, and for memory
abbrev pub Asks : Did → Type 0
Asks (Told done) = (done.reply.load ≡ true) × (done.reply.takes ≡ true)
Asks Untold = Unit {0}

pub calls_asked : (P : Type 0) (did : Did) → Asks did → OnFalse (asks did) P
calls_asked P (Told done) is = subst (λ b. OnFalse b P) (sym is.0) tt
calls_asked P Untold is = tt

-- The cause of a fault that is told is that of the reply, or the sink's.
pub cause_told : {A : Type 0} (answer : A) (frugal : Bool) (a b : List ℕ) (s t : ℕ) (reply : Result (List ℕ) Fault) (result : Result A Fault) (start now : Option (List ℕ)) → Tells reply answer result start now
    → IfErr result (λ e. SinkCause s t e) → IfErr reply (λ e. CauseOf frugal a b s t e) → IfErr result (λ e. CauseOf frugal a b s t e)
cause_told answer frugal a b s t (Ok text) (Ok given) start now tells sink own = tt
cause_told answer frugal a b s t (Ok text) (Err error) start now tells sink own = subst (λ e. CauseOf frugal a b s t e) (sym tells.0) (subst (λ e. SinkCause s t e) tells.0 sink)
cause_told answer frugal a b s t (Err error) result start now tells sink own = subst (λ r. IfErr r (λ e. CauseOf frugal a b s t e)) (sym tells.0) own

-- whatever a command did, what stood is only added to
pub still_followed : (did : Did) (result : Result Next Fault) (after : State) (start now : Option (List ℕ)) → Follows did result after start now → StillPut start now
still_followed (Told done) (Ok next) after start now is = (done.reply.text, is.put)
still_followed (Told done) (Err fault.Write) after start now is = (take is.0 done.reply.text, is.2)
still_followed (Told done) (Err (fault.Folder folder)) after start now is = still_put (Err fault.Write) Goes (Err fault.Write) start now (refl, is.1)
still_followed (Told done) (Err fault.Memory) after start now is = still_put (Err fault.Write) Goes (Err fault.Write) start now (refl, is.1)
still_followed Untold result after start now is = is

pub still_both : (start mid now : Option (List ℕ)) → StillPut start mid → StillPut mid now → StillPut start now
still_both start mid now first second = (first.0 ++ second.0, adds_both first.0 second.0 start mid now first.1 second.1)

some_same : (a b : Option (List ℕ)) → Some a ≡ Some b → a ≡ b
some_same a b e = cc

-- the first command of a buffer that isn't empty
pub command_is : (s : State) (taken : Option (List ℕ)) (rest : List ℕ) → 0 < length s.buffer → Some taken ≡ first_command s.buffer → rest ≡ (cut s.buffer).rest
    → command s ≡ by_text taken (record s { buffer = rest })
unfolding command
command_is s taken rest some first rest_is =
    let buffer_of : List ℕ → State = λ (b : List ℕ). record s { buffer = b } in
    let taken_is : taken ≡ short_command (cut s.buffer).command = some_same taken (short_command (cut s.buffer).command) (rw (ne_eqb (length s.buffer) 0 (λ e. omega arith)) at first) in
    ap (λ (b : List ℕ). by_text (short_command (cut s.buffer).command) (buffer_of b)) (sym rest_is) ∙ ap (λ (t : Option (List ℕ)). by_text t (buffer_of rest)) (sym taken_is)
