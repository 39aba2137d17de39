use Rattle.std.proofs.Common.{◌≡◌, ◌≤◌, ◌+◌, ℕ, List, [], length, take, drop, sym, ◌∙◌, ap, Bool, true, false, not, nat_eq, ◌%◌, get_or, arith, ◌==◌, ◌||◌, ◌&&◌}
use Rattle.std.proofs.lemmas.Bool.Decides.{nat_tests}
use Rattle.std.proofs.lemmas.List.{take_all, drop_all}
use Rattle.std.proofs.lemmas.List.Sums.{count_by_more_no, count_by_more_yes}
use Rattle.cmd_buffer.specs.Buffer.{cut, cut_after, is_end, quotes_in, Cut}
use Rattle.cmd_buffer.proofs.Cuts.{ended, went_on, odd_more}
use Rattle.cmd_buffer.proofs.buffer.command_length.Goals as goal
use Rattle.cmd_buffer.proofs.buffer.command_length.Goals.{then-byte-eq34, else-byte-eq34}

pub returns-then-ends_command-clause-cut : goal.returns-then-ends_command-clause-cut
unfolding cut
returns-then-ends_command-clause-cut c =
    let text = c.args.text.now in
    let i = c.loop-i.i in
    let is : is_end (take i text) (get_or text i 0) ≡ true = ap (λ (even : Bool). (get_or text i 0 == 10) || ((get_or text i 0 == 59) && even)) (sym c.loop-i.invariant.quotes) ∙ sym c.ends_command.ensures ∙ c.if-ends_command.true in
    sym c.loop-i.invariant.cut ∙ ended text i c.loop-i-test.true is

same_quotes : (text : List ℕ) (i n : ℕ) → n ≡ quotes_in (take i text) → nat_eq (quotes_in (take i text) % 2) 0 ≡ nat_eq (n % 2) 0
same_quotes text i n is = ap (λ (m : ℕ). nat_eq (m % 2) 0) (sym is)

pub loop-i-preserved : goal.loop-i-preserved
loop-i-preserved c =
    let text = c.args.text.now in
    let i = c.loop-i.i in
    let is : is_end (take i text) (get_or text i 0) ≡ false = ap (λ (even : Bool). (get_or text i 0 == 10) || ((get_or text i 0 == 59) && even)) (sym c.loop-i.invariant.quotes) ∙ sym c.ends_command.ensures ∙ c.if-ends_command.false in
    record {
      cut = went_on text i c.loop-i-test.true is ∙ c.loop-i.invariant.cut;
      quotes = elim c.if-byte-eq34.branch [
        | then-byte-eq34 w ↦
            let counted : quotes_in (take (i + 1) text) ≡ quotes_in (take i text) + 1 = count_by_more_yes (λ byte. byte == 34) text i 0 c.loop-i-test.true (grind (arith, nat_tests)) in
            w.even_quotes-is ∙ ap not c.loop-i.invariant.quotes ∙ sym (odd_more (quotes_in (take i text))) ∙ ap (λ (m : ℕ). nat_eq (m % 2) 0) (sym counted)
        | else-byte-eq34 w ↦
            let counted : quotes_in (take (i + 1) text) ≡ quotes_in (take i text) = count_by_more_no (λ byte. byte == 34) text i 0 c.loop-i-test.true (grind (arith, nat_tests)) in
            w.even_quotes-is ∙ c.loop-i.invariant.quotes ∙ ap (λ (m : ℕ). nat_eq (m % 2) 0) (sym counted)
      ];
    }

whole : (text : List ℕ) (i : ℕ) → length text ≤ i → cut_after (take i text) (drop i text) ≡ record { command = take (length text) text; rest = drop (length text + 1) text }
whole text i end =
    ap (λ (bytes : List ℕ). cut_after (take i text) bytes) (drop_all i text end)
    ∙ ap (λ (front : List ℕ). cut_after front []) (take_all i text end ∙ sym (take_all (length text) text (omega arith)))
    ∙ ap (λ (rest : List ℕ). let done : Cut = record { command = take (length text) text; rest = rest } in done) (sym (drop_all (length text + 1) text (omega arith)))

pub returns-clause-cut : goal.returns-clause-cut
unfolding cut
returns-clause-cut c = sym c.loop-i.invariant.cut ∙ whole c.args.text.now c.loop-i.i c.loop-i-test.false
