use Rattle.vyrd_plain.proofs.Prelude.{◌≡◌, ℕ, ◌+◌, true, false, [], length, sym, ap, ◌∙◌, arith}
use Rattle.vyrd_plain.proofs.Prelude.{◌==◌, ◌≢◌, rules_of, start_verdict-none, Malformed, line_of}
use Rattle.vyrd_plain.proofs.Prelude.{accepted, line_without, IfOk-weaker}
use Rattle.std.proofs.lemmas.Bool.Decides.{nat_tests}
use Rattle.vyrd_base.specs.declared.verdict.Rule.TheVariants.{CallOpen}
use Rattle.vyrd_base.specs.declared.verdict.Stop.TheVariants.{End}
use Rattle.vyrd_base.specs.Verdicts.{verdict_at}
use Rattle.vyrd_base.proofs.VerdictParts.{at_end_open, at_end_accepted, at_text_open}
use Rattle.vyrd_base.proofs.VerdictParts.{at_text_before, at_text_closed}
use Rattle.vyrd_plain.proofs.judge.at_stop.Goals as goal
use Rattle.vyrd_plain.proofs.judge.at_stop.Goals.{then-is_open-2+else-line-after, else-is_open-2}

same_line : (line n : ℕ) → line ≡ n + 2 + 1 → (line == line_of [] n + 1) ≡ true
same_line line n e = let from : line_of [] n ≡ n + 2 = line_without n in grind (arith, nat_tests)

other_line : (line n : ℕ) → line ≢ n + 2 + 1 → (line == line_of [] n + 1) ≡ false
other_line line n e = let from : line_of [] n ≡ n + 2 = line_without n in grind (arith, nat_tests)

pub returns-in-End : goal.returns-in-End
returns-in-End c =
    rw c.in-End.is
    (ap (λ line. Malformed line CallOpen) (sym (line_without (length c.args.entries.now)))
    ∙ at_end_open (rules_of c.args.header) [] c.args.entries.now (start_verdict-none c.args.header)
    c.requires.faultless
    (sym c.requires.is_open ∙ c.if-is_open.true))

pub returns-in-End-2 : goal.returns-in-End-2
returns-in-End-2 c =
    rw c.in-End.is (IfOk-weaker c.accepted.result (λ v. v ≡ accepted c.args.entries.now)
    (λ v. v ≡ verdict_at (rules_of c.args.header) [] c.args.entries.now End)
    (λ v e. e ∙ at_end_accepted (rules_of c.args.header) [] c.args.entries.now
    (start_verdict-none c.args.header) c.requires.faultless (sym c.requires.is_open
    ∙ c.if-is_open.false)) c.accepted.ensures)

pub returns-in-Text : goal.returns-in-Text
returns-in-Text c =
    rw c.in-Text.is
    (ap (λ line. Malformed line CallOpen) (sym (line_without (length c.args.entries.now)))
    ∙ at_text_open (rules_of c.args.header) [] c.args.entries.now c.in-Text.line c.in-Text.rule
    (start_verdict-none c.args.header) c.requires.faultless
    (sym c.requires.is_open ∙ c.if-is_open-2.true)
    (same_line c.in-Text.line (length c.args.entries.now) c.if-line-after.true))

pub returns-in-Text-2 : goal.returns-in-Text-2
returns-in-Text-2 c = rw c.in-Text-2.is (elim c.if-is_open-2.branch [
  | then-is_open-2+else-line-after w ↦
      let same : c.in-Text.line ≡ c.in-Text-2.line = cc in
      at_text_before (rules_of c.args.header) [] c.args.entries.now c.in-Text-2.line
      c.in-Text-2.rule (start_verdict-none c.args.header) c.requires.faultless
      (other_line c.in-Text-2.line (length c.args.entries.now)
      (λ e. w.if-line-after.false (same ∙ e)))
  | else-is_open-2 w ↦ at_text_closed (rules_of c.args.header) [] c.args.entries.now
      c.in-Text-2.line c.in-Text-2.rule (start_verdict-none c.args.header)
      c.requires.faultless (sym c.requires.is_open ∙ w.if-is_open-2.false)
])
