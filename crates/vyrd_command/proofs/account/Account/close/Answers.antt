use Rattle.vyrd_command.proofs.Prelude.{◌∙◌, sym, ap, rules_by}
use Rattle.vyrd_command.proofs.AccountLaws.{verdict_told, log_told, history_told}
use Rattle.vyrd_command.proofs.account.Account.close.Goals as goal
use Rattle.vyrd_command.proofs.account.Account.close.Goals.{in-Verdict+in_ok-write_verdict-in-Verdict}
use Rattle.vyrd_command.proofs.account.Account.close.Goals.{in-Log+in_ok-extend_from_slice-in-Log+in_ok-write_verdict-in-Log}
use Rattle.vyrd_command.proofs.account.Account.close.Goals.{in-History+in_ok-extend_from_slice-in-History}

pub returns-clause-text : goal.returns-clause-text
returns-clause-text c = λ history taken.
    let h = (rules_by c.args.self.judge.kept.charter).header in
    let v = c.in_ok-verdict.verdict in
    let before = ap (λ a. a.text) c.self.view_is ∙ taken.text_is in
    let show = sym (ap (λ a. a.show) c.self.view_is) in
    elim c.match-show.branch [
      | in-Verdict+in_ok-write_verdict-in-Verdict w ↦
          ap (λ t. t.items) w.text-is
          ∙ verdict_told c.args.self.show h history v c.self.inside.text.items
          w.write_verdict.new.out.items (show ∙ w.in-Verdict.is) before
          w.in_ok-write_verdict-in-Verdict.ensures.ok
      | in-Log+in_ok-extend_from_slice-in-Log+in_ok-write_verdict-in-Log w ↦
          ap (λ t. t.items) w.text-is
          ∙ log_told c.args.self.show h history v c.self.inside.text.items
          w.extend_from_slice.new.self.items w.write_verdict-in-Log.new.out.items
          (show ∙ w.in-Log.is) before w.in_ok-extend_from_slice-in-Log.ensures.items
          w.in_ok-write_verdict-in-Log.ensures.ok
      | in-History+in_ok-extend_from_slice-in-History w ↦
          ap (λ t. t.items) w.text-is
          ∙ history_told c.args.self.show h history v c.self.inside.text.items
          w.extend_from_slice-in-History.new.self.items
          (show ∙ w.in-History.is) before w.in_ok-extend_from_slice-in-History.ensures.items
    ]
