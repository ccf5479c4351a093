use Rattle.vyrd_command.proofs.Prelude.{◌∙◌, sym, subst, ap, ◌++◌, [], refl, rules_by, ended_line}
use Rattle.vyrd_command.proofs.Prelude.{header_line, history_header_line, HasFollowed, no_log}
use Rattle.vyrd_command.proofs.AccountLaws.{nothing_begun, log_begun, history_begun}
use Rattle.vyrd_command.proofs.account.Account.new.Goals as goal
use Rattle.vyrd_command.proofs.account.Account.new.Goals.{in-Verdict}
use Rattle.vyrd_command.proofs.account.Account.new.Goals.{in-Log+in_ok-write_header-in-Log}
use Rattle.vyrd_command.proofs.account.Account.new.Goals.{in-History+in_ok-write_history_header-in-History}

pub returns-clause-taken : goal.returns-clause-taken
returns-clause-taken c =
    let h = c.args.header in
    let own = (rules_by c.in_ok-judge.judge.kept.charter).header in
    let same = ap (λ k. (rules_by k).header) c.in_ok-judge.ensures.charter in
    record {
      followed = subst (HasFollowed c.in_ok-judge.judge [])
          (sym no_log) c.in_ok-judge.ensures.followed;
      counted = refl;
      text_is = elim c.match-show.branch [
        | in-Verdict w ↦ ap (λ t. t.items) w.text-is
            ∙ nothing_begun c.args.show own c.new-text.result.items w.in-Verdict.is
            c.new-text.ensures.items
        | in-Log+in_ok-write_header-in-Log w ↦
            ap (λ t. t.items) w.text-is
            ∙ log_begun c.args.show h own w.write_header.new.out.items w.in-Log.is same
            (w.in_ok-write_header-in-Log.ensures.ok
            ∙ ap (λ t. t ++ ended_line (header_line h.version h.subject h.size h.callers))
            c.new-text.ensures.items)
        | in-History+in_ok-write_history_header-in-History w ↦
            ap (λ t. t.items) w.text-is
            ∙ history_begun c.args.show h own w.write_history_header.new.out.items w.in-History.is
            same
            (w.in_ok-write_history_header-in-History.ensures.ok
            ∙ ap (λ t. t ++ ended_line (history_header_line h.subject h.size h.callers))
            c.new-text.ensures.items)
      ];
    }
