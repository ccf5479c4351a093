use Rattle.vyrd_follow.proofs.Prelude.{subst, ◌∙◌, sym, option_map, rules_by, LeadsTo, run_by}
use Rattle.std.specs.Prelude.{IfOk}
use Rattle.vyrd_base.proofs.CommitLaws.{commits_by}
use Rattle.vyrd_states.proofs.CallLaws.{execution_allowed, execution_mutates}
use Rattle.vyrd_follow.proofs.PassLaws.{past_commit}
use Rattle.vyrd_follow.proofs.step.step.Goals as goal

pub commit-requires-clause-allowed : goal.commit-requires-clause-allowed
commit-requires-clause-allowed g c =
    execution_allowed (rules_by (g.S.Spec.charter c.args.spec)).header c.args.front.now c.args.at
    c.entry_at-entry.result.caller c.in-Some.execution c.requires.kept
    (sym c.execution_of.ensures ∙ c.in-Some.is)

pub commit-requires-clause-mutates : goal.commit-requires-clause-mutates
commit-requires-clause-mutates g c =
    execution_mutates (rules_by (g.S.Spec.charter c.args.spec)).header c.args.front.now c.args.at
    c.entry_at-entry.result c.in-Some.execution c.entry_at-entry.ensures (commits_by c.in-Commit.is)
    c.requires.kept (sym c.execution_of.ensures ∙ c.in-Some.is)

pub returns-in-Some-clause-next : goal.returns-in-Some-clause-next
returns-in-Some-clause-next g c =
    let run = run_by g.S.Spec.charter g.S.Spec.state g.S.Spec.made in
    subst (λ o. IfOk c.commit.result (λ after. LeadsTo (run c.args.spec) o (option_map run after)))
    (sym (past_commit (rules_by (g.S.Spec.charter c.args.spec)) c.args.front.now c.args.at
    c.entry_at-entry.result c.in-Some.execution (g.S.Spec.state c.args.spec)
    c.entry_at-entry.ensures (commits_by c.in-Commit.is)
    (sym c.execution_of.ensures ∙ c.in-Some.is))) c.commit.ensures.next
