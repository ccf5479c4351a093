use Rattle.vyrd_states.proofs.Prelude.{ap, subst, ◌∙◌, sym, option_and_then, IfOk, option_map}
use Rattle.vyrd_states.proofs.Prelude.{rules_by, commits_by, LeadsTo, run_by, state_by}
use Rattle.vyrd_states.proofs.CallLaws.{execution_allowed, execution_mutates, state_past-commit}
use Rattle.vyrd_states.proofs.known.step.Goals as goal

pub commit-requires-clause-allowed : goal.commit-requires-clause-allowed
commit-requires-clause-allowed g c =
    execution_allowed (rules_by (g.S.Spec.charter c.args.spec)).header c.args.front.now c.args.at
    c.entry_at-entry.result.caller c.in-Some.execution c.requires.kept
    (sym c.execution_of.ensures ∙ c.in-Some.is)

pub commit-requires-clause-mutates : goal.commit-requires-clause-mutates
commit-requires-clause-mutates g c =
    execution_mutates (rules_by (g.S.Spec.charter c.args.spec)).header c.args.front.now c.args.at
    c.entry_at-entry.result c.in-Some.execution c.entry_at-entry.ensures (commits_by c.in-Commit.is)
    c.requires.kept (sym c.execution_of.ensures ∙ c.in-Some.is)

pub returns-in-Some : goal.returns-in-Some
returns-in-Some g c =
    let r = rules_by (g.S.Spec.charter c.args.spec) in
    let s = g.S.Spec.state c.args.spec in
    let run = run_by g.S.Spec.charter g.S.Spec.state g.S.Spec.made in
    let found = sym c.execution_of.ensures ∙ c.in-Some.is in
    subst (λ o. IfOk c.commit.result (λ after. LeadsTo (run c.args.spec) o (option_map run after)))
    (sym (state_past-commit r c.args.front.now c.args.at c.entry_at-entry.result s
    c.entry_at-entry.ensures (commits_by c.in-Commit.is)
    ∙ ap (option_and_then (λ x. state_by r x s)) found)) c.commit.ensures
