use Rattle.vyrd_follow.proofs.Prelude.{subst, option_map, IfOk-weaker, IsKnown, run_by}
use Rattle.vyrd_follow.proofs.PassLaws.{known_past, none_past}
use Rattle.vyrd_follow.proofs.step.pass.Goals as goal

pub returns-in-Some-clause-next : goal.returns-in-Some-clause-next
returns-in-Some-clause-next g c = λ charter starting known.
    let run = run_by g.S.Spec.charter g.S.Spec.state g.S.Spec.made in
    let front = c.args.front.now in
    let at = c.args.at in
    let here = subst (λ o. IsKnown charter starting front at (option_map run o)) c.in-Some.is
    known in
    IfOk-weaker c.step.result _ _
    (λ found leads. known_past charter starting front at (run c.in-Some.before)
    (option_map run found) c.requires.within here leads) c.step.ensures.next

pub returns-in-None-clause-next : goal.returns-in-None-clause-next
returns-in-None-clause-next g c = λ charter starting known.
    let run = run_by g.S.Spec.charter g.S.Spec.state g.S.Spec.made in
    none_past charter starting c.args.front.now c.args.at c.requires.within
    (subst (λ o. IsKnown charter starting c.args.front.now c.args.at (option_map run o))
    c.in-None.is known)
