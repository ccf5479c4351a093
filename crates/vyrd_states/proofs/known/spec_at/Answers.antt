use Rattle.vyrd_states.proofs.Prelude.{◌≡◌, ◌+◌, ◌∙◌, ap, subst, sym, arith, IfSome, option_map}
use Rattle.vyrd_states.proofs.Prelude.{rules_by, LeadsTo, run_by, state_past}
use Rattle.vyrd_states.proofs.RunLaws.{known_first, known_next, none_next, known_none, never_known}
use Rattle.vyrd_states.proofs.known.spec_at.Goals as goal

pub loop-at-init : goal.loop-at-init
loop-at-init g c =
    let of = g.B.Running.Spec in
    let begun = c.in_ok-spec.ensures in
    known_first (g.B.Begins.charter c.args.begins.now) c.args.starting.now c.args.front.now
    (run_by of.charter of.state of.made c.in-Some.spec)
    (sym (ap (option_map of.state) c.in-Some.is) ∙ begun.state)
    (subst (λ found. IfSome found (λ s. of.charter s ≡ g.B.Begins.charter c.args.begins.now))
    c.in-Some.is begun.charter)
    (subst (λ found. IfSome found (λ s. of.made s ≡ 0)) c.in-Some.is begun.made)

pub returns-in_default : goal.returns-in_default
returns-in_default = grind (arith, never_known)

pub returns-in_default-2 : goal.returns-in_default-2
returns-in_default-2 g c =
    let of = g.B.Running.Spec in
    let run = run_by of.charter of.state of.made in
    let spec = c.loop-at.spec in
    let at = c.loop-at.at in
    let charter = g.B.Begins.charter c.args.begins.now in
    known_none charter c.args.starting.now c.args.front.now (at + 1) c.args.n (omega arith)
    c.requires.within
    (none_next charter c.args.starting.now c.args.front.now at (run spec) (omega arith)
    c.loop-at.invariant
    (subst (λ found. LeadsTo (run spec)
    (state_past (rules_by (of.charter spec)) c.args.front.now at (of.state spec))
    (option_map run found)) c.in_default-2.is c.in_ok-next.ensures))

pub loop-at-preserved : goal.loop-at-preserved
loop-at-preserved g c =
    let of = g.B.Running.Spec in
    let run = run_by of.charter of.state of.made in
    let spec = c.loop-at.spec in
    let at = c.loop-at.at in
    known_next (g.B.Begins.charter c.args.begins.now) c.args.starting.now c.args.front.now at
    (run spec) (run c.in-Some-2.next) (omega arith) c.loop-at.invariant
    (subst (λ found. LeadsTo (run spec)
    (state_past (rules_by (of.charter spec)) c.args.front.now at (of.state spec))
    (option_map run found)) c.in-Some-2.is c.in_ok-next.ensures)
