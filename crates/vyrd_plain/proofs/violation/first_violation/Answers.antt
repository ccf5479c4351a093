use Rattle.vyrd_plain.proofs.Prelude.{◌+◌, [], Ok, Some, take, drop, sym, ap, ◌∙◌, subst, arith}
use Rattle.vyrd_plain.proofs.Prelude.{Rules, rules_of, rules_by, states_along, Tracks, HasEffects}
use Rattle.vyrd_base.proofs.NoStart.{state_at_start-none}
use Rattle.vyrd_plain.proofs.StepLaws.{fault_from_start, fault_goes, fault_found, fault_ends}
use Rattle.vyrd_plain.proofs.StepLaws.{fault_past, tracks_first, some_at, next_is, leads_at}
use Rattle.vyrd_plain.proofs.BlockFacts.{effects_first}
use Rattle.vyrd_plain.proofs.violation.first_violation.Goals as goal

pub loop-at-init : goal.loop-at-init
loop-at-init g c = record {
  charter = c.in_ok-scan.ensures.charter;
  tracks = tracks_first (rules_of c.args.header) c.args.front.now _ _
      (state_at_start-none c.args.header ∙ ap Some (sym c.in_ok-scan.ensures.state))
      c.in_ok-scan.ensures.executions;
  words = effects_first c.args.header c.args.front.now _ _ c.in_ok-scan.ensures.words
      c.in_ok-scan.ensures.open_blocks;
  made = omega (arith, c.in_ok-scan.ensures.made);
  ahead = fault_from_start (rules_of c.args.header) c.args.front.now;
}

pub loop-at-preserved : goal.loop-at-preserved
loop-at-preserved g c =
    let here = some_at c.args.front.now c.loop-at.at c.loop-at-test.true in
    let leads = leads_at (ap rules_by c.loop-at.invariant.charter) c.in-Goes.is
    (c.in_ok-step.ensures.gives here.0 here.1) in
    let later = drop (c.loop-at.at + 1) c.args.front.now in
    let after = g.S.Spec.state c.step.new.self.spec in
    record {
      charter = c.in_ok-step.ensures.charter ∙ c.loop-at.invariant.charter;
      tracks = subst
          (λ es. Tracks (rules_of c.args.header)
          (states_along (rules_of c.args.header) [] c.args.front.now) es later after
          c.step.new.self.executions.items)
          (next_is c.args.front.now c.loop-at.at here.0 here.1) leads.to.1;
      words = subst
          (λ (q : Rules). HasEffects q.header c.step.new.self.effects.words.items
          c.step.new.self.effects.open_blocks.items
          (take (c.loop-at.at + 1) c.args.front.now) later)
          (ap rules_by c.loop-at.invariant.charter)
          (c.in_ok-step.ensures.words (ap Ok c.in-Goes.is));
      made = omega (arith, c.in_ok-step.ensures.made, c.loop-at.invariant.made);
      ahead = c.loop-at.invariant.ahead ∙ fault_goes (rules_of c.args.header) c.args.front.now
          c.loop-at.at here.0 here.1 leads.to.0;
    }

pub returns-in-Faults : goal.returns-in-Faults
returns-in-Faults g c =
    let here = some_at c.args.front.now c.loop-at.at c.loop-at-test.true in
    let leads = leads_at (ap rules_by c.loop-at.invariant.charter) c.in-Faults.is
    (c.in_ok-step.ensures.gives here.0 here.1) in
    sym (c.loop-at.invariant.ahead ∙ fault_found (rules_of c.args.header) c.args.front.now
    c.loop-at.at here.0 c.in-Faults.why here.1 leads.to)

pub returns-in-Ends : goal.returns-in-Ends
returns-in-Ends g c =
    let here = some_at c.args.front.now c.loop-at.at c.loop-at-test.true in
    let leads = leads_at (ap rules_by c.loop-at.invariant.charter) c.in-Ends.is
    (c.in_ok-step.ensures.gives here.0 here.1) in
    sym (c.loop-at.invariant.ahead ∙ fault_ends (rules_of c.args.header) c.args.front.now
    c.loop-at.at here.0 here.1 leads.to.0 leads.to.1)

pub returns : goal.returns
returns g c =
    sym (c.loop-at.invariant.ahead ∙ fault_past (rules_of c.args.header) c.args.front.now
    c.loop-at.at c.loop-at-test.false)
