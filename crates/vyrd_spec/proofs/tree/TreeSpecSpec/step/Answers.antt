use Rattle.vyrd_spec.proofs.Prelude.{Ok, ap, sym, arith, ◌∙◌, is_touched, with_touched}
use Rattle.vyrd_base.specs.declared.subject.Method.TheVariants.{Tree as OfTree}
use Rattle.vyrd_spec.proofs.TreeSteps.{tree_steps, values_after}
use Rattle.vyrd_spec.proofs.StepMeets.{touched_makes, same_answer}
use Rattle.vyrd_spec.proofs.tree.TreeSpecSpec.step.Goals as goal

pub invariant_of-self-then-allowed-clause-few : goal.invariant_of-self-then-allowed-clause-few
invariant_of-self-then-allowed-clause-few c = omega (arith, c.requires.few)

pub invariant_of-self-then-allowed-clause-formed : goal.invariant_of-self-then-allowed-clause-formed
invariant_of-self-then-allowed-clause-formed c =
    tree_steps.formed c.in-Tree.method c.args.args c.args.reply c.args.self.now.amounts
    c.next.new.values
    c.args.self.now.formed (c.in_ok-allowed.ensures.allowed (ap Ok c.if-allowed.true))

pub invariant_of-self-then-allowed-clause-small : goal.invariant_of-self-then-allowed-clause-small
invariant_of-self-then-allowed-clause-small c =
    let numbers = c.in_ok-allowed.ensures.numbers in
    values_after c.in-Tree.method c.args.args c.args.reply c.args.self.now.amounts c.next.new.values
    numbers.0 numbers.1
    c.args.self.now.small (c.in_ok-allowed.ensures.allowed (ap Ok c.if-allowed.true))

pub returns-then-allowed-clause-touched : goal.returns-then-allowed-clause-touched
returns-then-allowed-clause-touched c = λ is.
    ap (λ keys. with_touched keys c.next.new.values c.args.self.now.amounts) c.touches-self.ensures
    ∙ touched_makes (OfTree c.in-Tree.method) c.args.args c.args.reply _ _ c.args.self.now.formed
    (c.in_ok-allowed.ensures.allowed (ap Ok c.if-allowed.true))

pub returns-then-allowed-clause-answers : goal.returns-then-allowed-clause-answers
returns-then-allowed-clause-answers c = λ is m a none.
    same_answer (OfTree c.in-Tree.method) c.args.args c.args.reply _ _
    (c.in_ok-allowed.ensures.allowed (ap Ok c.if-allowed.true)) m a
    (ap (λ keys. is_touched keys a.a) (sym c.touches-self.ensures) ∙ none)
