use Rattle.vyrd_spec.proofs.Prelude.{arith, ap, sym, ◌∙◌, row_amounts, row_formed, is_touched}
use Rattle.vyrd_spec.proofs.Prelude.{with_touched}
use Rattle.vyrd_base.specs.declared.subject.Method.TheVariants.{Buffers as OfBuffers}
use Rattle.vyrd_spec.proofs.BufferSteps.{texts_after}
use Rattle.vyrd_spec.proofs.StepMeets.{touched_makes, same_answer}
use Rattle.vyrd_spec.proofs.buffers.BufferSpecSpec.step.Goals as goal

pub invariant_of-self-clause-few : goal.invariant_of-self-clause-few
invariant_of-self-clause-few c = omega (arith, c.requires.few)

pub invariant_of-self-clause-small : goal.invariant_of-self-clause-small
invariant_of-self-clause-small c =
    let numbers = c.next-allowed.ensures.numbers in
    texts_after c.in-Buffers.method c.args.args c.args.reply
    (row_amounts c.args.self.now.texts.items)
    (row_amounts c.next-allowed.new.texts.items) numbers.0 numbers.1 c.args.self.now.small
    (c.next-allowed.ensures.allowed c.if-allowed.true)

pub returns-then-allowed-clause-touched : goal.returns-then-allowed-clause-touched
returns-then-allowed-clause-touched c = λ is.
    ap (λ keys. with_touched keys (row_amounts c.next-allowed.new.texts.items)
    (row_amounts c.args.self.now.texts.items))
    c.touches-self.ensures
    ∙ touched_makes (OfBuffers c.in-Buffers.method) c.args.args c.args.reply _ _
    (row_formed c.args.self.now.texts.items)
    (c.next-allowed.ensures.allowed c.if-allowed.true)

pub returns-then-allowed-clause-answers : goal.returns-then-allowed-clause-answers
returns-then-allowed-clause-answers c = λ is m a none.
    same_answer (OfBuffers c.in-Buffers.method) c.args.args c.args.reply _ _
    (c.next-allowed.ensures.allowed c.if-allowed.true) m a
    (ap (λ keys. is_touched keys a.a) (sym c.touches-self.ensures) ∙ none)
