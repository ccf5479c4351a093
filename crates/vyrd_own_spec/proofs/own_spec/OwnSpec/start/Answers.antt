use Rattle.vyrd_own_spec.proofs.Prelude.{ℕ, List, length, ap, sym, ◌∙◌, arc_value, is_whole}
use Rattle.vyrd_own_spec.proofs.Prelude.{written_in, written}
use Rattle.vyrd_own_spec.proofs.StartLaws.{few_registers, whole_is}
use Rattle.vyrd_own_spec.proofs.own_spec.OwnSpec.start.Goals as goal

pub invariant_of-result : goal.invariant_of-result
invariant_of-result c = record {
  subject = c.requires.subject;
  whole = whole_is (written_in (arc_value c.args.specification)) c.args.header.size
      (ap (is_whole (written_in (arc_value c.args.specification))) (sym c.requires.count)
      ∙ ap (λ (lines : List (List ℕ)). is_whole (written_in lines) (length c.args.words.now))
      (sym c.deref.ensures)
      ∙ sym c.if-not-is_whole.ensures);
  registers = few_registers (written c.program.result.now) c.in_ok-new.field-0
      c.with_shown-state.result _ c.program.ensures.small
      c.in_ok-new.ensures c.with_shown-state.ensures;
}
