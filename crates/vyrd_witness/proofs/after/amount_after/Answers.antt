use Rattle.vyrd_witness.proofs.Prelude.{◌≡◌, ◌+◌, arith, rules_of, size_in_32_bits, amount_shown}
use Rattle.vyrd_witness.proofs.PartLaws.{slot_at_most, slot_turned, few_shown}
use Rattle.vyrd_witness.proofs.after.amount_after.Goals as goal

module _ (c : goal.After-given_with-new) where
  turned : c.args.before + c.given_with-new.result
      ≡ amount_shown (rules_of c.args.header) c.args.words.now c.args.key + c.given_with-old.result
  turned = slot_turned c.args.header c.args.words.now c.args.key c.args.word c.args.was
      c.requires.multiset c.given_with-old.result c.given_with-new.result c.args.before
      c.requires.count c.requires.within c.requires.before c.given_with-old.ensures
      c.given_with-new.ensures

pub overflow_sub-result : goal.overflow_sub-result
overflow_sub-result c = omega (arith, turned c)

pub overflow_add-result : goal.overflow_add-result
overflow_add-result = grind (arith, turned, few_shown, size_in_32_bits, slot_at_most)

pub returns : goal.returns
returns c = omega (arith, turned c)
