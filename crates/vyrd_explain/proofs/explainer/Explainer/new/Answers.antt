use Rattle.std.proofs.Common.{[], ◌≤◌, subst, sym, ◌∙◌}
use Rattle.vyrd_base.specs.Limits.{most_lines}
use Rattle.vyrd_explain.specs.Explaining.{own_limit}
use Rattle.vyrd_explain.proofs.TakenLaws.{nothing_read, nothing_own_read, nothing_numbered}
use Rattle.vyrd_explain.proofs.explainer.Explainer.new.Goals as goal

pub returns-clause-taken : goal.returns-clause-taken
returns-clause-taken c = record {
  checked = c.new.ensures.checked;
  read = c.new-2.ensures.read;
  entries = c.new-3.ensures.items ∙ sym (nothing_read c.new-2.result.max_lines);
  own_read = c.new-4.ensures.read;
  own_entries = c.new-5.ensures.items ∙ sym (nothing_own_read (own_limit c.new-4.result));
  numbers = c.new-6.ensures.items ∙ sym (nothing_numbered (own_limit c.new-4.result));
}

pub invariant_of-result : goal.invariant_of-result
invariant_of-result c = record {
  limit = c.new-2.ensures.limit ∙ sym c.new.ensures.limit;
  own = c.new-4.ensures.limit ∙ sym c.new.ensures.limit;
  low = subst (λ m. 1 ≤ m) (sym c.new.ensures.limit) c.requires.low;
  high = subst (λ m. m ≤ most_lines) (sym c.new.ensures.limit) c.requires.high;
  somewhere = λ works. ∣ (
    [],
    record {
      checked = c.new.ensures.checked;
      read = c.new-2.ensures.read;
      entries = c.new-3.ensures.items ∙ sym (nothing_read c.new-2.result.max_lines);
      own_read = c.new-4.ensures.read;
      own_entries = c.new-5.ensures.items ∙ sym (nothing_own_read (own_limit c.new-4.result));
      numbers = c.new-6.ensures.items ∙ sym (nothing_numbered (own_limit c.new-4.result));
    },
  ) ∣₁;
}
