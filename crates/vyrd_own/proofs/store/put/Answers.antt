use Rattle.vyrd_own.proofs.Prelude.{ap, sym, ◌∙◌, ℕ, List, arith, drop_of_length-le, hidden_with}
use Rattle.vyrd_own.proofs.Prelude.{with_amount}
use Rattle.vyrd_own.proofs.SetLaws.{all_set, set_step, finals, key_at}
use Rattle.vyrd_own.proofs.store.put.Goals as goal

pub returns-clause-amounts : goal.returns-clause-amounts
returns-clause-amounts g c = λ before added is a.
    ap (λ (ps : List (ℕ × ℕ)). hidden_with (g.S.Store.amounts c.loop-key.store)
    (finals c.args.pairs.now ps))
    (sym (drop_of_length-le c.args.pairs.now c.loop-key-test.false))
    ∙ c.loop-key.invariant.amounts.0
    ∙ all_set before (g.S.Store.amounts c.args.store.now) added c.args.pairs.now is a

pub loop-key-preserved : goal.loop-key-preserved
loop-key-preserved g c = record {
  amounts = set_step (g.S.Store.amounts c.loop-key.store) (g.S.Store.amounts c.put_one.new.store)
      c.args.pairs.now c.loop-key.key-index _
      c.loop-key-test.true c.loop-key.invariant.amounts
      (c.put_one.ensures.amounts
      ∙ ap (with_amount (g.S.Store.amounts c.loop-key.store)
      (key_at c.args.pairs.now c.loop-key.key-index)) c.amount_after-amount.ensures.amount);
  steps = omega (
    arith,
    c.loop-key.invariant.steps,
    c.tick.ensures,
    c.amount_after-amount.ensures.steps,
    c.put_one.ensures.steps,
  );
}
