use Rattle.vyrd_own.proofs.Prelude.{ap, sym, ◌∙◌, ℕ, List, drop_of_length-le, hidden_with}
use Rattle.vyrd_own.proofs.SetLaws.{all_back, zeros}
use Rattle.vyrd_own.proofs.store.take_back.Goals as goal

pub returns-clause-same : goal.returns-clause-same
returns-clause-same g c = λ before pairs is added.
    ap (λ (ks : List ℕ). hidden_with (g.S.Store.amounts c.loop-key.store) (zeros ks))
    (sym (drop_of_length-le c.args.added.now c.loop-key-test.false))
    ∙ c.loop-key.invariant.amounts
    ∙ all_back before (g.S.Store.amounts c.args.store.now) c.args.added.now pairs is added
