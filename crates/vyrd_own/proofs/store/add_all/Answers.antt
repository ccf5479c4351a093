use Rattle.vyrd_own.proofs.Prelude.{sym, subst, AreAdded}
use Rattle.vyrd_own.proofs.store.add_all.Goals as goal

pub returns-in-Err-clause-err : goal.returns-in-Err-clause-err
returns-in-Err-clause-err g c =
    c.take_back.ensures.same (g.S.Store.amounts c.args.store.now) c.args.pairs.now c.requires
    (subst (λ ks. AreAdded (g.S.Store.amounts c.args.store.now)
    (g.S.Store.amounts c.add_keys.new.store) ks c.args.pairs.now)
    (sym c.deref.ensures.value) c.in-Err.ensures.added)
