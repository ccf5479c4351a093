use Rattle.vyrd_own.proofs.Prelude.{ap, sym, ◌∙◌, subst, hidden_with, AreAdded}
use Rattle.vyrd_own.proofs.updates.Updates.put.Goals as goal

pub returns-in-Err-clause-shown_same : goal.returns-in-Err-clause-shown_same
returns-in-Err-clause-shown_same g c =
    c.take_back.ensures.same c.args.shown.now c.deref.result.now c.requires.shown
    (subst (λ ks. AreAdded c.args.shown.now c.add_all.new.store ks c.deref.result.now)
    (sym c.deref-in-Err.ensures.value) c.in_ok-add_all.ensures.added)

pub returns-clause-shown : goal.returns-clause-shown
returns-clause-shown g c =
    c.put.ensures.amounts c.args.shown.now c.add_all.new.added.items c.requires.shown
    (subst (AreAdded c.args.shown.now c.add_all.new.store c.add_all.new.added.items)
    (c.deref.ensures.value ∙ sym c.deref-3.ensures.value) c.in_ok-add_all.ensures.added)
    ∙ ap (hidden_with c.args.shown.now) c.deref-3.ensures.value

pub returns-clause-hidden : goal.returns-clause-hidden
returns-clause-hidden g c =
    c.put-2.ensures.amounts c.args.hidden.now c.add_all-2.new.added.items c.requires.hidden
    (subst (AreAdded c.args.hidden.now c.add_all-2.new.store c.add_all-2.new.added.items)
    (c.deref-2.ensures.value ∙ sym c.deref-4.ensures.value) c.in-Ok.ensures.added)
    ∙ ap (hidden_with c.args.hidden.now) c.deref-4.ensures.value
