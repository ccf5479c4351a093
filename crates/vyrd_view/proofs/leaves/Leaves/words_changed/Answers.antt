use Rattle.vyrd_view.proofs.Prelude.{ap, sym, ◌∙◌, subst, IsWalked}
use Rattle.vyrd_view.proofs.leaves.Leaves.words_changed.Goals as goal

pub leaves_changed-requires-clause-walked : goal.leaves_changed-requires-clause-walked
leaves_changed-requires-clause-walked g c =
    let kept = c.self.inside in
    rw c.deref.ensures.value
    (subst (IsWalked kept.words.items kept.parts.pairs) (sym c.deref_mut.ensures.value)
    (c.self.invariant.1 (ap (λ k. k.refused) c.self.view_is ∙ c.requires.sound)))

pub leaves_changed-requires-clause-elsewhere : goal.leaves_changed-requires-clause-elsewhere
leaves_changed-requires-clause-elsewhere g c =
    rw (c.deref.ensures.value ∙ ap (λ k. k.words) c.self.view_is) c.requires.elsewhere
