use Rattle.vyrd_view.proofs.Prelude.{◌≡◌, false, ap, ◌∙◌, first_difference, view_by}
use Rattle.vyrd_view.proofs.ReadyLaws.{walked_shows}
use Rattle.vyrd_view.proofs.leaves.Leaves.first_difference.Goals as goal

pub returns : goal.returns
returns c =
    let kept = c.self.inside in
    let sound : kept.parts.refused ≡ false = ap (λ k. k.refused) c.self.view_is ∙ c.requires in
    c.first_difference.ensures
    ∙ ap (λ shown. first_difference shown kept.parts.specified)
    (walked_shows kept.words.items kept.parts.pairs kept.marks.items c.self.invariant.0.some
    (c.self.invariant.1 sound))
    ∙ ap (λ k. first_difference (view_by k.shows k.words) k.specified) c.self.view_is
