use Rattle.vyrd_view.proofs.Prelude.{◌≡◌, false, refl, ap, sym, ◌∙◌, amount_of, collected}
use Rattle.vyrd_view.proofs.Prelude.{first_difference, amount_of-collected, specified_of, sum_at}
use Rattle.vyrd_view.proofs.ApartLaws.{least_is_first}
use Rattle.vyrd_view.proofs.parts.Parts.first_difference.Goals as goal

pub returns : goal.returns
returns c =
    let sound : c.self.inside.refused ≡ false = ap (λ k. k.refused) c.self.view_is ∙ c.requires in
    let pairs = c.self.inside.pairs.items in
    least_is_first (sum_at c.self.inside.sums) (amount_of (specified_of c.self.inside.sums.sides))
    (collected pairs) (specified_of c.self.inside.sums.sides)
    c.first_difference.result (λ q. (c.self.invariant sound).1 q
    ∙ sym (amount_of-collected pairs q)) (λ q. refl) c.first_difference.ensures
    ∙ ap (λ k. first_difference (collected k.pairs) k.specified) c.self.view_is
