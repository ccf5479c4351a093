use Rattle.vyrd_own.proofs.Prelude.{ap, ◌∙◌, filter, nat_le, slice_index_or, reverse, most}
use Rattle.vyrd_own.proofs.Prelude.{greatest_to}
use Rattle.vyrd_own.proofs.MarkLaws.{keys_of-marked}
use Rattle.vyrd_own.proofs.shown.ShownAmounts.greatest.Goals as goal

pub returns : goal.returns
returns c =
    c.greatest.ensures ∙ ap (greatest_to c.args.key) c.self.invariant.0
    ∙ ap (λ ks. slice_index_or (reverse (filter (λ k. nat_le k c.args.key) ks)) 0 most)
    (keys_of-marked c.self.inside.table) ∙ ap (greatest_to c.args.key) c.self.view_is
