use Rattle.vyrd_own.proofs.Prelude.{ap, ◌∙◌, filter, nat_le, slice_index_or, most, least_from}
use Rattle.vyrd_own.proofs.MarkLaws.{keys_of-marked}
use Rattle.vyrd_own.proofs.shown.ShownAmounts.least.Goals as goal

pub returns : goal.returns
returns c =
    c.least.ensures ∙ ap (least_from c.args.key) c.self.invariant.0
    ∙ ap (λ ks. slice_index_or (filter (λ k. nat_le c.args.key k) ks) 0 most)
    (keys_of-marked c.self.inside.table) ∙ ap (least_from c.args.key) c.self.view_is
