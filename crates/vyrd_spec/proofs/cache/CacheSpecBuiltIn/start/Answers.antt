use Rattle.vyrd_spec.proofs.Prelude.{ap, ◌∙◌, amount_of, showing, row_amounts}
use Rattle.vyrd_spec.proofs.RowAmounts.{nothing_in_row}
use Rattle.vyrd_spec.proofs.cache.CacheSpecBuiltIn.start.Goals as goal

pub invariant_of-result-clause-small : goal.invariant_of-result-clause-small
invariant_of-result-clause-small c = λ key some. absurd (some (ap (λ s. amount_of s key)
    (ap row_amounts c.in_ok-empty_row.ensures ∙ nothing_in_row c.size.result)))

pub returns-clause-state : goal.returns-clause-state
returns-clause-state c = ap showing (ap row_amounts c.in_ok-empty_row.ensures
    ∙ nothing_in_row c.size.result)
