use Rattle.vyrd_own_spec.proofs.Prelude.{sym, subst, texts, IsSmall}
use Rattle.vyrd_own_spec.proofs.SmallLaws.{small_written}
use Rattle.vyrd_own_spec.proofs.specification.Specification.new.Goals as goal

pub invariant_of-result : goal.invariant_of-result
invariant_of-result c =
    (c.requires, subst IsSmall (sym c.requires) (small_written (texts c.args.lines.items)))
