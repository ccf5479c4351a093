use Rattle.vyrd_check.proofs.Prelude.{[], subst, sym, IsLimit}
use Rattle.vyrd_check.proofs.CostLaws.{unread, nothing_owed}
use Rattle.vyrd_check.proofs.checker.Checker.new.Goals as goal

pub invariant_of-result : goal.invariant_of-result
invariant_of-result c = record {
  limit = subst IsLimit (sym c.new.ensures.limit)
      (record { low = c.requires.low; high = c.requires.high });
  somewhere = λ works none. ∣ ([], c.new.ensures.undecided) ∣₁;
}

pub returns-clause-owed : goal.returns-clause-owed
returns-clause-owed c = nothing_owed c.new.result c.new.ensures.judge

pub returns-clause-unread : goal.returns-clause-unread
returns-clause-unread c = unread c.args.max_lines
