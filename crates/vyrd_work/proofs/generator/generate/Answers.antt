use Rattle.vyrd_work.proofs.Prelude.{subst, sym, KeepsLimits, generated}
use Rattle.vyrd_memory.specs.declared.op.Variant.TheVariants.{Correct}
use Rattle.vyrd_work.proofs.GeneratedLaws.{generated_keeps}
use Rattle.vyrd_work.proofs.generator.generate.Goals as goal

pub returns-clause-work : goal.returns-clause-work
unfolding generated
returns-clause-work c = λ i. record {
  header = c.generated_header.ensures i;
  variant = Correct;
  ops = c.in_ok-ops.ensures i;
  turns = c.new.ensures.items i;
}

pub returns-clause-limits : goal.returns-clause-limits
returns-clause-limits c = subst KeepsLimits (sym (returns-clause-work c))
    (generated_keeps c.args.n c.requires.high)
