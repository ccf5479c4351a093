use Rattle.vyrd_own_log.proofs.Prelude.{arith, sym, append-nil}
use Rattle.vyrd_own_log.proofs.NameLaws.{front_lacks, whole_lacks, parted_at}
use Rattle.vyrd_own_log.proofs.entry.split_field.Goals as goal

pub returns-in-Some : goal.returns-in-Some
returns-in-Some c =
    let found = c.in-Some.ensures in record {
      parts = parted_at 32 c.args.text.now c.in-Some.at found.0.high found.1;
      one_word = front_lacks 32 c.in-Some.at c.args.text.now (omega (arith, found.0.high))
          (λ i l. found.0.before i (omega arith) l);
    }

pub returns-in-None : goal.returns-in-None
returns-in-None c = record {
  parts = sym (append-nil c.args.text.now);
  one_word = whole_lacks 32 c.args.text.now (λ i l. c.in-None.ensures i (omega arith) l);
}
