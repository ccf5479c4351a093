use Rattle.vyrd_batch.proofs.Prelude.{◌++◌, ap, ◌∙◌, codes}
use Rattle.vyrd_batch.proofs.reader.size_in.Goals as goal

pub returns : goal.returns
returns c = c.in_range.ensures c.args.line.now
    (c.in_ok-digits.ensures ∙ ap (λ digits. codes "log " ++ digits) c.in_ok-size.ensures)
