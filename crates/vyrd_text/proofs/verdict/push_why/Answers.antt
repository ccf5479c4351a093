use Rattle.std.proofs.Common.{append_assoc, codes, decimal}
use Rattle.vyrd_text.proofs.verdict.push_why.Goals as goal

pub returns-in-View-clause-words : goal.returns-in-View-clause-words
returns-in-View-clause-words c =
    rw (c.in-View.is, c.push_number-in-View.ensures.bytes, c.push-in-View.ensures.bytes)
    (append_assoc c.args.line.now (codes "view differs at key ") (decimal c.in-View.key))
