use Rattle.std.proofs.Common.{append_assoc}
use Rattle.vyrd_text.proofs.verdict.push_words.Goals as goal

pub returns-in-Malformed-clause-words : goal.returns-in-Malformed-clause-words
returns-in-Malformed-clause-words c =
    rw (
      c.in-Malformed.is,
      c.push-in-Malformed-3.ensures.bytes,
      c.text_of_rule.ensures.text,
      c.push-in-Malformed-2.ensures.bytes,
      c.push_number-in-Malformed.ensures.bytes,
      c.push-in-Malformed.ensures.bytes,
    )
    (simp append_assoc)
