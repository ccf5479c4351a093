use Rattle.vyrd_batch.proofs.LineFacts.{size_too_high, size_within}
use Rattle.vyrd_batch.proofs.reader.in_range.Goals as goal

pub returns-then-size-gt-MOST_BYTES : goal.returns-then-size-gt-MOST_BYTES
returns-then-size-gt-MOST_BYTES c = λ line is. size_too_high c.args.size line c.ranges.size.fits is
    c.if-size-gt-MOST_BYTES.true

pub returns : goal.returns
returns c = λ line is. size_within c.args.size line c.ranges.size.fits is
    c.if-size-gt-MOST_BYTES.false
