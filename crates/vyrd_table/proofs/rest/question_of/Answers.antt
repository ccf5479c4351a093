use Rattle.std.proofs.Common.{◌+◌, ap}
use Rattle.vyrd_table.proofs.PriceLaws.{digits_counted}
use Rattle.vyrd_table.proofs.rest.question_of.Goals as goal

pub returns : goal.returns
returns c = ap (λ n. n + 1) (digits_counted c.args.keys c.ranges.keys.fits)
