use Rattle.std.proofs.Common.{◌-◌, ◌^◌, sym, ◌∙◌}
use Rattle.vyrd_view.proofs.PairLaws.{nothing_at_most}
use Rattle.vyrd_view.proofs.parts.Parts.new.Goals as goal

pub invariant_of-result : goal.invariant_of-result
invariant_of-result c = λ sound. (
  c.in_ok-new.ensures.settled,
  λ q. c.in_ok-new.ensures.shown q ∙ sym (c.requires q),
  nothing_at_most (2 ^ 64 - 1) c.args.pairs.items c.requires,
)
