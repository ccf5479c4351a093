use Rattle.vyrd_view.proofs.Prelude.{◌≡◌, ℕ, ◌+◌, ◌-◌, ◌==◌, if◌then◌else◌, ap, ◌∙◌, arith}
use Rattle.vyrd_view.proofs.Prelude.{on_ok_weaker, with_amount, shown_at, specified_of, sum_at}
use Rattle.vyrd_view.proofs.SidedLaws.{settled_of, with_same_amount}
use Rattle.vyrd_view.proofs.SummedLaws.{settled_sums, sides_settle, sum_moves}
use Rattle.vyrd_view.proofs.sums.Sums.exchange.Goals as goal

pub at-slot-requires : goal.at-slot-requires
at-slot-requires g c = (settled_sums c.args.self.now c.requires.settled).sides

pub put-requires-clause-settled : goal.put-requires-clause-settled
put-requires-clause-settled g c = (settled_sums c.args.self.now c.requires.settled).sides

pub returns-clause-settled : goal.returns-clause-settled
returns-clause-settled = grind (arith, sides_settle)

pub returns-clause-shown : goal.returns-clause-shown
returns-clause-shown g c =
    let s = c.args.self.now in
    let k = c.args.key in
    let left = c.at-slot.result.value.shown in
    let now = c.put.new.self in
    let low : ℕ = left - c.args.less + c.args.more in
    on_ok_weaker
    {P = (q : ℕ) → shown_at now q ≡ (if q == k then low else shown_at s.sides q)}
    {Q = (q : ℕ) → sum_at (record { sides = now; carries = s.carries }) q
    ≡ (if q == k then sum_at s k - c.args.less + c.args.more else sum_at s q)}
    c.put.result
    (sum_moves s now k c.args.less c.args.more low
    (omega (
      arith,
      c.stays_below.ensures.enough
          c.if-not-stays_below.false,
      c.at-slot.ensures.shown,
    ))
    (ap (λ n. n - c.args.less + c.args.more) c.at-slot.ensures.shown))
    c.put.ensures.shown

pub returns-clause-specified : goal.returns-clause-specified
returns-clause-specified g c =
    let s = c.args.self.now in
    let kept = c.at-slot.result.value.specified in
    on_ok_weaker
    {P = specified_of c.put.new.self ≡ with_amount (specified_of s.sides) c.args.key kept}
    {Q = specified_of c.put.new.self ≡ specified_of s.sides} c.put.result
    (λ now. now ∙ with_same_amount s.sides c.args.key kept
    (settled_of s.sides (settled_sums s c.requires.settled).sides) c.at-slot.ensures.specified)
    c.put.ensures.specified
