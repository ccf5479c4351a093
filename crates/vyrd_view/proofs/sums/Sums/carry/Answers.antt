use Rattle.vyrd_view.proofs.Prelude.{◌≡◌, ℕ, ◌+◌, ◌-◌, ◌*◌, ◌^◌, ◌==◌, if◌then◌else◌, ◌∙◌, arith}
use Rattle.vyrd_view.proofs.Prelude.{on_ok_weaker, with_amount, shown_at, specified_of, IsSettled}
use Rattle.vyrd_view.proofs.Prelude.{sum_at}
use Rattle.vyrd_view.specs.Sided as sided
use Rattle.vyrd_view.proofs.SidedLaws.{settled_of, with_same_amount}
use Rattle.vyrd_view.proofs.SummedLaws.{settled_sums, sums_settled, sum_is, sum_carries, bare_stays}
use Rattle.vyrd_view.proofs.sums.Sums.carry.Goals as goal

pub at-before-requires : goal.at-before-requires
at-before-requires g c = (settled_sums c.args.self.now c.requires.settled).carries

pub exchanged-sum-requires-clause-enough : goal.exchanged-sum-requires-clause-enough
exchanged-sum-requires-clause-enough = grind (arith, sum_is)

pub exchanged-sum-requires-clause-fits : goal.exchanged-sum-requires-clause-fits
exchanged-sum-requires-clause-fits = grind (arith, sum_is)

pub put_uncounted-requires-clause-settled : goal.put_uncounted-requires-clause-settled
put_uncounted-requires-clause-settled g c = search (settled_sums, arith)

pub put-requires-clause-settled : goal.put-requires-clause-settled
put-requires-clause-settled g c = (settled_sums c.args.self.now c.requires.settled).sides

pub returns-clause-settled : goal.returns-clause-settled
returns-clause-settled g c =
    let s = c.args.self.now in
    let sides = c.put.new.self in
    let carries = c.put_uncounted.new.self in
    on_ok_weaker {P = sided.IsSettled sides}
    {Q = IsSettled (record { sides = sides; carries = carries })} c.put.result
    (λ now. sums_settled (record { sides = sides; carries = carries }) (record {
      sides = now;
      carries = c.in_ok-put_uncounted.ensures.settled;
      alone = bare_stays (specified_of s.carries) (specified_of carries) c.args.key
          (settled_sums s c.requires.settled).alone c.in_ok-put_uncounted.ensures.specified;
    }))
    c.put.ensures.settled

pub returns-clause-shown : goal.returns-clause-shown
returns-clause-shown g c =
    let s = c.args.self.now in
    let k = c.args.key in
    let sides = c.put.new.self in
    let carries = c.put_uncounted.new.self in
    let sum : ℕ = sum_at s k - c.args.less + c.args.more in
    let whole : c.args.slot.value.shown + 2 ^ 64 * c.at-before.result.value.shown - c.args.less
    + c.args.more ≡ sum =
    omega (arith, c.requires.shown, c.at-before.ensures.shown, sum_is s k) in
    on_ok_weaker
    {P = (q : ℕ) → shown_at sides q
    ≡ (if q == k then c.exchanged-sum.result.left else shown_at s.sides q)}
    {Q = (q : ℕ) → sum_at (record { sides = sides; carries = carries }) q
    ≡ (if q == k then sum else sum_at s q)}
    c.put.result
    (λ now. sum_carries s sides carries k sum
    (λ q. cc (c.in_ok-put_uncounted.ensures.shown q, c.exchanged-sum.ensures.carries))
    (λ q. cc (now q, c.exchanged-sum.ensures.left)))
    c.put.ensures.shown

pub returns-clause-specified : goal.returns-clause-specified
returns-clause-specified g c =
    let s = c.args.self.now in
    let kept = c.args.slot.value.specified in
    on_ok_weaker
    {P = specified_of c.put.new.self ≡ with_amount (specified_of s.sides) c.args.key kept}
    {Q = specified_of c.put.new.self ≡ specified_of s.sides} c.put.result
    (λ now. now ∙ with_same_amount s.sides c.args.key kept
    (settled_of s.sides (settled_sums s c.requires.settled).sides) c.requires.specified)
    c.put.ensures.specified
