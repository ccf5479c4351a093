use Rattle.vyrd_view.proofs.Prelude.{on_ok_weaker, ◌≡◌, ℕ, shown_at, IsSettled, sum_at}
use Rattle.vyrd_view.specs.Sided as sided
use Rattle.vyrd_view.proofs.SummedLaws.{settled_sums, sides_settle, sum_stays}
use Rattle.vyrd_view.proofs.sums.Sums.specify.Goals as goal

pub specify-requires : goal.specify-requires
specify-requires g c = record { settled = (settled_sums c.args.self.now c.requires.settled).sides }

pub returns-clause-settled : goal.returns-clause-settled
returns-clause-settled g c =
    let s = c.args.self.now in
    on_ok_weaker {P = sided.IsSettled c.specify.new.self}
    {Q = IsSettled (record { sides = c.specify.new.self; carries = s.carries })} c.specify.result
    (sides_settle s c.specify.new.self c.requires.settled) c.specify.ensures.settled

pub returns-clause-shown : goal.returns-clause-shown
returns-clause-shown g c =
    let s = c.args.self.now in
    on_ok_weaker {P = (q : ℕ) → shown_at c.specify.new.self q ≡ shown_at s.sides q}
    {Q = (q : ℕ) → sum_at (record { sides = c.specify.new.self; carries = s.carries }) q
    ≡ sum_at s q}
    c.specify.result (sum_stays s c.specify.new.self) c.specify.ensures.shown
