use Rattle.vyrd_shape.proofs.Prelude.{◌≡◌, ◌<◌, ◌∙◌, ap, sym, false, Some, cond, arith, nat_le}
use Rattle.vyrd_shape.proofs.Prelude.{nat_tests, CallerRange, checks_of, first_broken, phase_of}
use Rattle.vyrd_shape.proofs.Prelude.{HasFollowed}
use Rattle.vyrd_shape.proofs.ShapeLaws.{kept_by, phase_is}
use Rattle.vyrd_shape.proofs.shape.Shape.broken_by.Goals as goal

pub returns-clause-rule : goal.returns-clause-rule
returns-clause-rule c = λ earlier followed. let s = c.self.inside in let who =
    c.args.entry.now.caller in
    let low : who < s.header.callers = omega arith in
    let within : nat_le s.header.callers who ≡ false = grind (arith, nat_tests) in
    let now = kept_by s.header s.phases.items s.holders s.commits s.stamps in
    let inside : HasFollowed now earlier = rw c.self.view_is followed in
    let is = phase_is s.phases.items who c.index-phase.result.now (phase_of who earlier)
    c.index-phase.ensures (inside.phases who low) in
    let now : nat_le c.args.self.now.header.callers who ≡ false = rw (← c.self.view_is) within in
    c.broken_in.ensures.rule earlier followed is
    ∙ ap (λ b. cond b (Some CallerRange)
    (first_broken (checks_of c.args.self.now.header earlier who c.args.entry.now.kind))) (sym now)
