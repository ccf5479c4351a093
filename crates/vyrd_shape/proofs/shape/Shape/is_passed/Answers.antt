use Rattle.vyrd_shape.proofs.Prelude.{◌≡◌, ◌<◌, ◌∙◌, ap, sym, true, false, ◌&&◌, get_or, nat_lt}
use Rattle.vyrd_shape.proofs.Prelude.{has_inner_commit, plain_words, HasFollowed}
use Rattle.vyrd_shape.proofs.ShapeLaws.{kept_by, passed_is}
use Rattle.vyrd_shape.proofs.shape.Shape.is_passed.Goals as goal

pub returns-then-phase : goal.returns-then-phase
returns-then-phase c = λ earlier followed is. let s = c.self.inside in
    let now = kept_by s.header s.phases.items s.holders s.commits s.stamps in
    let low : c.args.word < plain_words s.header = rw (← c.self.view_is) at c.requires.word in
    let low_c : c.args.caller < s.header.callers = rw (← c.self.view_is) at c.requires.caller in
    let inside : HasFollowed now earlier = rw c.self.view_is followed in
    let inner : has_inner_commit c.args.caller earlier ≡ true
    = ap (λ phase. phase.inner) (sym is) ∙ c.if-phase.true in
    c.is_later.ensures
    ∙ ap (λ k. nat_lt k (get_or s.stamps c.args.word 0)) c.of.ensures.stamp
    ∙ ap (λ b. b && nat_lt (get_or s.commits.by_caller c.args.caller 0)
    (get_or s.stamps c.args.word 0))
    (sym inner)
    ∙ sym (passed_is now earlier c.args.caller c.args.word c.self.invariant.enough_stamps low_c low
    inside)

pub returns-else-phase : goal.returns-else-phase
returns-else-phase c = λ earlier followed is. let s = c.self.inside in
    let now = kept_by s.header s.phases.items s.holders s.commits s.stamps in
    let low : c.args.word < plain_words s.header = rw (← c.self.view_is) at c.requires.word in
    let low_c : c.args.caller < s.header.callers = rw (← c.self.view_is) at c.requires.caller in
    let inside : HasFollowed now earlier = rw c.self.view_is followed in
    let none : has_inner_commit c.args.caller earlier ≡ false
    = ap (λ phase. phase.inner) (sym is) ∙ c.if-phase.false in
    c.if-phase.false
    ∙ ap (λ b. b && nat_lt (get_or s.commits.by_caller c.args.caller 0)
    (get_or s.stamps c.args.word 0))
    (sym none)
    ∙ sym (passed_is now earlier c.args.caller c.args.word c.self.invariant.enough_stamps low_c low
    inside)
