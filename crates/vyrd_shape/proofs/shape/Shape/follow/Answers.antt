use Rattle.vyrd_shape.proofs.Prelude.{◌≡◌, ◌<◌, ◌≤◌, ◌+◌, ◌&&◌, ℕ, true, false, List, ◌∷◌, ◌∙◌, ap}
use Rattle.vyrd_shape.proofs.Prelude.{sym, subst, set, None, arith, has_block, has_inner_commit}
use Rattle.vyrd_shape.proofs.Prelude.{broken_rule, is_lone_commit, phase_of, holders_after}
use Rattle.vyrd_shape.proofs.Prelude.{AreOrdered, AreRaised, CommitStamps, effect_stamp}
use Rattle.vyrd_shape.proofs.Prelude.{takes_effect, ShapeKept, HasFollowed}
use Rattle.vyrd_shape.specs.declared.shape.Shape.TheInside.{Inside}
use Rattle.vyrd_shape.proofs.OrderLaws.{AreHeld, ordered_next, added_inside}
use Rattle.vyrd_shape.proofs.ShapeLaws.{kept_by, followed_by, phase_is}
use Rattle.vyrd_shape.proofs.shape.Shape.follow.Goals as goal
use Rattle.vyrd_shape.proofs.shape.Shape.follow.Goals.{then-commits_inside, else-commits_inside}

pub returns-clause-followed : goal.returns-clause-followed
returns-clause-followed g c = λ earlier followed rules.
    let s = c.self.inside in
    let e = c.args.entry.now in
    let now : ShapeKept = kept_by s.header s.phases.items s.holders s.commits s.stamps in
    let low : e.caller < s.header.callers = rw (← c.self.view_is) at c.requires.in_range.caller in
    let inside : HasFollowed now earlier = rw c.self.view_is followed in
    let kept : broken_rule s.header earlier e ≡ None
    = subst (λ (kept : ShapeKept). broken_rule kept.header earlier e ≡ None) (sym c.self.view_is)
    rules in
    let is = phase_is s.phases.items e.caller c.index-phase.result.now (phase_of e.caller earlier)
    c.index-phase.ensures (inside.phases e.caller low) in
    let stamp : c.effect_stamp-stamp.result
    ≡ effect_stamp s.commits (has_inner_commit e.caller earlier) e.caller
    = c.effect_stamp-stamp.ensures
    ∙ ap (λ (kept : ShapeKept). effect_stamp kept.commits c.index-phase.result.now.inner e.caller)
    (sym c.self.view_is)
    ∙ ap (λ phase. effect_stamp s.commits phase.inner e.caller) is in
    let effect = takes_effect s.holders.by_word (has_block e.caller earlier) e.caller e.kind in
    let raised : AreRaised effect
    (effect_stamp s.commits (has_inner_commit e.caller earlier) e.caller)
    s.stamps c.follow.new.stamps = rw (is, stamp) at c.follow.ensures.stamps in
    let held : AreHeld s.header s.holders.by_word e.caller earlier
    = λ w plain. inside.holders e.caller w low plain in
    let words : holders_after s.holders.by_word (has_block e.caller earlier) e.caller e.kind
    ≡ c.follow.new.self.by_word
    = ap (λ phase. holders_after s.holders.by_word phase.in_block e.caller e.kind) (sym is)
    ∙ sym c.follow.ensures.by_word in
    let commits : c.commits_inside.result ≡ (has_block e.caller earlier && is_lone_commit e.kind)
    = c.commits_inside.ensures ∙ ap (λ phase. phase.in_block && is_lone_commit e.kind) is in
    let next = λ (commits : CommitStamps) (stamps : List ℕ)
    (ordered : AreOrdered s.header commits stamps (e ∷ earlier))
    (more : commits.next ≤ s.commits.next + 1).
    subst (λ l. HasFollowed (record {
      header = s.header;
      phases = set s.phases.items e.caller c.after.result;
      holders = l;
      commits = commits;
      stamps = stamps;
    }) (e ∷ earlier)) words
    (followed_by now earlier e.caller e.kind c.after.result commits stamps low
    c.self.invariant.enough_phases c.self.invariant.enough_words
    (c.after.ensures e.caller earlier is) ordered more kept inside) in
    let goal_of = λ (x : Inside). HasFollowed (record {
      header = x.header;
      phases = set x.phases.items e.caller c.after.result;
      holders = x.holders.by_word;
      commits = x.commits;
      stamps = x.stamps;
    }) (e ∷ earlier) in
    elim c.if-commits_inside.branch [
      | then-commits_inside w ↦
          let inner : (has_block e.caller earlier && is_lone_commit e.kind) ≡ true
          = sym commits ∙ w.if-commits_inside.true in
          subst goal_of (sym w.self-inside-is) (next w.add.new.self w.add.new.stamps
          (added_inside s.header s.commits w.add.new.self s.stamps c.follow.new.stamps
          w.add.new.stamps s.holders.by_word e.caller _ e.kind earlier low
          c.self.invariant.enough_commits inner inside.rules kept held raised w.add.ensures.added
          inside.order) (omega (
            arith,
            w.add.ensures.added.low,
            ap (λ commits. commits.next) w.add.ensures.added.is,
          )))
      | else-commits_inside w ↦
          let none : (has_block e.caller earlier && is_lone_commit e.kind) ≡ false
          = sym commits ∙ w.if-commits_inside.false in
          subst goal_of (sym w.self-inside-is) (next s.commits c.follow.new.stamps
          (ordered_next s.header s.commits s.stamps c.follow.new.stamps s.holders.by_word e.caller
          e.kind earlier low inside.rules kept held raised none inside.order) (omega arith))
    ]
