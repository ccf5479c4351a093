use Rattle.std.proofs.Common.{take, sym, subst, ap, ◌∙◌}
use Rattle.std.proofs.Math.Seq.{take-length}
use Rattle.vyrd_base.specs.Places.{newest_first}
use Rattle.vyrd_base.specs.Front.{first_break}
use Rattle.vyrd_shape.specs.Following.{HasFollowed}
use Rattle.vyrd_base.proofs.FrontLaws.{kept_next, newest_next, front_at, kept_all, front_of_all}
use Rattle.vyrd_base.proofs.FrontLaws.{nothing_broken}
use Rattle.vyrd_explain.proofs.front.front_len.Goals as goal

pub loop-i-init : goal.loop-i-init
loop-i-init c = record {
  header = c.in_ok-shape.ensures.header;
  followed = c.in_ok-shape.ensures.followed;
  kept = nothing_broken c.args.header;
}

pub loop-i-preserved : goal.loop-i-preserved
loop-i-preserved c =
    let earlier = newest_first (take c.loop-i.i c.args.entries.now) in
    let ok = c.in-Ok.ensures.ok earlier c.loop-i.invariant.followed in
    record {
      header = c.step.ensures.header ∙ c.loop-i.invariant.header;
      followed = subst (HasFollowed c.step.new.self)
          (sym (newest_next c.args.entries.now c.loop-i.i _ c.loop-i-test.true)) ok.1;
      kept = kept_next c.args.header c.loop-i.shape.header c.args.entries.now c.loop-i.i _
          c.loop-i.invariant.header c.loop-i-test.true c.loop-i.invariant.kept ok.0;
    }

pub returns-in-Err-clause-front : goal.returns-in-Err-clause-front
returns-in-Err-clause-front c =
    front_at c.args.header c.loop-i.shape.header c.args.entries.now c.loop-i.i _ _
    c.loop-i.invariant.header c.loop-i-test.true c.loop-i.invariant.kept
    (c.in-Err.ensures.fault (newest_first (take c.loop-i.i c.args.entries.now))
    c.loop-i.invariant.followed)

pub returns-in-Err-clause-kept : goal.returns-in-Err-clause-kept
returns-in-Err-clause-kept c = c.loop-i.invariant.kept

pub returns-clause-front : goal.returns-clause-front
returns-clause-front c = front_of_all c.args.header c.args.entries.now
    (kept_all c.args.header c.args.entries.now c.loop-i.i c.loop-i.auto.i-end c.loop-i-test.false
    c.loop-i.invariant.kept)

pub returns-clause-kept : goal.returns-clause-kept
returns-clause-kept c = ap (first_break c.args.header) (take-length c.args.entries.now)
    ∙ kept_all c.args.header c.args.entries.now c.loop-i.i c.loop-i.auto.i-end
    c.loop-i-test.false c.loop-i.invariant.kept
