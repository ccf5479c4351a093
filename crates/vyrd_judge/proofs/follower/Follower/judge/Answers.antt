use Rattle.vyrd_judge.proofs.Prelude.{◌+◌, [], Some, refl, ap, subst, sym, ◌∙◌, arith, rules_by}
use Rattle.vyrd_judge.proofs.Prelude.{Violation, newest_first, first_fault, HeadGives, effect_parts}
use Rattle.vyrd_judge.proofs.Prelude.{FollowerKept, IsCatchingUp, MayCatchUp}
use Rattle.vyrd_judge.specs.Judged.{KnowsState}
use Rattle.vyrd_judge.proofs.FollowerLaws.{may_judge, few_taken, few_position, taken_on, sound_up}
use Rattle.vyrd_judge.proofs.CostLaws.{judged_paid}
use Rattle.vyrd_judge.proofs.follower.Follower.judge.Goals as goal

pub judge-requires-clause-may : goal.judge-requires-clause-may
judge-requires-clause-may g c = may_judge c.args.x
    (subst (MayCatchUp (Some c.args.x)) (sym c.self.view_is) c.requires.may)

pub judge-requires-clause-sound : goal.judge-requires-clause-sound
judge-requires-clause-sound g c = search (sound_up, arith)

pub leave-requires : goal.leave-requires
leave-requires g c =
    record {
      few = few_taken c.args.x
          (subst (MayCatchUp (Some c.args.x)) (sym c.self.view_is) c.requires.may);
    }

pub overflow_add-line : goal.overflow_add-line
overflow_add-line = grind (arith, few_position)

pub overflow_add-line-in-Faults : goal.overflow_add-line-in-Faults
overflow_add-line-in-Faults = grind (arith, few_position)

pub returns-in-Goes-clause-gives : goal.returns-in-Goes-clause-gives
returns-in-Goes-clause-gives g c = λ starting log going.
    let i = c.self.inside in
    let was = subst (λ k. IsCatchingUp (Some c.args.x) k starting log) (sym c.self.view_is) going in
    let gives = c.in_ok-judge.ensures.gives starting log i.queue.waiting.items was.taken_in.judged
    was.taken_in.specified in
    let judged = subst (HeadGives (rules_by (g.S.Spec.charter i.replay.spec)) starting log
    (g.S.Spec.state c.judge.new.self.spec) (g.S.Spec.made c.judge.new.self.spec)
    c.judge.new.self.watches.by_caller c.args.x i.queue.waiting.items c.judge.new.words.views.first
    c.judge.new.words.views.since) c.in-Goes.is gives in
    let queued = c.leave.ensures.left c.args.x (newest_first log) c.requires.can_leave
    (rw c.self.invariant.2 was.taken_in.queued) in
    record {
      taken_in = taken_on _ _ starting log i.queue.waiting.items was.taken_in judged
          (rw (← c.self.invariant.2) queued)
          c.leave.ensures.waiting c.judge.ensures.charter refl refl c.judge.ensures.shadow
          c.judge.ensures.inner c.judge.ensures.views_header
          (subst (KnowsState (rules_by (g.S.Spec.charter i.replay.spec)) c.judge.new.words.views
          (g.S.Spec.state c.judge.new.self.spec)) c.in-Goes.is
          (c.in_ok-judge.ensures.known was.taken_in.specified)) refl refl refl
          (cc (c.judge.new.self.callers, c.judge.ensures.charter))
          c.judge.new.self.few.kept
          (c.in_ok-judge.ensures.few starting log i.queue.waiting.items (effect_parts [] [] log)
          was.taken_in.judged was.taken_in.few_writes);
      awaits = c.leave.ensures.awaits;
    }

pub returns-in-Faults-clause-gives : goal.returns-in-Faults-clause-gives
returns-in-Faults-clause-gives g c = λ starting log going.
    let i = c.self.inside in
    let was = subst (λ k. IsCatchingUp (Some c.args.x) k starting log) (sym c.self.view_is) going in
    let gives = c.in_ok-judge.ensures.gives starting log i.queue.waiting.items was.taken_in.judged
    was.taken_in.specified in
    ap (λ (k : FollowerKept). first_fault (rules_by k.charter) starting log) (sym c.self.view_is)
    ∙ subst (HeadGives (rules_by (g.S.Spec.charter i.replay.spec)) starting log
    (g.S.Spec.state c.judge.new.self.spec) (g.S.Spec.made c.judge.new.self.spec)
    c.judge.new.self.watches.by_caller c.args.x i.queue.waiting.items c.judge.new.words.views.first
    c.judge.new.words.views.since) c.in-Faults.is gives
    ∙ ap (λ n. Some (Violation (n + c.args.x.position + 2) c.in-Faults.why))
    (sym was.taken_in.started)
    ∙ ap (λ n. Some (Violation (i.started + n + 2) c.in-Faults.why)) (sym c.position.ensures)

pub returns-in-Goes-clause-steps : goal.returns-in-Goes-clause-steps
returns-in-Goes-clause-steps g c = λ starting log going.
    judged_paid g.S.Compared.Compare.price g.S.Spec.most_touched _ _ _ c.args.x c.leave.result
    starting log c.args.steps.now c.judge.new.steps c.leave.new.steps c.self.view_is
    (returns-in-Goes-clause-gives g c starting log going) c.judge.ensures.charter refl
    c.judge.ensures.shadow c.judge.ensures.shows
    c.in_ok-judge.ensures.steps c.leave.ensures.steps c.leave.ensures.waiting
