use Rattle.vyrd_judge.proofs.Prelude.{◌≡◌, ◌<◌, ◌^◌, ◌∷◌, ◌++◌, [], refl, ap, subst, sym, ◌∙◌}
use Rattle.vyrd_judge.proofs.Prelude.{rules_by, first_fault, verdict_so_far, FollowerKept}
use Rattle.vyrd_judge.proofs.Prelude.{IsFaultless, IsSomewhere, IfOk-weaker}
use Rattle.vyrd_judge.proofs.FollowerLaws.{broken_so_far, may_take, may_queue, low_commits}
use Rattle.vyrd_judge.proofs.FollowerLaws.{few_commits, few_observers, low_caller_of, taken_all}
use Rattle.vyrd_judge.proofs.FollowerLaws.{may_catch_up, keeps_by, answer_with, sound_of}
use Rattle.vyrd_judge.proofs.CostLaws.{at_most_then, broken_paid, taken_paid}
use Rattle.vyrd_judge.proofs.follower.Follower.take.Goals as goal

pub returns-in-Err-clause-answer : goal.returns-in-Err-clause-answer
returns-in-Err-clause-answer g c = λ starting log f.
    let was = subst (λ k. IsFaultless k starting log) (sym c.self.view_is) f in
    broken_so_far c.args.entry c.in-Err.fault.rule was (c.in-Err.ensures.fault _ was.taken_in.shape)
    ∙ ap (λ (k : FollowerKept). verdict_so_far (rules_by k.charter) starting
    (log ++ c.args.entry ∷ []))
    c.self.view_is

pub observer_returns-observes-requires : goal.observer_returns-observes-requires
observer_returns-observes-requires g c =
    rw c.self.invariant.2
    (low_caller_of c.args.entry (subst IsSomewhere (sym c.self.view_is) c.requires.somewhere)
    (keeps_by c.args.entry (rules_by (g.S.Spec.charter c.self.inside.replay.spec)).header
    c.self.invariant.0 refl c.in_default.ensures.ok))

pub follow_counted-requires-clause-sound : goal.follow_counted-requires-clause-sound
follow_counted-requires-clause-sound g c = sound_of (subst IsSomewhere
    (sym c.self.view_is) c.requires.somewhere)

pub follow_counted-requires-clause-few : goal.follow_counted-requires-clause-few
follow_counted-requires-clause-few g c =
    low_commits (subst (λ (k : FollowerKept). k.entries < 2 ^ 62) (sym c.self.view_is)
    c.requires.few)
    (subst IsSomewhere (sym c.self.view_is) c.requires.somewhere)

pub follow_counted-requires-clause-may : goal.follow_counted-requires-clause-may
follow_counted-requires-clause-may g c =
    may_take c.args.entry (subst IsSomewhere (sym c.self.view_is) c.requires.somewhere)
    (keeps_by c.args.entry c.self.inside.words.shadow.header c.self.invariant.0 c.self.invariant.1
    c.in_default.ensures.ok)

pub follow-requires-clause-may : goal.follow-requires-clause-may
follow-requires-clause-may g c =
    let i = c.self.inside in
    rw c.self.invariant.2
    (may_queue c.args.entry (subst IsSomewhere (sym c.self.view_is) c.requires.somewhere)
    (keeps_by c.args.entry (rules_by (g.S.Spec.charter c.self.inside.replay.spec)).header
    c.self.invariant.0 refl c.in_default.ensures.ok))

pub counted-self-inside-requires : goal.counted-self-inside-requires
counted-self-inside-requires g c =
    let was = subst IsSomewhere (sym c.self.view_is) c.requires.somewhere in
    few_commits (subst (λ (k : FollowerKept). k.entries < 2 ^ 62) (sym c.self.view_is)
    c.requires.few) was

pub counted-self-inside-requires-2 : goal.counted-self-inside-requires-2
counted-self-inside-requires-2 g c =
    let was = subst IsSomewhere (sym c.self.view_is) c.requires.somewhere in
    few_observers
    (subst (λ (k : FollowerKept). k.entries < 2 ^ 62) (sym c.self.view_is) c.requires.few) was

pub catch_up-requires-clause-may : goal.catch_up-requires-clause-may
catch_up-requires-clause-may g c =
    may_catch_up _ _ c.in_ok-first.first c.args.entry
    (subst (λ (k : FollowerKept). k.entries < 2 ^ 62) (sym c.self.view_is) c.requires.few)
    (subst IsSomewhere (sym c.self.view_is) c.requires.somewhere)
    (taken_all _ _ c.in_ok-first.first c.args.entry c.self.inside.queue.header c.is_commit.result
    c.observer_returns-observes.result
    c.self.invariant.0 c.self.invariant.1 c.self.invariant.2 c.in_default.ensures.ok
    c.step_counted.ensures.header c.in_ok-follow_counted.ensures.taken
    c.follow_counted.ensures.header c.follow_counted.ensures.views_header
    c.in_ok-first.ensures.taken_up c.in_ok-first.ensures.awaits refl refl refl refl refl refl
    c.is_commit.ensures c.counted-self-inside.ensures c.observer_returns-observes.ensures
    c.counted-self-inside-2.ensures refl (
      c.in_ok-follow_counted.ensures.specified,
      c.in_ok-follow_counted.ensures.sound,
    ))

pub returns-clause-answer : goal.returns-clause-answer
returns-clause-answer g c = λ starting log f.
    let r = rules_by (g.S.Spec.charter c.self.inside.replay.spec) in
    let was = subst (λ k. IsFaultless k starting log) (sym c.self.view_is) f in
    let more = log ++ c.args.entry ∷ [] in
    let going = taken_all _ _ c.in_ok-first.first c.args.entry c.self.inside.queue.header
    c.is_commit.result c.observer_returns-observes.result
    c.self.invariant.0 c.self.invariant.1 c.self.invariant.2 c.in_default.ensures.ok
    c.step_counted.ensures.header c.in_ok-follow_counted.ensures.taken
    c.follow_counted.ensures.header c.follow_counted.ensures.views_header
    c.in_ok-first.ensures.taken_up c.in_ok-first.ensures.awaits refl refl refl refl refl refl
    c.is_commit.ensures c.counted-self-inside.ensures c.observer_returns-observes.ensures
    c.counted-self-inside-2.ensures refl (
      c.in_ok-follow_counted.ensures.specified,
      c.in_ok-follow_counted.ensures.sound,
    ) starting log was in
    IfOk-weaker c.catch_up.result (λ v. v ≡ first_fault r starting more)
    (λ v. v ≡ verdict_so_far (rules_by c.args.self.now.charter) starting more)
    (λ v is. cc (answer_with v going.taken_in is, c.self.view_is))
    (c.catch_up.ensures.answer starting more going)

pub returns-clause-follows : goal.returns-clause-follows
returns-clause-follows g c = λ starting log f is.
    let was = subst (λ k. IsFaultless k starting log) (sym c.self.view_is) f in
    c.catch_up.ensures.follows starting (log ++ c.args.entry ∷ [])
    (taken_all _ _ c.in_ok-first.first c.args.entry c.self.inside.queue.header c.is_commit.result
    c.observer_returns-observes.result
    c.self.invariant.0 c.self.invariant.1 c.self.invariant.2 c.in_default.ensures.ok
    c.step_counted.ensures.header c.in_ok-follow_counted.ensures.taken
    c.follow_counted.ensures.header c.follow_counted.ensures.views_header
    c.in_ok-first.ensures.taken_up c.in_ok-first.ensures.awaits refl refl refl refl refl refl
    c.is_commit.ensures c.counted-self-inside.ensures c.observer_returns-observes.ensures
    c.counted-self-inside-2.ensures refl (
      c.in_ok-follow_counted.ensures.specified,
      c.in_ok-follow_counted.ensures.sound,
    ) starting log was) is

pub returns-in-Err-clause-steps : goal.returns-in-Err-clause-steps
returns-in-Err-clause-steps g c = λ starting log f.
    broken_paid g.S.Compared.Compare.price g.S.Spec.most_touched _ _ c.args.entry c.args.steps.now
    c.step_counted.new.steps _ c.self.view_is
    c.step_counted.ensures.steps
    (subst (λ (k : FollowerKept). k.entries < 2 ^ 62) (sym c.self.view_is) c.requires.few) starting
    log
    (subst (λ k. IsFaultless k starting log) (sym c.self.view_is) f)

pub returns-clause-steps : goal.returns-clause-steps
returns-clause-steps g c = λ starting log f.
    let was = subst (λ k. IsFaultless k starting log) (sym c.self.view_is) f in
    let more = log ++ c.args.entry ∷ [] in
    let going = taken_all _ _ c.in_ok-first.first c.args.entry c.self.inside.queue.header
    c.is_commit.result c.observer_returns-observes.result
    c.self.invariant.0 c.self.invariant.1 c.self.invariant.2 c.in_default.ensures.ok
    c.step_counted.ensures.header c.in_ok-follow_counted.ensures.taken
    c.follow_counted.ensures.header c.follow_counted.ensures.views_header
    c.in_ok-first.ensures.taken_up c.in_ok-first.ensures.awaits refl refl refl refl refl refl
    c.is_commit.ensures c.counted-self-inside.ensures c.observer_returns-observes.ensures
    c.counted-self-inside-2.ensures refl (
      c.in_ok-follow_counted.ensures.specified,
      c.in_ok-follow_counted.ensures.sound,
    ) starting log was in
    IfOk-weaker c.catch_up.result _ _ (λ v paid. at_most_then paid
    (taken_paid g.S.Compared.Compare.price g.S.Spec.most_touched _ _ _ c.in_ok-first.first
    c.args.entry c.self.inside.queue.header c.args.steps.now c.step_counted.new.steps
    c.follow_counted.new.steps c.follow.new.steps c.self.view_is c.self.invariant.0
    c.self.invariant.1 c.self.invariant.2 c.in_default.ensures.ok c.step_counted.ensures.steps
    c.in_ok-follow_counted.ensures.steps c.in_ok-first.ensures.taken_up c.follow.ensures.steps
    refl c.follow_counted.ensures.shows refl refl refl (subst (λ
    (k : FollowerKept). k.entries < 2 ^ 62) (sym c.self.view_is) c.requires.few) starting log was
    going))
    (c.catch_up.ensures.steps starting more going)
