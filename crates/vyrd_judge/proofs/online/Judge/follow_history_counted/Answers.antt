use Rattle.vyrd_judge.proofs.Prelude.{◌+◌, ◌≤◌, length, ◌++◌, take, drop, ap, sym, subst, ◌∙◌}
use Rattle.vyrd_judge.proofs.Prelude.{arith, append_assoc, append-nil, refl, [], get_or}
use Rattle.vyrd_judge.proofs.Prelude.{cons_option, take_all, rules_by, verdict_so_far, logged}
use Rattle.vyrd_judge.proofs.Prelude.{log_of, JudgeView, HasFollowed, judge_debt, log_cost}
use Rattle.vyrd_judge.proofs.CostLaws.{stands_events, first_events, more_events, verdict_events}
use Rattle.vyrd_judge.proofs.CostLaws.{last_events}
use Rattle.vyrd_judge.proofs.OnlineLaws.{stands_on, followed_on, decided, none_stands}
use Rattle.vyrd_judge.proofs.OnlineLaws.{so_far_is_known}
use Rattle.vyrd_judge.proofs.HistoryLaws.{past, log_of_none, log_more, log_around}
use Rattle.vyrd_judge.proofs.online.Judge.follow_history_counted.Goals as goal

pub returns-in-Some-clause-answer : goal.returns-in-Some-clause-answer
returns-in-Some-clause-answer g c = λ starting log f.
    stands_on (log_of c.args.history.now) (cc (c.self.view_is, c.in-Some.is)) f

pub returns-in-Some-clause-followed : goal.returns-in-Some-clause-followed
returns-in-Some-clause-followed g c = λ starting log f.
    followed_on (log_of c.args.history.now) (ap (λ (j : JudgeView). j.so_far) (sym c.self.view_is)
    ∙ c.in-Some.is) f

pub loop-event-init : goal.loop-event-init
loop-event-init g c = record {
  followed = λ starting log f. subst (HasFollowed c.args.self.now starting)
      (sym (ap (λ xs. log ++ xs) log_of_none ∙ append-nil log)) f;
  header = refl;
  counted = omega arith;
  works = ap (λ (j : JudgeView). j.has_failed) (sym c.self.view_is) ∙ c.if-self.false;
  undecided = ap (λ (j : JudgeView). j.so_far) (sym c.self.view_is) ∙ c.in_default.is;
  shows = refl;
  paid = λ starting log f. first_events g.S.Compared.Compare.price g.S.Spec.most_touched
      c.args.steps.now c.args.self.now log log_of_none;
}

pub loop-event-preserved : goal.loop-event-preserved
loop-event-preserved g c =
    let es = c.args.history.now in
    let i = c.loop-event.event-index in
    record {
      followed = λ starting log f. subst (HasFollowed c.take_event.new.self starting)
          (cc (append_assoc log (log_of (take i es)) _, log_more es i c.loop-event-test.true))
          (c.in_ok-verdict.ensures.followed starting (log ++ log_of (take i es))
          (c.loop-event.invariant.followed starting log f));
      header = c.take_event.ensures.charter ∙ c.loop-event.invariant.header;
      counted = omega (arith, c.take_event.ensures.counted, c.loop-event.invariant.counted);
      works = c.in_ok-verdict.ensures.has_failed;
      undecided = c.in_ok-verdict.ensures.so_far ∙ c.in_default-2.is;
      shows = c.take_event.ensures.shows ∙ c.loop-event.invariant.shows;
      paid = λ starting log f. more_events g.S.Compared.Compare.price g.S.Spec.most_touched
          c.args.self.now.kept c.loop-event.self.kept _ _ _ i
          (log_of (take i es)) (cons_option (logged (get_or es i past).caller (get_or es i
          past).did) []) (log_of (take (i + 1) es)) c.loop-event.invariant.header
          c.loop-event.invariant.shows (log_more es i c.loop-event-test.true)
          (rw (← append_assoc log (log_of (take i es)) (cons_option (logged (get_or es i
          past).caller (get_or es i past).did) []) ∙ ap (λ xs. log ++ xs) (sym (log_more es i
          c.loop-event-test.true)))
          (c.in_ok-verdict.ensures.steps starting (log ++ log_of (take i es))
          (c.loop-event.invariant.followed starting log f)))
          (c.loop-event.invariant.paid starting log f);
    }

-- a verdict stands with this event, and with those after it
pub returns-in-Some-2-clause-followed : goal.returns-in-Some-2-clause-followed
returns-in-Some-2-clause-followed g c = λ starting log f.
    let es = c.args.history.now in
    let i = c.loop-event.event-index in
    decided log (log_of (take (i + 1) es)) (log_of (drop (i + 1) es)) (log_around es (i + 1))
    (c.in_ok-verdict.ensures.so_far ∙ c.in-Some-2.is)
    (subst (HasFollowed c.take_event.new.self starting)
    (cc (append_assoc log (log_of (take i es)) _, log_more es i c.loop-event-test.true))
    (c.in_ok-verdict.ensures.followed starting (log ++ log_of (take i es))
    (c.loop-event.invariant.followed starting log f)))

pub returns-in-Some-2-clause-answer : goal.returns-in-Some-2-clause-answer
returns-in-Some-2-clause-answer g c = λ starting log f.
    sym (c.in_ok-verdict.ensures.so_far ∙ c.in-Some-2.is)
    ∙ so_far_is_known (returns-in-Some-2-clause-followed g c starting log f)
    ∙ ap (λ l. verdict_so_far (rules_by l) starting (log ++ log_of c.args.history.now))
    (c.take_event.ensures.charter ∙ c.loop-event.invariant.header)

pub returns-clause-followed : goal.returns-clause-followed
returns-clause-followed g c = λ starting log f. subst
    (λ xs. HasFollowed c.loop-event.self starting (log ++ log_of xs))
    (take_all c.loop-event.event-index c.args.history.now c.loop-event-test.false)
    (c.loop-event.invariant.followed starting log f)

pub returns-clause-answer : goal.returns-clause-answer
returns-clause-answer g c = λ starting log f.
    sym (none_stands c.loop-event.invariant.undecided (returns-clause-followed g c starting log f))
    ∙ ap (λ l. verdict_so_far (rules_by l) starting (log ++ log_of c.args.history.now))
    c.loop-event.invariant.header

pub returns-in-Some-clause-steps : goal.returns-in-Some-clause-steps
returns-in-Some-clause-steps g c = λ starting log f. grind (arith, starting, stands_events)

pub returns-in-Some-2-clause-steps : goal.returns-in-Some-2-clause-steps
returns-in-Some-2-clause-steps g c = λ starting log f.
    let es = c.args.history.now in
    let i = c.loop-event.event-index in
    verdict_events g.S.Compared.Compare.price g.S.Spec.most_touched c.args.self.now.kept
    c.take_event.new.self _ _ _ i (length es) (log_of (take (i + 1) es)) (log_of (drop (i + 1) es))
    (log_of es) (log ++ log_of es)
    (c.in_ok-verdict.ensures.so_far ∙ c.in-Some-2.is) (log_around es (i + 1))
    c.loop-event-test.true
    (more_events g.S.Compared.Compare.price g.S.Spec.most_touched
    c.args.self.now.kept c.loop-event.self.kept _ _ _ i
    (log_of (take i es)) (cons_option (logged (get_or es i past).caller (get_or es i past).did) [])
    (log_of (take (i + 1) es)) c.loop-event.invariant.header
    c.loop-event.invariant.shows (log_more es i c.loop-event-test.true)
    (subst (λ xs. c.take_event.new.steps + judge_debt g.S.Compared.Compare.price
    g.S.Spec.most_touched
    c.take_event.new.self xs
    ≤ c.loop-event.steps + judge_debt g.S.Compared.Compare.price g.S.Spec.most_touched
    c.loop-event.self (log ++ log_of (take i es))
    + log_cost g.S.Compared.Compare.price g.S.Spec.most_touched c.loop-event.self.kept (cons_option
    (logged (get_or es i past).caller (get_or es i past).did) []) + 1)
    (append_assoc log (log_of (take i es)) (cons_option (logged (get_or es i past).caller (get_or es
    i past).did) []) ∙ ap (λ xs. log ++ xs) (sym
    (log_more es i c.loop-event-test.true)))
    (c.in_ok-verdict.ensures.steps starting (log ++ log_of (take i es))
    (c.loop-event.invariant.followed starting log f)))
    (c.loop-event.invariant.paid starting log f))

pub returns-clause-steps : goal.returns-clause-steps
returns-clause-steps g c = λ starting log f.
    last_events _ _ _ _ c.loop-event.auto.event-index-end
    (rw (← ap log_of (take_all c.loop-event.event-index c.args.history.now c.loop-event-test.false))
    (c.loop-event.invariant.paid starting log f))
