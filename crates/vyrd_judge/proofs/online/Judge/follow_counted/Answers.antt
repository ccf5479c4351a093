use Rattle.vyrd_judge.proofs.Prelude.{◌+◌, ◌++◌, take, drop, ap, sym, subst, ◌∙◌, arith}
use Rattle.vyrd_judge.proofs.Prelude.{append_assoc, append-nil, refl, take_more, take-append-drop}
use Rattle.vyrd_judge.proofs.Prelude.{rules_by, verdict_so_far, JudgeView, HasFollowed, take_past}
use Rattle.vyrd_judge.proofs.CostLaws.{stands_paid, first_paid, entry_paid, verdict_paid}
use Rattle.vyrd_judge.proofs.OnlineLaws.{stands_on, followed_on, decided, none_stands}
use Rattle.vyrd_judge.proofs.OnlineLaws.{so_far_is_known}
use Rattle.vyrd_judge.proofs.online.Judge.follow_counted.Goals as goal

pub returns-in-Some-clause-answer : goal.returns-in-Some-clause-answer
returns-in-Some-clause-answer g c = λ starting log f. stands_on c.args.entries.now
    (ap (λ (j : JudgeView). j.so_far) (sym c.self.view_is) ∙ c.in-Some.is) f

pub returns-in-Some-clause-followed : goal.returns-in-Some-clause-followed
returns-in-Some-clause-followed g c = λ starting log f. followed_on c.args.entries.now
    (ap (λ (j : JudgeView). j.so_far) (sym c.self.view_is) ∙ c.in-Some.is) f

pub loop-entry-init : goal.loop-entry-init
loop-entry-init g c = record {
  followed = λ starting log f. subst (HasFollowed c.args.self.now starting) (sym
      (append-nil log)) f;
  header = refl;
  counted = omega arith;
  works = ap (λ (j : JudgeView). j.has_failed) (sym c.self.view_is) ∙ c.if-self.false;
  undecided = ap (λ (j : JudgeView). j.so_far) (sym c.self.view_is) ∙ c.in_default.is;
  shows = refl;
  paid = λ starting log f. first_paid g.S.Compared.Compare.price g.S.Spec.most_touched
      c.args.steps.now c.args.self.now (append-nil log);
}

pub loop-entry-preserved : goal.loop-entry-preserved
loop-entry-preserved g c =
    let es = c.args.entries.now in
    let i = c.loop-entry.entry-index in
    record {
      followed = λ starting log f. subst (HasFollowed c.take.new.self starting)
          (cc (append_assoc log (take i es) _, take_more es i _ c.loop-entry-test.true))
          (c.in_ok-verdict.ensures.followed starting (log ++ take i es)
          (c.loop-entry.invariant.followed starting log f));
      header = c.take.ensures.charter ∙ c.loop-entry.invariant.header;
      counted = omega (arith, c.take.ensures.counted, c.loop-entry.invariant.counted);
      works = c.in_ok-verdict.ensures.has_failed;
      undecided = c.in_ok-verdict.ensures.so_far ∙ c.in_default-2.is;
      shows = c.take.ensures.shows ∙ c.loop-entry.invariant.shows;
      paid = λ starting log f. entry_paid g.S.Compared.Compare.price g.S.Spec.most_touched
          c.args.self.now.kept c.loop-entry.self c.take.new.self _ _ _ log
          (take i es) (take (i + 1) es) _
          c.loop-entry.invariant.header c.loop-entry.invariant.shows
          (take_more es i _ c.loop-entry-test.true)
          (c.in_ok-verdict.ensures.steps starting (log ++ take i es)
          (c.loop-entry.invariant.followed starting log f))
          (c.loop-entry.invariant.paid starting log f);
    }

-- a verdict stands with this entry, and with those after it
pub returns-in-Some-2-clause-followed : goal.returns-in-Some-2-clause-followed
returns-in-Some-2-clause-followed g c = λ starting log f.
    let es = c.args.entries.now in
    let i = c.loop-entry.entry-index in
    decided log (take (i + 1) es) (drop (i + 1) es) (take-append-drop (i + 1) es)
    (c.in_ok-verdict.ensures.so_far ∙ c.in-Some-2.is)
    (subst (HasFollowed c.take.new.self starting)
    (cc (append_assoc log (take i es) _, take_more es i _ c.loop-entry-test.true))
    (c.in_ok-verdict.ensures.followed starting (log ++ take i es)
    (c.loop-entry.invariant.followed starting log f)))

pub returns-in-Some-2-clause-answer : goal.returns-in-Some-2-clause-answer
returns-in-Some-2-clause-answer g c = λ starting log f.
    sym (c.in_ok-verdict.ensures.so_far ∙ c.in-Some-2.is)
    ∙ so_far_is_known (returns-in-Some-2-clause-followed g c starting log f)
    ∙ ap (λ l. verdict_so_far (rules_by l) starting (log ++ c.args.entries.now))
    (c.take.ensures.charter ∙ c.loop-entry.invariant.header)

pub returns-clause-followed : goal.returns-clause-followed
returns-clause-followed g c = λ starting log f. subst
    (λ xs. HasFollowed c.loop-entry.self starting (log ++ xs))
    (take_past c.args.entries.now c.loop-entry.entry-index c.loop-entry.auto.entry-index-end
    c.loop-entry-test.false)
    (c.loop-entry.invariant.followed starting log f)

pub returns-clause-answer : goal.returns-clause-answer
returns-clause-answer g c = λ starting log f.
    sym (none_stands c.loop-entry.invariant.undecided (returns-clause-followed g c starting log f))
    ∙ ap (λ g. verdict_so_far (rules_by g) starting (log ++ c.args.entries.now))
    c.loop-entry.invariant.header

pub returns-in-Some-clause-steps : goal.returns-in-Some-clause-steps
returns-in-Some-clause-steps g c = λ starting log f. grind (arith, starting, stands_paid)

pub returns-in-Some-2-clause-steps : goal.returns-in-Some-2-clause-steps
returns-in-Some-2-clause-steps g c = λ starting log f.
    let es = c.args.entries.now in
    let i = c.loop-entry.entry-index in
    verdict_paid g.S.Compared.Compare.price g.S.Spec.most_touched c.args.self.now.kept
    c.take.new.self _ _ _
    (take (i + 1) es) (drop (i + 1) es) es (log ++ es)
    (c.in_ok-verdict.ensures.so_far ∙ c.in-Some-2.is) (take-append-drop (i + 1) es)
    (entry_paid g.S.Compared.Compare.price g.S.Spec.most_touched
    c.args.self.now.kept c.loop-entry.self c.take.new.self _ _ _ log
    (take i es) (take (i + 1) es) _
    c.loop-entry.invariant.header c.loop-entry.invariant.shows
    (take_more es i _ c.loop-entry-test.true)
    (c.in_ok-verdict.ensures.steps starting (log ++ take i es)
    (c.loop-entry.invariant.followed starting log f))
    (c.loop-entry.invariant.paid starting log f))

pub returns-clause-steps : goal.returns-clause-steps
returns-clause-steps g c =
    λ starting log f. grind (
      arith,
      take_past c.args.entries.now c.loop-entry.entry-index
          c.loop-entry.auto.entry-index-end c.loop-entry-test.false,
      c.loop-entry.invariant.paid starting
          log f,
    )
