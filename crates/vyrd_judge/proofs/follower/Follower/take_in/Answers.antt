use Rattle.vyrd_judge.proofs.Prelude.{◌≡◌, ◌+◌, ◌≤◌, ◌∷◌, ◌++◌, [], subst, IfOk, rules_by}
use Rattle.vyrd_judge.proofs.Prelude.{verdict_so_far, debt, debt_after, entry_cost, IsFaultless}
use Rattle.vyrd_judge.proofs.FollowerLaws.{of_kind}
use Rattle.vyrd_judge.proofs.follower.Follower.take_in.Goals as goal

pub returns-in-Call-clause-answer : goal.returns-in-Call-clause-answer
returns-in-Call-clause-answer g c = λ starting log f. subst
    (λ e. IfOk c.take.result (λ v. v ≡ verdict_so_far (rules_by c.args.self.now.charter) starting
    (log ++ e ∷ [])))
    (of_kind c.args.entry c.in-Call.is) (c.take.ensures.answer starting log f)

pub returns-in-Call-clause-follows : goal.returns-in-Call-clause-follows
returns-in-Call-clause-follows g c = λ starting log f none. subst
    (λ e. IsFaultless c.take.new.self starting (log ++ e ∷ []))
    (of_kind c.args.entry c.in-Call.is) (c.take.ensures.follows starting log f none)

pub returns-in-Return-clause-answer : goal.returns-in-Return-clause-answer
returns-in-Return-clause-answer g c = λ starting log f. subst
    (λ e. IfOk c.take-in-Return.result
    (λ v. v ≡ verdict_so_far (rules_by c.args.self.now.charter) starting (log ++ e ∷ [])))
    (of_kind c.args.entry c.in-Return.is) (c.take-in-Return.ensures.answer starting log f)

pub returns-in-Return-clause-follows : goal.returns-in-Return-clause-follows
returns-in-Return-clause-follows g c = λ starting log f none. subst
    (λ e. IsFaultless c.take-in-Return.new.self starting (log ++ e ∷ []))
    (of_kind c.args.entry c.in-Return.is) (c.take-in-Return.ensures.follows starting log f none)

pub returns-in-Write-clause-answer : goal.returns-in-Write-clause-answer
returns-in-Write-clause-answer g c = λ starting log f. subst
    (λ e. IfOk c.take-in-Write.result
    (λ v. v ≡ verdict_so_far (rules_by c.args.self.now.charter) starting (log ++ e ∷ [])))
    (of_kind c.args.entry c.in-Write.is) (c.take-in-Write.ensures.answer starting log f)

pub returns-in-Write-clause-follows : goal.returns-in-Write-clause-follows
returns-in-Write-clause-follows g c = λ starting log f none. subst
    (λ e. IsFaultless c.take-in-Write.new.self starting (log ++ e ∷ []))
    (of_kind c.args.entry c.in-Write.is) (c.take-in-Write.ensures.follows starting log f none)

pub returns-in-Commit-clause-answer : goal.returns-in-Commit-clause-answer
returns-in-Commit-clause-answer g c = λ starting log f. subst
    (λ e. IfOk c.take-in-Commit.result
    (λ v. v ≡ verdict_so_far (rules_by c.args.self.now.charter) starting (log ++ e ∷ [])))
    (of_kind c.args.entry c.in-Commit.is) (c.take-in-Commit.ensures.answer starting log f)

pub returns-in-Commit-clause-follows : goal.returns-in-Commit-clause-follows
returns-in-Commit-clause-follows g c = λ starting log f none. subst
    (λ e. IsFaultless c.take-in-Commit.new.self starting (log ++ e ∷ []))
    (of_kind c.args.entry c.in-Commit.is) (c.take-in-Commit.ensures.follows starting log f none)

pub returns-in-BlockOpen-clause-answer : goal.returns-in-BlockOpen-clause-answer
returns-in-BlockOpen-clause-answer g c = λ starting log f. subst
    (λ e. IfOk c.take-in-BlockOpen.result
    (λ v. v ≡ verdict_so_far (rules_by c.args.self.now.charter) starting (log ++ e ∷ [])))
    (of_kind c.args.entry c.in-BlockOpen.is) (c.take-in-BlockOpen.ensures.answer starting log f)

pub returns-in-BlockOpen-clause-follows : goal.returns-in-BlockOpen-clause-follows
returns-in-BlockOpen-clause-follows g c = λ starting log f none. subst
    (λ e. IsFaultless c.take-in-BlockOpen.new.self starting (log ++ e ∷ []))
    (of_kind c.args.entry c.in-BlockOpen.is)
    (c.take-in-BlockOpen.ensures.follows starting log f none)

pub returns-in-BlockClose-clause-answer : goal.returns-in-BlockClose-clause-answer
returns-in-BlockClose-clause-answer g c = λ starting log f. subst
    (λ e. IfOk c.take-in-BlockClose.result
    (λ v. v ≡ verdict_so_far (rules_by c.args.self.now.charter) starting (log ++ e ∷ [])))
    (of_kind c.args.entry c.in-BlockClose.is) (c.take-in-BlockClose.ensures.answer starting log f)

pub returns-in-BlockClose-clause-follows : goal.returns-in-BlockClose-clause-follows
returns-in-BlockClose-clause-follows g c = λ starting log f none. subst
    (λ e. IsFaultless c.take-in-BlockClose.new.self starting (log ++ e ∷ []))
    (of_kind c.args.entry c.in-BlockClose.is)
    (c.take-in-BlockClose.ensures.follows starting log f none)

pub returns-in-BlockCommit-clause-answer : goal.returns-in-BlockCommit-clause-answer
returns-in-BlockCommit-clause-answer g c = λ starting log f. subst
    (λ e. IfOk c.take-in-BlockCommit.result
    (λ v. v ≡ verdict_so_far (rules_by c.args.self.now.charter) starting (log ++ e ∷ [])))
    (of_kind c.args.entry c.in-BlockCommit.is) (c.take-in-BlockCommit.ensures.answer starting log f)

pub returns-in-BlockCommit-clause-follows : goal.returns-in-BlockCommit-clause-follows
returns-in-BlockCommit-clause-follows g c = λ starting log f none. subst
    (λ e. IsFaultless c.take-in-BlockCommit.new.self starting (log ++ e ∷ []))
    (of_kind c.args.entry c.in-BlockCommit.is)
    (c.take-in-BlockCommit.ensures.follows starting log f none)

pub returns-in-Call-clause-steps : goal.returns-in-Call-clause-steps
returns-in-Call-clause-steps g c = λ starting log f. rw (← of_kind c.args.entry c.in-Call.is)
    (c.take.ensures.steps starting log f)

pub returns-in-Return-clause-steps : goal.returns-in-Return-clause-steps
returns-in-Return-clause-steps g c = λ starting log f. rw (← of_kind c.args.entry c.in-Return.is)
    (c.take-in-Return.ensures.steps starting log f)

pub returns-in-Write-clause-steps : goal.returns-in-Write-clause-steps
returns-in-Write-clause-steps g c = λ starting log f. rw (← of_kind c.args.entry c.in-Write.is)
    (c.take-in-Write.ensures.steps starting log f)

pub returns-in-Commit-clause-steps : goal.returns-in-Commit-clause-steps
returns-in-Commit-clause-steps g c = λ starting log f. rw (← of_kind c.args.entry c.in-Commit.is)
    (c.take-in-Commit.ensures.steps starting log f)

pub returns-in-BlockOpen-clause-steps : goal.returns-in-BlockOpen-clause-steps
returns-in-BlockOpen-clause-steps g c = λ starting log f. subst
    (λ e. IfOk c.take-in-BlockOpen.result (λ v. c.take-in-BlockOpen.new.steps
    + debt_after g.S.Compared.Compare.price g.S.Spec.most_touched v
    c.take-in-BlockOpen.new.self (log ++ e ∷ [])
    ≤ c.args.steps.now + debt g.S.Compared.Compare.price g.S.Spec.most_touched c.args.self.now log
    + entry_cost g.S.Compared.Compare.price g.S.Spec.most_touched c.args.self.now e))
    (of_kind c.args.entry c.in-BlockOpen.is) (c.take-in-BlockOpen.ensures.steps starting log f)

pub returns-in-BlockClose-clause-steps : goal.returns-in-BlockClose-clause-steps
returns-in-BlockClose-clause-steps g c = λ starting log f. subst
    (λ e. IfOk c.take-in-BlockClose.result (λ v. c.take-in-BlockClose.new.steps
    + debt_after g.S.Compared.Compare.price g.S.Spec.most_touched v
    c.take-in-BlockClose.new.self (log ++ e ∷ [])
    ≤ c.args.steps.now + debt g.S.Compared.Compare.price g.S.Spec.most_touched c.args.self.now log
    + entry_cost g.S.Compared.Compare.price g.S.Spec.most_touched c.args.self.now e))
    (of_kind c.args.entry c.in-BlockClose.is) (c.take-in-BlockClose.ensures.steps starting log f)

pub returns-in-BlockCommit-clause-steps : goal.returns-in-BlockCommit-clause-steps
returns-in-BlockCommit-clause-steps g c = λ starting log f. subst
    (λ e. IfOk c.take-in-BlockCommit.result (λ v. c.take-in-BlockCommit.new.steps
    + debt_after g.S.Compared.Compare.price g.S.Spec.most_touched v
    c.take-in-BlockCommit.new.self (log ++ e ∷ [])
    ≤ c.args.steps.now + debt g.S.Compared.Compare.price g.S.Spec.most_touched c.args.self.now log
    + entry_cost g.S.Compared.Compare.price g.S.Spec.most_touched c.args.self.now e))
    (of_kind c.args.entry c.in-BlockCommit.is) (c.take-in-BlockCommit.ensures.steps starting log f)
