use Rattle.vyrd_judge.proofs.Prelude.{rules_by, ap, sym, ◌∙◌, Commits, formed_rules}
use Rattle.vyrd_judge.proofs.JudgingLaws.{begins_caller, begins_may, begins_free, commits_caller}
use Rattle.vyrd_judge.proofs.JudgingLaws.{commits_may, commits_mutates, returns_caller, steps_few}
use Rattle.vyrd_judge.proofs.JudgingLaws.{judged_current, judged_begins, watch_there}
use Rattle.vyrd_judge.proofs.JudgingLaws.{judged_answered, judged_unanswered, judged_commits}
use Rattle.vyrd_judge.proofs.JudgingLaws.{commit_splits}
use Rattle.vyrd_judge.proofs.replay.Replay.judge.Goals as goal

pub begin-requires-clause-caller : goal.begin-requires-clause-caller
begin-requires-clause-caller g c = rw c.caller.ensures.is
    (begins_caller (sym c.event.ensures ∙ c.in-Begins.is) c.requires.may)

pub begin-requires-clause-allowed : goal.begin-requires-clause-allowed
begin-requires-clause-allowed g c = begins_may (sym c.event.ensures ∙ c.in-Begins.is) c.requires.may

pub begin-requires-clause-may_answer : goal.begin-requires-clause-may_answer
begin-requires-clause-may_answer g c = begins_free (sym c.event.ensures ∙ c.in-Begins.is)
    c.requires.may

pub commit-requires-clause-caller : goal.commit-requires-clause-caller
commit-requires-clause-caller g c =
    rw c.caller-in-Some.ensures.is
    (commits_caller (sym c.event.ensures ∙ c.in-Commits.is) c.requires.may)

pub commit-requires-clause-may : goal.commit-requires-clause-may
commit-requires-clause-may g c = commits_may (sym c.event.ensures ∙ c.in-Commits.is) c.requires.may

pub commit-requires-clause-mutates : goal.commit-requires-clause-mutates
commit-requires-clause-mutates g c = commits_mutates (sym c.event.ensures ∙ c.in-Commits.is)
    c.requires.may

pub commit-requires-clause-few : goal.commit-requires-clause-few
commit-requires-clause-few g c = steps_few c.requires.may

pub commit-requires-clause-current : goal.commit-requires-clause-current
commit-requires-clause-current g c = judged_current c.requires.may

pub end-requires : goal.end-requires
end-requires g c =
    record {
      caller = rw c.caller-in-Returns.ensures.is
          (returns_caller (sym c.event.ensures ∙ c.in-Returns.is) c.requires.may);
    }

pub returns-in_ok-begin-in-Begins-clause-gives : goal.returns-in_ok-begin-in-Begins-clause-gives
returns-in_ok-begin-in-Begins-clause-gives g c = λ starting log xs j known.
    let h = rules_by (g.S.Spec.charter c.args.self.now.spec) in
    let old = c.args.self.now in
    let done = judged_begins (sym c.event.ensures ∙ c.in-Begins.is) old.callers j in
    let same_spec = c.begin.ensures.spec in
    rw same_spec
    (rw (rw c.caller.ensures.is at c.in_ok-begin-in-Begins.ensures.watches) done)

pub unreachable-requires : goal.unreachable-requires
unreachable-requires g c =
    c.requires.can_leave c.in-Commits.method c.in-Commits.args
    (sym c.event.ensures ∙ c.in-Commits.is ∙ ap (Commits c.in-Commits.method c.in-Commits.args)
    c.in-None.is)

pub returns-in-Some-clause-gives : goal.returns-in-Some-clause-gives
returns-in-Some-clause-gives g c = λ starting log xs j known.
    judged_commits (g.S.Spec.state c.commit.new.self.spec) (g.S.Spec.made c.commit.new.self.spec)
    c.commit.new.self.watches.by_caller c.commit.new.words.views.first
    c.commit.new.words.views.since
    c.commit.result (sym c.event.ensures ∙ c.in-Commits.is
    ∙ ap (Commits c.in-Commits.method c.in-Commits.args) c.in-Some.is)
    (formed_rules (g.S.Spec.charter c.args.self.now.spec)) c.args.self.now.callers j
    (λ part rest is. rw c.caller-in-Some.ensures.is at c.commit.ensures.leads part rest is known)

pub returns-then-end-clause-gives : goal.returns-then-end-clause-gives
returns-then-end-clause-gives g c = λ starting log xs j known.
    let h = rules_by (g.S.Spec.charter c.args.self.now.spec) in
    let old = c.args.self.now in
    let seen = watch_there (sym c.event.ensures ∙ c.in-Returns.is) old.callers j in
    let done = judged_answered seen.0 (sym c.event.ensures ∙ c.in-Returns.is) seen.1
    (sym (c.end.ensures.answered seen.0 (rw c.caller-in-Returns.ensures.is seen.1)) ∙ c.if-end.true)
    j in
    rw c.end.ensures.spec
    (rw (rw c.caller-in-Returns.ensures.is at c.end.ensures.watches) done)

pub returns-else-end-clause-gives : goal.returns-else-end-clause-gives
returns-else-end-clause-gives g c = λ starting log xs j known.
    let old = c.args.self.now in
    let seen = watch_there (sym c.event.ensures ∙ c.in-Returns.is) old.callers j in
    judged_unanswered seen.0 (sym c.event.ensures ∙ c.in-Returns.is) seen.1
    (sym (c.end.ensures.answered seen.0 (rw c.caller-in-Returns.ensures.is seen.1))
    ∙ c.if-end.false) j

pub returns-in-Some-clause-few : goal.returns-in-Some-clause-few
returns-in-Some-clause-few g c = λ starting log xs parts j are.
    let split = commit_splits (sym c.event.ensures ∙ c.in-Commits.is ∙ ap
    (Commits c.in-Commits.method c.in-Commits.args) c.in-Some.is) j in
    c.commit.ensures.few split.0 split.1 parts split.2 are
