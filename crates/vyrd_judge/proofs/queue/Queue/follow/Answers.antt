use Rattle.vyrd_judge.proofs.Prelude.{◌<◌, length, arith, IfOk-weaker, Commit, BlockCommit}
use Rattle.vyrd_judge.proofs.Prelude.{low_caller, keeps_as}
use Rattle.vyrd_base.proofs.CommitLaws.{alone, with_block}
use Rattle.vyrd_judge.proofs.QueueLaws.{write_up, open_up, close_up, call_up, commit_up}
use Rattle.vyrd_judge.proofs.QueueTells.{all_ok, queue_caller, queue_few, queue_pending, return_up}
use Rattle.vyrd_judge.proofs.QueueTells.{committing_called, known_caller, taken_kind}
use Rattle.vyrd_judge.proofs.queue.Queue.follow.Goals as goal

pub give_back-requires-clause-pending : goal.give_back-requires-clause-pending
give_back-requires-clause-pending g c = λ called here has. queue_pending called c.in-Return.is here
    has c.requires.may

pub commit-requires-clause-caller : goal.commit-requires-clause-caller
commit-requires-clause-caller g c = queue_caller c.requires.may

pub commit-requires-clause-few : goal.commit-requires-clause-few
commit-requires-clause-few g c = queue_few c.requires.few c.requires.may

pub commit-requires-in-BlockCommit-clause-caller : goal.commit-requires-in-BlockCommit-clause-caller
commit-requires-in-BlockCommit-clause-caller g c = queue_caller c.requires.may

pub commit-requires-in-BlockCommit-clause-few : goal.commit-requires-in-BlockCommit-clause-few
commit-requires-in-BlockCommit-clause-few g c = queue_few c.requires.few c.requires.may

pub returns-in-Call-clause-taken_up : goal.returns-in-Call-clause-taken_up
returns-in-Call-clause-taken_up g c = λ earlier q keeps at.
    let own = c.args.self.now in
    let low : c.args.entry.caller < length own.callers.items =
    omega (arith, low_caller keeps, own.all, own.callers.ok.0) in
    all_ok c.call.result c.call.ensures.callers c.call.ensures.waiting c.call.ensures.taken
    (λ first callers waiting taken.
    taken_kind c.args.entry c.in-Call.is
    (call_up c.args.entry.caller c.args.position c.in-Call.method c.in-Call.args low at
    (keeps_as c.in-Call.is keeps) q callers waiting taken))

pub returns-in-Return-clause-taken_up : goal.returns-in-Return-clause-taken_up
returns-in-Return-clause-taken_up g c = λ earlier q keeps at.
    IfOk-weaker c.give_back.result _ _ (λ first up. taken_kind c.args.entry c.in-Return.is up)
    (return_up c.give_back.result c.give_back.new.self.waiting.items c.give_back.new.self.taken
    c.give_back.new.self.callers.items c.args.entry.caller c.args.position c.in-Return.reply at
    (keeps_as c.in-Return.is keeps) q
    c.give_back.ensures.uncommitted c.give_back.ensures.committed c.give_back.ensures.callers
    c.give_back.ensures.taken)

pub returns-in-Commit-clause-taken_up : goal.returns-in-Commit-clause-taken_up
returns-in-Commit-clause-taken_up g c = λ earlier q keeps at.
    let called = committing_called Commit c.in-Commit.is alone keeps in
    let known = known_caller keeps called.1 q in
    all_ok c.commit.result (c.commit.ensures.callers known.caller known.here)
    (c.commit.ensures.waiting known.caller known.here) c.commit.ensures.taken
    (λ first callers waiting taken. taken_kind c.args.entry c.in-Commit.is
    (commit_up c.args.entry.caller c.args.position Commit called.0 known.caller alone known.here
    called.1 known.method known.args at
    (keeps_as c.in-Commit.is keeps) q callers waiting taken))

pub returns-in-BlockCommit-clause-taken_up : goal.returns-in-BlockCommit-clause-taken_up
returns-in-BlockCommit-clause-taken_up g c = λ earlier q keeps at.
    let called = committing_called BlockCommit c.in-BlockCommit.is with_block keeps in
    let known = known_caller keeps called.1 q in
    all_ok c.commit-in-BlockCommit.result
    (c.commit-in-BlockCommit.ensures.callers known.caller known.here)
    (c.commit-in-BlockCommit.ensures.waiting known.caller known.here)
    c.commit-in-BlockCommit.ensures.taken
    (λ first callers waiting taken. taken_kind c.args.entry c.in-BlockCommit.is
    (commit_up c.args.entry.caller c.args.position BlockCommit called.0 known.caller with_block
    known.here called.1 known.method known.args at
    (keeps_as c.in-BlockCommit.is keeps) q callers waiting taken))

pub returns-in-Write-clause-taken_up : goal.returns-in-Write-clause-taken_up
returns-in-Write-clause-taken_up g c = search (taken_kind, write_up, arith)

pub returns-in-BlockOpen-clause-taken_up : goal.returns-in-BlockOpen-clause-taken_up
returns-in-BlockOpen-clause-taken_up g c = search (taken_kind, open_up, arith)

pub returns-in-BlockClose-clause-taken_up : goal.returns-in-BlockClose-clause-taken_up
returns-in-BlockClose-clause-taken_up g c = search (taken_kind, close_up, arith)
