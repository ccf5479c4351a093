use Rattle.vyrd_own_check.proofs.Prelude.{◌+◌, ◌≤◌, ◌++◌, ap, subst, sym, ◌∙◌, option_or}
use Rattle.vyrd_own_check.proofs.Prelude.{told_in_text, state_in, kept_in, read_so_far}
use Rattle.vyrd_own_check.proofs.Prelude.{OwnCheckerKept, limit_of, judge_owes, following_cost}
use Rattle.vyrd_own_check.proofs.ReadingFacts.{first_none, none_told}
use Rattle.vyrd_own_check.proofs.FedLaws.{Fed, grown_on, numbers_room, fed_own, fed_follows}
use Rattle.vyrd_own_check.proofs.FedLaws.{fed_ready, fed_room, fed_answer, fed_undecided, fed_paid}
use Rattle.vyrd_own_check.proofs.EndedLaws.{ended_answer, ended_undecided, ended_paid}
use Rattle.vyrd_own_check.proofs.text_judge.OwnTextJudge.take_in.Goals as goal

pub extend-requires : goal.extend-requires
extend-requires g c =
    let old : OwnCheckerKept = kept_in c.args.self.now in
    numbers_room old c.args.piece.now c.deref.result.now c.requires.limit
    (λ bytes read. rw (c.deref.ensures.value, ← c.clear-2.ensures.items)
    (c.in_ok-fault.ensures.numbers bytes read)) c.requires.somewhere

pub begin-requires : goal.begin-requires
begin-requires g c =
    let old : OwnCheckerKept = kept_in c.args.self.now in
    let reader = state_in c.read.new.reader in
    record {
      own = fed_own old reader c.args.piece.now c.requires.limit c.in_ok-fault.ensures.limit
          c.in_ok-fault.ensures.read c.requires.somewhere;
      follows = fed_follows old reader c.args.piece.now c.requires.limit c.in_ok-fault.ensures.limit
          c.in_ok-fault.ensures.read c.requires.somewhere;
    }

pub judge_entries-requires : goal.judge_entries-requires
judge_entries-requires g c =
    let old : OwnCheckerKept = kept_in c.args.self.now in
    let reader = state_in c.read.new.reader in
    let entries = c.deref-3.result.now in
    let numbers = c.extend.new.self in
    let fed : Fed old reader c.begin.new.judge c.args.piece.now entries numbers
    c.in_ok-fault.fault = record {
      limit = c.in_ok-fault.ensures.limit;
      read = c.in_ok-fault.ensures.read;
      grown = λ bytes read. rw (c.deref-3.ensures.value, ← c.clear.ensures.items)
          (c.in_ok-fault.ensures.entries bytes read);
      counted = λ bytes read. grown_on old.numbers c.deref.result.now numbers c.in_ok-extend.ensures
          (rw (c.deref.ensures.value, ← c.clear-2.ensures.items)
          (c.in_ok-fault.ensures.numbers bytes read));
      faulty = c.in_ok-fault.ensures.fault;
      judge = rw (c.deref-3.ensures.value, ← c.deref-2.ensures.value) c.in_ok-begin.ensures;
    } in
    fed_room old reader c.begin.new.judge c.args.piece.now entries numbers c.in_ok-fault.fault fed
    c.requires.limit c.requires.somewhere

pub returns-clause-answer : goal.returns-clause-answer
returns-clause-answer g c = λ bytes u.
    let old : OwnCheckerKept = kept_in c.args.self.now in
    let reader = state_in c.read.new.reader in
    let entries = c.deref-3.result.now in
    let numbers = c.extend.new.self in
    let fed : Fed old reader c.begin.new.judge c.args.piece.now entries numbers
    c.in_ok-fault.fault = record {
      limit = c.in_ok-fault.ensures.limit;
      read = c.in_ok-fault.ensures.read;
      grown = λ bytes read. rw (c.deref-3.ensures.value, ← c.clear.ensures.items)
          (c.in_ok-fault.ensures.entries bytes read);
      counted = λ bytes read. grown_on old.numbers c.deref.result.now numbers c.in_ok-extend.ensures
          (rw (c.deref.ensures.value, ← c.clear-2.ensures.items)
          (c.in_ok-fault.ensures.numbers bytes read));
      faulty = c.in_ok-fault.ensures.fault;
      judge = rw (c.deref-3.ensures.value, ← c.deref-2.ensures.value) c.in_ok-begin.ensures;
    } in
    let piece = c.args.piece.now in
    let ready = fed_ready old reader c.begin.new.judge piece entries numbers c.in_ok-fault.fault fed
    c.requires.limit bytes u in
    let all = read_so_far (limit_of old) (bytes ++ piece) in
    let log = (read_so_far (limit_of old) bytes).entries in
    let wrong_is = c.in_ok-wrong.ensures.answer all log (rw c.ended-ended.ensures.kept ready) in
    c.or.ensures
    ∙ ap (λ o. option_or o c.in_ok-fault.fault)
    c.told.ensures
    ∙ fed_answer old reader c.begin.new.judge piece entries numbers c.in_ok-fault.fault fed
    c.in_ok-wrong.wrong bytes u wrong_is

pub returns-clause-undecided : goal.returns-clause-undecided
returns-clause-undecided g c = λ bytes u none.
    let old : OwnCheckerKept = kept_in c.args.self.now in
    let reader = state_in c.read.new.reader in
    let entries = c.deref-3.result.now in
    let numbers = c.extend.new.self in
    let fed : Fed old reader c.begin.new.judge c.args.piece.now entries numbers
    c.in_ok-fault.fault = record {
      limit = c.in_ok-fault.ensures.limit;
      read = c.in_ok-fault.ensures.read;
      grown = λ bytes read. rw (c.deref-3.ensures.value, ← c.clear.ensures.items)
          (c.in_ok-fault.ensures.entries bytes read);
      counted = λ bytes read. grown_on old.numbers c.deref.result.now numbers c.in_ok-extend.ensures
          (rw (c.deref.ensures.value, ← c.clear-2.ensures.items)
          (c.in_ok-fault.ensures.numbers bytes read));
      faulty = c.in_ok-fault.ensures.fault;
      judge = rw (c.deref-3.ensures.value, ← c.deref-2.ensures.value) c.in_ok-begin.ensures;
    } in
    let piece = c.args.piece.now in
    let ready = fed_ready old reader c.begin.new.judge piece entries numbers c.in_ok-fault.fault fed
    c.requires.limit bytes u in
    let all = read_so_far (limit_of old) (bytes ++ piece) in
    let log = (read_so_far (limit_of old) bytes).entries in
    let wrong_is = c.in_ok-wrong.ensures.answer all log (rw c.ended-ended.ensures.kept ready) in
    let known =
    ap (λ o. option_or o c.in_ok-fault.fault)
    c.told.ensures
    ∙ fed_answer old reader c.begin.new.judge piece entries numbers c.in_ok-fault.fault fed
    c.in_ok-wrong.wrong bytes u wrong_is in
    let nothing = sym c.or.ensures ∙ none in
    let right = none_told (told_in_text numbers) c.in_ok-wrong.wrong
    (sym c.told.ensures ∙ first_none c.told.result c.in_ok-fault.fault nothing) in
    fed_undecided old reader c.begin.new.judge piece entries numbers c.in_ok-fault.fault fed
    c.judge_entries.new.judge bytes u
    (c.in_ok-wrong.ensures.judging all log (rw c.ended-ended.ensures.kept ready) right)
    (sym known ∙ nothing)

pub returns-clause-steps : goal.returns-clause-steps
returns-clause-steps g c = λ bytes u.
    let old : OwnCheckerKept = kept_in c.args.self.now in
    let reader = state_in c.read.new.reader in
    let entries = c.deref-3.result.now in
    let numbers = c.extend.new.self in
    let fed : Fed old reader c.begin.new.judge c.args.piece.now entries numbers
    c.in_ok-fault.fault = record {
      limit = c.in_ok-fault.ensures.limit;
      read = c.in_ok-fault.ensures.read;
      grown = λ bytes read. rw (c.deref-3.ensures.value, ← c.clear.ensures.items)
          (c.in_ok-fault.ensures.entries bytes read);
      counted = λ bytes read. grown_on old.numbers c.deref.result.now numbers c.in_ok-extend.ensures
          (rw (c.deref.ensures.value, ← c.clear-2.ensures.items)
          (c.in_ok-fault.ensures.numbers bytes read));
      faulty = c.in_ok-fault.ensures.fault;
      judge = rw (c.deref-3.ensures.value, ← c.deref-2.ensures.value) c.in_ok-begin.ensures;
    } in
    let piece = c.args.piece.now in
    let ready = fed_ready old reader c.begin.new.judge piece entries numbers c.in_ok-fault.fault fed
    c.requires.limit bytes u in
    let all = read_so_far (limit_of old) (bytes ++ piece) in
    let log = (read_so_far (limit_of old) bytes).entries in
    let taken = c.in_ok-wrong.ensures.steps all log (rw c.ended-ended.ensures.kept ready) in
    let going = sym c.ended-was_ended.ensures.kept ∙ c.if-was_ended.false in
    fed_paid old reader c.begin.new.judge piece entries numbers c.in_ok-fault.fault fed
    c.requires.limit going c.judge_entries.new.judge bytes u c.args.steps.now
    c.judge_entries.new.steps
    (subst (λ b. c.judge_entries.new.steps + judge_owes c.judge_entries.new.judge all.entries
    ≤ c.args.steps.now + judge_owes c.begin.new.judge log
    + following_cost c.begin.new.judge entries b) c.ended-ended.ensures.kept taken)

pub returns-then-was_ended-clause-answer : goal.returns-then-was_ended-clause-answer
returns-then-was_ended-clause-answer g c = λ bytes u.
    ended_answer (kept_in c.args.self.now) bytes c.args.piece.now c.requires.limit u
    (sym c.ended-was_ended.ensures.kept ∙ c.if-was_ended.true) c.in_ok-fault.fault
    (c.in_ok-fault.ensures.fault bytes u.read)

pub returns-then-was_ended-clause-undecided : goal.returns-then-was_ended-clause-undecided
returns-then-was_ended-clause-undecided g c = λ bytes u none.
    let old : OwnCheckerKept = kept_in c.args.self.now in
    let piece = c.args.piece.now in
    let ended = sym c.ended-was_ended.ensures.kept ∙ c.if-was_ended.true in
    ended_undecided old bytes piece c.requires.limit u ended (state_in c.read.new.reader)
    c.extend.new.self c.in_ok-fault.ensures.limit (c.in_ok-fault.ensures.read bytes u.read)
    (grown_on old.numbers c.deref.result.now c.extend.new.self c.in_ok-extend.ensures
    (rw (c.deref.ensures.value, ← c.clear-2.ensures.items)
    (c.in_ok-fault.ensures.numbers bytes u.read)))
    (sym (ended_answer old bytes piece c.requires.limit u ended c.in_ok-fault.fault
    (c.in_ok-fault.ensures.fault bytes u.read)) ∙ none)

pub returns-then-was_ended-clause-steps : goal.returns-then-was_ended-clause-steps
returns-then-was_ended-clause-steps g c = λ bytes u.
    ended_paid (kept_in c.args.self.now) bytes c.args.piece.now c.requires.limit u
    (sym c.ended-was_ended.ensures.kept ∙ c.if-was_ended.true) (state_in c.read.new.reader)
    c.extend.new.self c.in_ok-fault.ensures.limit c.args.steps.now
