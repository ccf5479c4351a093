use Rattle.vyrd_check.proofs.Prelude.{◌+◌, ◌≤◌, ◌++◌, ap, subst, sym, ◌∙◌, text_verdict_so_far}
use Rattle.vyrd_check.proofs.Prelude.{IsLimit, read_so_far, CheckerKept, IsUndecided, IsSomewhere}
use Rattle.vyrd_check.proofs.Prelude.{bytes_cost, kept_debt, judge_owes, following_cost}
use Rattle.vyrd_check.proofs.ReadingFacts.{first_none}
use Rattle.vyrd_check.proofs.FedLaws.{Fed, fed_start, fed_built_in, fed_ready, fed_room, fed_answer}
use Rattle.vyrd_check.proofs.FedLaws.{fed_undecided, fed_paid, ended_answer, ended_undecided}
use Rattle.vyrd_check.proofs.FedLaws.{ended_paid}
use Rattle.vyrd_check.proofs.text_judge.TextJudge.take_in.Goals as goal

pub begin-requires : goal.begin-requires
begin-requires g c =
    let old : CheckerKept = record { reader = c.self.inside.reader; judge = c.self.inside.judge } in
    let somewhere = subst IsSomewhere (sym c.self.view_is) c.requires.somewhere in
    record {
      may_start = fed_start old c.read.new.reader c.args.piece.now c.in_ok-fault.ensures.read
          somewhere;
      built_in = fed_built_in old c.read.new.reader c.args.piece.now c.in_ok-fault.ensures.read
          somewhere;
    }

pub judge_entries-requires : goal.judge_entries-requires
judge_entries-requires g c =
    let old : CheckerKept = record { reader = c.self.inside.reader; judge = c.self.inside.judge } in
    let entries = c.deref-2.result.now in
    let fed : Fed old c.read.new.reader c.begin.new.judge c.args.piece.now entries
    c.in_ok-fault.fault = record {
      limit = c.in_ok-fault.ensures.limit;
      read = c.in_ok-fault.ensures.read;
      grown = λ bytes read. rw (c.deref-2.ensures.value, ← c.clear.ensures.items)
          (c.in_ok-fault.ensures.entries bytes read);
      faulty = c.in_ok-fault.ensures.fault;
      judge = rw (c.deref-2.ensures.value, ← c.deref.ensures.value) c.in_ok-begin.ensures;
    } in
    let limit : IsLimit old.reader.max_lines =
    subst (λ (k : CheckerKept). IsLimit k.reader.max_lines) (sym c.self.view_is) c.requires.limit in
    fed_room old c.read.new.reader c.begin.new.judge c.args.piece.now entries c.in_ok-fault.fault
    fed
    limit (subst IsSomewhere (sym c.self.view_is) c.requires.somewhere)

pub returns-clause-answer : goal.returns-clause-answer
returns-clause-answer g c = λ bytes u.
    let old : CheckerKept = record { reader = c.self.inside.reader; judge = c.self.inside.judge } in
    let entries = c.deref-2.result.now in
    let fed : Fed old c.read.new.reader c.begin.new.judge c.args.piece.now entries
    c.in_ok-fault.fault = record {
      limit = c.in_ok-fault.ensures.limit;
      read = c.in_ok-fault.ensures.read;
      grown = λ bytes read. rw (c.deref-2.ensures.value, ← c.clear.ensures.items)
          (c.in_ok-fault.ensures.entries bytes read);
      faulty = c.in_ok-fault.ensures.fault;
      judge = rw (c.deref-2.ensures.value, ← c.deref.ensures.value) c.in_ok-begin.ensures;
    } in
    let limit : IsLimit old.reader.max_lines =
    subst (λ (k : CheckerKept). IsLimit k.reader.max_lines) (sym c.self.view_is) c.requires.limit in
    let piece = c.args.piece.now in
    let before : IsUndecided old bytes = subst (λ k. IsUndecided k bytes) (sym c.self.view_is) u in
    let ready = fed_ready old c.read.new.reader c.begin.new.judge piece entries
    c.in_ok-fault.fault fed limit bytes before in
    let all = read_so_far old.reader.max_lines (bytes ++ piece) in
    let log = (read_so_far old.reader.max_lines bytes).entries in
    let wrong_is = c.in_ok-wrong.ensures.answer all log (rw c.ended-ended.ensures.kept ready) in
    c.or.ensures
    ∙ fed_answer old c.read.new.reader c.begin.new.judge piece entries c.in_ok-fault.fault
    c.in_ok-wrong.wrong fed bytes before.read wrong_is
    ∙ ap (λ (k : CheckerKept). text_verdict_so_far k.reader.max_lines (bytes ++ piece))
    c.self.view_is

pub returns-clause-undecided : goal.returns-clause-undecided
returns-clause-undecided g c = λ bytes u none.
    let old : CheckerKept = record { reader = c.self.inside.reader; judge = c.self.inside.judge } in
    let entries = c.deref-2.result.now in
    let fed : Fed old c.read.new.reader c.begin.new.judge c.args.piece.now entries
    c.in_ok-fault.fault = record {
      limit = c.in_ok-fault.ensures.limit;
      read = c.in_ok-fault.ensures.read;
      grown = λ bytes read. rw (c.deref-2.ensures.value, ← c.clear.ensures.items)
          (c.in_ok-fault.ensures.entries bytes read);
      faulty = c.in_ok-fault.ensures.fault;
      judge = rw (c.deref-2.ensures.value, ← c.deref.ensures.value) c.in_ok-begin.ensures;
    } in
    let limit : IsLimit old.reader.max_lines =
    subst (λ (k : CheckerKept). IsLimit k.reader.max_lines) (sym c.self.view_is) c.requires.limit in
    let piece = c.args.piece.now in
    let before : IsUndecided old bytes = subst (λ k. IsUndecided k bytes) (sym c.self.view_is) u in
    let ready = fed_ready old c.read.new.reader c.begin.new.judge piece entries
    c.in_ok-fault.fault fed limit bytes before in
    let all = read_so_far old.reader.max_lines (bytes ++ piece) in
    let log = (read_so_far old.reader.max_lines bytes).entries in
    let wrong_is = c.in_ok-wrong.ensures.answer all log (rw c.ended-ended.ensures.kept ready) in
    let known =
    fed_answer old c.read.new.reader c.begin.new.judge piece entries c.in_ok-fault.fault
    c.in_ok-wrong.wrong fed bytes before.read wrong_is in
    let nothing = sym c.or.ensures ∙ none in
    fed_undecided old c.read.new.reader c.begin.new.judge c.judge_entries.new.judge piece entries
    c.in_ok-fault.fault fed bytes before.read
    (c.in_ok-wrong.ensures.judging all log (rw c.ended-ended.ensures.kept ready)
    (first_none c.in_ok-wrong.wrong c.in_ok-fault.fault nothing)) (sym known ∙ nothing)

pub returns-clause-steps : goal.returns-clause-steps
returns-clause-steps g c = λ bytes u.
    let old : CheckerKept = record { reader = c.self.inside.reader; judge = c.self.inside.judge } in
    let entries = c.deref-2.result.now in
    let fed : Fed old c.read.new.reader c.begin.new.judge c.args.piece.now entries
    c.in_ok-fault.fault = record {
      limit = c.in_ok-fault.ensures.limit;
      read = c.in_ok-fault.ensures.read;
      grown = λ bytes read. rw (c.deref-2.ensures.value, ← c.clear.ensures.items)
          (c.in_ok-fault.ensures.entries bytes read);
      faulty = c.in_ok-fault.ensures.fault;
      judge = rw (c.deref-2.ensures.value, ← c.deref.ensures.value) c.in_ok-begin.ensures;
    } in
    let limit : IsLimit old.reader.max_lines =
    subst (λ (k : CheckerKept). IsLimit k.reader.max_lines) (sym c.self.view_is) c.requires.limit in
    let piece = c.args.piece.now in
    let before : IsUndecided old bytes = subst (λ k. IsUndecided k bytes) (sym c.self.view_is) u in
    let ready = fed_ready old c.read.new.reader c.begin.new.judge piece entries
    c.in_ok-fault.fault fed limit bytes before in
    let all = read_so_far old.reader.max_lines (bytes ++ piece) in
    let log = (read_so_far old.reader.max_lines bytes).entries in
    let taken = c.in_ok-wrong.ensures.steps all log (rw c.ended-ended.ensures.kept ready) in
    let going = sym c.ended-was_ended.ensures.kept ∙ c.if-was_ended.false in
    let paid = fed_paid old c.read.new.reader c.begin.new.judge c.judge_entries.new.judge piece
    entries c.in_ok-fault.fault fed limit going bytes before c.args.steps.now
    c.judge_entries.new.steps
    (subst (λ b. c.judge_entries.new.steps + judge_owes c.judge_entries.new.judge all all.entries
    ≤ c.args.steps.now + judge_owes c.begin.new.judge all log
    + following_cost c.begin.new.judge entries b) c.ended-ended.ensures.kept taken) in
    subst (λ (k : CheckerKept). c.judge_entries.new.steps
    + kept_debt (record { reader = c.read.new.reader; judge = c.judge_entries.new.judge })
    (bytes ++ piece)
    + bytes_cost k.reader.max_lines bytes
    ≤ c.args.steps.now + kept_debt k bytes + bytes_cost k.reader.max_lines (bytes ++ piece))
    c.self.view_is paid

pub returns-then-was_ended-clause-answer : goal.returns-then-was_ended-clause-answer
returns-then-was_ended-clause-answer g c = λ bytes u.
    let old : CheckerKept = record { reader = c.self.inside.reader; judge = c.self.inside.judge } in
    let limit : IsLimit old.reader.max_lines =
    subst (λ (k : CheckerKept). IsLimit k.reader.max_lines) (sym c.self.view_is) c.requires.limit in
    let before : IsUndecided old bytes = subst (λ k. IsUndecided k bytes) (sym c.self.view_is) u in
    let ended = sym c.ended-was_ended.ensures.kept ∙ c.if-was_ended.true in
    ended_answer old bytes c.args.piece.now c.in_ok-fault.fault limit before ended
    (c.in_ok-fault.ensures.fault bytes before.read)
    ∙ ap (λ (k : CheckerKept). text_verdict_so_far k.reader.max_lines (bytes ++ c.args.piece.now))
    c.self.view_is

pub returns-then-was_ended-clause-undecided : goal.returns-then-was_ended-clause-undecided
returns-then-was_ended-clause-undecided g c = λ bytes u none.
    let old : CheckerKept = record { reader = c.self.inside.reader; judge = c.self.inside.judge } in
    let limit : IsLimit old.reader.max_lines =
    subst (λ (k : CheckerKept). IsLimit k.reader.max_lines) (sym c.self.view_is) c.requires.limit in
    let before : IsUndecided old bytes = subst (λ k. IsUndecided k bytes) (sym c.self.view_is) u in
    let ended = sym c.ended-was_ended.ensures.kept ∙ c.if-was_ended.true in
    ended_undecided old c.read.new.reader bytes c.args.piece.now limit before ended
    c.in_ok-fault.ensures.limit (c.in_ok-fault.ensures.read bytes before.read)
    (sym (ended_answer old bytes c.args.piece.now c.in_ok-fault.fault limit before ended
    (c.in_ok-fault.ensures.fault bytes before.read)) ∙ none)

pub returns-then-was_ended-clause-steps : goal.returns-then-was_ended-clause-steps
returns-then-was_ended-clause-steps g c = λ bytes u.
    let old : CheckerKept = record { reader = c.self.inside.reader; judge = c.self.inside.judge } in
    let limit : IsLimit old.reader.max_lines =
    subst (λ (k : CheckerKept). IsLimit k.reader.max_lines) (sym c.self.view_is) c.requires.limit in
    let before : IsUndecided old bytes = subst (λ k. IsUndecided k bytes) (sym c.self.view_is) u in
    let ended = sym c.ended-was_ended.ensures.kept ∙ c.if-was_ended.true in
    subst (λ (k : CheckerKept). c.args.steps.now
    + kept_debt (record { reader = c.read.new.reader; judge = c.self.inside.judge })
    (bytes ++ c.args.piece.now)
    + bytes_cost k.reader.max_lines bytes
    ≤ c.args.steps.now + kept_debt k bytes
    + bytes_cost k.reader.max_lines (bytes ++ c.args.piece.now))
    c.self.view_is
    (ended_paid old c.read.new.reader bytes c.args.piece.now c.args.steps.now limit before ended
    c.in_ok-fault.ensures.limit)
