use Rattle.vyrd_words.proofs.Prelude.{[], ◌≡◌, ◌<◌, ◌+◌, suc, length, Some, refl, ap, sym, ◌∙◌}
use Rattle.vyrd_words.proofs.Prelude.{arith, Call, Return, commit_count, sum_by, is_open}
use Rattle.vyrd_words.proofs.Prelude.{kept_writes, WordsView, written, effect_words}
use Rattle.std.proofs.lemmas.Option.{slice_get-get_or}
use Rattle.vyrd_words.proofs.ShadowFacts.{call_followed, return_followed, commit_followed}
use Rattle.vyrd_shadow.specs.Costs.{owed}
use Rattle.vyrd_words.proofs.CutLaws.{always, length-written}
use Rattle.vyrd_words.proofs.CostLaws.{paid_now, paid_at_most, paid_closed, one_changed}
use Rattle.vyrd_words.proofs.CostLaws.{block_changed, one_word, block_words, priced}
use Rattle.vyrd_words.proofs.WordsLaws.{may_opened, has_opened, keeps_opened, taken_closed}
use Rattle.vyrd_words.proofs.WordsLaws.{may_caller, may_word, may_value, may_open, may_close}
use Rattle.vyrd_words.proofs.WordsLaws.{may_block_commit, may_number, keeps_as, quiet_taken}
use Rattle.vyrd_words.proofs.WordsLaws.{open_taken, write_taken, close_taken, commit_taken}
use Rattle.vyrd_words.proofs.WordsLaws.{block_commit_taken, parts_since_none, parts_since_some}
use Rattle.vyrd_words.proofs.WordsLaws.{ok_two, ok_three, ok_four, taken_as, low_caller}
use Rattle.vyrd_words.proofs.WordsLaws.{closes_block, commits_block}
use Rattle.vyrd_words.proofs.words.Words.follow_kind.Goals as goal

pub write_counted-requires-clause-caller : goal.write_counted-requires-clause-caller
write_counted-requires-clause-caller g c = may_caller (may_opened c.self.view_is c.requires.may)

pub write_counted-requires-clause-word : goal.write_counted-requires-clause-word
write_counted-requires-clause-word g c = may_word c.in-Write.is
    (may_opened c.self.view_is c.requires.may)

pub write_counted-requires-clause-value : goal.write_counted-requires-clause-value
write_counted-requires-clause-value g c = search (may_value, may_opened, arith)

pub open_block_counted-requires-clause-caller : goal.open_block_counted-requires-clause-caller
open_block_counted-requires-clause-caller g c = search (may_caller, may_opened, arith)

pub open_block_counted-requires-clause-closed : goal.open_block_counted-requires-clause-closed
open_block_counted-requires-clause-closed g c = search (may_open, may_opened, arith)

pub close_block_counted-requires-clause-caller : goal.close_block_counted-requires-clause-caller
close_block_counted-requires-clause-caller g c = search (may_caller, may_opened, arith)

pub close_block_counted-requires-clause-opened : goal.close_block_counted-requires-clause-opened
close_block_counted-requires-clause-opened g c = search (may_close, may_opened, arith)

pub close_block_counted-requires-in-BlockCommit-clause-caller :
    goal.close_block_counted-requires-in-BlockCommit-clause-caller
close_block_counted-requires-in-BlockCommit-clause-caller g c = may_caller
    (may_opened c.self.view_is c.requires.may)

pub close_block_counted-requires-in-BlockCommit-clause-opened :
    goal.close_block_counted-requires-in-BlockCommit-clause-opened
close_block_counted-requires-in-BlockCommit-clause-opened g c = may_block_commit c.in-BlockCommit.is
    (may_opened c.self.view_is c.requires.may)

pub index_mut-requires : goal.index_mut-requires
index_mut-requires g c = search (may_caller, may_opened, arith)

pub index-number-requires : goal.index-number-requires
index-number-requires g c = search (may_caller, may_opened, arith)

pub overflow_sub-behind : goal.overflow_sub-behind
overflow_sub-behind g c =
    let low : c.args.entry.caller < length c.self.inside.inner.items =
    omega (
      arith,
      may_caller
          (may_opened c.self.view_is c.requires.may),
      c.self.invariant.1,
      c.self.inside.inner.ok.0,
    ) in
    may_number c.index-number.result.now
    (slice_get-get_or c.self.inside.inner.items c.args.entry.caller c.index-number.result.now low
    ∙ ap Some (sym c.index-number.ensures)) (may_opened c.self.view_is c.requires.may)

pub index_mut-requires-in-Commit : goal.index_mut-requires-in-Commit
index_mut-requires-in-Commit g c = search (may_caller, may_opened, arith)

pub returns-in-Call-clause-taken : goal.returns-in-Call-clause-taken
returns-in-Call-clause-taken g c = λ starting earlier has keeps counted.
    taken_as c.args.entry c.in-Call.is
    (quiet_taken _ _ _ starting earlier c.args.entry.caller
    (Call c.in-Call.field-0 c.in-Call.field-1) refl refl (λ commits number. refl) has
    (call_followed _ starting earlier c.args.entry.caller c.in-Call.field-0 c.in-Call.field-1
    (keeps_as c.in-Call.is keeps).rules has.followed))

pub returns-in-Return-clause-taken : goal.returns-in-Return-clause-taken
returns-in-Return-clause-taken g c = λ starting earlier has keeps counted.
    taken_as c.args.entry c.in-Return.is
    (quiet_taken _ _ _ starting earlier c.args.entry.caller (Return c.in-Return.field-0) refl refl
    (λ commits number. refl) has
    (return_followed _ starting earlier c.args.entry.caller c.in-Return.field-0
    (keeps_as c.in-Return.is keeps).rules has.followed))

pub returns-in-BlockOpen-clause-taken : goal.returns-in-BlockOpen-clause-taken
returns-in-BlockOpen-clause-taken g c = λ starting earlier seen kept counted.
    let before = c.self.inside in
    let has = has_opened c.self.view_is seen in
    let keeps = keeps_opened c.self.view_is kept in
    let low : c.args.entry.caller < length before.inner.items =
    omega (arith, low_caller keeps, c.self.invariant.1, before.inner.ok.0) in
    taken_closed c.self.view_is (taken_as c.args.entry c.in-BlockOpen.is
    (open_taken before.shadow c.open_block_counted.new.self before.inner.items before.views starting
    earlier c.args.entry.caller has
    (c.open_block_counted.ensures.followed starting earlier has.followed
    (keeps_as c.in-BlockOpen.is keeps).rules)
    c.open_block_counted.ensures.header c.open_block_counted.ensures.changed low))

pub returns-in_ok-write_counted-in-Write-clause-taken :
    goal.returns-in_ok-write_counted-in-Write-clause-taken
returns-in_ok-write_counted-in-Write-clause-taken g c = λ starting earlier seen kept counted.
    let before = c.self.inside in
    let has = has_opened c.self.view_is seen in
    let keeps = keeps_opened c.self.view_is kept in
    ok_four c.pass_on.result c.pass_on.ensures.first c.pass_on.ensures.since
    c.pass_on.ensures.shadow c.pass_on.ensures.begun (λ first since shadow begun.
    taken_closed c.self.view_is (taken_as c.args.entry c.in-Write.is
    (write_taken before.shadow c.write_counted.new.self c.pass_on.new.shadow before.inner.items
    before.views c.pass_on.new.views starting earlier
    c.args.entry.caller c.in-Write.word c.in-Write.value has (low_caller keeps)
    (c.in_ok-write_counted-in-Write.ensures.followed starting earlier has.followed
    (keeps_as c.in-Write.is keeps).rules)
    c.write_counted.ensures.header c.pass_on.ensures.within
    c.in_ok-write_counted-in-Write.ensures.changed shadow first since begun)))

pub returns-then-number-eq0-clause-taken : goal.returns-then-number-eq0-clause-taken
returns-then-number-eq0-clause-taken g c = λ starting earlier seen kept counted.
    let before = c.self.inside in
    let has = has_opened c.self.view_is seen in
    let keeps = keeps_opened c.self.view_is kept in
    let low : c.args.entry.caller < length before.inner.items =
    omega (arith, low_caller keeps, c.self.invariant.1, before.inner.ok.0) in
    let here = slice_get-get_or before.inner.items c.args.entry.caller c.index-number.result.now low
    ∙ ap Some (sym c.index-number.ensures) in
    let on = c.pass_on-then-number-eq0 in
    ok_four on.result on.ensures.first on.ensures.since on.ensures.shadow on.ensures.begun
    (λ first since shadow begun.
    taken_closed c.self.view_is (taken_as c.args.entry c.in-BlockClose.is
    (close_taken before.shadow c.close_block_counted.new.self on.new.shadow before.inner.items
    before.views on.new.views starting earlier
    c.args.entry.caller 0 has (low_caller keeps) (closes_block c.in-BlockClose.is keeps)
    (c.close_block_counted.ensures.closed starting earlier has.followed
    (keeps_as c.in-BlockClose.is keeps).rules)
    c.close_block_counted.ensures.header on.ensures.within c.close_block_counted.ensures.changed
    shadow
    (parts_since_none before.inner.items c.args.entry.caller c.index-number.result.now earlier here
    (has.numbers c.args.entry.caller (low_caller keeps))
    c.if-number-eq0.true)
    first since begun)))

pub returns-else-number-eq0-clause-taken : goal.returns-else-number-eq0-clause-taken
returns-else-number-eq0-clause-taken g c = λ starting earlier seen kept counted.
    let before = c.self.inside in
    let has = has_opened c.self.view_is seen in
    let keeps = keeps_opened c.self.view_is kept in
    let low : c.args.entry.caller < length before.inner.items =
    omega (arith, low_caller keeps, c.self.invariant.1, before.inner.ok.0) in
    let here = slice_get-get_or before.inner.items c.args.entry.caller c.index-number.result.now low
    ∙ ap Some (sym c.index-number.ensures) in
    ok_four c.pass_back.result c.pass_back.ensures.first c.pass_back.ensures.since
    c.pass_back.ensures.shadow c.pass_back.ensures.begun (λ first since shadow begun.
    taken_closed c.self.view_is (taken_as c.args.entry c.in-BlockClose.is
    (close_taken before.shadow c.close_block_counted.new.self c.pass_back.new.shadow
    before.inner.items before.views c.pass_back.new.views starting earlier
    c.args.entry.caller _ has (low_caller keeps) (closes_block c.in-BlockClose.is keeps)
    (c.close_block_counted.ensures.closed starting earlier has.followed
    (keeps_as c.in-BlockClose.is keeps).rules)
    c.close_block_counted.ensures.header c.pass_back.ensures.within
    c.close_block_counted.ensures.changed shadow
    (parts_since_some before.inner.items c.args.entry.caller c.index-number.result.now
    c.args.commits earlier here
    (has.numbers c.args.entry.caller (low_caller keeps)) c.if-number-eq0.false counted)
    first since (omega (arith, begun)))))

pub returns-in-Commit-clause-taken : goal.returns-in-Commit-clause-taken
returns-in-Commit-clause-taken g c = λ starting earlier seen kept counted.
    let before = c.self.inside in
    let has = has_opened c.self.view_is seen in
    let keeps = keeps_opened c.self.view_is kept in
    let low : c.args.entry.caller < length before.inner.items =
    omega (arith, low_caller keeps, c.self.invariant.1, before.inner.ok.0) in
    let one : c.args.commits + 1 ≡ suc (commit_count earlier) = omega (arith, counted) in
    ok_three c.cut.result c.cut.ensures.first c.cut.ensures.since c.cut.ensures.begun
    (λ first since begun.
    taken_closed c.self.view_is (taken_as c.args.entry c.in-Commit.is
    (commit_taken before.shadow before.inner.items before.views c.cut.new.self starting earlier
    c.args.entry.caller (c.args.commits + 1) has
    (commit_followed before.shadow starting earlier c.args.entry.caller
    (keeps_as c.in-Commit.is keeps).rules has.followed) low one first since begun)))

pub returns-in_ok-pass_on-in-BlockCommit-clause-taken :
    goal.returns-in_ok-pass_on-in-BlockCommit-clause-taken
returns-in_ok-pass_on-in-BlockCommit-clause-taken g c = λ starting earlier seen kept counted.
    let before = c.self.inside in
    let has = has_opened c.self.view_is seen in
    let keeps = keeps_opened c.self.view_is kept in
    let on = c.pass_on-in-BlockCommit in
    let ok = c.in_ok-pass_on-in-BlockCommit in
    ok_three c.cut-in-BlockCommit.result c.cut-in-BlockCommit.ensures.first
    c.cut-in-BlockCommit.ensures.since c.cut-in-BlockCommit.ensures.begun (λ first since begun.
    taken_closed c.self.view_is (taken_as c.args.entry c.in-BlockCommit.is
    (block_commit_taken before.shadow c.close_block_counted-in-BlockCommit.new.self on.new.shadow
    before.inner.items before.views on.new.views
    c.cut-in-BlockCommit.new.self starting earlier c.args.entry.caller has (low_caller keeps)
    (commits_block c.in-BlockCommit.is keeps)
    (c.close_block_counted-in-BlockCommit.ensures.committed starting earlier has.followed
    (keeps_as c.in-BlockCommit.is keeps).rules)
    c.close_block_counted-in-BlockCommit.ensures.header on.ensures.within
    c.close_block_counted-in-BlockCommit.ensures.changed ok.ensures.shadow
    ok.ensures.first ok.ensures.since ok.ensures.begun first since begun)))

pub returns-in-BlockOpen-clause-steps : goal.returns-in-BlockOpen-clause-steps
returns-in-BlockOpen-clause-steps g c = λ starting earlier seen kept counted.
    let before = c.self.inside in
    let was = ap (λ (v : WordsView). owed v.shadow + v.views.pending) c.self.view_is in
    let keeps = keeps_opened c.self.view_is kept in
    paid_now c.args.entry earlier [] (c.args.steps.now + owed c.args.self.now.shadow
    + c.args.self.now.views.pending
    + sum_by (g.C.Compare.price c.args.self.now.views.shows)
    (effect_words c.args.self.now.shadow c.args.entry.caller c.args.entry.kind)
    + 5) (c.open_block_counted.new.steps + owed c.open_block_counted.new.self
    + before.views.pending) c.self.view_is c.in-BlockOpen.is (low_caller keeps) (λ no. cc) refl
    (omega (arith, was, c.open_block_counted.ensures.paid))

pub returns-in-Commit-clause-steps : goal.returns-in-Commit-clause-steps
returns-in-Commit-clause-steps g c = λ starting earlier seen kept counted.
    let before = c.self.inside in
    let was = ap (λ (v : WordsView). owed v.shadow + v.views.pending) c.self.view_is in
    let keeps = keeps_opened c.self.view_is kept in
    paid_closed c.cut.result c.args.entry earlier [] (c.args.steps.now + owed c.args.self.now.shadow
    + c.args.self.now.views.pending
    + sum_by (g.C.Compare.price c.args.self.now.views.shows)
    (effect_words c.args.self.now.shadow c.args.entry.caller c.args.entry.kind)
    + 5) (c.args.steps.now + owed before.shadow + c.cut.new.self.pending) c.self.view_is
    c.in-Commit.is (low_caller keeps) (λ no. cc) refl
    (always c.cut.result (omega (arith, was, c.cut.ensures.pending)))

pub returns-in_ok-write_counted-in-Write-clause-steps :
    goal.returns-in_ok-write_counted-in-Write-clause-steps
returns-in_ok-write_counted-in-Write-clause-steps g c = λ starting earlier seen kept counted.
    let before = c.self.inside in
    let was = ap (λ (v : WordsView). owed v.shadow + v.views.pending) c.self.view_is in
    let has = has_opened c.self.view_is seen in
    let keeps = keeps_opened c.self.view_is kept in
    let mid = c.write_counted.new.self in
    let long = length-written mid.words mid.changed in
    let price = priced g.C.Compare.price c.args.entry mid.changed c.self.view_is c.in-Write.is
    (one_word (is_open before.shadow c.args.entry.caller) mid.changed before.shadow.changed
    c.in-Write.word c.in_ok-write_counted-in-Write.ensures.changed has.unchanged) in
    paid_closed c.pass_on.result c.args.entry earlier (written mid.words mid.changed)
    (c.args.steps.now + owed c.args.self.now.shadow + c.args.self.now.views.pending
    + sum_by (g.C.Compare.price c.args.self.now.views.shows)
    (effect_words c.args.self.now.shadow c.args.entry.caller c.args.entry.kind)
    + 5) (c.pass_on.new.steps + owed c.pass_on.new.shadow + c.pass_on.new.views.pending)
    c.self.view_is c.in-Write.is (low_caller keeps) (λ no. cc)
    (long ∙ one_changed (is_open before.shadow c.args.entry.caller) mid.changed
    before.shadow.changed c.in-Write.word c.in_ok-write_counted-in-Write.ensures.changed
    has.unchanged)
    (ok_two c.pass_on.result c.pass_on.ensures.steps c.pass_on.ensures.steps
    (λ paid twice. omega (arith, was, price, long, c.write_counted.ensures.paid, paid)))

pub returns-then-number-eq0-clause-steps : goal.returns-then-number-eq0-clause-steps
returns-then-number-eq0-clause-steps g c = λ starting earlier seen kept counted.
    let before = c.self.inside in
    let was = ap (λ (v : WordsView). owed v.shadow + v.views.pending) c.self.view_is in
    let has = has_opened c.self.view_is seen in
    let keeps = keeps_opened c.self.view_is kept in
    let low : c.args.entry.caller < length before.inner.items =
    omega (arith, low_caller keeps, c.self.invariant.1, before.inner.ok.0) in
    let here = slice_get-get_or before.inner.items c.args.entry.caller c.index-number.result.now low
    ∙ ap Some (sym c.index-number.ensures) in
    let on = c.pass_on-then-number-eq0 in
    let mid = c.close_block_counted.new.self in
    let long = length-written mid.words mid.changed in
    let none = parts_since_none before.inner.items c.args.entry.caller c.index-number.result.now
    earlier here (has.numbers c.args.entry.caller (low_caller keeps))
    c.if-number-eq0.true in
    let price = priced g.C.Compare.price c.args.entry mid.changed c.self.view_is c.in-BlockClose.is
    (block_words mid.changed before.shadow.changed (kept_writes before.shadow c.args.entry.caller)
    c.close_block_counted.ensures.changed has.unchanged) in
    paid_closed on.result c.args.entry earlier (written mid.words mid.changed)
    (c.args.steps.now + owed c.args.self.now.shadow + c.args.self.now.views.pending
    + sum_by (g.C.Compare.price c.args.self.now.views.shows)
    (effect_words c.args.self.now.shadow c.args.entry.caller c.args.entry.kind)
    + 5) (on.new.steps + owed on.new.shadow + on.new.views.pending)
    c.self.view_is c.in-BlockClose.is (low_caller keeps)
    (λ closes. closes_block c.in-BlockClose.is keeps)
    (long ∙ block_changed mid.changed before.shadow.changed
    (kept_writes before.shadow c.args.entry.caller) c.close_block_counted.ensures.changed
    has.unchanged)
    (ok_two on.result on.ensures.steps on.ensures.steps
    (λ paid twice. omega (arith, was, price, long, c.close_block_counted.ensures.paid, paid)))

pub returns-else-number-eq0-clause-steps : goal.returns-else-number-eq0-clause-steps
returns-else-number-eq0-clause-steps g c = λ starting earlier seen kept counted.
    let before = c.self.inside in
    let was = ap (λ (v : WordsView). owed v.shadow + v.views.pending) c.self.view_is in
    let has = has_opened c.self.view_is seen in
    let keeps = keeps_opened c.self.view_is kept in
    let low : c.args.entry.caller < length before.inner.items =
    omega (arith, low_caller keeps, c.self.invariant.1, before.inner.ok.0) in
    let here = slice_get-get_or before.inner.items c.args.entry.caller c.index-number.result.now low
    ∙ ap Some (sym c.index-number.ensures) in
    let mid = c.close_block_counted.new.self in
    let long = length-written mid.words mid.changed in
    let some = parts_since_some before.inner.items c.args.entry.caller c.index-number.result.now
    c.args.commits earlier here
    (has.numbers c.args.entry.caller (low_caller keeps)) c.if-number-eq0.false counted in
    let price = priced g.C.Compare.price c.args.entry mid.changed c.self.view_is c.in-BlockClose.is
    (block_words mid.changed before.shadow.changed (kept_writes before.shadow c.args.entry.caller)
    c.close_block_counted.ensures.changed has.unchanged) in
    paid_closed c.pass_back.result c.args.entry earlier (written mid.words mid.changed)
    (c.args.steps.now + owed c.args.self.now.shadow + c.args.self.now.views.pending
    + sum_by (g.C.Compare.price c.args.self.now.views.shows)
    (effect_words c.args.self.now.shadow c.args.entry.caller c.args.entry.kind)
    + 5) (c.pass_back.new.steps + owed c.pass_back.new.shadow + c.pass_back.new.views.pending)
    c.self.view_is c.in-BlockClose.is (low_caller keeps)
    (λ closes. closes_block c.in-BlockClose.is keeps)
    (long ∙ block_changed mid.changed before.shadow.changed
    (kept_writes before.shadow c.args.entry.caller) c.close_block_counted.ensures.changed
    has.unchanged)
    (ok_two c.pass_back.result c.pass_back.ensures.steps c.pass_back.ensures.steps
    (λ paid twice. omega (arith, was, price, long, c.close_block_counted.ensures.paid, paid, some)))

pub returns-in_ok-pass_on-in-BlockCommit-clause-steps :
    goal.returns-in_ok-pass_on-in-BlockCommit-clause-steps
returns-in_ok-pass_on-in-BlockCommit-clause-steps g c = λ starting earlier seen kept counted.
    let before = c.self.inside in
    let was = ap (λ (v : WordsView). owed v.shadow + v.views.pending) c.self.view_is in
    let has = has_opened c.self.view_is seen in
    let keeps = keeps_opened c.self.view_is kept in
    let on = c.pass_on-in-BlockCommit in
    let ok = c.in_ok-pass_on-in-BlockCommit in
    let cut = c.cut-in-BlockCommit in
    let mid = c.close_block_counted-in-BlockCommit.new.self in
    let long = length-written mid.words mid.changed in
    let price = priced g.C.Compare.price c.args.entry mid.changed c.self.view_is c.in-BlockCommit.is
    (block_words mid.changed before.shadow.changed (kept_writes before.shadow c.args.entry.caller)
    c.close_block_counted-in-BlockCommit.ensures.changed has.unchanged) in
    paid_closed cut.result c.args.entry earlier (written mid.words mid.changed)
    (c.args.steps.now + owed c.args.self.now.shadow + c.args.self.now.views.pending
    + sum_by (g.C.Compare.price c.args.self.now.views.shows)
    (effect_words c.args.self.now.shadow c.args.entry.caller c.args.entry.kind)
    + 5) (on.new.steps + owed on.new.shadow + cut.new.self.pending)
    c.self.view_is c.in-BlockCommit.is (low_caller keeps) (λ no. cc)
    (long ∙ block_changed mid.changed before.shadow.changed
    (kept_writes before.shadow c.args.entry.caller)
    c.close_block_counted-in-BlockCommit.ensures.changed has.unchanged)
    (always cut.result
    (omega (
      arith,
      was,
      price,
      long,
      c.close_block_counted-in-BlockCommit.ensures.paid,
      ok.ensures.steps,
      cut.ensures.pending,
    )))

pub returns-in-Call-clause-steps : goal.returns-in-Call-clause-steps
returns-in-Call-clause-steps g c =
    λ starting earlier has keeps counted. grind (arith, starting, counted, paid_now, low_caller)

pub returns-in-Return-clause-steps : goal.returns-in-Return-clause-steps
returns-in-Return-clause-steps g c =
    λ starting earlier has keeps counted. grind (arith, starting, counted, paid_now, low_caller)

pub returns-in-Call-clause-most : goal.returns-in-Call-clause-most
returns-in-Call-clause-most g c = λ starting earlier has keeps counted.
    omega arith

pub returns-in-Return-clause-most : goal.returns-in-Return-clause-most
returns-in-Return-clause-most g c = λ starting earlier has keeps counted.
    omega arith

pub returns-in-BlockOpen-clause-most : goal.returns-in-BlockOpen-clause-most
returns-in-BlockOpen-clause-most g c = λ starting earlier seen kept counted.
    omega (arith, c.open_block_counted.ensures.steps)

pub returns-in-Commit-clause-most : goal.returns-in-Commit-clause-most
returns-in-Commit-clause-most g c = λ starting earlier seen kept counted.
    omega arith

pub returns-in_err-write_counted-in-Write-clause-most :
    goal.returns-in_err-write_counted-in-Write-clause-most
returns-in_err-write_counted-in-Write-clause-most g c = λ starting earlier seen kept counted.
    omega (arith, c.write_counted.ensures.steps)

pub returns-in_ok-write_counted-in-Write-clause-most :
    goal.returns-in_ok-write_counted-in-Write-clause-most
returns-in_ok-write_counted-in-Write-clause-most g c = λ starting earlier seen kept counted.
    let before = c.self.inside in
    let was = ap (λ (v : WordsView). owed v.shadow + v.views.pending) c.self.view_is in
    let has = has_opened c.self.view_is seen in
    let keeps = keeps_opened c.self.view_is kept in
    let mid = c.write_counted.new.self in
    let long = length-written mid.words mid.changed in
    let price = priced g.C.Compare.price c.args.entry mid.changed c.self.view_is c.in-Write.is
    (one_word (is_open before.shadow c.args.entry.caller) mid.changed before.shadow.changed
    c.in-Write.word c.in_ok-write_counted-in-Write.ensures.changed has.unchanged) in
    paid_at_most c.args.entry earlier (written mid.words mid.changed)
    (c.args.steps.now + owed c.args.self.now.shadow + c.args.self.now.views.pending
    + sum_by (g.C.Compare.price c.args.self.now.views.shows)
    (effect_words c.args.self.now.shadow c.args.entry.caller c.args.entry.kind)
    + 5) c.pass_on.new.steps
    c.self.view_is c.in-Write.is (low_caller keeps) (λ no. cc)
    (long ∙ one_changed (is_open before.shadow c.args.entry.caller) mid.changed
    before.shadow.changed c.in-Write.word c.in_ok-write_counted-in-Write.ensures.changed
    has.unchanged)
    (omega (arith, was, price, long, c.write_counted.ensures.paid, c.pass_on.ensures.most))

pub returns-then-number-eq0-clause-most : goal.returns-then-number-eq0-clause-most
returns-then-number-eq0-clause-most g c = λ starting earlier seen kept counted.
    let before = c.self.inside in
    let was = ap (λ (v : WordsView). owed v.shadow + v.views.pending) c.self.view_is in
    let has = has_opened c.self.view_is seen in
    let keeps = keeps_opened c.self.view_is kept in
    let low : c.args.entry.caller < length before.inner.items =
    omega (arith, low_caller keeps, c.self.invariant.1, before.inner.ok.0) in
    let here = slice_get-get_or before.inner.items c.args.entry.caller c.index-number.result.now low
    ∙ ap Some (sym c.index-number.ensures) in
    let on = c.pass_on-then-number-eq0 in
    let mid = c.close_block_counted.new.self in
    let long = length-written mid.words mid.changed in
    let none = parts_since_none before.inner.items c.args.entry.caller c.index-number.result.now
    earlier here (has.numbers c.args.entry.caller (low_caller keeps))
    c.if-number-eq0.true in
    let price = priced g.C.Compare.price c.args.entry mid.changed c.self.view_is c.in-BlockClose.is
    (block_words mid.changed before.shadow.changed (kept_writes before.shadow c.args.entry.caller)
    c.close_block_counted.ensures.changed has.unchanged) in
    paid_at_most c.args.entry earlier (written mid.words mid.changed)
    (c.args.steps.now + owed c.args.self.now.shadow + c.args.self.now.views.pending
    + sum_by (g.C.Compare.price c.args.self.now.views.shows)
    (effect_words c.args.self.now.shadow c.args.entry.caller c.args.entry.kind) + 5) on.new.steps
    c.self.view_is c.in-BlockClose.is (low_caller keeps)
    (λ closes. closes_block c.in-BlockClose.is keeps)
    (long ∙ block_changed mid.changed before.shadow.changed
    (kept_writes before.shadow c.args.entry.caller) c.close_block_counted.ensures.changed
    has.unchanged)
    (omega (arith, was, price, long, c.close_block_counted.ensures.paid, on.ensures.most))

pub returns-else-number-eq0-clause-most : goal.returns-else-number-eq0-clause-most
returns-else-number-eq0-clause-most g c = λ starting earlier seen kept counted.
    let before = c.self.inside in
    let was = ap (λ (v : WordsView). owed v.shadow + v.views.pending) c.self.view_is in
    let has = has_opened c.self.view_is seen in
    let keeps = keeps_opened c.self.view_is kept in
    let low : c.args.entry.caller < length before.inner.items =
    omega (arith, low_caller keeps, c.self.invariant.1, before.inner.ok.0) in
    let here = slice_get-get_or before.inner.items c.args.entry.caller c.index-number.result.now low
    ∙ ap Some (sym c.index-number.ensures) in
    let mid = c.close_block_counted.new.self in
    let long = length-written mid.words mid.changed in
    let some = parts_since_some before.inner.items c.args.entry.caller c.index-number.result.now
    c.args.commits earlier here
    (has.numbers c.args.entry.caller (low_caller keeps)) c.if-number-eq0.false counted in
    let price = priced g.C.Compare.price c.args.entry mid.changed c.self.view_is c.in-BlockClose.is
    (block_words mid.changed before.shadow.changed (kept_writes before.shadow c.args.entry.caller)
    c.close_block_counted.ensures.changed has.unchanged) in
    paid_at_most c.args.entry earlier (written mid.words mid.changed)
    (c.args.steps.now + owed c.args.self.now.shadow + c.args.self.now.views.pending
    + sum_by (g.C.Compare.price c.args.self.now.views.shows)
    (effect_words c.args.self.now.shadow c.args.entry.caller c.args.entry.kind)
    + 5) c.pass_back.new.steps
    c.self.view_is c.in-BlockClose.is (low_caller keeps)
    (λ closes. closes_block c.in-BlockClose.is keeps)
    (long ∙ block_changed mid.changed before.shadow.changed
    (kept_writes before.shadow c.args.entry.caller) c.close_block_counted.ensures.changed
    has.unchanged)
    (omega (
      arith,
      was,
      price,
      long,
      c.close_block_counted.ensures.paid,
      c.pass_back.ensures.most,
      some,
    ))

pub returns-in_ok-pass_on-in-BlockCommit-clause-most :
    goal.returns-in_ok-pass_on-in-BlockCommit-clause-most
returns-in_ok-pass_on-in-BlockCommit-clause-most g c = λ starting earlier seen kept counted.
    let before = c.self.inside in
    let was = ap (λ (v : WordsView). owed v.shadow + v.views.pending) c.self.view_is in
    let has = has_opened c.self.view_is seen in
    let keeps = keeps_opened c.self.view_is kept in
    let on = c.pass_on-in-BlockCommit in
    let ok = c.in_ok-pass_on-in-BlockCommit in
    let cut = c.cut-in-BlockCommit in
    let mid = c.close_block_counted-in-BlockCommit.new.self in
    let long = length-written mid.words mid.changed in
    let price = priced g.C.Compare.price c.args.entry mid.changed c.self.view_is c.in-BlockCommit.is
    (block_words mid.changed before.shadow.changed (kept_writes before.shadow c.args.entry.caller)
    c.close_block_counted-in-BlockCommit.ensures.changed has.unchanged) in
    paid_at_most c.args.entry earlier (written mid.words mid.changed)
    (c.args.steps.now + owed c.args.self.now.shadow + c.args.self.now.views.pending
    + sum_by (g.C.Compare.price c.args.self.now.views.shows)
    (effect_words c.args.self.now.shadow c.args.entry.caller c.args.entry.kind) + 5) on.new.steps
    c.self.view_is c.in-BlockCommit.is (low_caller keeps) (λ no. cc)
    (long ∙ block_changed mid.changed before.shadow.changed
    (kept_writes before.shadow c.args.entry.caller)
    c.close_block_counted-in-BlockCommit.ensures.changed has.unchanged)
    (omega (
      arith,
      was,
      price,
      long,
      c.close_block_counted-in-BlockCommit.ensures.paid,
      on.ensures.most,
    ))

pub returns-in_err-pass_on-in-BlockCommit-clause-most :
    goal.returns-in_err-pass_on-in-BlockCommit-clause-most
returns-in_err-pass_on-in-BlockCommit-clause-most g c = λ starting earlier seen kept counted.
    let before = c.self.inside in
    let was = ap (λ (v : WordsView). owed v.shadow + v.views.pending) c.self.view_is in
    let has = has_opened c.self.view_is seen in
    let keeps = keeps_opened c.self.view_is kept in
    let on = c.pass_on-in-BlockCommit in
    let mid = c.close_block_counted-in-BlockCommit.new.self in
    let long = length-written mid.words mid.changed in
    let price = priced g.C.Compare.price c.args.entry mid.changed c.self.view_is c.in-BlockCommit.is
    (block_words mid.changed before.shadow.changed (kept_writes before.shadow c.args.entry.caller)
    c.close_block_counted-in-BlockCommit.ensures.changed has.unchanged) in
    paid_at_most c.args.entry earlier (written mid.words mid.changed)
    (c.args.steps.now + owed c.args.self.now.shadow + c.args.self.now.views.pending
    + sum_by (g.C.Compare.price c.args.self.now.views.shows)
    (effect_words c.args.self.now.shadow c.args.entry.caller c.args.entry.kind) + 5) on.new.steps
    c.self.view_is c.in-BlockCommit.is (low_caller keeps) (λ no. cc)
    (long ∙ block_changed mid.changed before.shadow.changed
    (kept_writes before.shadow c.args.entry.caller)
    c.close_block_counted-in-BlockCommit.ensures.changed has.unchanged)
    (omega (
      arith,
      was,
      price,
      long,
      c.close_block_counted-in-BlockCommit.ensures.paid,
      on.ensures.most,
    ))
