use Rattle.vyrd_batch.proofs.Prelude.{sym, subst, ◌∙◌, arith, ended_line, first_word, last_line}
use Rattle.vyrd_batch.proofs.Prelude.{IsNothingMore, IsNothingEver, most_left, longest_line}
use Rattle.vyrd_batch.proofs.UnfinishedLaws.{never_first, short_front}
use Rattle.vyrd_batch.proofs.unfinished.may_go_on.Goals as goal

pub returns-in_default-clause-never : goal.returns-in_default-clause-never
returns-in_default-clause-never g c = λ e.
    let log = c.args.log in
    let bytes = c.args.bytes.now in
    subst (λ place. IsNothingEver place log bytes) (sym c.in_default.is)
    (never_first log bytes c.after.result c.after.ensures (sym c.is_some.ensures ∙ e)
    (subst (λ place. IsNothingMore place log bytes) c.in_default.is c.requires.nothing))

pub returns-in_default-clause-short : goal.returns-in_default-clause-short
returns-in_default-clause-short g c = λ e.
    short_front most_left (ended_line first_word) c.args.bytes.now c.after.result
    (omega arith) c.after.ensures (sym c.is_some.ensures ∙ e)

pub returns-then-is_some-clause-short : goal.returns-then-is_some-clause-short
returns-then-is_some-clause-short g c = λ e.
    short_front most_left last_line c.args.bytes.now c.after-2.result
    (omega arith) c.after-2.ensures (sym c.is_some-2.ensures ∙ c.if-is_some.true)

pub returns-in_default-clause-ever : goal.returns-in_default-clause-ever
returns-in_default-clause-ever g c = λ e never.
    short_front longest_line (ended_line first_word) c.args.bytes.now c.after.result
    (omega arith) c.after.ensures (sym c.is_some.ensures ∙ e)

pub returns-then-is_some-clause-ever : goal.returns-then-is_some-clause-ever
returns-then-is_some-clause-ever g c = λ e never.
    short_front longest_line last_line c.args.bytes.now c.after-2.result
    (omega arith) c.after-2.ensures (sym c.is_some-2.ensures ∙ c.if-is_some.true)
