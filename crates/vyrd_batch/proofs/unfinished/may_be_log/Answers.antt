use Rattle.vyrd_base.proofs.TestLaws.{at_most_of, above_of}
use Rattle.vyrd_batch.proofs.UnfinishedLaws.{never_a_line, never_a_size, never_near, short_of_whole}
use Rattle.vyrd_batch.proofs.UnfinishedLaws.{may_come}
use Rattle.vyrd_batch.proofs.unfinished.may_be_log.Goals as goal

pub returns-in_default-clause-never : goal.returns-in_default-clause-never
returns-in_default-clause-never g c = λ e.
    never_a_line c.args.place c.args.bytes.now c.in_default.ensures.line (above_of _ _ e)

pub returns-in_default-size_in-clause-never : goal.returns-in_default-size_in-clause-never
returns-in_default-size_in-clause-never g c = λ e.
    let is = c.in-Some.ensures.line in
    never_a_size c.args.place c.args.bytes.now c.in-Some.line.now c.in-Some.field-0-1.now is.0 is.1
    c.in_default-size_in.ensures

pub returns-clause-never : goal.returns-clause-never
returns-clause-never g c = λ e.
    let is = c.in-Some.ensures.line in
    never_near c.args.place c.in-Some-size_in.size c.args.bytes.now c.in-Some.line.now
    c.in-Some.field-0-1.now is.0 is.1
    c.in-Some-size_in.ensures (above_of _ _ e)

pub returns-clause-short : goal.returns-clause-short
returns-clause-short g c = λ e.
    let is = c.in-Some.ensures.line in
    short_of_whole c.args.place c.in-Some-size_in.size c.args.bytes.now c.in-Some.line.now
    c.in-Some.field-0-1.now is.0 is.1
    c.in-Some-size_in.ensures (at_most_of _ _ e) c.requires.nothing

pub returns-clause-ever : goal.returns-clause-ever
returns-clause-ever g c = λ e never.
    let is = c.in-Some.ensures.line in
    may_come c.args.place c.in-Some-size_in.size c.args.bytes.now c.in-Some.line.now
    c.in-Some.field-0-1.now is.0 is.1
    c.in-Some-size_in.ensures (at_most_of _ _ e) never
