use Rattle.vyrd_mover.proofs.Prelude.{◌∙◌, ◌<◌, ◌≤◌, ◌++◌, length, length-append, arith, sym, subst}
use Rattle.vyrd_mover.proofs.Prelude.{lacks-append, HasRead, ReaderState}
use Rattle.vyrd_mover.proofs.LinesLaws.{still_at_fault}
use Rattle.vyrd_mover.proofs.ReaderLaws.{nothing_unfinished, more_unfinished}
use Rattle.vyrd_mover.proofs.reader.HistoryReader.put.Goals as goal

pub returns-then-is_at_fault : goal.returns-then-is_at_fault
returns-then-is_at_fault c = λ before read.
    let here = c.self.inside in
    let s : ReaderState = record { lines = here.lines; unfinished = here.unfinished } in
    let had : HasRead s before = rw c.self.view_is read in
    rw c.clear.ensures
    (nothing_unfinished here.lines s before c.args.bytes.now had
    (still_at_fault here.lines had.whole (here.unfinished ++ c.args.bytes.now)
    (sym c.is_at_fault.ensures ∙ c.if-is_at_fault.true) had.at))

pub returns-then-len-bytes-gt-LONGEST : goal.returns-then-len-bytes-gt-LONGEST
returns-then-len-bytes-gt-LONGEST c = λ before read.
    let here = c.self.inside in
    let more = c.args.bytes.now in
    let s : ReaderState = record { lines = here.lines; unfinished = here.unfinished } in
    let had : HasRead s before = rw c.self.view_is read in
    let long : 64 < length (here.unfinished ++ more) =
    omega (
      arith,
      c.if-len-bytes-gt-LONGEST.true,
      c.len.ensures.len,
      length-append here.unfinished
          more,
    ) in
    rw c.clear-then-len-bytes-gt-LONGEST.ensures
    (nothing_unfinished c.break_long_line.new.self s before more had
    (c.break_long_line.ensures had.whole (here.unfinished ++ more) had.at
    (lacks-append 10 here.unfinished more had.one_line c.requires) long))

pub returns : goal.returns
returns c = λ before read.
    let here = c.self.inside in
    let s : ReaderState = record { lines = here.lines; unfinished = here.unfinished } in
    let had : HasRead s before = subst (λ t. HasRead t before) (sym c.self.view_is) read in
    let short : length c.push.new.self
    ≤ 64 = omega (arith, c.if-len-bytes-gt-LONGEST.false, c.len.ensures.len, c.push.ensures.len) in
    more_unfinished s c.push.new.self before c.args.bytes.now had c.push.ensures.bytes c.requires
    short

pub invariant_of-self-then-len-bytes-gt-LONGEST : goal.invariant_of-self-then-len-bytes-gt-LONGEST
invariant_of-self-then-len-bytes-gt-LONGEST c =
    let here = c.self.inside in
    let more = c.args.bytes.now in
    let s : ReaderState = record { lines = here.lines; unfinished = here.unfinished } in
    let had : HasRead s c.self.invariant.bytes = c.self.invariant.read in
    let long : 64 < length (here.unfinished ++ more) =
    omega (
      arith,
      c.if-len-bytes-gt-LONGEST.true,
      c.len.ensures.len,
      length-append here.unfinished
          more,
    ) in
    record {
      bytes = c.self.invariant.bytes ++ more;
      read = rw c.clear-then-len-bytes-gt-LONGEST.ensures
          (nothing_unfinished c.break_long_line.new.self s c.self.invariant.bytes more had
          (c.break_long_line.ensures had.whole (here.unfinished ++ more) had.at
          (lacks-append 10 here.unfinished more had.one_line c.requires) long));
    }

pub invariant_of-self-2 : goal.invariant_of-self-2
invariant_of-self-2 c =
    let here = c.self.inside in
    let s : ReaderState = record { lines = here.lines; unfinished = here.unfinished } in
    let short : length c.push.new.self
    ≤ 64 = omega (arith, c.if-len-bytes-gt-LONGEST.false, c.len.ensures.len, c.push.ensures.len) in
    record {
      bytes = c.self.invariant.bytes ++ c.args.bytes.now;
      read = more_unfinished s c.push.new.self c.self.invariant.bytes c.args.bytes.now
          c.self.invariant.read c.push.ensures.bytes c.requires short;
    }
