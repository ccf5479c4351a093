use Rattle.vyrd_view.specs.declared.sides.Sides.{Sides}
use Rattle.vyrd_view.proofs.SidedLaws.{settled_of, is_settled, before_counted, put_settles}
use Rattle.vyrd_view.proofs.SidedLaws.{put_shows, put_specifies}
use Rattle.vyrd_view.proofs.sides.Sides.put_uncounted.Goals as goal

pub recounted-self-requires : goal.recounted-self-requires
recounted-self-requires c =
    let s = c.args.self.now in
    before_counted s c.args.key c.args.slot.value (settled_of s c.requires.settled)
    c.requires.slot.amounts

pub returns-clause-settled : goal.returns-clause-settled
returns-clause-settled c =
    let s = c.args.self.now in
    let now : Sides = record { table = c.put.new.self; apart = c.recounted-self.result } in
    is_settled now (put_settles s now c.args.key c.args.both (settled_of s c.requires.settled)
    c.in_ok-put.ensures.ok c.args.slot.value c.requires.slot.amounts c.recounted-self.ensures)

pub returns-clause-shown : goal.returns-clause-shown
returns-clause-shown c =
    let s = c.args.self.now in
    let now : Sides = record { table = c.put.new.self; apart = c.recounted-self.result } in
    put_shows s now c.args.key c.args.both (settled_of s c.requires.settled) c.in_ok-put.ensures.ok

pub returns-clause-specified : goal.returns-clause-specified
returns-clause-specified c =
    let s = c.args.self.now in
    let now : Sides = record { table = c.put.new.self; apart = c.recounted-self.result } in
    put_specifies s now c.args.key c.args.both (settled_of s c.requires.settled)
    c.in_ok-put.ensures.ok
