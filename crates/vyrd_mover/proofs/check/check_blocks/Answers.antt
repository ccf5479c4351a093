use Rattle.vyrd_mover.proofs.Prelude.{◌∙◌, sym, subst, get_or, take, arith, take_all, Read, Stamped}
use Rattle.vyrd_mover.proofs.Prelude.{cells_of, EachIsGathered, IsNext}
use Rattle.vyrd_mover.proofs.TakingLaws.{next_in, taken_up_to}
use Rattle.vyrd_mover.proofs.check.check_blocks.Goals as goal

abbrev some_event : Stamped
some_event = record { number = 0; caller = 0; did = Read 0 0 }

pub take-requires : goal.take-requires
take-requires c =
    grind (
      arith,
      take c.loop-event.event-index c.args.history.now,
      c.loop-event.invariant.taken,
      c.loop-event.invariant.header,
      next_in c.args.header c.args.history.now c.loop-event.event-index
          some_event c.requires c.loop-event-test.true,
    )

pub loop-event-preserved : goal.loop-event-preserved
loop-event-preserved c =
    let history = c.args.history.now in
    let i = c.loop-event.event-index in
    let next = subst (λ h. IsNext h (take i history) (get_or history i some_event))
    (sym c.loop-event.invariant.header)
    (next_in c.args.header history i some_event c.requires c.loop-event-test.true) in
    record {
      header = c.take.ensures.header ∙ c.loop-event.invariant.header;
      taken = taken_up_to c.take.new.self history i some_event c.loop-event-test.true
          (c.in_ok-take.ensures.taken (take i history) c.loop-event.invariant.taken next);
    }

pub returns-clause-gathered : goal.returns-clause-gathered
returns-clause-gathered c = λ n e.
    let history = c.args.history.now in
    let i = c.loop-event.event-index in
    let all = take_all i history (omega arith) in
    subst (EachIsGathered (cells_of c.args.header)) all
    (subst (λ h. EachIsGathered (cells_of h) (take i history)) c.loop-event.invariant.header
    (c.answer.ensures.gathered (take i history) c.loop-event.invariant.taken n e))
