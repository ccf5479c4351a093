use Rattle.vyrd_mover.proofs.Prelude.{◌++◌, sym, subst, HasRead, ReaderState}
use Rattle.vyrd_mover.proofs.ReaderLaws.{fed_nothing}
use Rattle.vyrd_mover.proofs.FrontLaws.{front_fed}
use Rattle.vyrd_mover.proofs.reader.HistoryReader.take_events.Goals as goal

pub returns-then-not-is_empty-clause-fed : goal.returns-then-not-is_empty-clause-fed
returns-then-not-is_empty-clause-fed c = λ bytes read.
    fed_nothing c.args.self.now bytes c.args.text.now read

pub take_events-requires : goal.take_events-requires
take_events-requires c =
    let had = c.self.invariant.read in
    record { bytes = had.whole; at = had.at }

pub returns-clause-fed : goal.returns-clause-fed
returns-clause-fed c = λ bytes read.
    let here = c.self.inside in
    let s : ReaderState = record { lines = here.lines; unfinished = here.unfinished } in
    let had : HasRead s bytes = subst (λ t. HasRead t bytes) (sym c.self.view_is) read in
    front_fed c.take_events.new.self s bytes c.args.text.now c.take_events.result.now had
    (c.is_empty.ensures.0 c.if-not-is_empty.false) (c.take_events.ensures.taken had.whole had.at)

pub invariant_of-self : goal.invariant_of-self
invariant_of-self c =
    let here = c.self.inside in
    let s : ReaderState = record { lines = here.lines; unfinished = here.unfinished } in
    let bytes = c.self.invariant.bytes in
    let had : HasRead s bytes = c.self.invariant.read in
    let fed = front_fed c.take_events.new.self s bytes c.args.text.now c.take_events.result.now had
    (c.is_empty.ensures.0 c.if-not-is_empty.false) (c.take_events.ensures.taken had.whole had.at) in
    record { bytes = bytes ++ fed.front; read = fed.read }
