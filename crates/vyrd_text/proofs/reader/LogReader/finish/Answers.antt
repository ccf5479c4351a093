use Rattle.vyrd_text.proofs.Prelude.{ap, ReaderState}
use Rattle.vyrd_text.specs.LogView.{reader_of}
use Rattle.vyrd_text.proofs.ReadLaws.{noticed_of, whole_read}
use Rattle.vyrd_text.proofs.reader.LogReader.finish.Goals as goal

pub returns-clause-answer : goal.returns-clause-answer
returns-clause-answer c =
    rw (← c.self.view_is)
    (λ bytes has.
    let r : ReaderState = reader_of c.self.inside in
    rw (ap (λ read. read.fault) (whole_read r bytes has))
    (c.finish.ensures.answer (noticed_of r bytes has)))

pub returns-clause-ended : goal.returns-clause-ended
returns-clause-ended c =
    rw (← c.self.view_is)
    (λ bytes has.
    let r : ReaderState = reader_of c.self.inside in
    rw (ap (λ read. read.ended) (whole_read r bytes has))
    (c.finish.ensures.ended (noticed_of r bytes has)))
