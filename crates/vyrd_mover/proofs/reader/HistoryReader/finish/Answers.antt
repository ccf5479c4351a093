use Rattle.vyrd_mover.proofs.Prelude.{◌∙◌, ◌++◌, ap, sym, subst, Reducible, history_reading}
use Rattle.vyrd_mover.proofs.Prelude.{AreBlocksOf, HasRead}
use Rattle.std.specs.Prelude.{IfOk}
use Rattle.vyrd_mover.proofs.ReaderLaws.{gathered_of}
use Rattle.vyrd_mover.proofs.reader.HistoryReader.finish.Goals as goal

pub returns-clause-gathered : goal.returns-clause-gathered
returns-clause-gathered c = λ bytes r n read is e.
    let had = subst (λ s. HasRead s bytes) (sym c.self.view_is) read in
    let all = sym (had.parted ∙ ap (λ xs. had.whole ++ xs) (sym c.as_slice.ensures.bytes)) in
    let are = subst
    (λ found. IfOk found (AreBlocksOf (history_reading (had.whole ++ c.as_slice.result.now)))) e
    (c.finish.ensures.said had.whole had.at) in
    gathered_of bytes r n is
    (subst (λ text. AreBlocksOf (history_reading text) (Reducible n)) all are)
