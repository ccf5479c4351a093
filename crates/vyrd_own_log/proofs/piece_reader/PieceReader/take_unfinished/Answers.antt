use Rattle.vyrd_own_log.proofs.Prelude.{sym, refl, ◌∙◌, length, ◌++◌, arith, length-append, kept_of}
use Rattle.vyrd_own_log.proofs.Prelude.{state_of}
use Rattle.vyrd_own_log.proofs.ReadLaws.{fault_taken, rest_is, long_is, some_of, no_fault}
use Rattle.vyrd_own_log.proofs.piece_reader.PieceReader.take_unfinished.Goals as goal

pub returns-in-Some-clause-taken : goal.returns-in-Some-clause-taken
returns-in-Some-clause-taken c = λ sound.
    let rest = c.args.self.now.unfinished.items in
    let bytes = c.args.bytes.now in
    let long = long_is c.len.result (length bytes) (length (rest ++ bytes)) (omega arith)
    (omega (arith, length-append rest bytes, c.args.self.now.unfinished.ok.0)) in
    fault_taken (kept_of c.args.self.now) _ bytes sound c.requires.one_line
    (no_fault c.args.self.now.lines.fault (sym c.if-is_some.ensures))
    c.in-Some.rule c.break_rule.result
    (rest_is (state_of c.args.self.now.lines) rest bytes _ (some_of bytes c.if-is_empty.ensures)
    long ∙ sym c.in-Some.ensures)
    c.break_rule.ensures refl
