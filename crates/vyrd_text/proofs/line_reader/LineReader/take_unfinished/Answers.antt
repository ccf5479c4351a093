use Rattle.std.proofs.Common.{ap, refl, arith, ◌≤◌, ◌≡◌}
use Rattle.vyrd_text.proofs.ReaderLaws.{fault_taken}
use Rattle.vyrd_text.proofs.line_reader.LineReader.take_unfinished.Goals as goal

pub returns-in-Some : goal.returns-in-Some
returns-in-Some c =
    let same : c.self.inside.max_lines ≡ c.args.self.now.max_lines =
    ap (λ s. s.max_lines) c.self.view_is in
    let low : 1 ≤ c.args.self.now.max_lines = omega (arith, same, c.self.invariant.low) in
    rw c.break_rule.ensures
    (fault_taken c.args.self.now (record { line = c.args.self.now.line; rule = c.in-Some.rule })
    c.args.bytes.now low
    (c.in-Some.ensures.rule c.args.bytes.now refl c.requires))
