use Rattle.vyrd_own_check.proofs.Prelude.{◌≡◌, take, nothing_read, read_lines, texts}
use Rattle.vyrd_own_text.specs.Meaning.{so_far}
use Rattle.vyrd_own_check.proofs.starting.read_program.Given as goal

abbrev pub invariant-loop-line : goal.invariant-loop-line
invariant-loop-line l = so_far l.reader ≡ read_lines nothing_read
    (texts (take l.line-index l.lines))
