use Rattle.vyrd_text.proofs.Prelude.{◌≡◌, ◌++◌, take, flat_map, start_line, ended_line}
use Rattle.vyrd_text.proofs.writer.append_start.Given as goal

abbrev pub invariant-loop-word : goal.invariant-loop-word
invariant-loop-word l = l.out.items ≡ l.initial.out.items
    ++ flat_map (λ s. ended_line (start_line s)) (take l.word-index l.start)
