use Rattle.vyrd_text.proofs.Prelude.{◌≡◌, ◌++◌, take, flat_map, entry_line, ended_line}
use Rattle.vyrd_text.proofs.writer.append_entries.Given as goal

abbrev pub invariant-loop-entry : goal.invariant-loop-entry
invariant-loop-entry l = l.out.items ≡ l.initial.out.items
    ++ flat_map (λ e. ended_line (entry_line e)) (take l.entry-index l.entries)
