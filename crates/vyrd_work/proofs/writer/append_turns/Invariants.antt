use Rattle.vyrd_work.proofs.Prelude.{◌≡◌, ◌++◌, take, flat_map, ended_line, item_line}
use Rattle.vyrd_work.specs.declared.line.Item.TheVariants as item
use Rattle.vyrd_work.proofs.writer.append_turns.Given as goal

abbrev pub invariant-loop-turn : goal.invariant-loop-turn
invariant-loop-turn l = l.out.items ≡ l.initial.out.items
    ++ flat_map (λ t. ended_line (item_line (item.Turns t))) (take l.turn-index l.turns)
