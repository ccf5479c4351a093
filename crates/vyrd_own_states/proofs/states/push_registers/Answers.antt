use Rattle.vyrd_own_states.proofs.Prelude.{ℕ, List, slice_index, ap, Register}
use Rattle.vyrd_own_states.proofs.ItemLaws.{item_more}
use Rattle.vyrd_own_states.proofs.states.push_registers.Goals as goal

pub loop-number-preserved : goal.loop-number-preserved
loop-number-preserved c =
    let n = c.loop-number.number in
    item_more (λ i. Register c.args.at i (slice_index c.args.state.now.registers i)) n
    c.args.items.now.items c.loop-number.items.items c.push.new.self.items _
    c.loop-number.invariant
    (ap (λ (registers : List ℕ). Register c.args.at n (slice_index registers n))
    c.registers-registers.ensures)
    c.in_ok-push.ensures.items
