use Rattle.vyrd_own_states.proofs.Prelude.{list_at, elements_of}
use Rattle.vyrd_witness.specs.declared.item.Item.TheVariants.{Elements}
use Rattle.vyrd_own_states.proofs.ItemLaws.{item_more}
use Rattle.vyrd_own_states.proofs.states.push_lists.Goals as goal

pub loop-number-preserved : goal.loop-number-preserved
loop-number-preserved c =
    let n = c.loop-number.number in
    item_more (λ i. elements_of c.args.at i (list_at c.args.state.now i)) n
    c.args.items.now.items c.loop-number.items.items c.push.new.self.items _
    c.loop-number.invariant
    (λ i. Elements c.args.at n (c.size.ensures i) (c.first.ensures i) (c.last.ensures i))
    c.in_ok-push.ensures.items
