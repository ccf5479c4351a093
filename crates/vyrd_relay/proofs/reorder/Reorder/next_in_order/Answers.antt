use Rattle.std.proofs.Common.{◌+◌, sym, ap, ◌∙◌, arith}
use Rattle.vyrd_relay.specs.Numbers.{ReorderKept, held}
use Rattle.vyrd_relay.proofs.NumberLaws.{held_after, numbered_after, come_after}
use Rattle.vyrd_relay.proofs.reorder.Reorder.next_in_order.Goals as goal

pub invariant_of-self : goal.invariant_of-self
invariant_of-self c =
    let k : ReorderKept = record {
      next = c.self.inside.next;
      near = c.self.inside.near.items;
      far = c.self.inside.far.entries;
    } in
    let after : ReorderKept =
    record {
      next = c.self.inside.next + 1;
      near = c.pop_front.new.self.items;
      far = c.remove_far.new.far.entries;
    } in
    let own = c.self.invariant.0 c.self.inside.next c.in_ok-item.item
    (ap (λ (v : ReorderKept). held v c.self.inside.next) c.self.view_is ∙ sym c.find.ensures
    ∙ c.in_ok-item.was) in (
      numbered_after k after (omega arith)
          (held_after k after (omega arith) c.pop_front.ensures.rest
          (λ n l. c.remove_far.ensures.rest n (λ e. omega arith))) c.self.invariant.0,
      omega arith,
      come_after k after (omega arith) c.remove_far.ensures.gone
          (λ n l. c.remove_far.ensures.rest n (λ e. omega arith)) c.self.invariant.2,
    )
