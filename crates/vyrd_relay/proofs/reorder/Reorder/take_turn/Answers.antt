use Rattle.std.proofs.Common.{◌≡◌, ◌+◌, refl, ap, ◌∙◌, arith}
use Rattle.vyrd_relay.specs.Numbers.{ReorderKept, has}
use Rattle.vyrd_relay.proofs.NumberLaws.{held_after, numbered_after, far_free, come_after}
use Rattle.vyrd_relay.proofs.reorder.Reorder.take_turn.Goals as goal

pub invariant_of-self : goal.invariant_of-self
invariant_of-self c =
    let k : ReorderKept = record {
      next = c.self.inside.next;
      near = c.self.inside.near.items;
      far = c.self.inside.far.entries;
    } in
    let after : ReorderKept = record {
      next = c.args.number + 1;
      near = c.pop_front.new.self.items;
      far = c.self.inside.far.entries;
    } in
    let turn : c.self.inside.next ≡ c.args.number = omega arith in (
      numbered_after k after (omega arith)
          (held_after k after (omega arith) c.pop_front.ensures.rest (λ n l. refl))
          c.self.invariant.0,
      omega arith,
      come_after k after (omega arith)
          (far_free k c.self.inside.next
          (ap (λ (v : ReorderKept). has v c.self.inside.next) c.self.view_is
          ∙ ap (has c.args.self.now) turn ∙ c.requires.new))
          (λ n l. refl) c.self.invariant.2,
    )
