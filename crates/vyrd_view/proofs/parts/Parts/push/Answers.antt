use Rattle.vyrd_view.proofs.Prelude.{◌-◌, ◌^◌, [], ◌∷◌, subst, sym, arith, given-append}
use Rattle.vyrd_view.proofs.Prelude.{part_at_most, EachAtMost}
use Rattle.vyrd_view.proofs.PairLaws.{each-push}
use Rattle.vyrd_view.proofs.parts.Parts.push.Goals as goal

pub invariant_of-self-2 : goal.invariant_of-self-2
invariant_of-self-2 c = λ sound.
    let pairs = c.self.inside.pairs.items in
    let pair = c.args.pair in
    let before = c.self.invariant sound in (
      before.0,
      rw c.in_ok-push.ensures.items
          (λ q. omega (
            arith,
            before.1 q,
            given-append q pairs (pair ∷ []),
            part_at_most q pair.0 pair.1,
            c.requires.nothing,
          )),
      subst (EachAtMost (2 ^ 64 - 1)) (sym c.in_ok-push.ensures.items)
          (each-push (2 ^ 64 - 1) pairs pair (omega (arith, c.requires.nothing)) before.2),
    )
