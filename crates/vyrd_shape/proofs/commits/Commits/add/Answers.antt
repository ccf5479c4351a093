use Rattle.vyrd_shape.proofs.Prelude.{◌≤◌, length, refl, ap, sym, subst, arith, AreGiven, SameOrder}
use Rattle.vyrd_shape.proofs.OrderLaws.{kept_order, ranked_order}
use Rattle.vyrd_shape.proofs.commits.Commits.add.Goals as goal
use Rattle.vyrd_shape.proofs.commits.Commits.add.Goals.{then-self, else-self}

pub returns-clause-added : goal.returns-clause-added
returns-clause-added g c =
    let old = c.args.self.now in
    let stamps = c.args.stamps.now in
    let same : SameOrder old stamps c.if-self.self c.if-self.stamps = elim c.if-self.branch [
      | then-self w ↦
          let new = w.renumber.new in
          let ranked = ranked_order old new.self stamps new.stamps w.renumber.ensures.commits
          w.renumber.ensures.next w.renumber.ensures.stamps in
          subst (λ k. SameOrder old stamps k c.if-self.stamps) (sym w.self-is)
          (subst (SameOrder old stamps new.self) (sym w.stamps-is) ranked)
      | else-self w ↦
          let given : AreGiven old.by_caller old.next
          = subst (λ k. AreGiven k.by_caller k.next) c.self.view_is c.self.invariant.0 in
          subst (λ k. SameOrder old stamps k c.if-self.stamps) (sym w.self-is)
          (subst (SameOrder old stamps old) (sym w.stamps-is) (kept_order old stamps given))
    ] in
    let low : c.self-2.inside.next ≤ old.next = elim c.if-self.branch [
      | then-self w ↦
          let few = ap (λ k. length k.by_caller) c.self.view_is in
          let was = ap (λ k. k.next) c.self.view_is in
          let here = ap (λ k. k.next) c.self-2.view_is in
          let after = ap (λ k. k.next) w.self-is in
          omega (arith, few, was, here, after, w.renumber.ensures.next, w.if-self.true)
      | else-self w ↦
          let here = ap (λ k. k.next) c.self-2.view_is in
          let after = ap (λ k. k.next) w.self-is in
          omega (arith, here, after)
    ] in
    record {
      before = record { by_caller = c.self-2.inside.by_caller.items; next = c.self-2.inside.next };
      same = subst (λ k. SameOrder old stamps k c.if-self.stamps) (sym c.self-2.view_is) same;
      low = low;
      is = refl;
    }
