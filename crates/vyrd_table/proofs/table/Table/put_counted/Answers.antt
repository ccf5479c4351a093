use Rattle.vyrd_table.proofs.Prelude.{Some, sym, subst, Contents, IsSlotOf, IsFoundAt}
use Rattle.vyrd_table.proofs.GrowingLaws.{table_kept}
use Rattle.vyrd_table.proofs.table.Table.put_counted.Goals as goal

pub put_at-requires-clause-found : goal.put_at-requires-clause-found
unfolding IsSlotOf
put_at-requires-clause-found g c =
    subst (λ (t : Contents _). IsFoundAt g.V.Value.nothing t.shift t.places c.args.key
    (Some c.in-Some.place)) (sym c.self.view_is)
    (subst (λ p. IsFoundAt g.V.Value.nothing c.args.self.now.shift c.args.self.now.places c.args.key
    p) c.in-Some.is c.requires.slot)

pub invariant_of-self : goal.invariant_of-self
invariant_of-self g c =
    table_kept g.V.Value.nothing g.V.Value.is_nothing c.self.inside.places c.put_at.new.self
    c.self.inside.room c.self.inside.most_bits c.self.invariant
    c.put_at.ensures.placed c.put_at.ensures.shift c.put_at.ensures.names

pub put_anew-requires : goal.put_anew-requires
unfolding IsSlotOf
put_anew-requires g c =
    subst (λ p. IsFoundAt g.V.Value.nothing c.args.self.now.shift c.args.self.now.places c.args.key
    p) c.in-None.is c.requires.slot
