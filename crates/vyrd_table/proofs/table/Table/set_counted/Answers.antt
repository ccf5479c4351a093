use Rattle.vyrd_table.proofs.GrowingLaws.{table_kept}
use Rattle.vyrd_table.proofs.table.Table.set_counted.Goals as goal

pub invariant_of-self : goal.invariant_of-self
invariant_of-self g c =
    table_kept g.V.Value.nothing g.V.Value.is_nothing c.self.inside.places c.put_at.new.self
    c.self.inside.room c.self.inside.most_bits c.self.invariant
    c.put_at.ensures.placed c.put_at.ensures.shift c.put_at.ensures.names
