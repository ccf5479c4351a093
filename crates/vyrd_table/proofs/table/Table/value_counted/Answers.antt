use Rattle.vyrd_table.proofs.Prelude.{subst, Contents, IsEntries}
use Rattle.vyrd_table.proofs.PlaceLaws.{entries_formed}
use Rattle.vyrd_table.proofs.table.Table.value_counted.Goals as goal

pub returns-clause-formed : goal.returns-clause-formed
returns-clause-formed g c =
    let s = c.self.inside.places in
    subst (λ (t : Contents _). IsEntries g.V.Value.is_nothing t.entries) c.self.view_is
    (entries_formed g.V.Value.nothing g.V.Value.is_nothing s.pairs.items s.rest.map.entries
    c.self.invariant.placed.formed)
