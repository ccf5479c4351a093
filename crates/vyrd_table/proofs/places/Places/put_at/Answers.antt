use Rattle.std.proofs.Common.{arith}
use Rattle.vyrd_table.proofs.NameLaws.{names_stay}
use Rattle.vyrd_table.proofs.PlaceLaws.{found_entries}
use Rattle.vyrd_table.proofs.places.Places.put_at.Goals as goal

pub returns-clause-entries : goal.returns-clause-entries
returns-clause-entries g c =
    let s = c.args.self.now in
    found_entries g.V.Value.nothing g.V.Value.is_nothing g.met.V.Value.nothing_passes
    g.met.V.Value.only_nothing s.shift s.pairs.items
    s.rest.map.entries c.args.place c.args.key c.args.value c.requires.placed c.requires.found

pub returns-clause-names : goal.returns-clause-names
returns-clause-names g c =
    let s = c.args.self.now in
    let stay = names_stay g.V.Value.nothing s.pairs.items c.args.place (c.args.key, c.args.value)
    c.requires.found.1 in omega (arith, stay)
