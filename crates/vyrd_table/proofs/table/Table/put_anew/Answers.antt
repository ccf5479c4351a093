use Rattle.vyrd_table.proofs.Prelude.{◌-◌, sym, subst, arith, HasRoom, names_of}
use Rattle.vyrd_table.proofs.GrowingLaws.{fewer_names, table_kept}
use Rattle.vyrd_table.proofs.NameLaws.{one_at_most}
use Rattle.vyrd_table.proofs.table.Table.put_anew.Goals as goal

pub room_after-self-inside-requires-clause-room : goal.room_after-self-inside-requires-clause-room
room_after-self-inside-requires-clause-room g c =
    let old = c.self.inside.places in
    let new = c.put_anew.new.self in
    let most = c.self.inside.most_bits in
    let room = c.self.inside.room in
    subst (λ s. HasRoom (64 - s) (names_of new - 1) most room) (sym c.put_anew.ensures.shift)
    (fewer_names (64 - old.shift) (names_of old) (names_of new - 1) most room
    (omega (arith, c.put_anew.ensures.names, one_at_most c.args.key))
    c.self.invariant.growing)

pub invariant_of-self : goal.invariant_of-self
invariant_of-self g c =
    table_kept g.V.Value.nothing g.V.Value.is_nothing c.self.inside.places c.put_anew.new.self
    c.self.inside.room c.self.inside.most_bits c.self.invariant
    c.put_anew.ensures.placed c.put_anew.ensures.shift
    (let same = c.in_err-put_anew.ensures.unnamed in omega (arith, same))
