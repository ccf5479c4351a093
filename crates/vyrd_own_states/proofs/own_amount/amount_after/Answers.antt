use Rattle.vyrd_view.specs.Known.{view_by}
use Rattle.vyrd_own_states.proofs.TurnedLaws.{part_turned}
use Rattle.vyrd_own_states.proofs.own_amount.amount_after.Goals as goal

pub amount_turned-requires-clause-turned : goal.amount_turned-requires-clause-turned
amount_turned-requires-clause-turned g c =
    let d = g.D.Decode in
    let laws = g.met.D.Decode in
    let decoder = c.args.decoder.now in
    part_turned (d.width decoder) (d.places decoder) (d.parts decoder) (d.gives decoder)
    c.args.words.now c.args.key c.args.word c.args.was c.in_ok-old.old
    c.amount_of_part-new.result c.args.before c.width.result (view_by (d.shows decoder))
    (laws.narrow decoder).0 c.width.ensures c.requires.count c.requires.within
    (laws.shown decoder) c.requires.before c.in_ok-old.ensures
    c.amount_of_part-new.ensures.given
