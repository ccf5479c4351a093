use Rattle.std.proofs.Common.{refl}
use Rattle.vyrd_own_states.proofs.PairLaws.{part_decoded}
use Rattle.vyrd_follow.proofs.part_sums.pairs_of.Goals as goal

pub returns : goal.returns
returns g c q =
    let d = g.D.Decode in
    let decoder = c.args.decoder.now in
    part_decoded (d.width decoder) (d.places decoder) (d.gives decoder) c.args.words.now q
    c.args.part (d.places decoder) c.width-width.result c.decode.result refl
    c.width-width.ensures c.decode.ensures
