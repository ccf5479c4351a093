use Rattle.vyrd_own_states.proofs.TurnedLaws.{given_with}
use Rattle.vyrd_own_states.proofs.own_amount.given_before.Goals as goal

pub returns : goal.returns
returns g c =
    let d = g.D.Decode in
    let decoder = c.args.decoder.now in
    given_with (d.width decoder) (d.places decoder) (d.gives decoder) c.args.words.now c.args.key
    c.args.word c.args.was c.width-width.result c.given_by_words.result c.in_ok-own.own.items
    c.deref.result.now (g.met.D.Decode.narrow decoder).0 c.width-width.ensures
    (c.in_ok-own.ensures.items_if_clones_equal (λ x y same. same)) c.deref.ensures.value
    c.given_by_words.ensures.given
