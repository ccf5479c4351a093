use Rattle.vyrd_own_states.proofs.Prelude.{get_or, ap, ◌∙◌, given, map_alike, pairs_in}
use Rattle.vyrd_own_states.proofs.own_amount.given_by_words.Goals as goal

pub returns-clause-given : goal.returns-clause-given
returns-clause-given g c =
    let d = g.D.Decode in
    let decoder = c.args.decoder.now in
    c.given_in.ensures.given
    ∙ ap (λ n. given c.args.key (pairs_in n c.decode.result)) c.places.ensures
    ∙ ap (given c.args.key) (map_alike (λ j. get_or c.decode.result j (0, 0))
    (d.gives decoder c.args.part c.args.words.now) (d.places decoder) c.decode.ensures)
