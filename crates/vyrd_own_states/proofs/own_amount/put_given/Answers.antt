use Rattle.vyrd_own_states.proofs.Prelude.{◌≡◌, ◌++◌, ap, ◌∙◌, sym, arith, flat_map, given}
use Rattle.vyrd_own_states.proofs.Prelude.{numbers_below, part_pairs, told, given_numbered}
use Rattle.vyrd_witness.proofs.GivenLaws.{one_more}
use Rattle.vyrd_own_states.proofs.own_amount.put_given.Goals as goal

pub loop-part-preserved : goal.loop-part-preserved
loop-part-preserved g c =
    let d = g.D.Decode in
    let decoder = c.args.decoder.now in
    let pairs = part_pairs (d.width decoder) (d.places decoder)
    (d.gives decoder) c.args.words.now in
    let part = c.loop-part.part in
    one_more (λ i. told i (given c.args.key (pairs i))) part c.args.parts.now.items
    c.loop-part.parts.items c.put_part.new.parts.items (told part c.amount_of_part.result)
    c.loop-part.invariant c.in_ok-put_part.ensures (ap (told part) c.amount_of_part.ensures.given)

pub returns : goal.returns
returns g c =
    let d = g.D.Decode in
    let decoder = c.args.decoder.now in
    let pairs = part_pairs (d.width decoder) (d.places decoder)
    (d.gives decoder) c.args.words.now in
    let key = c.args.key in
    let old = c.args.parts.now.items in
    let end : c.loop-part.part ≡ d.parts decoder =
    omega (arith, c.loop-part-test.false, c.loop-part.auto.part-end, c.parts-part-end.ensures) in
    c.loop-part.invariant
    ∙ ap (λ n. old ++ flat_map (λ i. told i (given key (pairs i))) (numbers_below n)) end
    ∙ ap (λ xs. old ++ xs) (sym (given_numbered key pairs (d.parts decoder)))
