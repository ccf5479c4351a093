use Rattle.vyrd_table.proofs.Prelude.{subst, sym, ◌∙◌, arith, IsFoundAt}
use Rattle.vyrd_table.proofs.PlaceLaws.{read_value, value_missing, rest_fewer}
use Rattle.vyrd_table.proofs.PriceLaws.{question_mono}
use Rattle.vyrd_table.proofs.places.Places.value_at.Goals as goal

pub returns-in-Some-clause-value : goal.returns-in-Some-clause-value
returns-in-Some-clause-value g c =
    let s = c.args.self.now in
    read_value g.V.Value.nothing g.V.Value.is_nothing g.met.V.Value.nothing_passes
    g.met.V.Value.only_nothing s.shift s.pairs.items
    s.rest.map.entries c.in-Some.place c.args.key c.index.result.now c.requires.placed
    (subst (λ p. IsFoundAt g.V.Value.nothing s.shift s.pairs.items c.args.key p) c.in-Some.is
    c.requires.found) c.index.ensures

pub returns-in-None-clause-value : goal.returns-in-None-clause-value
returns-in-None-clause-value g c =
    let s = c.args.self.now in
    c.value.ensures.value
    ∙ sym (value_missing g.V.Value.nothing g.V.Value.is_nothing g.met.V.Value.nothing_passes
    g.met.V.Value.only_nothing s.shift s.pairs.items
    s.rest.map.entries c.requires.placed c.args.key
    (subst (λ p. IsFoundAt g.V.Value.nothing s.shift s.pairs.items c.args.key p) c.in-None.is
    c.requires.found))

pub returns-in-None-clause-steps : goal.returns-in-None-clause-steps
returns-in-None-clause-steps g c =
    let s = c.args.self.now in
    omega (
      arith,
      c.value.ensures.steps,
      question_mono _ _
          (rest_fewer g.V.Value.nothing g.V.Value.is_nothing s.pairs.items s.rest.map.entries
          c.requires.placed.formed),
    )
