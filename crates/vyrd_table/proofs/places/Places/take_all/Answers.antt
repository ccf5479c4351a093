use Rattle.vyrd_table.proofs.Prelude.{ℕ, refl, cond, ◌+◌, ap, sym, ◌∙◌, arith, length, take}
use Rattle.vyrd_table.proofs.Prelude.{get_or_default, entries_of, one_name, entries_in, with_value}
use Rattle.vyrd_table.proofs.MovedLaws.{no_more, none_come, all_come, entries_more, count_more}
use Rattle.vyrd_table.proofs.MovedLaws.{count_few, names_more, names_few}
use Rattle.vyrd_table.proofs.PlaceLaws.{entries_formed}
use Rattle.vyrd_table.proofs.places.Places.take_all.Goals as goal

pub take-requires-clause-placed : goal.take-requires-clause-placed
take-requires-clause-placed g c = c.loop-pair.invariant.placed

pub take-requires-clause-fits : goal.take-requires-clause-fits
take-requires-clause-fits g c =
    let nothing = g.V.Value.nothing in
    let is_nothing = g.V.Value.is_nothing in
    let s = c.args.self.now in
    let pairs = c.args.pairs.now in
    let n = c.loop-pair.pair-index in
    omega (
      arith,
      ap length c.loop-pair.invariant.entries,
      no_more nothing is_nothing (take n pairs) (entries_of is_nothing s)
          (entries_formed nothing is_nothing s.pairs.items s.rest.map.entries
          c.requires.placed.formed),
      count_few nothing is_nothing pairs n,
      c.requires.fits,
    )

pub loop-pair-init : goal.loop-pair-init
loop-pair-init g c = record {
  placed = c.requires.placed;
  entries = none_come g.V.Value.nothing g.V.Value.is_nothing c.args.pairs.now
      (entries_of g.V.Value.is_nothing c.args.self.now);
  names = omega arith;
  shift = refl;
  steps = omega arith;
}

pub returns-in_err-take-clause-steps : goal.returns-in_err-take-clause-steps
returns-in_err-take-clause-steps g c =
    let nothing = g.V.Value.nothing in
    let is_nothing = g.V.Value.is_nothing in
    let pairs = c.args.pairs.now in
    let n = c.loop-pair.pair-index in
    let item = c.pair-item.is
    ∙ get_or_default pairs n c.pair-item.result (0, nothing) c.loop-pair-test.true in
    omega (
      arith,
      c.take.ensures.steps,
      c.loop-pair.invariant.steps,
      ap {B = ℕ} (λ pair. cond (is_nothing pair.1) 0 1) item,
      count_more nothing is_nothing pairs n c.loop-pair-test.true,
      count_few nothing is_nothing pairs (n + 1),
      c.loop-pair-test.true,
    )

pub loop-pair-preserved : goal.loop-pair-preserved
loop-pair-preserved g c =
    let nothing = g.V.Value.nothing in
    let is_nothing = g.V.Value.is_nothing in
    let s = c.args.self.now in
    let pairs = c.args.pairs.now in
    let n = c.loop-pair.pair-index in
    let item = c.pair-item.is
    ∙ get_or_default pairs n c.pair-item.result (0, nothing) c.loop-pair-test.true in
    record {
      placed = c.take.ensures.placed;
      entries = c.in_ok-take.ensures.ok
          ∙ ap (λ es. cond (is_nothing c.pair-item.result.1) es
          (with_value is_nothing es c.pair-item.result.0 c.pair-item.result.1))
          c.loop-pair.invariant.entries
          ∙ ap (λ pair. cond (is_nothing pair.1)
          (entries_in is_nothing (take n pairs) (entries_of is_nothing s))
          (with_value is_nothing (entries_in is_nothing (take n pairs) (entries_of is_nothing s))
          pair.0 pair.1)) item
          ∙ sym (entries_more nothing is_nothing (entries_of is_nothing s) pairs n
          c.loop-pair-test.true
          (entries_formed nothing is_nothing s.pairs.items s.rest.map.entries
          c.requires.placed.formed) c.requires.new);
      names = omega (
        arith,
        c.take.ensures.names,
        c.loop-pair.invariant.names,
        ap (λ pair. one_name pair.0) item,
        names_more nothing is_nothing pairs n c.loop-pair-test.true,
      );
      shift = c.take.ensures.shift ∙ c.loop-pair.invariant.shift;
      steps = omega (
        arith,
        c.take.ensures.steps,
        c.loop-pair.invariant.steps,
        ap {B = ℕ} (λ pair. cond (is_nothing pair.1) 0 1) item,
        count_more nothing is_nothing pairs n c.loop-pair-test.true,
      );
    }

pub returns-clause-ok : goal.returns-clause-ok
returns-clause-ok g c = c.loop-pair.invariant.entries
    ∙ all_come g.V.Value.nothing g.V.Value.is_nothing c.args.pairs.now
    (entries_of g.V.Value.is_nothing c.args.self.now)
    c.loop-pair.pair-index c.loop-pair-test.false

pub returns-clause-steps : goal.returns-clause-steps
returns-clause-steps g c =
    let n = c.loop-pair.pair-index in
    omega (
      arith,
      c.loop-pair.invariant.steps,
      count_few g.V.Value.nothing g.V.Value.is_nothing c.args.pairs.now n,
      c.loop-pair.auto.pair-index-end,
    )

pub returns-clause-names : goal.returns-clause-names
returns-clause-names g c =
    let n = c.loop-pair.pair-index in
    omega (arith, c.loop-pair.invariant.names, names_few c.args.pairs.now n)
