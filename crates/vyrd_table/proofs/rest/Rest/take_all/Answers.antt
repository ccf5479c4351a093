use Rattle.vyrd_table.proofs.Prelude.{ap, cond, sym, subst, take, ◌∙◌, get_or_default, IsEntries}
use Rattle.vyrd_table.proofs.Prelude.{with_value, entries_in}
use Rattle.vyrd_table.proofs.MovedLaws.{none_come, all_come, entries_more}
use Rattle.vyrd_table.proofs.PlaceLaws.{entries_formed}
use Rattle.vyrd_table.proofs.rest.Rest.take_all.Goals as goal

pub loop-pair-init : goal.loop-pair-init
loop-pair-init g c = none_come g.V.Value.nothing g.V.Value.is_nothing c.args.pairs.now
    c.args.self.now.map.entries

pub take-requires : goal.take-requires
take-requires g c =
    let is_nothing = g.V.Value.is_nothing in
    let old = c.args.self.now.map.entries in
    let first = take c.loop-pair.pair-index c.args.pairs.now in
    subst (IsEntries is_nothing) (sym c.loop-pair.invariant)
    (entries_formed g.V.Value.nothing is_nothing first old c.requires.formed)

pub loop-pair-preserved : goal.loop-pair-preserved
loop-pair-preserved g c =
    let nothing = g.V.Value.nothing in
    let is_nothing = g.V.Value.is_nothing in
    let old = c.args.self.now.map.entries in
    let pairs = c.args.pairs.now in
    let n = c.loop-pair.pair-index in
    let item = c.pair-item.is
    ∙ get_or_default pairs n c.pair-item.result (0, nothing) c.loop-pair-test.true in
    c.in_ok-take.ensures
    ∙ ap (λ es. cond (is_nothing c.pair-item.result.1) es
    (with_value is_nothing es c.pair-item.result.0 c.pair-item.result.1))
    c.loop-pair.invariant
    ∙ ap (λ pair. cond (is_nothing pair.1) (entries_in is_nothing (take n pairs) old)
    (with_value is_nothing (entries_in is_nothing (take n pairs) old) pair.0 pair.1)) item
    ∙ sym (entries_more nothing is_nothing old pairs n c.loop-pair-test.true c.requires.formed
    c.requires.new)

pub returns : goal.returns
returns g c = c.loop-pair.invariant
    ∙ all_come g.V.Value.nothing g.V.Value.is_nothing c.args.pairs.now c.args.self.now.map.entries
    c.loop-pair.pair-index c.loop-pair-test.false
