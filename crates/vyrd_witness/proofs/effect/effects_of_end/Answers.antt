use Rattle.vyrd_witness.proofs.Prelude.{ap, sym, ◌∙◌, map, reverse, block_writes, effect_of}
use Rattle.vyrd_witness.proofs.NumberedLaws.{behind, turned_is, map-newest_first}
use Rattle.vyrd_witness.proofs.effect.effects_of_end.Goals as goal

pub returns : goal.returns
returns c =
    let log = c.args.front.now in
    let caller = c.args.caller in
    let writes = block_writes caller (behind log c.args.at) in
    c.reverse.ensures.items ∙ ap reverse c.in_ok-effects.ensures
    ∙ sym (map-newest_first (effect_of log c.args.at caller) writes
    ∙ turned_is (map (effect_of log c.args.at caller) writes))
