use Rattle.std.proofs.Common.{◌∙◌}
use Rattle.vyrd_witness.proofs.GivenLaws.{sum_fits, sum_shown}
use Rattle.vyrd_witness.proofs.built_in.BuiltInShownShown.amount.Goals as goal

pub sum_of-requires : goal.sum_of-requires
sum_of-requires c =
    sum_fits c.args.self.now c.args.words.now c.args.key c.new-parts.result.items
    c.put_parts.new.parts.items c.deref.result.now c.new-parts.ensures.items
    c.in_ok-put_parts.ensures c.deref.ensures.value

pub returns : goal.returns
returns c =
    c.sum_of.ensures
    ∙ sum_shown c.args.self.now c.args.words.now c.args.key c.new-parts.result.items
    c.put_parts.new.parts.items c.deref.result.now c.new-parts.ensures.items
    c.in_ok-put_parts.ensures c.deref.ensures.value
