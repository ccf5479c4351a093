use Rattle.vyrd_plain.proofs.Prelude.{◌<◌, [], take, slice_get, sym, ap, subst, ◌∙◌, words_with}
use Rattle.vyrd_plain.proofs.Prelude.{caller_kept, IsBlockOf, rules_at}
use Rattle.vyrd_plain.proofs.EffectFacts.{one_read}
use Rattle.vyrd_plain.proofs.BlockFacts.{AreBlocks, block_there, blocks_at, effects_next}
use Rattle.vyrd_plain.proofs.effects.Effects.step.Goals as goal

pub block_of-block-requires : goal.block_of-block-requires
block_of-block-requires c =
    caller_kept c.args.self.now.header _ _
    (rules_at c.args.self.now.header c.args.front.now c.args.at _ c.entry_at-entry.ensures
    c.requires.kept)

pub take_effect-requires-clause-block : goal.take_effect-requires-clause-block
take_effect-requires-clause-block c = λ e is.
    let h = c.args.self.now.header in
    let low = caller_kept h _ _
    (rules_at h c.args.front.now c.args.at _ c.entry_at-entry.ensures c.requires.kept) in
    subst (λ x. IsBlockOf (take c.args.at c.args.front.now) x.caller c.block_of-block.result)
    (one_read c.entry_at-entry.ensures is)
    (block_there h (take c.args.at c.args.front.now) c.args.self.now.open_blocks.items
    c.entry_at-entry.result.caller c.block_of-block.result
    c.requires.here.open_blocks low c.block_of-block.ensures)

pub index_mut-requires : goal.index_mut-requires
index_mut-requires c =
    let h = c.args.self.now.header in
    let low = caller_kept h _ _
    (rules_at h c.args.front.now c.args.at _ c.entry_at-entry.ensures c.requires.kept) in
    subst (λ n. c.entry_at-entry.result.caller < n)
    (sym (c.take_effect.new.self.all_callers ∙ ap (λ k. k.callers) c.take_effect.ensures.header))
    low

pub returns-clause-next : goal.returns-clause-next
returns-clause-next c =
    let h = c.args.self.now.header in
    let front = c.args.front.now in
    let r = c.entry_at-entry.result in
    let low = caller_kept h _ _
    (rules_at h front c.args.at r c.entry_at-entry.ensures c.requires.kept) in
    let kept = subst (AreBlocks h (take c.args.at front))
    (ap (λ bs. bs.items) (sym c.take_effect.ensures.open_blocks)) c.requires.here.open_blocks in
    let there = ap (λ bs. slice_get bs.items r.caller) c.take_effect.ensures.open_blocks
    ∙ c.block_of-block.ensures in
    record {
      values = c.take_effect.ensures.words r _ c.entry_at-entry.ensures c.requires.here.values
          ∙ ap (words_with h []) (effects_next front c.args.at r c.entry_at-entry.ensures);
      open_blocks = blocks_at h front c.args.at r c.take_effect.new.self.open_blocks.items
          c.block_of-block.result c.block_after.result
          c.entry_at-entry.ensures kept low there c.block_after.ensures;
    }
