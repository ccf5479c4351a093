use Rattle.std.proofs.Common.{length, ap, ◌∙◌}
use Rattle.vyrd_witness.proofs.StartWords.{length_start}
use Rattle.vyrd_follow.proofs.built_in_words.BuiltInWords.new.Goals as goal

pub invariant_of-result : goal.invariant_of-result
invariant_of-result c = record {
  built_in = c.requires.built_in;
  count = ap length c.in_ok-words_at_start.ensures
      ∙ length_start c.args.header c.args.starting.now;
  shown = tt;
}
