use Rattle.vyrd_follow.proofs.Prelude.{◌≡◌, ◌++◌, drop, length, rules_by, words_through}
use Rattle.vyrd_follow.proofs.Prelude.{writes_items}
use Rattle.vyrd_follow.proofs.following.put_writes.Given as goal

abbrev pub invariant-loop-effect : goal.invariant-loop-effect
invariant-loop-effect g l = record {
  charter : g.F.Follows.charter l.words ≡ g.F.Follows.charter l.fn.words;
  through : words_through (g.F.Follows.words l.fn.words) l.effects
      ≡ words_through (g.F.Follows.words l.words) (drop l.effect-index l.effects);
  count : length (g.F.Follows.words l.words) ≡ length (g.F.Follows.words l.fn.words);
  left : l.fn.items.items ++ writes_items (rules_by (g.F.Follows.charter l.fn.words))
      (g.F.Follows.words l.fn.words) l.effects
      ≡ l.items.items ++ writes_items (rules_by (g.F.Follows.charter l.fn.words))
      (g.F.Follows.words l.words) (drop l.effect-index l.effects);
}
