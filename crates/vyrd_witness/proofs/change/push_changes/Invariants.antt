use Rattle.vyrd_witness.proofs.Prelude.{◌≡◌, ◌++◌, drop, vec_len, rules_by, amount_shown}
use Rattle.vyrd_witness.proofs.Prelude.{changes_in, words_through}
use Rattle.vyrd_witness.proofs.change.push_changes.Given as goal

abbrev pub invariant-loop-effect : goal.invariant-loop-effect
invariant-loop-effect g l = record {
  count : vec_len l.words ≡ vec_len l.fn.words;
  key : l.followed.key ≡ l.fn.followed.key;
  here : l.followed.amount
      ≡ amount_shown (rules_by (g.S.Shown.charter l.shown)) l.words.items l.fn.followed.key;
  through : words_through l.fn.words.items l.effects
      ≡ words_through l.words.items (drop l.effect-index l.effects);
  left : l.fn.changes.items
      ++ changes_in (rules_by (g.S.Shown.charter l.shown)) l.fn.followed.key l.fn.words.items
      l.effects
      ≡ l.changes.items
      ++ changes_in (rules_by (g.S.Shown.charter l.shown)) l.fn.followed.key l.words.items
      (drop l.effect-index l.effects);
}
