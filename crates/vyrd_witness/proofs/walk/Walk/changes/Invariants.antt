use Rattle.vyrd_witness.proofs.Prelude.{◌≡◌, take, vec_len, newest_first, rules_by, amount_shown}
use Rattle.vyrd_witness.proofs.Prelude.{changes_in, words_through, effects_along, ArePhases}
use Rattle.vyrd_witness.proofs.walk.Walk.changes.Given as goal

abbrev pub invariant-loop-at : goal.invariant-loop-at
invariant-loop-at g l = record {
  words : l.self.words.items
      ≡ words_through l.fn.self.words.items (effects_along l.front l.from l.at);
  count : vec_len l.self.words ≡ vec_len l.fn.self.words;
  phases : ArePhases (rules_by (g.S.Shown.charter l.shown)).header l.self.phases.items
      (newest_first (take l.at l.front));
  key : l.followed.key ≡ l.fn.followed.key;
  here : l.followed.amount
      ≡ amount_shown (rules_by (g.S.Shown.charter l.shown)) l.self.words.items l.fn.followed.key;
  changes : l.changes.items ≡ changes_in (rules_by (g.S.Shown.charter l.shown)) l.fn.followed.key
      l.fn.self.words.items (effects_along l.front l.from l.at);
}
