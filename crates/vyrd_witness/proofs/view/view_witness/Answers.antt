use Rattle.vyrd_witness.proofs.Prelude.{◌≤◌, ◌+◌, ◌++◌, ap, refl, sym, ◌∙◌, arith, length, subst}
use Rattle.vyrd_witness.proofs.Prelude.{Rules, Charter, rules_by, words_at_start, amount_shown}
use Rattle.vyrd_witness.proofs.Prelude.{changes_in, effects_along, given_parts, parts_by_number}
use Rattle.vyrd_witness.specs.ViewWitnesses.{changes_along, amount_then, up_to}
use Rattle.vyrd_witness.proofs.CommitLaws.{up_to_low}
use Rattle.vyrd_witness.proofs.EffectLaws.{words_reached}
use Rattle.vyrd_witness.proofs.StartWords.{length_start}
use Rattle.vyrd_witness.proofs.view.view_witness.Goals as goal

pub pass-requires-clause-count : goal.pass-requires-clause-count
pass-requires-clause-count g c = omega (
  arith,
  c.in_ok-walk.walk.words.ok.0,
  ap length c.in_ok-walk.ensures.words,
  length_start c.header-header.result c.args.starting.now,
)

pub returns : goal.returns
returns g c =
    let charter : Charter = g.S.Shown.charter c.args.shown.now in
    let r : Rules = rules_by charter in
    let starting = c.args.starting.now in
    let front = c.args.front.now in
    let at = c.args.at in
    let key = c.args.key in
    let from = c.entries_up_to-from.result in
    let from_is = c.entries_up_to-from.ensures ∙ ap up_to c.commit_before-since.ensures.position in
    let low : from ≤ at = subst (λ n. n ≤ at) (sym c.entries_up_to-from.ensures)
    (up_to_low at c.commit_before-since.result c.commit_before-since.ensures.before) in
    let within = c.requires.within in
    let begins = c.in_ok-walk.ensures.words
    ∙ ap (λ h. words_at_start h starting) c.header-header.ensures in
    let there = words_reached r.header starting front 0 from c.in_ok-walk.walk.words.items
    c.pass.new.self.words.items (omega arith) (omega (arith, low, within)) begins
    c.in_ok-pass.ensures.words in
    let here = words_reached r.header starting front from (at + 1) c.pass.new.self.words.items
    c.changes.new.self.words.items (omega (arith, low)) (omega (arith, within)) there
    c.in_ok-changes.ensures.words in
    record {
      key_is = refl;
      shown = c.in_ok-changes.ensures.there ∙ ap (λ ws. amount_shown r ws key) here;
      parts = c.in_ok-put_parts.ensures
          ∙ ap (λ xs. xs ++ given_parts key (parts_by_number charter c.deref-2.result.now))
          c.new-parts.ensures.items
          ∙ ap (λ ws. given_parts key (parts_by_number charter ws))
          (c.deref-2.ensures.value ∙ here);
      since = c.commit_before-since.ensures.position;
      agreed = c.in_ok-agreed.ensures
          ∙ ap (λ ws. amount_shown r ws key) (c.deref.ensures.value ∙ there)
          ∙ ap (λ n. amount_then r starting front n key) from_is;
      changes = c.in_ok-changes.ensures.changes
          ∙ ap (λ ws. changes_in r key ws (effects_along front from (at + 1))) there
          ∙ ap (λ n. changes_along r starting front n (at + 1) key) from_is;
    }
