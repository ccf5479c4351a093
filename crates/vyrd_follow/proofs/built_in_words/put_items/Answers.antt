use Rattle.vyrd_follow.proofs.Prelude.{◌≡◌, ◌≢◌, ℕ, Bool, true, false, List, [], ◌∷◌, length, refl}
use Rattle.vyrd_follow.proofs.Prelude.{ap, ◌∙◌, sym, subst, arith, ◌==◌, IsAmounts, view_of_words}
use Rattle.vyrd_follow.proofs.Prelude.{same_of, apart_of, Wrote}
use Rattle.std.proofs.lemmas.List.{drop_all}
use Rattle.vyrd_follow.proofs.TurnLaws.{nothing_turns, something_turns, turned_at, all_turned}
use Rattle.vyrd_follow.proofs.TurnLaws.{all_said, view_formed}
use Rattle.vyrd_follow.proofs.built_in_words.put_items.Goals as goal
use Rattle.vyrd_follow.proofs.built_in_words.put_items.Goals.{then-is_empty+in_ok-push}
use Rattle.vyrd_follow.proofs.built_in_words.put_items.Goals.{else-is_empty}

is_none : (left : List (ℕ × ℕ)) (n : ℕ) (b : Bool) → length left ≡ n → b ≡ (n == 0) → b ≡ true
    → left ≡ []
is_none [] n b count is none = refl
is_none (x ∷ left) n b count is none = cc (same_of n 0 (sym is ∙ none))

is_some : (left : List (ℕ × ℕ)) (n : ℕ) (b : Bool) → length left ≡ n → b ≡ (n == 0) → b ≡ false
    → left ≢ []
is_some left n b count is some = search (apart_of, count, arith)

pub loop-key-init : goal.loop-key-init
loop-key-init c =
    let e = c.args.effect in
    let from = c.args.shown.now in
    let to = view_of_words c.args.header c.args.words.now in
    let left = c.deref-key-items.result.now in
    let other = Wrote c.args.effect c.args.was in
    let old = c.args.items.now.items in
    let said = c.if-is_empty.items.items in
    let formed = subst IsAmounts (sym c.requires.shown) (view_formed c.args.header _) in
    let is = c.deref-key-items.ensures.value ∙ c.in_ok-turns.ensures in
    elim c.if-is_empty.branch [
      | then-is_empty+in_ok-push w ↦
          nothing_turns e c.args.was from to left other old said formed is
          (is_none left _ _ c.deref-key-items.ensures.len c.is_empty.ensures w.if-is_empty.true)
          (ap (λ v. v.items) w.items-is ∙ w.in_ok-push.ensures.items)
      | else-is_empty w ↦
          something_turns e c.args.was from to left other old said formed is
          (is_some left _ _ c.deref-key-items.ensures.len c.is_empty.ensures w.if-is_empty.false)
          (ap (λ v. v.items) w.items-is)
    ]

pub loop-key-preserved : goal.loop-key-preserved
loop-key-preserved c =
    let l = c.loop-key in
    turned_at c.args.effect c.args.was c.args.shown.now
    (view_of_words c.args.header c.args.words.now) l.shown c.set.new.self
    c.deref-key-items.result.now l.key-index (0, 0) c.from.result c.from-in-loop-key.result
    l.items.items c.push-in-loop-key.new.self.items _ c.loop-key-test.true l.invariant
    c.in_ok-set.ensures.ok (c.from.ensures ∙ c.amount-before.ensures.amount)
    c.from-in-loop-key.ensures c.in_ok-push-2.ensures.items

pub returns-clause-shown : goal.returns-clause-shown
returns-clause-shown c =
    let l = c.loop-key in
    let to = view_of_words c.args.header c.args.words.now in
    all_turned c.args.effect c.args.was c.args.shown.now to l.shown _ l.items.items _ l.invariant
    (drop_all l.key-index c.deref-key-items.result.now c.loop-key-test.false)
    (view_formed c.args.header c.args.words.now)

pub returns-clause-items : goal.returns-clause-items
returns-clause-items c =
    let l = c.loop-key in
    let to = view_of_words c.args.header c.args.words.now in
    all_said c.args.effect c.args.was c.args.shown.now to l.shown _ l.items.items _ l.invariant
    (drop_all l.key-index c.deref-key-items.result.now c.loop-key-test.false)
