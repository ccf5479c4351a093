use Rattle.vyrd_view.proofs.Prelude.{◌≡◌, ℕ, ◌+◌, ◌*◌, ◌<◌, false, List, length, length-set, set}
use Rattle.vyrd_view.proofs.Prelude.{ap, sym, ◌∙◌, subst, arith, get_or-set_same, get_or-set_other}
use Rattle.vyrd_view.proofs.Prelude.{on_ok_weaker, ComparedKept, IsWalked, end_pair, has_link}
use Rattle.vyrd_view.proofs.Prelude.{is_on_chain, is_broken, differing}
use Rattle.vyrd_view.proofs.DifferingLaws.{agree_elsewhere}
use Rattle.vyrd_view.proofs.ReadyLaws.{tree_count, tree_others, tree_marks, tree_end, walked_now}
use Rattle.vyrd_view.proofs.tree.leaves_changed.Goals as goal

pub entries_changed-requires-clause-places : goal.entries_changed-requires-clause-places
entries_changed-requires-clause-places g c = search (tree_count, arith)

pub entries_changed-requires-clause-others : goal.entries_changed-requires-clause-others
entries_changed-requires-clause-others g c =
    let before = c.args.before.now in
    let words = c.args.words.now in
    tree_others before words (differing before words c.args.changed.now) c.args.parts.now.pairs
    c.args.marks.now c.requires.walked
    (agree_elsewhere before words c.args.changed.now c.requires.elsewhere)

pub returns-then-not-has_turned-clause-walked : goal.returns-then-not-has_turned-clause-walked
returns-then-not-has_turned-clause-walked g c =
    let before = c.args.before.now in
    let words = c.args.words.now in
    let marks = c.args.marks.now in
    let pairs = c.args.parts.now.pairs in
    let turned = differing before words c.args.changed.now in
    let elsewhere = agree_elsewhere before words c.args.changed.now c.requires.elsewhere in
    let unlinked : has_link turned ≡ false = sym c.has_turned.ensures ∙ c.if-not-has_turned.true in
    let put = c.in_ok-entries_changed.ensures in
    walked_now words c.entries_changed.new.parts.pairs marks
    (put.places ∙ tree_count before pairs marks c.requires.walked)
    (tree_marks before words turned pairs marks c.requires.walked elsewhere unlinked) put.nodes
    (put.end ∙ tree_end before words turned pairs marks c.requires.walked elsewhere unlinked)

pub remark-requires-clause-places : goal.remark-requires-clause-places
remark-requires-clause-places = grind (arith, tree_count)

pub replace-requires-clause-place : goal.replace-requires-clause-place
replace-requires-clause-place = grind (arith, tree_count)

pub returns-clause-walked : goal.returns-clause-walked
returns-clause-walked g c =
    let words = c.args.words.now in
    let marks = c.remark.new.marks in
    let size = length marks in
    let pairs = c.remark.new.parts.pairs in
    let pair = c.end_pair.result in
    let final : List (ℕ × ℕ) = set pairs (4 * size) pair in
    let next : length c.args.next.now ≡ size = c.requires.nodes.room ∙ sym c.remark.auto.marks in
    let count : length pairs ≡ 4 * size + 1 = omega (
      arith,
      c.remark.auto.marks,
      c.in_ok-remark.ensures.places,
      c.in_ok-entries_changed.ensures.places,
      tree_count c.args.before.now c.args.parts.now.pairs c.args.marks.now c.requires.walked,
    ) in
    let within : 4 * size < length pairs = omega (arith, count) in
    let walked : IsWalked words final marks =
    walked_now words final marks (length-set pairs (4 * size) pair ∙ count)
    (λ n low. c.in_ok-remark.ensures.marks n (omega (arith, low, c.remark.auto.marks))
    ∙ c.walk-broken.ensures.marks n (omega (arith, low, next))
    ∙ ap (λ k. is_on_chain k words n) next)
    (λ m low. get_or-set_other pairs (4 * size) m pair (0, 0) (λ e. absurd (omega (arith, e, low)))
    ∙ c.in_ok-remark.ensures.nodes m (omega (arith, low, c.remark.auto.marks)))
    (get_or-set_same pairs (4 * size) pair (0, 0) within ∙ c.end_pair.ensures
    ∙ ap end_pair (c.walk-broken.ensures.broken ∙ ap (λ k. is_broken k words) next)) in
    on_ok_weaker {P = c.replace.new.self ≡ record c.remark.new.parts { pairs = final }}
    c.replace.result
    (λ now. subst (λ ps. IsWalked words ps marks) (sym (ap (λ (k : ComparedKept). k.pairs) now))
    walked)
    c.replace.ensures.ok
