use Rattle.vyrd_view.proofs.Prelude.{◌≡◌, ℕ, List, Bool, true, false, get_or, length-set, arith}
use Rattle.vyrd_view.proofs.Prelude.{rules, ap, ◌∙◌, ◌-◌, ◌+◌, set, sym, amount_of, right_of}
use Rattle.vyrd_view.proofs.Prelude.{node_grows}
use Rattle.vyrd_view.proofs.ChainLaws.{walk_begins, walk_left, walk_ends, walk_breaks, walk_goes_on}
use Rattle.vyrd_view.proofs.ChainLaws.{unseen_within}
use Rattle.vyrd_view.proofs.chain.chain.Goals as goal

-- what the call of `is_seen` says of the flags
seen_is : {flags items : List Bool} {answer : Bool} (q : ℕ) (b : Bool) → flags ≡ items
    → answer ≡ get_or flags q true → answer ≡ b
    → get_or items q true ≡ b
seen_is q b same is was = ap (λ s. get_or s q true) (sym same) ∙ sym is ∙ was

pub loop-turn-init : goal.loop-turn-init
loop-turn-init c = record {
  walk = walk_begins c.args.size c.args.words.now c.new-sums.result c.in_ok-seen.seen.items
      (c.args.size - 0) c.new-sums.ensures (omega arith)
      (c.in_ok-seen.ensures.items_if_clones_equal (λ y e. e));
  few = λ key. omega (arith, ap (λ s. amount_of s key) c.new-sums.ensures);
  flags = search rules;
  within = c.requires.some;
}

pub returns-then-right-eq0 : goal.returns-then-right-eq0
returns-then-right-eq0 c =
    let turn = c.loop-turn._turn in
    let node = c.loop-turn.node in
    let walk = walk_left c.args.size c.args.words.now c.loop-turn.sums c.loop-turn.seen.items turn
    node (omega arith) c.loop-turn.invariant.walk in
    walk_ends c.args.size c.args.words.now c.loop-turn.sums c.add_node.new.sums
    c.loop-turn.seen.items
    (c.args.size - (turn + 1)) node walk (omega arith)
    c.in_ok-add_node.ensures c.if-right-eq0.true

pub add-requires : goal.add-requires
add-requires c =
    omega (
      arith,
      c.requires.small,
      node_grows c.args.words.now c.loop-turn.node c.loop-turn._turn 8589934592 c.loop-turn.sums
          c.add_node.new.sums c.in_ok-add_node.ensures (c.loop-turn.invariant.few 8589934592),
    )

pub returns-then-is_seen : goal.returns-then-is_seen
returns-then-is_seen c =
    let turn = c.loop-turn._turn in
    let node = c.loop-turn.node in
    let walk = walk_left c.args.size c.args.words.now c.loop-turn.sums c.loop-turn.seen.items turn
    node (omega arith) c.loop-turn.invariant.walk in
    c.in_ok-add.ensures.ok
    ∙ walk_breaks c.args.size c.args.words.now c.loop-turn.sums c.add_node.new.sums
    c.loop-turn.seen.items
    (c.args.size - (turn + 1)) node walk (omega arith)
    c.in_ok-add_node.ensures c.if-right-eq0.false
    (seen_is (right_of c.args.words.now node) true c.deref.ensures.value c.is_seen.ensures
    c.if-is_seen.true)

pub loop-turn-preserved : goal.loop-turn-preserved
loop-turn-preserved c = record {
  walk =
      let turn = c.loop-turn._turn in
      let node = c.loop-turn.node in
      let walk = walk_left c.args.size c.args.words.now c.loop-turn.sums c.loop-turn.seen.items turn
      node (omega arith) c.loop-turn.invariant.walk in
      walk_goes_on c.args.size c.args.words.now c.loop-turn.sums c.add_node.new.sums
      c.loop-turn.seen.items
      (c.args.size - (turn + 1)) node walk (omega arith)
      c.in_ok-add_node.ensures c.if-right-eq0.false
      (seen_is (right_of c.args.words.now node) false c.deref.ensures.value c.is_seen.ensures
      c.if-is_seen.false);
  few = λ key. node_grows c.args.words.now c.loop-turn.node c.loop-turn._turn key c.loop-turn.sums
      c.add_node.new.sums c.in_ok-add_node.ensures (c.loop-turn.invariant.few key);
  flags = length-set c.loop-turn.seen.items c.loop-turn.node true ∙ c.loop-turn.invariant.flags;
  within =
      let right = right_of c.args.words.now c.loop-turn.node in
      let flags = set c.loop-turn.seen.items c.loop-turn.node true in
      let low = unseen_within flags right
      (seen_is right false c.deref.ensures.value c.is_seen.ensures c.if-is_seen.false) in
      omega (
        arith,
        low,
        length-set c.loop-turn.seen.items c.loop-turn.node
            true,
        c.loop-turn.invariant.flags,
      );
}
