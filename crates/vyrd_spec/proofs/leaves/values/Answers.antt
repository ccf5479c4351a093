use Rattle.vyrd_spec.proofs.Prelude.{arith, ap, ◌+◌, ◌-◌, amount_of, node_grows}
use Rattle.vyrd_spec.proofs.TreeWordLaws.{tree_of, leaf_entries}
use Rattle.vyrd_spec.proofs.LeafLaws.{walk_begins, walk_left, walk_ends, walk_goes_on, node_small}
use Rattle.vyrd_spec.proofs.LeafLaws.{nothing_small}
use Rattle.vyrd_spec.proofs.leaves.values.Goals as goal

pub loop-turn-init : goal.loop-turn-init
loop-turn-init c = record {
  walk = walk_begins c.args.size c.args.words.now c.in_ok-values.values (c.args.size - 0)
      (tree_of c.args.size c.args.words.now c.requires.tree)
      c.in_ok-values.ensures (omega arith);
  few = λ key. omega (arith, ap (λ s. amount_of s key) c.in_ok-values.ensures);
  small = nothing_small c.in_ok-values.values c.in_ok-values.ensures;
}

pub add_leaf-requires-clause-sound : goal.add_leaf-requires-clause-sound
add_leaf-requires-clause-sound = grind (arith, leaf_entries, tree_of)

pub returns-then-right-eq0-clause-values : goal.returns-then-right-eq0-clause-values
returns-then-right-eq0-clause-values c =
    let turn = c.loop-turn._turn in
    let walk = walk_left c.args.size c.args.words.now c.loop-turn.values turn c.loop-turn.leaf
    (omega arith) c.loop-turn.invariant.walk in
    walk_ends c.args.size c.args.words.now c.loop-turn.values c.add_leaf.new.values
    (c.args.size - (turn + 1)) c.loop-turn.leaf walk
    c.in_ok-add_leaf.ensures c.if-right-eq0.true

pub returns-then-right-eq0-clause-small : goal.returns-then-right-eq0-clause-small
returns-then-right-eq0-clause-small c = λ key some.
    let words = c.args.words.now in
    let leaf = c.loop-turn.leaf in
    let walk = c.loop-turn.invariant.walk in
    let sound = leaf_entries c.args.size words leaf (tree_of c.args.size words c.requires.tree)
    walk.in_use walk.leaf in
    let small = node_small words leaf c.loop-turn.values c.add_leaf.new.values
    c.in_ok-add_leaf.ensures sound c.loop-turn.invariant.small key some in (
      small.0,
      small.1,
      omega (
        arith,
        node_grows words leaf c.loop-turn._turn key c.loop-turn.values c.add_leaf.new.values
            c.in_ok-add_leaf.ensures (c.loop-turn.invariant.few key),
        c.loop-turn-test.true,
        c.requires.few,
      ),
    )

pub loop-turn-preserved : goal.loop-turn-preserved
loop-turn-preserved c =
    let words = c.args.words.now in
    let leaf = c.loop-turn.leaf in
    let turn = c.loop-turn._turn in
    let walk = c.loop-turn.invariant.walk in
    let tree = tree_of c.args.size words c.requires.tree in
    let more = c.in_ok-add_leaf.ensures in
    record {
      walk = walk_goes_on c.args.size words c.loop-turn.values c.add_leaf.new.values
          (c.args.size - (turn + 1)) leaf tree
          (walk_left c.args.size words c.loop-turn.values turn leaf (omega arith) walk) more
          c.if-right-eq0.false;
      few = λ key. node_grows words leaf turn key c.loop-turn.values c.add_leaf.new.values more
          (c.loop-turn.invariant.few key);
      small = node_small words leaf c.loop-turn.values c.add_leaf.new.values more
          (leaf_entries c.args.size words leaf tree walk.in_use walk.leaf)
          c.loop-turn.invariant.small;
    }
