use Rattle.vyrd_spec.proofs.Prelude.{◌≡◌, Bool, true, false, not, refl, arith, ◌∙◌, sym, right_of}
use Rattle.vyrd_spec.proofs.Prelude.{has_left}
use Rattle.vyrd_spec.proofs.NeighbourLaws.{told_more, told_twice, told_all}
use Rattle.vyrd_spec.proofs.neighbours.left_neighbours.Goals as goal

is_not : (b c : Bool) → c ≡ not b → c ≡ false → b ≡ true
is_not true c is e = refl
is_not false c is e = let no : true ≡ false = sym is ∙ e in cc

isnt_not : (b c : Bool) → c ≡ not b → c ≡ true → b ≡ false
isnt_not true c is e = let no : false ≡ true = sym is ∙ e in cc
isnt_not false c is e = refl

pub returns-then-not-put_left : goal.returns-then-not-put_left
returns-then-not-put_left = grind (arith, told_twice, is_not)

pub loop-node-preserved : goal.loop-node-preserved
loop-node-preserved c =
    let words = c.args.words.now in
    told_more c.args.last words c.loop-node.node c.loop-node.lefts.items c.put_left.new.lefts.items
    (isnt_not (has_left c.loop-node.lefts.items (right_of words c.loop-node.node)) c.put_left.result
    c.put_left.ensures.free c.if-not-put_left.false)
    (c.put_left.ensures.put c.if-not-put_left.false) c.loop-node.invariant

pub returns : goal.returns
returns c = told_all c.args.last c.args.words.now c.loop-node.node c.loop-node.lefts.items
    (omega arith) c.loop-node.invariant
