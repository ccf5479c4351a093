use Rattle.vyrd_spec.proofs.Prelude.{◌≡◌, false, ◌∙◌, sym, root_of, last_of, have_one_left}
use Rattle.vyrd_spec.proofs.TreeWordLaws.{are_nodes, tree_is, two_links}
use Rattle.vyrd_spec.proofs.tree_words.is_tree.Goals as goal

pub returns-in-Some : goal.returns-in-Some
returns-in-Some c =
    let words = c.args.words.now in
    let made = rw c.in-Some.is at c.in_ok-nodes.ensures in
    c.are_tree.ensures
    ∙ (λ i. are_nodes (made.2 i) (made.1 i) (root_of c.args.size words))
    ∙ sym (tree_is c.args.size words c.if-last-size.false c.if-root-last.false)

pub returns-in-None : goal.returns-in-None
returns-in-None c =
    let words = c.args.words.now in
    let twice : have_one_left (last_of c.args.size words) words
    ≡ false = rw c.in-None.is at c.in_ok-nodes.ensures in
    two_links c.args.size words c.if-last-size.false c.if-root-last.false twice
