use Rattle.vyrd_follow.proofs.Prelude.{◌≢◌, ◌+◌, sym, subst, arith, IfOk-weaker, amount_of}
use Rattle.vyrd_follow.proofs.Prelude.{node_word}
use Rattle.vyrd_follow.proofs.NodeKeyLaws.{entries_there, there_then, first_there, second_there}
use Rattle.vyrd_follow.proofs.node.node_keys.Goals as goal

pub loop-j-preserved : goal.loop-j-preserved
loop-j-preserved = grind (arith, entries_there)

pub returns-clause-was : goal.returns-clause-was
returns-clause-was = grind (arith, first_there)

pub returns-clause-damage : goal.returns-clause-damage
returns-clause-damage = grind (arith, second_there)

pub returns-clause-entries : goal.returns-clause-entries
returns-clause-entries c =
    IfOk-weaker c.view.result _ _ (λ keys is j low.
    subst (λ s. amount_of s (node_word c.args.words.now c.args.node (4 + j)) ≢ 0) (sym is)
    (there_then c.loop-j.keys c.set-2.new.self c.set-3.new.self c.args.was 8589934592
    (node_word c.args.words.now c.args.node (4 + j)) c.in_ok-set-2.ensures.ok
    c.in_ok-set-3.ensures.ok (c.loop-j.invariant j (omega (arith, low, c.loop-j-test.false)))))
    c.view.ensures
