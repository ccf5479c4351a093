use Rattle.vyrd_view.proofs.Prelude.{◌≡◌, drop, has_link, differing}
use Rattle.vyrd_view.proofs.tree.has_turned.Given as goal

abbrev pub invariant-loop-word : goal.invariant-loop-word
invariant-loop-word l = has_link (differing l.before l.words (drop l.word-index l.changed))
    ≡ has_link (differing l.before l.words l.changed)
