use Rattle.vyrd_follow.proofs.Prelude.{◌≡◌, ◌++◌, take, agreed_items}
use Rattle.vyrd_follow.proofs.following.put_agreed.Given as goal

abbrev pub invariant-loop-key : goal.invariant-loop-key
invariant-loop-key l = l.items.items ≡ l.fn.items.items ++ agreed_items (take l.key-index l.pairs)
