use Rattle.vyrd_own_spec.proofs.Prelude.{◌≡◌, ◌++◌, take, keys_of}
use Rattle.vyrd_own_spec.proofs.stepping.put_keys.Given as goal

abbrev pub invariant-loop-key : goal.invariant-loop-key
invariant-loop-key l = l.touched.items ≡ l.fn.touched.items ++ keys_of (take l.key-index l.pairs)
