use Rattle.vyrd_own_text.proofs.Prelude.{◌≡◌, ◌++◌, take, texts}
use Rattle.vyrd_own_text.proofs.scopes.put_names.Given as goal

abbrev pub invariant-loop-name : goal.invariant-loop-name
invariant-loop-name l = texts l.all.items ≡ texts l.fn.all.items
    ++ texts (take l.name-index l.names)
