-- How many events an operation has at most, with the marks of its call and its return.
use Rattle.std.specs.Prelude.{◌≡◌, ℕ, ◌+◌, ◌-◌, ◌*◌, ◌≤◌, ⊤, Bool, true, false, List, [], ◌∷◌}
use Rattle.vyrd_base.specs.declared.header.Header.{Header}
use Rattle.vyrd_base.specs.declared.subject.Subject.{Subject}
use Rattle.vyrd_base.specs.declared.subject.Subject.TheVariants.{Multiset, Cache, Tree, Buffers}
use Rattle.vyrd_base.specs.declared.subject.Subject.TheVariants.{Own}
use Rattle.vyrd_base.specs.declared.subject.Method.{Method}
use Rattle.vyrd_base.specs.declared.subject.Method.TheVariants.{Tree as OfTree}
use Rattle.vyrd_base.specs.declared.tree.TreeMethod.TheVariants.{Insert}
use Rattle.vyrd_base.specs.declared.log.Kind.TheVariants.{Call, Return}
use Rattle.vyrd_memory.specs.declared.act.Act.{Act}
use Rattle.vyrd_memory.specs.declared.act.Act.TheVariants.{Mark}
use Rattle.vyrd_memory.specs.declared.op.Op.{Op}
use Rattle.vyrd_memory.specs.Scripts.{Script, stop, step, is_stop, IsAnswer}

-- the most operations of a caller, and the most events of an operation: those of an insert into a
-- tree of 1,024 nodes
abbrev pub most_ops : ℕ
most_ops = 200000

abbrev pub most_op_events : ℕ
most_op_events = 279208

-- the most events that a caller may have before it: those of all its operations, and of the one
-- under way
abbrev pub most_ahead : ℕ
most_ahead = (most_ops + 1) * most_op_events

-- A walk through a tree of n nodes visits each node once at most. An insert walks once, and once
-- more in each of the 16 rounds in which the tree may grow upwards.
abbrev pub tree_bound : ℕ → Method → ℕ
tree_bound n (OfTree Insert) = 17 * (16 * n + 40)
tree_bound n _ = 16 * n + 40

-- The bound by the subject and the size. The user's own structure has no operation here: its bound
-- leaves room for the marks of a call and its return.
abbrev pub bound_in : Subject → ℕ → Method → ℕ
bound_in Multiset n method = 32
bound_in Cache n method = 16
bound_in Tree n method = tree_bound n method
bound_in Buffers n method = 32
bound_in Own n method = 2

-- the bound of an operation of the method
abbrev pub bound_of : Header → Method → ℕ
bound_of h method = bound_in h.subject h.size method

-- the sum of the operations' bounds
abbrev pub bounds_of : Header → List Op → ℕ
bounds_of h [] = 0
bounds_of h (op ∷ ops) = bound_of h op.method + bounds_of h ops

-- whether an act ends an operation
abbrev pub is_return : Act → Bool
is_return (Mark (Return reply)) = true
is_return _ = false

-- Whatever is loaded, the procedure comes to its return within n acts, and there it ends.
abbrev pub EndsByReturn : ℕ → Script → Type 0
EndsByReturn n stop = ⊥
EndsByReturn n (step act rest) = (1 ≤ n) × (is_return act ≡ true → is_stop (rest 0) ≡ true)
    × (is_return act ≡ false → (answer : ℕ) → IsAnswer act answer
    → EndsByReturn (n - 1) (rest answer))

-- Whatever is loaded, the operation under way ends within n acts. Where the script ends, none is
-- under way.
abbrev pub EndsWithin : ℕ → Script → Type 0
EndsWithin n stop = ⊤
EndsWithin n (step act rest) = (1 ≤ n) × (is_return act ≡ false → (answer : ℕ) → IsAnswer act answer
    → EndsWithin (n - 1) (rest answer))

-- what an act takes of the bounds that are ahead: a call takes the bound of its operation
abbrev pub bound_taken : Header → Act → ℕ
bound_taken h (Mark (Call method args)) = bound_of h method
bound_taken h _ = 0

-- Whatever is loaded, n is the sum of the bounds of the operations that the script calls.
abbrev pub SumsUp : Header → ℕ → Script → Type 0
SumsUp h n stop = n ≡ 0
SumsUp h n (step act rest) = (bound_taken h act ≤ n)
    × ((answer : ℕ) → IsAnswer act answer → SumsUp h (n - bound_taken h act) (rest answer))
