-- Single acts of a sound script, with the locks that its caller holds.
use Rattle.vyrd_memory.proofs.Prelude.{◌≡◌, ℕ, ◌+◌, ◌<◌, ◌^◌, Bool, true, false, cond, not, List}
use Rattle.vyrd_memory.proofs.Prelude.{◌∷◌, Some, arith, ◌==◌, is_some, nat_tests, Header, Method}
use Rattle.vyrd_memory.proofs.Prelude.{cells_of, is_plain, both_true, same_number, is_below, Store}
use Rattle.vyrd_memory.proofs.Prelude.{Script, perform, Situation, IsSound, holds}
use Rattle.std.specs.Prelude.{filter}

-- these locks are held in an execution of the method, and whether that has committed
abbrev pub holding : List ℕ → Method → Bool → Situation
holding locks method committed =
    record { locks = locks; called = Some method; committed = committed; in_block = false }

-- in a block
abbrev pub in_block : List ℕ → Method → Situation
in_block locks method = record {
  locks = locks;
  called = Some method;
  committed = false;
  in_block = true;
}

-- a store
pub store_sound : (h : Header) (s : Situation) (cell value : ℕ) (later : Script)
    → is_plain (cells_of h) cell ≡ true → value < 2 ^ 63
    → is_some s.called ≡ true
    → IsSound h s later → IsSound h s (perform (Store cell value) later)
store_sound h s cell value later plain low called sound = search (both_true, plain, is_below, arith)

-- both ways of a choice, each with what the test told
pub either : (h : Header) (s : Situation) (b : Bool) (x y : Script) → (b ≡ true → IsSound h s x)
    → (b ≡ false → IsSound h s y)
    → IsSound h s (cond b x y)
either h s b x y e f = search arith

-- a lock that was given back isn't held any more
pub gone : (lock : ℕ) (locks : List ℕ) → filter (λ held. not (held == lock)) (lock ∷ locks)
    ≡ filter (λ held. not (held == lock)) locks
gone lock locks = cc (same_number lock)

-- the lock that was taken last is held
pub held_first : (lock : ℕ) (locks : List ℕ) (method : Method) (committed : Bool)
    → holds (holding (lock ∷ locks) method committed) lock ≡ true
held_first lock locks method committed = cc (same_number lock)

-- locks that lie in a row are apart where their numbers are
pub other_lock : (first_lock first second : ℕ) → (first == second) ≡ false
    → ((first_lock + first) == (first_lock + second)) ≡ false
other_lock first_lock first second e = grind (arith, nat_tests)
