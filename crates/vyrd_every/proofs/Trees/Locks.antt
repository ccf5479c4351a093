-- No lock is held by two callers.
use Rattle.vyrd_every.proofs.Prelude.{◌≡◌, ℕ, Bool, true, false, cond, not, ◌||◌, List, [], ◌∷◌}
use Rattle.vyrd_every.proofs.Prelude.{refl, arith, ◌==◌, filter, list_any, nat_tests, Header, Call}
use Rattle.vyrd_every.proofs.Prelude.{Return, Write, Commit, BlockOpen, BlockClose, BlockCommit}
use Rattle.vyrd_every.proofs.Prelude.{Did, Read, Wrote, Took, Gave, Marked, Stamped, cells_of}
use Rattle.vyrd_every.proofs.Prelude.{is_lock, first_true, same_of, holds, part_of, situation_after}
use Rattle.vyrd_every.proofs.Prelude.{KeepsTo, AreLegal, held_is, never}

any_kept : (p q : ℕ → Bool) (xs : List ℕ) → list_any p (filter q xs) ≡ true → list_any p xs ≡ true
any_kept p q [] e = e
any_kept p q (x ∷ xs) e = by_test (any_kept p q xs) (q x) e
  where
    more : (a y z : Bool) → (y ≡ true → z ≡ true) → (a || y) ≡ true → (a || z) ≡ true
    more a y z f e = search arith

    by_test : (list_any p (filter q xs) ≡ true → list_any p xs ≡ true) → (b : Bool)
        → list_any p (cond b (x ∷ filter q xs) (filter q xs)) ≡ true
        → (p x || list_any p xs) ≡ true
    by_test later b f = search (more, arith)

-- what is held is a lock
only_locks : (h : Header) (part : List Did) (lock : ℕ) → KeepsTo h part
    → holds (situation_after part) lock ≡ true → is_lock (cells_of h) lock ≡ true
only_locks h [] lock keeps held = cc
only_locks h (Read cell value ∷ part) lock keeps held = only_locks h part lock keeps.1 held
only_locks h (Wrote cell value ∷ part) lock keeps held = only_locks h part lock keeps.1 held
only_locks h (Took other ∷ part) lock keeps held = by_place (only_locks h part lock keeps.1)
    (other == lock) refl held
  where
    by_place : (holds (situation_after part) lock ≡ true → is_lock (cells_of h) lock ≡ true)
        → (b : Bool) → (other == lock) ≡ b
        → (b || holds (situation_after part) lock) ≡ true → is_lock (cells_of h) lock ≡ true
    by_place before b e f = search (same_of, first_true, arith)
only_locks h (Gave other ∷ part) lock keeps held = only_locks h part lock keeps.1
    (any_kept (λ held. held == lock) (λ held. not _) (situation_after part).locks held)
only_locks h (Marked (Call method args) ∷ part) lock keeps held = cc
only_locks h (Marked (Return reply) ∷ part) lock keeps held = cc
only_locks h (Marked (Write word value) ∷ part) lock keeps held = search (held, arith)
only_locks h (Marked Commit ∷ part) lock keeps held = only_locks h part lock keeps.1 held
only_locks h (Marked BlockOpen ∷ part) lock keeps held = only_locks h part lock keeps.1 held
only_locks h (Marked BlockClose ∷ part) lock keeps held = only_locks h part lock keeps.1 held
only_locks h (Marked BlockCommit ∷ part) lock keeps held = only_locks h part lock keeps.1 held

pub held_by_one : (h : Header) (c d : ℕ) (earlier : List Stamped) (lock : ℕ)
    → AreLegal (cells_of h) earlier → KeepsTo h (part_of c earlier)
    → KeepsTo h (part_of d earlier) → (c == d) ≡ false
    → holds (situation_after (part_of d earlier)) lock ≡ true
    → holds (situation_after (part_of c earlier)) lock ≡ false
held_by_one h c d earlier lock legal keeps_c keeps_d apart held =
    grind (arith, nat_tests, apart, held, part_of, only_locks, never, held_is)
