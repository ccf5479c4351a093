-- Proofs of laws that an impl in src/ names: no contract says what is defined here.
-- Each procedure of a cache comes to its return in time.
use Rattle.std.proofs.Common.{◌≡◌, ℕ, ◌-◌, ◌≤◌, Bool, true, false, cond, List, [], ◌∷◌, length}
use Rattle.std.proofs.Common.{refl, sym, subst, arith}
use Rattle.std.specs.Prelude.{◌==◌, ◌&&◌, not}
use Rattle.vyrd_base.specs.declared.header.Header.{Header}
use Rattle.vyrd_base.specs.declared.subject.Subject.TheVariants.{Cache}
use Rattle.vyrd_base.specs.declared.subject.Method.{Method}
use Rattle.vyrd_base.specs.declared.subject.Method.TheVariants.{Multiset as OfMultiset}
use Rattle.vyrd_base.specs.declared.subject.Method.TheVariants.{Cache as OfCache, Tree as OfTree}
use Rattle.vyrd_base.specs.declared.subject.Method.TheVariants.{Buffers as OfBuffers}
use Rattle.vyrd_base.specs.declared.subject.Method.TheVariants.{OwnNever, OwnAtMostOnce, OwnOnce}
use Rattle.vyrd_base.specs.declared.cache.CacheMethod.TheVariants.{Write, Flush, Evict, Read}
use Rattle.vyrd_base.specs.declared.log.Kind.TheVariants.{Return, Commit, BlockOpen, BlockClose}
use Rattle.vyrd_base.specs.declared.log.Kind.TheVariants.{BlockCommit}
use Rattle.vyrd_base.specs.declared.subject.Args.{Args}
use Rattle.vyrd_base.specs.Subjects.{subject_of}
use Rattle.vyrd_base.proofs.TestLaws.{first_true, second_true}
use Rattle.vyrd_memory.specs.declared.act.Act.{Act}
use Rattle.vyrd_memory.specs.declared.act.Act.TheVariants.{Load, Store, Give, Mark}
use Rattle.vyrd_memory.specs.declared.op.Variant.{Variant}
use Rattle.vyrd_memory.specs.declared.op.Variant.TheVariants.{Correct, Broken}
use Rattle.vyrd_memory.specs.Scripts.{Script, step}
use Rattle.vyrd_memory.specs.Bounds.{is_return, bound_in, bound_of, EndsByReturn}
use Rattle.vyrd_memory.proofs.TimedActs.{either_in}
use Rattle.vyrd_cache.specs.Cells.{state_cell, cached_low, cached_high, stored_low, stored_high}
use Rattle.vyrd_cache.specs.Cells.{lock_of, lock}
use Rattle.vyrd_cache.specs.Procedures.{joined, in_order, procedure_of, put_cached}
use Rattle.vyrd_cache.specs.Procedures.{put_cached_bare, put_stored, forget, only_commit, fetch}
use Rattle.vyrd_cache.specs.Procedures.{answer_cached, write, flush}
use Rattle.vyrd_cache.specs.Procedures.{evict, read}

-- whether the last of these acts is a return, and none before it
abbrev returns_last : List Act → Bool
returns_last [] = false
returns_last (act ∷ []) = is_return act
returns_last (act ∷ next ∷ acts) = not (is_return act) && returns_last (next ∷ acts)

not_both : (b : Bool) → not b ≡ true → b ≡ true → ⊥
not_both true e f = cc
not_both false e f = cc

ends_list : (acts : List Act) (n : ℕ) → length acts ≤ n → returns_last acts ≡ true
    → EndsByReturn n (in_order acts)
ends_list [] n few last = cc
ends_list (act ∷ []) n few last = (omega arith, λ _. refl, λ other. cc)
ends_list (act ∷ next ∷ acts) n few last = (
  omega arith,
  λ returns. absurd (not_both (is_return act)
      (first_true (not (is_return act)) (returns_last (next ∷ acts)) last) returns),
  λ _ answer _. ends_list (next ∷ acts) (n - 1) (omega arith)
      (second_true (not (is_return act)) (returns_last (next ∷ acts)) last),
)

-- a look at the chunk's state, with the lock held
looked : (h : Header) (chunk : ℕ) (rest : ℕ → Script) → ((state : ℕ) → EndsByReturn 13 (rest state))
    → EndsByReturn 15 (lock h chunk (step (Load (state_cell chunk)) rest))
looked h chunk rest ends =
    (omega arith, λ returns. cc, λ _ _ _. (omega arith, λ returns. cc, λ _ state _. ends state))

-- two loads before a list of acts
two_loads : (low_cell high_cell : ℕ) (rest : ℕ → ℕ → List Act)
    → ((low high : ℕ) → length (rest low high) ≤ 11)
    → ((low high : ℕ) → returns_last (rest low high) ≡ true)
    → EndsByReturn 13
    (step (Load low_cell) (λ low. step (Load high_cell) (λ high. in_order (rest low high))))
two_loads low_cell high_cell rest few last = (
  omega arith,
  λ returns. cc,
  λ _ low _. (
    omega arith,
    λ returns. cc,
    λ _ high _. ends_list (rest low high) 11 (few low high) (last low high),
  ),
)

ends_put_cached : (h : Header) (chunk low high n : ℕ) → 7 ≤ n
    → EndsByReturn n (put_cached h chunk low high)
ends_put_cached h chunk low high n some = ends_list
    (Mark BlockOpen ∷ Store (cached_low chunk) low ∷ Store (cached_high chunk) high
    ∷ Store (state_cell chunk) 2 ∷ Mark BlockCommit
    ∷ Give (lock_of h chunk) ∷ Mark (Return 1) ∷ []) n (omega arith) refl

ends_put_cached_bare : (h : Header) (chunk low high : ℕ)
    → EndsByReturn 13 (put_cached_bare h chunk low high)
ends_put_cached_bare h chunk low high =
    ends_list (Give (lock_of h chunk) ∷ Store (cached_low chunk) low
    ∷ Store (cached_high chunk) high ∷ Mark Commit ∷ Mark (Return 1) ∷ []) 13 (omega arith) refl

ends_put_stored : (h : Header) (chunk state : ℕ) → EndsByReturn 13 (put_stored h chunk state)
ends_put_stored h chunk state = two_loads (cached_low chunk) (cached_high chunk) (λ low high.
    Mark BlockOpen ∷ Store (stored_low chunk) low ∷ Store (stored_high chunk) high
    ∷ Store (state_cell chunk) state ∷ Mark BlockCommit
    ∷ Give (lock_of h chunk) ∷ Mark (Return 1) ∷ []) (λ low high. omega arith) (λ low high. refl)

ends_only_commit : (h : Header) (chunk : ℕ) → EndsByReturn 13 (only_commit h chunk)
ends_only_commit h chunk =
    ends_list (Mark Commit ∷ Give (lock_of h chunk) ∷ Mark (Return 1) ∷ []) 13 (omega arith) refl

ends_forget : (h : Header) (chunk : ℕ) → EndsByReturn 13 (forget h chunk)
ends_forget h chunk = ends_list
    (Mark BlockOpen ∷ Store (state_cell chunk) 0 ∷ Mark BlockCommit ∷ Give (lock_of h chunk)
    ∷ Mark (Return 1) ∷ []) 13 (omega arith) refl

ends_fetch : (h : Header) (chunk : ℕ) → EndsByReturn 13 (fetch h chunk)
ends_fetch h chunk = two_loads (stored_low chunk) (stored_high chunk) (λ low high. Mark BlockOpen
    ∷ Store (cached_low chunk) low ∷ Store (cached_high chunk) high ∷ Store (state_cell chunk) 1
    ∷ Mark BlockClose ∷ Give (lock_of h chunk) ∷ Mark (Return (joined low high))
    ∷ []) (λ low high. omega arith) (λ low high. refl)

ends_answer_cached : (h : Header) (chunk : ℕ) → EndsByReturn 13 (answer_cached h chunk)
ends_answer_cached h chunk =
    two_loads (cached_low chunk) (cached_high chunk) (λ low high. Give (lock_of h chunk)
    ∷ Mark (Return (joined low high)) ∷ []) (λ low high. omega arith) (λ low high. refl)

ends_write : (h : Header) (variant : Variant) (chunk low high : ℕ)
    → EndsByReturn 15 (write h variant chunk low high)
ends_write h Correct chunk low high =
    (omega arith, λ returns. cc, λ _ _ _. ends_put_cached h chunk low high 14 (omega arith))
ends_write h Broken chunk low high = looked h chunk _ (λ state. either_in 13 (state == 2)
    (put_cached_bare h chunk low high) (put_cached h chunk low high)
    (ends_put_cached_bare h chunk low high) (ends_put_cached h chunk low high 13 (omega arith)))

ends_flush : (h : Header) (chunk : ℕ) → EndsByReturn 15 (flush h chunk)
ends_flush h chunk = looked h chunk _ (λ state. either_in 13 (state == 2) (put_stored h chunk 1)
    (only_commit h chunk) (ends_put_stored h chunk 1) (ends_only_commit h chunk))

ends_evict : (h : Header) (chunk : ℕ) → EndsByReturn 15 (evict h chunk)
ends_evict h chunk = looked h chunk _ (λ state. either_in 13 (state == 2) (put_stored h chunk 0)
    (cond (state == 0) (only_commit h chunk) (forget h chunk)) (ends_put_stored h chunk 0)
    (either_in 13 (state == 0) (only_commit h chunk) (forget h chunk) (ends_only_commit h chunk)
    (ends_forget h chunk)))

ends_read : (h : Header) (chunk : ℕ) → EndsByReturn 15 (read h chunk)
ends_read h chunk = looked h chunk _ (λ state. either_in 13 (state == 0) (fetch h chunk)
    (answer_cached h chunk) (ends_fetch h chunk) (ends_answer_cached h chunk))

pub procedure_ends : (h : Header) (variant : Variant) (method : Method) (args : Args)
    → h.subject ≡ Cache
    → subject_of method ≡ Cache
    → EndsByReturn (bound_of h method - 1) (procedure_of h variant method args)
procedure_ends h variant method args is of_cache =
    subst (λ subject. EndsByReturn (bound_in subject h.size method - 1)
    (procedure_of h variant method args)) (sym is) (by_method method of_cache)
  where
    by_method : (method : Method) → subject_of method ≡ Cache
        → EndsByReturn 15 (procedure_of h variant method args)
    by_method (OfCache Write) of_cache = ends_write h variant args.a args.b args.c
    by_method (OfCache Flush) of_cache = ends_flush h args.a
    by_method (OfCache Evict) of_cache = ends_evict h args.a
    by_method (OfCache Read) of_cache = ends_read h args.a
    by_method (OfMultiset other) of_cache = cc
    by_method (OfTree other) of_cache = cc
    by_method (OfBuffers other) of_cache = cc
    by_method (OwnNever i) of_cache = cc
    by_method (OwnAtMostOnce i) of_cache = cc
    by_method (OwnOnce i) of_cache = cc
