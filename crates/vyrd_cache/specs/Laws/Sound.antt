-- Proofs of laws that an impl in src/ names: no contract says what is defined here.
-- Each procedure of a cache is sound.
use Rattle.std.proofs.Common.{◌≡◌, ℕ, ◌+◌, ◌*◌, ◌<◌, ◌^◌, Bool, true, false, cond, [], ◌∷◌, filter}
use Rattle.std.proofs.Common.{refl, ap, ◌∙◌, sym, subst, arith}
use Rattle.std.specs.Prelude.{◌==◌, ◌&&◌, ◌||◌, not, nat_lt, nat_le, Some}
use Rattle.std.proofs.lemmas.Bool.Decides.{nat_tests}
use Rattle.vyrd_base.specs.declared.header.Header.{Header}
use Rattle.vyrd_base.specs.declared.subject.Subject.TheVariants.{Cache}
use Rattle.vyrd_base.specs.declared.subject.Method.{Method}
use Rattle.vyrd_base.specs.declared.subject.Method.TheVariants.{Multiset as OfMultiset}
use Rattle.vyrd_base.specs.declared.subject.Method.TheVariants.{Cache as OfCache, Tree as OfTree}
use Rattle.vyrd_base.specs.declared.subject.Method.TheVariants.{Buffers as OfBuffers}
use Rattle.vyrd_base.specs.declared.subject.Method.TheVariants.{OwnNever, OwnAtMostOnce, OwnOnce}
use Rattle.vyrd_base.specs.declared.cache.CacheMethod.TheVariants.{Write, Flush, Evict, Read}
use Rattle.vyrd_base.specs.declared.subject.Args.{Args}
use Rattle.vyrd_base.specs.declared.log.Kind.TheVariants.{Return, Commit, BlockOpen, BlockCommit}
use Rattle.vyrd_base.specs.Subjects.{subject_of, is_observer, are_args}
use Rattle.vyrd_base.specs.Layout.{plain_words_of, lock_words_of}
use Rattle.vyrd_base.specs.Histories.{cells_of, is_plain, is_lock}
use Rattle.vyrd_base.proofs.TestLaws.{both_true, second_true, same_number, is_below, is_at_most}
use Rattle.vyrd_memory.specs.declared.act.Act.TheVariants.{Load, Store, Give, Mark}
use Rattle.vyrd_memory.specs.declared.op.Variant.{Variant}
use Rattle.vyrd_memory.specs.declared.op.Variant.TheVariants.{Correct, Broken}
use Rattle.vyrd_memory.specs.Arguments.{are_small}
use Rattle.vyrd_memory.specs.Scripts.{Script, step}
use Rattle.vyrd_memory.specs.Soundness.{Situation, IsSound, just_called, may_act, holds}
use Rattle.vyrd_memory.proofs.Small.{small_b, small_c}
use Rattle.vyrd_cache.specs.Cells.{state_cell, cached_low, cached_high, stored_low, stored_high}
use Rattle.vyrd_cache.specs.Cells.{lock_of, lock}
use Rattle.vyrd_cache.specs.Procedures.{joined, in_order, procedure_of, put_cached}
use Rattle.vyrd_cache.specs.Procedures.{put_cached_bare, put_stored, forget, only_commit, fetch}
use Rattle.vyrd_cache.specs.Procedures.{answer_cached, write, flush}
use Rattle.vyrd_cache.specs.Procedures.{evict, read}

-- the lock is held in an execution of the method, and whether that has committed and whether a
-- block is open
abbrev holding : ℕ → Method → Bool → Bool → Situation
holding lock method committed in_block =
    record { locks = lock ∷ []; called = Some method; committed = committed; in_block = in_block }

-- no lock is held, in an execution of the method
abbrev unlocked : Method → Bool → Situation
unlocked method committed =
    record { locks = []; called = Some method; committed = committed; in_block = false }

plain_cell : (h : Header) (cell : ℕ) → h.subject ≡ Cache → cell < 5 * h.size
    → is_plain (cells_of h) cell ≡ true
plain_cell h cell is low =
    ap (λ s. nat_lt cell (plain_words_of s h.size)) is ∙ is_below cell (5 * h.size) low

pub lock_cell : (h : Header) (chunk : ℕ) → h.subject ≡ Cache → chunk < h.size
    → is_lock (cells_of h) (lock_of h chunk) ≡ true
lock_cell h chunk is low =
    ap (λ s. nat_le (plain_words_of s h.size) (lock_of h chunk)
    && nat_lt (lock_of h chunk) (plain_words_of s h.size + lock_words_of s h.size)) is
    ∙ both_true _ _ (is_at_most (5 * h.size) (5 * h.size + chunk) (omega arith))
    (is_below (5 * h.size + chunk) (5 * h.size + h.size) (omega arith))

may_store : (h : Header) (s : Situation) (method : Method) (cell value : ℕ) → h.subject ≡ Cache
    → cell < 5 * h.size → value < 2 ^ 63 → s.called ≡ Some method
    → may_act h s (Store cell value) ≡ true
may_store h s method cell value is low small called =
    both_true _ _ (both_true _ _ (plain_cell h cell is low) (is_below value (2 ^ 63) small))
    (rw called)

-- the lock is given back
given : (h : Header) (chunk : ℕ) (method : Method) (committed : Bool) (rest : Script)
    → h.subject ≡ Cache → chunk < h.size
    → IsSound h (unlocked method committed) rest
    → IsSound h (holding (lock_of h chunk) method committed false)
    (step (Give (lock_of h chunk)) (λ answer. rest))
given h chunk method committed rest is low sound = (
  both_true _ _ (lock_cell h chunk is low) held,
  λ answer none.
      subst (λ locks. IsSound h
      (record { locks = locks; called = Some method; committed = committed; in_block = false })
      rest) (sym gone) sound,
)
  where
    held : holds (holding (lock_of h chunk) method committed false) (lock_of h chunk) ≡ true
    held = rw (same_number (lock_of h chunk))

    gone : filter (λ held. not (held == lock_of h chunk)) (lock_of h chunk ∷ []) ≡ []
    gone = rw (same_number (lock_of h chunk))

-- the return, after which the caller is at rest
returned : (h : Header) (method : Method) (committed : Bool) (reply : ℕ)
    → (is_observer method || committed) ≡ true
    → IsSound h (unlocked method committed) (in_order (Mark (Return reply) ∷ []))
returned h method committed reply may = (both_true _ _ may refl, λ answer none. refl)

leave : (h : Header) (chunk : ℕ) (method : Method) (committed : Bool) (reply : ℕ)
    → h.subject ≡ Cache → chunk < h.size
    → (is_observer method || committed) ≡ true
    → IsSound h (holding (lock_of h chunk) method committed false)
    (in_order (Give (lock_of h chunk) ∷ Mark (Return reply) ∷ []))
leave h chunk method committed reply is low may =
    given h chunk method committed (in_order (Mark (Return reply) ∷ [])) is low
    (returned h method committed reply may)

-- a block that stores a pair and a state and commits
pair_block : (h : Header) (chunk : ℕ) (method : Method) (a x b y z : ℕ) → h.subject ≡ Cache
    → chunk < h.size → is_observer method ≡ false → a < 5 * h.size → b < 5 * h.size → x < 2 ^ 63
    → y < 2 ^ 63 → z < 2 ^ 63
    → IsSound h (holding (lock_of h chunk) method false false)
    (in_order (Mark BlockOpen ∷ Store a x ∷ Store b y ∷ Store (state_cell chunk) z
    ∷ Mark BlockCommit ∷ Give (lock_of h chunk) ∷ Mark (Return 1) ∷ []))
pair_block h chunk method a x b y z is low mutates a_low b_low x_small y_small z_small = (
  refl,
  λ _ _. (
    may_store h (holding (lock_of h chunk) method false true) method a x is a_low x_small refl,
    λ _ _. (
      may_store h (holding (lock_of h chunk) method false true) method b y is b_low y_small refl,
      λ _ _. (
        may_store h (holding (lock_of h chunk) method false true) method (state_cell chunk) z is
            (omega arith) z_small refl,
        λ _ _.
            (rw mutates, λ _ _. leave h chunk method true 1 is low (rw mutates)),
      ),
    ),
  ),
)

-- both ways of a choice
either : (h : Header) (s : Situation) (b : Bool) (x y : Script) → IsSound h s x → IsSound h s y
    → IsSound h s (cond b x y)
either h s true x y e f = e
either h s false x y e f = f

-- a load
loaded : (h : Header) (s : Situation) (cell : ℕ) (rest : ℕ → Script) → h.subject ≡ Cache
    → cell < 5 * h.size
    → ((value : ℕ) → value < 2 ^ 63 → IsSound h s (rest value))
    → IsSound h s (step (Load cell) rest)
loaded h s cell rest is low sound = (plain_cell h cell is low, sound)

-- the lock is taken
locked : (h : Header) (chunk : ℕ) (method : Method) (rest : Script) → h.subject ≡ Cache
    → chunk < h.size
    → IsSound h (holding (lock_of h chunk) method false false) rest
    → IsSound h (just_called method) (lock h chunk rest)
locked h chunk method rest is low sound =
    (both_true _ _ (lock_cell h chunk is low) refl, λ _ _. sound)

sound_put_cached : (h : Header) (chunk low high : ℕ) → h.subject ≡ Cache → chunk < h.size
    → low < 2 ^ 32 → high < 2 ^ 32
    → IsSound h (holding (lock_of h chunk) (OfCache Write) false false)
    (put_cached h chunk low high)
sound_put_cached h chunk low high is few x y =
    pair_block h chunk (OfCache Write) (cached_low chunk) low (cached_high chunk) high 2 is few refl
    (omega arith) (omega arith)
    (omega arith) (omega arith) (omega arith)

sound_put_cached_bare : (h : Header) (chunk low high : ℕ) → h.subject ≡ Cache → chunk < h.size
    → low < 2 ^ 32 → high < 2 ^ 32
    → IsSound h (holding (lock_of h chunk) (OfCache Write) false false)
    (put_cached_bare h chunk low high)
sound_put_cached_bare h chunk low high is few x y =
    given h chunk (OfCache Write) false (in_order (Store (cached_low chunk) low
    ∷ Store (cached_high chunk) high ∷ Mark Commit ∷ Mark (Return 1) ∷ [])) is few (
      may_store h (unlocked (OfCache Write) false) (OfCache Write) (cached_low chunk) low is
          (omega arith)
          (omega arith) refl,
      λ _ _. (
        may_store h (unlocked (OfCache Write) false) (OfCache Write) (cached_high chunk) high is
            (omega arith)
            (omega arith) refl,
        λ _ _.
            (refl, λ _ _. returned h (OfCache Write) true 1 refl),
      ),
    )

sound_put_stored : (h : Header) (chunk state : ℕ) (method : Method) → h.subject ≡ Cache
    → chunk < h.size → is_observer method ≡ false → state < 2 ^ 63
    → IsSound h (holding (lock_of h chunk) method false false) (put_stored h chunk state)
sound_put_stored h chunk state method is few mutates small = (
  plain_cell h (cached_low chunk) is (omega arith),
  λ low x. (
    plain_cell h (cached_high chunk) is (omega arith),
    λ high y.
        pair_block h chunk method (stored_low chunk) low (stored_high chunk) high state is few
        mutates (omega arith) (omega arith) x y small,
  ),
)

sound_only_commit : (h : Header) (chunk : ℕ) (method : Method) → h.subject ≡ Cache → chunk < h.size
    → is_observer method ≡ false
    → IsSound h (holding (lock_of h chunk) method false false) (only_commit h chunk)
sound_only_commit h chunk method is few mutates =
    (rw mutates, λ _ _. leave h chunk method true 1 is few (rw mutates))

sound_forget : (h : Header) (chunk : ℕ) → h.subject ≡ Cache → chunk < h.size
    → IsSound h (holding (lock_of h chunk) (OfCache Evict) false false) (forget h chunk)
sound_forget h chunk is few = (
  refl,
  λ _ _. (
    may_store h (holding (lock_of h chunk) (OfCache Evict) false true) (OfCache Evict)
        (state_cell chunk) 0 is
        (omega arith) (omega arith) refl,
    λ _ _.
        (refl, λ _ _. leave h chunk (OfCache Evict) true 1 is few refl),
  ),
)

sound_fetch : (h : Header) (chunk : ℕ) → h.subject ≡ Cache → chunk < h.size
    → IsSound h (holding (lock_of h chunk) (OfCache Read) false false) (fetch h chunk)
sound_fetch h chunk is few = (
  plain_cell h (stored_low chunk) is (omega arith),
  λ low x. (
    plain_cell h (stored_high chunk) is (omega arith),
    λ high y. (
      refl,
      λ _ _. (
        may_store h (holding (lock_of h chunk) (OfCache Read) false true) (OfCache Read)
            (cached_low chunk) low is
            (omega arith) x refl,
        λ _ _. (
          may_store h (holding (lock_of h chunk) (OfCache Read) false true) (OfCache Read)
              (cached_high chunk) high
              is (omega arith) y refl,
          λ _ _. (
            may_store h (holding (lock_of h chunk) (OfCache Read) false true) (OfCache Read)
                (state_cell chunk) 1 is
                (omega arith) (omega arith) refl,
            λ _ _.
                (refl, λ _ _. leave h chunk (OfCache Read) false (joined low high) is few refl),
          ),
        ),
      ),
    ),
  ),
)

sound_answer_cached : (h : Header) (chunk : ℕ) → h.subject ≡ Cache → chunk < h.size
    → IsSound h (holding (lock_of h chunk) (OfCache Read) false false) (answer_cached h chunk)
sound_answer_cached h chunk is few = (
  plain_cell h (cached_low chunk) is (omega arith),
  λ low x. (
    plain_cell h (cached_high chunk) is (omega arith),
    λ high y.
        leave h chunk (OfCache Read) false (joined low high) is few refl,
  ),
)

-- a look at the chunk's state, with the lock held
looked : (h : Header) (chunk : ℕ) (method : Method) (rest : ℕ → Script) → h.subject ≡ Cache
    → chunk < h.size
    → ((state : ℕ) → IsSound h (holding (lock_of h chunk) method false false) (rest state))
    → IsSound h (just_called method) (lock h chunk (step (Load (state_cell chunk)) rest))
looked h chunk method rest is few sound =
    locked h chunk method (step (Load (state_cell chunk)) rest) is few
    (loaded h (holding (lock_of h chunk) method false false) (state_cell chunk) rest is
    (omega arith) (λ state small. sound state))

sound_write : (h : Header) (variant : Variant) (chunk low high : ℕ) → h.subject ≡ Cache
    → chunk < h.size → low < 2 ^ 32 → high < 2 ^ 32
    → IsSound h (just_called (OfCache Write)) (write h variant chunk low high)
sound_write h Correct chunk low high is few x y =
    locked h chunk (OfCache Write) (put_cached h chunk low high) is few
    (sound_put_cached h chunk low high is few x y)
sound_write h Broken chunk low high is few x y = looked h chunk (OfCache Write) _ is few
    (λ state. either h
    _ (state == 2) (put_cached_bare h chunk low high) (put_cached h chunk low high)
    (sound_put_cached_bare h chunk low high is few x y)
    (sound_put_cached h chunk low high is few x y))

sound_flush : (h : Header) (chunk : ℕ) → h.subject ≡ Cache → chunk < h.size
    → IsSound h (just_called (OfCache Flush)) (flush h chunk)
sound_flush h chunk is few =
    looked h chunk (OfCache Flush) _ is few (λ state. either h _ (state == 2) (put_stored h chunk 1)
    (only_commit h chunk) (sound_put_stored h chunk 1 (OfCache Flush) is few refl (omega arith))
    (sound_only_commit h chunk (OfCache Flush) is few refl))

sound_evict : (h : Header) (chunk : ℕ) → h.subject ≡ Cache → chunk < h.size
    → IsSound h (just_called (OfCache Evict)) (evict h chunk)
sound_evict h chunk is few = looked h chunk (OfCache Evict) _ is few
    (λ state. either h _ (state == 2)
    (put_stored h chunk 0) (cond (state == 0) (only_commit h chunk) (forget h chunk))
    (sound_put_stored h chunk 0 (OfCache Evict) is few refl (omega arith))
    (either h _ (state == 0) (only_commit h chunk) (forget h chunk)
    (sound_only_commit h chunk (OfCache Evict) is few refl) (sound_forget h chunk is few)))

sound_read : (h : Header) (chunk : ℕ) → h.subject ≡ Cache → chunk < h.size
    → IsSound h (just_called (OfCache Read)) (read h chunk)
sound_read h chunk is few =
    looked h chunk (OfCache Read) _ is few (λ state. either h _ (state == 0) (fetch h chunk)
    (answer_cached h chunk) (sound_fetch h chunk is few) (sound_answer_cached h chunk is few))

-- the arguments name a chunk
pub chunk_below : (size : ℕ) (method : Method) (args : Args) → subject_of method ≡ Cache
    → are_args size method args ≡ true → args.a < size
chunk_below size method args of_cache fit = by_method method of_cache fit
  where
    lower : (padded : Bool) → (padded && nat_lt args.a size) ≡ true → args.a < size
    lower padded e = let low = second_true padded (nat_lt args.a size) e in grind (arith, nat_tests)

    by_method : (method : Method) → subject_of method ≡ Cache → are_args size method args ≡ true
        → args.a < size
    by_method (OfCache Write) of_cache fit = lower _ fit
    by_method (OfCache Flush) of_cache fit = lower _ fit
    by_method (OfCache Evict) of_cache fit = lower _ fit
    by_method (OfCache Read) of_cache fit = lower _ fit
    by_method (OfMultiset other) of_cache fit = cc
    by_method (OfTree other) of_cache fit = cc
    by_method (OfBuffers other) of_cache fit = cc
    by_method (OwnNever i) of_cache fit = cc
    by_method (OwnAtMostOnce i) of_cache fit = cc
    by_method (OwnOnce i) of_cache fit = cc

pub procedure_sound : (h : Header) (variant : Variant) (method : Method) (args : Args)
    → h.subject ≡ Cache → subject_of method ≡ Cache → are_args h.size method args ≡ true
    → are_small args ≡ true
    → IsSound h (just_called method) (procedure_of h variant method args)
procedure_sound h variant method args is of_cache fit small =
    by_method method of_cache (chunk_below h.size method args of_cache fit)
  where
    by_method : (method : Method) → subject_of method ≡ Cache → args.a < h.size
        → IsSound h (just_called method) (procedure_of h variant method args)
    by_method (OfCache Write) of_cache low =
        sound_write h variant args.a args.b args.c is low (small_b args small) (small_c args small)
    by_method (OfCache Flush) of_cache low = sound_flush h args.a is low
    by_method (OfCache Evict) of_cache low = sound_evict h args.a is low
    by_method (OfCache Read) of_cache low = sound_read h args.a is low
    by_method (OfMultiset other) of_cache low = cc
    by_method (OfTree other) of_cache low = cc
    by_method (OfBuffers other) of_cache low = cc
    by_method (OwnNever i) of_cache low = cc
    by_method (OwnAtMostOnce i) of_cache low = cc
    by_method (OwnOnce i) of_cache low = cc
