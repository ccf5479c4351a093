-- Each procedure of the correct cache does right: all of it happens under the lock of its chunk.
use Rattle.vyrd_every.proofs.Prelude
use Prelude.{◌≡◌, ◌≢◌, ℕ, ◌+◌, ◌*◌, ◌/◌, ◌<◌, ◌≤◌, ◌^◌, Bool, true, false, cond, List, [], ◌∷◌}
use Prelude.{Some, refl, ap, ◌∙◌, sym, arith, ◌==◌, nat_lt, Header, Cache, Method, OwnNever}
use Prelude.{OwnAtMostOnce, OwnOnce, Args, Return, BlockOpen, BlockClose, BlockCommit, Called}
use Prelude.{is_observer, subject_of, Amounts, with_amount, next_state, first_true, second_true}
use Prelude.{Load, Store, Give, Mark, Op, Correct, is_callable, callable_method, Memory, with_cell}
use Prelude.{Script, step, perform, returns, Situation, holds, just_called, Represents, other_cell}
use Prelude.{gone, cache_procedure, chunk_of, with_cached, with_stored, with_state, Locals, Access}
use Prelude.{Rely, Guarantee, DoesRight, IsRight, cache, never, at, holds_first, without_slots}
use Prelude.{load_right, take_right, give_right, returns_right, mutates, lone_commit_right}
use Prelude.{open_right, block_store_right, commit_right, answer_right, writing}
use Rattle.vyrd_base.specs.declared.subject.Method.TheVariants.{Multiset as OfMultiset}
use Rattle.vyrd_base.specs.declared.subject.Method.TheVariants.{Cache as OfCache, Tree as OfTree}
use Rattle.vyrd_base.specs.declared.subject.Method.TheVariants.{Buffers as OfBuffers}
use Rattle.vyrd_base.specs.declared.cache.CacheMethod.TheVariants.{Write, Flush, Evict, Read}
use Rattle.vyrd_base.specs.Cache.{cached_pair, Chunk, is_sound_chunk}
use Rattle.vyrd_memory.specs.Arguments.{are_small}
use Rattle.vyrd_cache.specs.Cells.{state_cell, lock_of, lock}
use Rattle.vyrd_cache.specs.Procedures.{joined, in_order, put_cached, put_stored, forget}
use Rattle.vyrd_cache.specs.Procedures.{only_commit, fetch, answer_cached, write, flush, evict}
use Rattle.vyrd_cache.specs.Procedures.{read, procedure_of}
use Rattle.vyrd_cache.specs.Laws.Sound.{chunk_below}
use Rattle.vyrd_cache.specs.Contents.{shown}
use Rattle.vyrd_cache.specs.Laws.Alone.Changes.{sound_at, shown_at}
use Rattle.vyrd_cache.specs.Laws.Alone.Pairs.{small, dirty_sound, fetched_sound, flushed_sound}
use Rattle.vyrd_cache.specs.Laws.Alone.Pairs.{evicted_sound, forgotten_sound, shown_dirty}
use Rattle.vyrd_cache.specs.Laws.Alone.Pairs.{shown_absent, shown_cached, shown_clean, joined_small}
use Rattle.vyrd_every.proofs.Relies.{rely_more}
use Rattle.vyrd_every.proofs.Acts.{close_right}
use Rattle.vyrd_every.proofs.Caches.Chunks.{chunk_access, chunk_stays, thrice, thrice-other}
use Rattle.vyrd_every.proofs.Caches.Chunks.{after_cached, after_stored, after_state, kept, changed}

-- the chunk's lock is held, and no other
abbrev locked : Header → ℕ → Bool → Bool → Called → Situation
locked h n committed in_block called = at (lock_of h n ∷ []) committed in_block called

has_lock : (h : Header) (n : ℕ) (committed in_block : Bool) (called : Called)
    → holds (locked h n committed in_block called) (lock_of h n) ≡ true
has_lock h n committed in_block called = holds_first (lock_of h n) [] committed in_block called

access_in : (h : Header) (n cell : ℕ) (committed in_block : Bool) (called : Called) → n < h.size
    → 5 * n ≤ cell → cell < 5 * n + 5
    → Access (cache h) (locked h n committed in_block called) cell
access_in h n cell committed in_block called low from to = search (chunk_access, has_lock, arith)

stays_in : (h : Header) (n : ℕ) (committed in_block : Bool) (called : Called) (k : Locals)
    (before now : Memory) → n < h.size
    → Rely (cache h) (locked h n committed in_block called) k before now → chunk_of now n
    ≡ chunk_of before n
stays_in h n committed in_block called k before now low rely = grind (arith, chunk_stays, has_lock)

-- a load of a word of the chunk finds what it has afterwards too
look_right : (h : Header) (n cell : ℕ) (called : Called) (k : Locals) (before : Memory)
    (rest : ℕ → Script) → n < h.size → 5 * n ≤ cell → cell < 5 * n + 5
    → ((now : Memory) → chunk_of now n ≡ chunk_of before n
    → DoesRight (cache h) (locked h n false false called) k now (rest (now cell)))
    → DoesRight (cache h) (locked h n false false called) k before (step (Load cell) rest)
look_right h n cell called k before rest low from to later =
    load_right _ _ k _ _ rest (access_in h n _ _ _ called low from to) refl
    (λ now rely. rw (← rely.held cell (access_in h n cell false false called low from to))
    (later now (stays_in h n false false called k before now low rely)))

-- both halves of a pair are loaded
look_twice : (h : Header) (n a b : ℕ) (called : Called) (k : Locals) (before : Memory)
    (rest : ℕ → ℕ → Script) → n < h.size
    → 5 * n ≤ a → a < 5 * n + 5 → 5 * n ≤ b → b < 5 * n + 5
    → ((now : Memory) → chunk_of now n ≡ chunk_of before n
    → DoesRight (cache h) (locked h n false false called) k now (rest (now a) (now b)))
    → DoesRight (cache h) (locked h n false false called) k before
    (step (Load a) (λ low. step (Load b) (λ high. rest low high)))
look_twice h n a b called k before rest low from_a to_a from_b to_b later =
    load_right (cache h) (locked h n false false called) k before a
    (λ x. step (Load b) (λ y. rest x y)) (access_in h n a false false called low from_a to_a) refl
    (λ mid first.
    load_right (cache h) (locked h n false false called) k mid b (λ y. rest (before a) y)
    (access_in h n b false false called low from_b to_b) refl
    (λ now second.
    let both : Rely (cache h) (locked h n false false called) k before now = rely_more (cache h)
    (locked h n false false called) k before mid now first second in
    rw (← both.held a (access_in h n a false false called low from_a to_a))
    (rw (← second.held b (access_in h n b false false called low from_b to_b))
    (later now (stays_in h n false false called k before now low both)))))

-- the lock is taken
enter_right : (h : Header) (n : ℕ) (called : Called) (k : Locals) (before : Memory) (rest : Script)
    → ((now : Memory) → DoesRight (cache h) (locked h n false false called) k now rest)
    → DoesRight (cache h) (at [] false false called) k before (lock h n rest)
enter_right h n called k before rest later =
    take_right _ _ k _ _ _ (λ held e. cc) (λ now rely. later _)

-- the lock is given back after the commit
leave_right : (h : Header) (n : ℕ) (called : Called) (k : Locals) (now : Memory)
    → ((i : ℕ) → k.owned i ≡ false) → k.called ≡ Some called
    → is_observer called.method ≡ false
    → DoesRight (cache h) (locked h n true false called) k now
    (in_order (Give (lock_of h n) ∷ Mark (Return 1) ∷ []))
leave_right h n called k now none is mutator = give_right _ _ k _ _ _ refl
    (λ last rely. rw (gone (lock_of h n) [])
    (returns_right (cache h) k last true called 1 none (mutates k called 1 is mutator)))

-- stores into a chunk leave other chunks alone
leaves_alone : (h : Header) (n a x b y z : ℕ) (called : Called) (k : Locals) (memory : Memory)
    → n < h.size → 5 * n ≤ a → a < 5 * n + 5 → 5 * n ≤ b → b < 5 * n + 5
    → Guarantee (cache h) (locked h n false true called) k memory (thrice memory a x b y (5 * n) z)
leaves_alone h n a x b y z called k memory low from_a to_a from_b to_b = record {
  others = λ cell below free. thrice-other memory a x b y (5 * n) z cell
      (outside cell (5 * n) free
      (access_in h n (5 * n) false true called low (omega arith) (omega arith)))
      (outside cell b free (access_in h n b false true called low from_b to_b))
      (outside cell a free (access_in h n a false true called low from_a to_a));
  reserved = λ slot one other. tt;
}
  where
    outside : (cell word : ℕ) → holds (locked h n false true called) (lock_of h (cell / 5)) ≡ false
        → Access (cache h) (locked h n false true called) word → cell ≢ word
    outside cell word free access = search (never, free, locked, lock_of, arith)

-- a block that stores a pair and a state, up to its end
stored_right : (h : Header) (n a x b y z : ℕ) (called : Called) (k : Locals) (before : Memory)
    (later : Script) → n < h.size
    → 5 * n ≤ a → a < 5 * n + 5 → 5 * n ≤ b → b < 5 * n + 5
    → ((now : Memory) → chunk_of now n ≡ chunk_of before n
    → DoesRight (cache h) (locked h n false true called)
    (writing k ((5 * n, z) ∷ (b, y) ∷ (a, x) ∷ [])) now later)
    → DoesRight (cache h) (locked h n false false called) k before
    (perform (Mark BlockOpen)
    (perform (Store a x) (perform (Store b y) (perform (Store (5 * n) z) later))))
stored_right h n a x b y z called k before later low from_a to_a from_b to_b rest =
    open_right _ _ k _ called _
    (λ m0 r0. block_store_right _ _ _ _ called a x _ (access_in h n a _ _ called low from_a to_a)
    (λ m1 r1. block_store_right _ _ _ _ called b y _ (access_in h n b _ _ called low from_b to_b)
    (λ m2 r2. block_store_right _ _ _ _ called _ z _
    (access_in h n (5 * n) false true called low (omega arith) (omega arith))
    (λ m3 r3. rest m3
    (stays_in h n false true called (writing k ((5 * n, z) ∷ (b, y) ∷ (a, x) ∷ [])) m2 m3 low r3
    ∙ stays_in h n false true called (writing k ((b, y) ∷ (a, x) ∷ [])) m1 m2 low r2
    ∙ stays_in h n false true called (writing k ((a, x) ∷ [])) m0 m1 low r1
    ∙ stays_in h n false true called (writing k []) before m0 low r0)))))

-- what a commit with reply 1 has to lead to
abbrev LeadsTo : Header → Called → Memory → Memory → Type 0
LeadsTo h called now after = (before : Amounts) → Represents h now before
    → (next : Amounts) × (next_state called.method called.args 1 before ≡ Some next)
    × Represents h after next

-- such a block that commits, and the return
committed_right : (h : Header) (n a x b y z : ℕ) (called : Called) (k : Locals) (before : Memory)
    → n < h.size
    → 5 * n ≤ a → a < 5 * n + 5 → 5 * n ≤ b → b < 5 * n + 5 → k.called ≡ Some called
    → is_observer called.method ≡ false
    → ((now : Memory) → chunk_of now n ≡ chunk_of before n
    → LeadsTo h called now (thrice now a x b y (5 * n) z))
    → DoesRight (cache h) (locked h n false false called) k before
    (in_order (Mark BlockOpen ∷ Store a x ∷ Store b y ∷ Store (5 * n) z ∷ Mark BlockCommit
    ∷ Give (lock_of h n) ∷ Mark (Return 1) ∷ []))
committed_right h n a x b y z called k before low from_a to_a from_b to_b is mutator leads =
    stored_right h n a x b y z called k _ _ low from_a to_a from_b to_b
    (λ now same. commit_right _ _ _ _ called _
    (leaves_alone h n a x b y z called _ _ low from_a to_a from_b to_b) (λ state s.
    let end = leads _ same _ s in
    record {
      called = called;
      is_called = is;
      reply = 1;
      returns = λ answer is'. refl;
      next = end.0;
      allowed = end.1;
      means = end.2;
    }) (λ last rely. leave_right h n called _ _ (λ i. refl) is mutator))

-- a write
write_right : (h : Header) (k : Locals) (before : Memory) (args : Args) → h.subject ≡ Cache
    → args.a < h.size → are_small args ≡ true
    → k.called ≡ Some (record { method = OfCache Write; args = args })
    → DoesRight (cache h) (at [] false false (record { method = OfCache Write; args = args })) k
    before (write h Correct args.a args.b args.c)
write_right h k before args is low few called_is =
    enter_right h args.a called k before (put_cached h args.a args.b args.c)
    (λ now. committed_right h args.a (5 * args.a + 1) args.b (5 * args.a + 2) args.c 2 called k now
    low
    (omega arith) (omega arith) (omega arith) (omega arith) called_is refl
    (λ then_ same state s. (
      with_amount state args.a (args.c * 2 ^ 32 + args.b),
      refl,
      changed h then_ (thrice then_ (5 * args.a + 1) args.b (5 * args.a + 2) args.c (5 * args.a) 2)
          state args.a
          (with_cached 2 args.b args.c (chunk_of then_ args.a)) is s low
          (λ cell e0 e1 e2 e3 e4 lock. thrice-other then_ (5 * args.a + 1) args.b
          (5 * args.a + 2) args.c (5 * args.a) 2 cell e0 e2 e1)
          (thrice-other then_ (5 * args.a + 1) args.b (5 * args.a + 2) args.c (5 * args.a) 2
          (lock_of h args.a)
          (λ e. omega (arith, e, low)) (λ e. omega (arith, e, low)) (λ e. omega (arith, e, low)))
          (after_cached then_ args.a 2 args.b args.c)
          (dirty_sound (chunk_of then_ args.a) args.b args.c
          (sound_at h then_ state args.a is s low) b_small c_small),
    )))
  where
    called : Called
    called = record { method = OfCache Write; args = args }

    b_small : nat_lt args.b (2 ^ 32) ≡ true
    b_small = second_true (nat_lt args.a (2 ^ 32)) _ (first_true _ (nat_lt args.c (2 ^ 32)) few)

    c_small : nat_lt args.c (2 ^ 32) ≡ true
    c_small = second_true _ (nat_lt args.c (2 ^ 32)) few

-- nothing is changed
only_commit_right : (h : Header) (n : ℕ) (called : Called) (k : Locals) (now : Memory)
    → ((i : ℕ) → k.owned i ≡ false) → k.called ≡ Some called
    → is_observer called.method ≡ false
    → ((state : Amounts) → next_state called.method called.args 1 state ≡ Some state)
    → DoesRight (cache h) (locked h n false false called) k now (only_commit h n)
only_commit_right h n called k now none is mutator same = lone_commit_right _ _ k _ called _
    (λ state s. record {
      called = called;
      is_called = is;
      reply = 1;
      returns = λ answer is'. refl;
      next = state;
      allowed = same _;
      means = s;
    }) (λ last rely. leave_right h n called k _ none is mutator)

-- a dirty chunk's pair is put into the store, and the chunk shows the same pair after it
put_stored_right : (h : Header) (n left : ℕ) (called : Called) (k : Locals) (before : Memory)
    → h.subject ≡ Cache → n < h.size → k.called ≡ Some called
    → is_observer called.method ≡ false
    → ((state : Amounts) → next_state called.method called.args 1 state ≡ Some state)
    → (before (5 * n) == 2) ≡ true
    → ((c : Chunk) → is_sound_chunk c ≡ true
    → is_sound_chunk (with_stored left c.cached_lo c.cached_hi c) ≡ true)
    → ((c : Chunk) → shown (with_stored left c.cached_lo c.cached_hi c) ≡ cached_pair c)
    → DoesRight (cache h) (locked h n false false called) k before (put_stored h n left)
put_stored_right h n left called k before is low called_is mutator stays dirty sound shows =
    look_twice h n _ _ called k _
    (λ x y. in_order (Mark BlockOpen ∷ Store (5 * n + 3) x ∷ Store (5 * n + 4) y
    ∷ Store (5 * n) left ∷ Mark BlockCommit ∷ Give (lock_of h n) ∷ Mark (Return 1)
    ∷ [])) low (omega arith) (omega arith) (omega arith) (omega arith)
    (λ now same. committed_right h n (5 * n + 3) (now (5 * n + 1)) (5 * n + 4)
    (now (5 * n + 2)) left called k now low (omega arith) (omega arith) (omega arith)
    (omega arith) called_is mutator
    (λ then_ same' state s. (
      state,
      stays _,
      kept h _ _ _ n (with_stored _ _ _ (chunk_of now n)) is s low
          (λ cell e0 e1 e2 e3 e4 lock. thrice-other then_ (5 * n + 3) (now (5 * n + 1)) (5 * n + 4)
          (now (5 * n + 2)) (5 * n) left cell e0 e4 e3)
          (thrice-other then_ (5 * n + 3) (now (5 * n + 1)) (5 * n + 4) (now (5 * n + 2))
          (5 * n) left (lock_of h n) (λ e. omega (arith, e, low)) (λ e. omega (arith, e, low))
          (λ e. omega (arith, e, low))) (after_stored then_ n _ _ _ ∙ ap (with_stored _ _ _) same')
          (sound (chunk_of now n)
          (ap is_sound_chunk (sym same') ∙ sound_at h then_ state n is s low))
          (shows (chunk_of now n) ∙ sym (shown_dirty _ (cc)) ∙ ap shown (sym same')),
    )))

-- the chunk, which is clean, is forgotten
forget_right : (h : Header) (n : ℕ) (called : Called) (k : Locals) (before : Memory) → h.subject
    ≡ Cache → n < h.size → k.called ≡ Some called
    → is_observer called.method ≡ false
    → ((state : Amounts) → next_state called.method called.args 1 state ≡ Some state)
    → (before (5 * n) == 2) ≡ false → (before (5 * n) == 0) ≡ false
    → DoesRight (cache h) (locked h n false false called) k before (forget h n)
forget_right h n called k before is low called_is mutator stays other there =
    open_right _ _ k _ called _
    (λ m0 r0. block_store_right _ _ _ _ called _ 0 _
    (access_in h n _ _ _ called low (omega arith) (omega arith)) (λ m1 r1.
    let same : chunk_of m1 n ≡ chunk_of before n = stays_in h n false true called
    (writing k _) m0 m1 low r1 ∙ stays_in h n false true called (writing k []) before m0 low r0 in
    commit_right _ _ _ _ called _ (guarantee m1)
    (λ state s. record {
      called = called;
      is_called = called_is;
      reply = 1;
      returns = λ answer is'. refl;
      next = state;
      allowed = stays _;
      means = kept h _ _ _ n (with_state 0 (chunk_of m1 n)) is s low
          (λ cell e0 e1 e2 e3 e4 lock. other_cell m1 (5 * n) 0 cell e0)
          (other_cell m1 (5 * n) 0 (lock_of h n) (λ e. omega (arith, e, low))) (after_state m1 n 0)
          (forgotten_sound (chunk_of m1 n) (sound_at h m1 state n is s low))
          (sym (shown_clean (chunk_of m1 n) (sound_at h m1 state n is s low) (cc) (cc)));
    }) (λ last rely. leave_right h n called _ _ (λ i. refl) called_is mutator)))
  where
    guarantee : (memory : Memory) → Guarantee (cache h) (locked h n false true called)
        (writing k ((5 * n, 0) ∷ [])) memory (with_cell memory (5 * n) 0)
    guarantee memory = grind arith

-- a flush
flush_right : (h : Header) (k : Locals) (before : Memory) (args : Args) → h.subject ≡ Cache
    → args.a < h.size → ((i : ℕ) → k.owned i ≡ false)
    → k.called ≡ Some (record { method = OfCache Flush; args = args })
    → DoesRight (cache h) (at [] false false (record { method = OfCache Flush; args = args })) k
    before (flush h args.a)
flush_right h k before args is low none called_is = enter_right h _ called k _ _
    (λ m0. look_right h _ _ called k _
    (λ n. cond (n == 2) (put_stored h args.a 1) (only_commit h args.a)) low (omega arith)
    (omega arith) (λ now same. by_state now (now _ == 2) refl))
  where
    called : Called
    called = record { method = OfCache Flush; args = args }

    by_state : (now : Memory) (b : Bool) → (now (5 * args.a) == 2) ≡ b
        → DoesRight (cache h) (locked h args.a false false called) k now
        (cond b (put_stored h args.a 1) (only_commit h args.a))
    by_state now true dirty = search (put_stored_right, called_is, flushed_sound, arith)
    by_state now false other = search (only_commit_right, called_is, arith)

-- an evict
evict_right : (h : Header) (k : Locals) (before : Memory) (args : Args) → h.subject ≡ Cache
    → args.a < h.size → ((i : ℕ) → k.owned i ≡ false)
    → k.called ≡ Some (record { method = OfCache Evict; args = args })
    → DoesRight (cache h) (at [] false false (record { method = OfCache Evict; args = args })) k
    before (evict h args.a)
evict_right h k before args is low none called_is = enter_right h _ called k _ _
    (λ m0. look_right h _ _ called k _ rest low (omega arith) (omega arith)
    (λ now same. by_state now (now _ == 2) refl (now _ == 0) refl))
  where
    called : Called
    called = record { method = OfCache Evict; args = args }

    rest : ℕ → Script
    rest n = cond (n == 2) (put_stored h args.a 0)
        (cond (n == 0) (only_commit h args.a) (forget h args.a))

    by_state : (now : Memory) (b : Bool) → (now (5 * args.a) == 2) ≡ b → (c : Bool)
        → (now (5 * args.a) == 0) ≡ c
        → DoesRight (cache h) (locked h args.a false false called) k now
        (cond b (put_stored h args.a 0) (cond c (only_commit h args.a) (forget h args.a)))
    by_state now true dirty c e = search (put_stored_right, called_is, evicted_sound, arith)
    by_state now false other true absent = search (only_commit_right, called_is, arith)
    by_state now false other false there = search (forget_right, called_is, there, arith)

-- a read has its answer when it gives its lock back
answer_cached_right : (h : Header) (k : Locals) (before : Memory) (args : Args) → h.subject ≡ Cache
    → args.a < h.size → ((i : ℕ) → k.owned i ≡ false)
    → k.called ≡ Some (record { method = OfCache Read; args = args }) → (before (5 * args.a) == 0)
    ≡ false
    → DoesRight (cache h)
    (locked h args.a false false (record { method = OfCache Read; args = args })) k before
    (answer_cached h args.a)
answer_cached_right h k before args is low none called_is there = look_twice h n _ _ called k _
    (λ x y. in_order (Give (lock_of h n) ∷ Mark (Return (joined x y)) ∷ [])) low (omega arith)
    (omega arith) (omega arith) (omega arith)
    (λ now same. answer_right (cache h) k now (lock_of h n) called (joined _ _) none called_is
    (λ state s.
    let few = small (chunk_of now n) (sound_at h now state n is s low) in
    shown_at h _ _ n is s low ∙ shown_cached _ (cc)
    ∙ sym (joined_small _ _ few.cached_lo few.cached_hi)))
  where
    n : ℕ
    n = args.a

    called : Called
    called = record { method = OfCache Read; args = args }

-- an absent chunk is fetched first, which changes nothing that it shows
fetch_right : (h : Header) (k : Locals) (before : Memory) (args : Args) → h.subject ≡ Cache
    → args.a < h.size → ((i : ℕ) → k.owned i ≡ false)
    → k.called ≡ Some (record { method = OfCache Read; args = args }) → (before (5 * args.a) == 0)
    ≡ true
    → DoesRight (cache h)
    (locked h args.a false false (record { method = OfCache Read; args = args })) k before
    (fetch h args.a)
fetch_right h k before args is low none called_is absent =
    look_twice h n (5 * n + 3) (5 * n + 4) called k before
    (λ x y. in_order (Mark BlockOpen ∷ Store (5 * n + 1) x ∷ Store (5 * n + 2) y ∷ Store (5 * n) 1
    ∷ Mark BlockClose
    ∷ Give (lock_of h n) ∷ Mark (Return (joined x y)) ∷ []))
    low (omega arith) (omega arith) (omega arith) (omega arith)
    (λ now same. filled now (ap (λ c. c.state == 0) same ∙ absent))
  where
    n : ℕ
    n = args.a

    called : Called
    called = record { method = OfCache Read; args = args }

    filled : (now : Memory) → (now (5 * n) == 0) ≡ true
        → DoesRight (cache h) (locked h n false false called) k now
        (in_order (Mark BlockOpen ∷ Store (5 * n + 1) (now (5 * n + 3)) ∷ Store (5 * n + 2)
        (now (5 * n + 4)) ∷ Store (5 * n) 1 ∷ Mark BlockClose
        ∷ Give (lock_of h n) ∷ Mark (Return (joined (now (5 * n + 3)) (now (5 * n + 4)))) ∷ []))
    filled now none' =
        stored_right h n (5 * n + 1) x (5 * n + 2) y 1 called k now
        (in_order (Mark BlockClose ∷ Give (lock_of h n) ∷ Mark (Return (joined x y)) ∷ [])) low
        (omega arith) (omega arith) (omega arith) (omega arith)
        (λ then_ same.
        close_right (cache h) (lock_of h n ∷ []) (writing k pending) then_ called
        (in_order (Give (lock_of h n) ∷ Mark (Return (joined x y)) ∷ []))
        (leaves_alone h n (5 * n + 1) x (5 * n + 2) y 1 called (writing k pending) then_ low
        (omega arith) (omega arith) (omega arith) (omega arith))
        (λ state s. kept h then_ (thrice then_ (5 * n + 1) x (5 * n + 2) y (5 * n) 1) state n
        (with_cached 1 x y (chunk_of now n)) is s low
        (λ cell e0 e1 e2 e3 e4 lock. thrice-other then_ (5 * n + 1) x (5 * n + 2) y
        (5 * n) 1 cell e0 e2 e1)
        (thrice-other then_ (5 * n + 1) x (5 * n + 2) y (5 * n) 1 (lock_of h n)
        (λ e. omega (arith, e, low)) (λ e. omega (arith, e, low)) (λ e. omega (arith, e, low)))
        (chunk_is then_ same)
        (fetched_sound (chunk_of now n)
        (ap is_sound_chunk (sym same) ∙ sound_at h then_ state n is s low))
        (sym (shown_absent (chunk_of now n) none') ∙ ap shown (sym same)))
        (λ last rely.
        answer_right (cache h) (without_slots (writing k pending) pending) last (lock_of h n) called
        (joined x y) (λ i. refl) called_is
        (λ state s.
        let e : chunk_of last n ≡ with_cached 1 x y (chunk_of now n) =
        stays_in h n false false called (without_slots (writing k pending) pending)
        (thrice then_ (5 * n + 1) x (5 * n + 2) y (5 * n) 1) last low rely
        ∙ chunk_is then_ same in
        let few = small (with_cached 1 x y (chunk_of now n))
        (ap is_sound_chunk (sym e) ∙ sound_at h last state n is s low) in
        shown_at h last state n is s low ∙ ap shown e
        ∙ sym (joined_small x y few.cached_lo few.cached_hi))))
      where
        x : ℕ
        x = now (5 * n + 3)

        y : ℕ
        y = now (5 * n + 4)

        pending : List (ℕ × ℕ)
        pending = (5 * n, 1) ∷ (5 * n + 2, y) ∷ (5 * n + 1, x) ∷ []

        chunk_is : (then_ : Memory) → chunk_of then_ n ≡ chunk_of now n
            → chunk_of (thrice then_ (5 * n + 1) x (5 * n + 2) y (5 * n) 1) n ≡ with_cached 1 x y
            (chunk_of now n)
        chunk_is then_ same = after_cached then_ n 1 x y ∙ ap (with_cached 1 x y) same

read_right : (h : Header) (k : Locals) (before : Memory) (args : Args) → h.subject ≡ Cache
    → args.a < h.size → ((i : ℕ) → k.owned i ≡ false)
    → k.called ≡ Some (record { method = OfCache Read; args = args })
    → DoesRight (cache h) (at [] false false (record { method = OfCache Read; args = args })) k
    before (read h args.a)
read_right h k before args is low none called_is =
    enter_right h args.a called k before
    (step (Load (state_cell args.a)) (λ n. cond (n == 0) (fetch h args.a) (answer_cached h args.a)))
    (λ m0. look_right h args.a (5 * args.a) called k m0
    (λ n. cond (n == 0) (fetch h args.a) (answer_cached h args.a)) low (omega arith) (omega arith)
    (λ now same. by_state now (now (5 * args.a) == 0) refl))
  where
    called : Called
    called = record { method = OfCache Read; args = args }

    by_state : (now : Memory) (b : Bool) → (now (5 * args.a) == 0) ≡ b
        → DoesRight (cache h) (locked h args.a false false called) k now
        (cond b (fetch h args.a) (answer_cached h args.a))
    by_state now true absent = fetch_right h k now args is low none called_is absent
    by_state now false there = answer_cached_right h k now args is low none called_is there

-- the procedure of each operation
procedure_right : (h : Header) (k : Locals) (before : Memory) (method : Method) (args : Args)
    → h.subject ≡ Cache → subject_of method ≡ Cache
    → args.a < h.size → are_small args ≡ true → ((i : ℕ) → k.owned i ≡ false)
    → k.called ≡ Some (record { method = method; args = args })
    → DoesRight (cache h) (just_called method) k before (procedure_of h Correct method args)
procedure_right h k before (OfCache Write) args is of low few none called_is =
    write_right h k before args is low few called_is
procedure_right h k before (OfCache Flush) args is of low few none called_is =
    flush_right h k before args is low none called_is
procedure_right h k before (OfCache Evict) args is of low few none called_is =
    evict_right h k before args is low none called_is
procedure_right h k before (OfCache Read) args is of low few none called_is =
    read_right h k before args is low none called_is
procedure_right h k before (OfMultiset other) args is of low few none called_is = cc
procedure_right h k before (OfTree other) args is of low few none called_is = cc
procedure_right h k before (OfBuffers other) args is of low few none called_is = cc
procedure_right h k before (OwnNever i) args is of low few none called_is = cc
procedure_right h k before (OwnAtMostOnce i) args is of low few none called_is = cc
procedure_right h k before (OwnOnce i) args is of low few none called_is = cc

-- so each operation that may be called does right
pub cache_right : (h : Header) (op : Op) → h.subject ≡ Cache → is_callable h op ≡ true
    → IsRight (cache h) (cache_procedure h Correct) op
cache_right h op is callable =
    grind (arith, callable, procedure_right, chunk_below, second_true, first_true, callable_method)
