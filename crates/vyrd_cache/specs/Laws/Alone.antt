-- Proofs of laws that an impl in src/ names: no contract says what is defined here.
-- Each correct procedure of a cache, played alone, does what the specification says.
pub mod Changes
pub mod Stores
pub mod Pairs
use Rattle.std.proofs.Common.{◌≡◌, ℕ, ◌+◌, ◌*◌, ◌<◌, ◌^◌, Bool, true, false, cond, Some}
use Rattle.std.proofs.Common.{None, refl, ap, ◌∙◌, sym, subst, arith}
use Rattle.std.specs.Prelude.{◌==◌, nat_lt}
use Rattle.vyrd_base.specs.declared.header.Header.{Header}
use Rattle.vyrd_base.specs.declared.subject.Subject.TheVariants.{Cache}
use Rattle.vyrd_base.specs.declared.subject.Method.{Method}
use Rattle.vyrd_base.specs.declared.subject.Method.TheVariants.{Multiset as OfMultiset}
use Rattle.vyrd_base.specs.declared.subject.Method.TheVariants.{Cache as OfCache, Tree as OfTree}
use Rattle.vyrd_base.specs.declared.subject.Method.TheVariants.{Buffers as OfBuffers}
use Rattle.vyrd_base.specs.declared.subject.Method.TheVariants.{OwnNever, OwnAtMostOnce, OwnOnce}
use Rattle.vyrd_base.specs.declared.cache.CacheMethod.TheVariants.{Write, Flush, Evict, Read}
use Rattle.vyrd_base.specs.declared.subject.Args.{Args}
use Rattle.vyrd_base.specs.Subjects.{subject_of, is_observer, are_args}
use Rattle.vyrd_base.specs.Layout.{plain_words, lock_words, plain_words_of, lock_words_of}
use Rattle.vyrd_base.specs.Amounts.{Amounts, amount_of, with_amount}
use Rattle.vyrd_base.specs.Cache.{Chunk, cached_pair}
use Rattle.vyrd_base.specs.Cache.{is_sound_chunk}
use Rattle.vyrd_base.proofs.TestLaws.{first_true, second_true, same_number}
use Rattle.vyrd_memory.specs.declared.act.Act.TheVariants.{Load}
use Rattle.vyrd_memory.specs.declared.op.Op.{Op}
use Rattle.vyrd_memory.specs.declared.op.Variant.TheVariants.{Correct}
use Rattle.vyrd_memory.specs.Arguments.{are_small}
use Rattle.vyrd_memory.specs.Scripts.{Script, step}
use Rattle.vyrd_memory.specs.Alone.{Memory, with_cell, alone, state_after, MeetsSpecification}
use Rattle.vyrd_memory.specs.Alone.{IsRightAlone}
use Rattle.vyrd_memory.proofs.Memories.{Represents, represents, changed_cell}
use Rattle.vyrd_memory.proofs.AloneLaws.{met}
use Rattle.vyrd_cache.specs.Cells.{state_cell, lock_of, lock}
use Rattle.vyrd_cache.specs.Procedures.{joined, procedure_of, put_cached, put_stored, forget}
use Rattle.vyrd_cache.specs.Procedures.{only_commit, fetch, answer_cached}
use Rattle.vyrd_cache.specs.Procedures.{write, flush, evict, read}
use Rattle.vyrd_cache.specs.Laws.Sound.{chunk_below}
use Rattle.vyrd_cache.specs.Contents.{chunk_of, shown}
use Rattle.vyrd_cache.specs.Laws.Alone.Changes.{sound_at, shown_at, Leaves, changed_chunk}
use Rattle.vyrd_cache.specs.Laws.Alone.Changes.{kept_chunk}
use Rattle.vyrd_cache.specs.Laws.Alone.Stores.{held, stored, only_state, untouched, held_load}
use Rattle.vyrd_cache.specs.Laws.Alone.Stores.{stored-lock, with_cached, with_stored, with_state}
use Rattle.vyrd_cache.specs.Laws.Alone.Stores.{after_cached}
use Rattle.vyrd_cache.specs.Laws.Alone.Stores.{leaves_cached, after_stored, leaves_stored}
use Rattle.vyrd_cache.specs.Laws.Alone.Stores.{only_state-other, after_state, untouched-other}
use Rattle.vyrd_cache.specs.Laws.Alone.Stores.{after_none}
use Rattle.vyrd_cache.specs.Laws.Alone.Pairs.{small, dirty_sound, fetched_sound, flushed_sound}
use Rattle.vyrd_cache.specs.Laws.Alone.Pairs.{evicted_sound, forgotten_sound, shown_dirty}
use Rattle.vyrd_cache.specs.Laws.Alone.Pairs.{shown_absent, shown_cached}
use Rattle.vyrd_cache.specs.Laws.Alone.Pairs.{shown_clean, joined_small}

-- the memory represents a state where its chunk k is known
kept : (h : Header) (old new : Memory) (state : Amounts) (k : ℕ) (chunk : Chunk) → h.subject ≡ Cache
    → Represents h old state → k < h.size → Leaves old new k (lock_of h k) → new (lock_of h k) ≡ 0
    → chunk_of new k ≡ chunk → is_sound_chunk chunk ≡ true → shown chunk ≡ shown (chunk_of old k)
    → Represents h new state
kept h old new state k chunk is s low leaves free e sound same =
    kept_chunk h old new state k is s low leaves free (ap is_sound_chunk e ∙ sound)
    (ap shown e ∙ same)

changed : (h : Header) (old new : Memory) (state : Amounts) (k : ℕ) (chunk : Chunk)
    → h.subject ≡ Cache → Represents h old state → k < h.size → Leaves old new k (lock_of h k)
    → new (lock_of h k) ≡ 0 → chunk_of new k ≡ chunk → is_sound_chunk chunk ≡ true
    → Represents h new (with_amount state k (shown chunk))
changed h old new state k chunk is s low leaves free e sound =
    subst (λ d. Represents h new (with_amount state k (shown d))) e
    (changed_chunk h old new state k is s low leaves free (ap is_sound_chunk e ∙ sound))

-- the lock is free at the beginning
pub free_lock : (h : Header) (memory : Memory) (state : Amounts) (k : ℕ) → h.subject ≡ Cache
    → Represents h memory state → k < h.size
    → memory (lock_of h k) ≡ 0
free_lock h memory state k is s low =
    let plain : plain_words h ≡ 5 * h.size = ap (λ t. plain_words_of t h.size) is in
    let locks : lock_words h ≡ h.size = ap (λ t. lock_words_of t h.size) is in
    s.free (lock_of h k) (omega arith) (omega arith)

-- the lock is taken
run_lock : (h : Header) (c k : ℕ) (memory : Memory) (rest : Script) → memory (lock_of h k) ≡ 0
    → alone c (lock h k rest) memory ≡ alone c rest (held c (lock_of h k) memory)
run_lock h c k memory rest free =
    ap (λ n. cond (n == 0) (alone c rest (held c (lock_of h k) memory)) None) free

-- and the chunk's state is loaded
run_look : (h : Header) (c k : ℕ) (memory : Memory) (rest : ℕ → Script) → k < h.size
    → memory (lock_of h k) ≡ 0
    → alone c (lock h k (step (Load (state_cell k)) rest)) memory
    ≡ alone c (rest (memory (5 * k))) (held c (lock_of h k) memory)
run_look h c k memory rest low free =
    run_lock h c k memory (step (Load (state_cell k)) rest) free
    ∙ ap (λ n. alone c (rest n) (held c (lock_of h k) memory))
    (held_load c (lock_of h k) memory (5 * k) (omega arith))

-- a write
write_alone : (h : Header) (args : Args) → h.subject ≡ Cache → args.a < h.size
    → are_small args ≡ true
    → IsRightAlone h (record { method = OfCache Write; args = args })
    (write h Correct args.a args.b args.c)
write_alone h args is low few c memory state e =
    met h (record { method = OfCache Write; args = args })
    (write h Correct args.a args.b args.c) c memory new state
    (with_amount state args.a (args.c * 2 ^ 32 + args.b)) 1
    (run_lock h c args.a memory (put_cached h args.a args.b args.c) free) after refl
  where
    s : Represents h memory state
    s = represents h memory state e

    free : memory (lock_of h args.a) ≡ 0
    free = free_lock h memory state args.a is s low

    new : Memory
    new = stored c (lock_of h args.a) memory (5 * args.a + 1) args.b (5 * args.a + 2) args.c
        (5 * args.a) 2

    after : Represents h new (with_amount state args.a (args.c * 2 ^ 32 + args.b))
    after = changed h memory new state args.a (with_cached 2 args.b args.c (chunk_of memory args.a))
        is s low
        (leaves_cached h.size c args.a memory 2 args.b args.c)
        (stored-lock c (lock_of h args.a) memory (5 * args.a + 1) args.b (5 * args.a + 2) args.c
        (5 * args.a) 2)
        (after_cached h.size c args.a memory 2 args.b args.c low)
        (dirty_sound (chunk_of memory args.a) args.b args.c
        (sound_at h memory state args.a is s low) b_small c_small)
      where
        b_small : nat_lt args.b (2 ^ 32) ≡ true
        b_small = second_true (nat_lt args.a (2 ^ 32)) _ (first_true _ (nat_lt args.c (2 ^ 32)) few)

        c_small : nat_lt args.c (2 ^ 32) ≡ true
        c_small = second_true _ (nat_lt args.c (2 ^ 32)) few

-- a call that leaves all as it is
only_commit_alone : (h : Header) (op : Op) (script : Script) (c k : ℕ) (memory : Memory)
    (state : Amounts)
    → h.subject ≡ Cache → Represents h memory state → k < h.size
    → alone c script memory ≡ alone c (only_commit h k) (held c (lock_of h k) memory)
    → state_after (is_observer op.method) op 1 state ≡ Some state
    → MeetsSpecification h op script c memory state
only_commit_alone h op script c k memory state is s low run allowed =
    met h op script c memory (untouched c (lock_of h k) memory) state state 1 run after allowed
  where
    after : Represents h (untouched c (lock_of h k) memory) state
    after = kept h memory (untouched c (lock_of h k) memory) state k (chunk_of memory k) is s low
        (λ cell e0 e1 e2 e3 e4 lock. untouched-other c (lock_of h k) memory cell lock)
        (changed_cell (held c (lock_of h k) memory) (lock_of h k) 0)
        (after_none h.size c k memory low) (sound_at h memory state k is s low) refl

-- a call that puts a dirty chunk's pair into the store, which is what the chunk shows
put_stored_alone : (h : Header) (op : Op) (script : Script) (c k left : ℕ) (memory : Memory)
    (state : Amounts)
    → h.subject ≡ Cache → Represents h memory state → k < h.size → (memory (5 * k) == 2) ≡ true
    → alone c script memory ≡ alone c (put_stored h k left) (held c (lock_of h k) memory)
    → is_sound_chunk
    (with_stored left (memory (5 * k + 1)) (memory (5 * k + 2)) (chunk_of memory k))
    ≡ true
    → shown (with_stored left (memory (5 * k + 1)) (memory (5 * k + 2)) (chunk_of memory k))
    ≡ cached_pair (chunk_of memory k)
    → state_after (is_observer op.method) op 1 state ≡ Some state
    → MeetsSpecification h op script c memory state
put_stored_alone h op script c k left memory state is s low dirty run sound shows allowed =
    met h op script c memory new state state 1 run after allowed
  where
    loaded_low : ℕ
    loaded_low = held c (lock_of h k) memory (5 * k + 1)

    loaded_high : ℕ
    loaded_high = held c (lock_of h k) memory (5 * k + 2)

    new : Memory
    new = stored c (lock_of h k) memory (5 * k + 3) loaded_low (5 * k + 4) loaded_high (5 * k) left

    chunk_is : chunk_of new k
        ≡ with_stored left (memory (5 * k + 1)) (memory (5 * k + 2)) (chunk_of memory k)
    chunk_is = after_stored h.size c k memory left loaded_low loaded_high low
        ∙ ap (λ n. with_stored left n loaded_high (chunk_of memory k))
        (held_load c (lock_of h k) memory (5 * k + 1) (omega arith))
        ∙ ap (λ n. with_stored left (memory (5 * k + 1)) n (chunk_of memory k))
        (held_load c (lock_of h k) memory (5 * k + 2) (omega arith))

    after : Represents h new state
    after = kept h memory new state k
        (with_stored left (memory (5 * k + 1)) (memory (5 * k + 2)) (chunk_of memory k)) is s low
        (leaves_stored h.size c k memory left loaded_low loaded_high)
        (stored-lock c (lock_of h k) memory (5 * k + 3) loaded_low (5 * k + 4) loaded_high (5 * k)
        left)
        chunk_is sound (shows ∙ sym (shown_dirty (chunk_of memory k) dirty))

-- a flush
flush_alone : (h : Header) (args : Args) → h.subject ≡ Cache → args.a < h.size
    → IsRightAlone h (record { method = OfCache Flush; args = args }) (flush h args.a)
flush_alone h args is low c memory state e = by_state (memory (5 * args.a) == 2) refl
  where
    s : Represents h memory state
    s = represents h memory state e

    run : alone c (flush h args.a) memory
        ≡ alone c (cond (memory (5 * args.a) == 2) (put_stored h args.a 1) (only_commit h args.a))
        (held c (lock_of h args.a) memory)
    run = run_look h c args.a memory
        (λ n. cond (n == 2) (put_stored h args.a 1) (only_commit h args.a)) low
        (free_lock h memory state args.a is s low)

    by_state : (b : Bool) → (memory (5 * args.a) == 2) ≡ b
        → MeetsSpecification h (record { method = OfCache Flush; args = args })
        (flush h args.a) c memory state
    by_state true dirty =
        put_stored_alone h (record { method = OfCache Flush; args = args })
        (flush h args.a) c args.a 1 memory state is s low dirty
        (run ∙ ap (λ b. alone c (cond b (put_stored h args.a 1) (only_commit h args.a))
        (held c (lock_of h args.a) memory)) dirty)
        (flushed_sound (chunk_of memory args.a) (sound_at h memory state args.a is s low)) refl refl
    by_state false other =
        only_commit_alone h (record { method = OfCache Flush; args = args })
        (flush h args.a) c args.a memory state is s low
        (run ∙ ap (λ b. alone c (cond b (put_stored h args.a 1) (only_commit h args.a))
        (held c (lock_of h args.a) memory)) other) refl

-- an evict
evict_alone : (h : Header) (args : Args) → h.subject ≡ Cache → args.a < h.size
    → IsRightAlone h (record { method = OfCache Evict; args = args }) (evict h args.a)
evict_alone h args is low c memory state e = by_state (memory (5 * args.a) == 2) refl
  where
    s : Represents h memory state
    s = represents h memory state e

    run : alone c (evict h args.a) memory
        ≡ alone c (cond (memory (5 * args.a) == 2) (put_stored h args.a 0)
        (cond (memory (5 * args.a) == 0) (only_commit h args.a) (forget h args.a)))
        (held c (lock_of h args.a) memory)
    run = run_look h c args.a memory (λ n. cond (n == 2) (put_stored h args.a 0)
        (cond (n == 0) (only_commit h args.a) (forget h args.a))) low
        (free_lock h memory state args.a is s low)

    run_clean : (memory (5 * args.a) == 2) ≡ false
        → alone c (evict h args.a) memory ≡ alone c (cond (memory (5 * args.a) == 0)
        (only_commit h args.a) (forget h args.a)) (held c (lock_of h args.a) memory)
    run_clean other =
        run ∙ ap (λ b. alone c (cond b (put_stored h args.a 0) (cond (memory (5 * args.a) == 0)
        (only_commit h args.a) (forget h args.a))) (held c (lock_of h args.a) memory)) other

    new : Memory
    new = only_state c (lock_of h args.a) memory (5 * args.a) 0

    by_clean : (memory (5 * args.a) == 2) ≡ false → (b : Bool) → (memory (5 * args.a) == 0) ≡ b
        → MeetsSpecification h (record { method = OfCache Evict; args = args })
        (evict h args.a) c memory state
    by_clean other true absent =
        only_commit_alone h (record { method = OfCache Evict; args = args })
        (evict h args.a) c args.a memory state is s low
        (run_clean other ∙ ap (λ b. alone c (cond b (only_commit h args.a) (forget h args.a))
        (held c (lock_of h args.a) memory)) absent) refl
    by_clean other false there =
        met h (record { method = OfCache Evict; args = args }) (evict h args.a) c memory new state
        state 1
        (run_clean other ∙ ap (λ b. alone c (cond b (only_commit h args.a) (forget h args.a))
        (held c (lock_of h args.a) memory)) there)
        (kept h memory new state args.a (with_state 0 (chunk_of memory args.a)) is s low
        (λ cell e0 e1 e2 e3 e4 lock. only_state-other c (lock_of h args.a) memory (5 * args.a) 0
        cell lock e0)
        (changed_cell (with_cell (held c (lock_of h args.a) memory) (5 * args.a) 0)
        (lock_of h args.a) 0) (after_state h.size c args.a memory 0 low)
        (forgotten_sound (chunk_of memory args.a) (sound_at h memory state args.a is s low))
        (sym (shown_clean (chunk_of memory args.a) (sound_at h memory state args.a is s low) other
        there))) refl

    by_state : (b : Bool) → (memory (5 * args.a) == 2) ≡ b
        → MeetsSpecification h (record { method = OfCache Evict; args = args })
        (evict h args.a) c memory state
    by_state true dirty =
        put_stored_alone h (record { method = OfCache Evict; args = args })
        (evict h args.a) c args.a 0
        memory state is s low dirty
        (run ∙ ap (λ b. alone c (cond b (put_stored h args.a 0) (cond (memory (5 * args.a) == 0)
        (only_commit h args.a) (forget h args.a))) (held c (lock_of h args.a) memory)) dirty)
        (evicted_sound (chunk_of memory args.a) (sound_at h memory state args.a is s low)) refl refl
    by_state false other = by_clean other (memory (5 * args.a) == 0) refl

-- a read
read_alone : (h : Header) (args : Args) → h.subject ≡ Cache → args.a < h.size
    → IsRightAlone h (record { method = OfCache Read; args = args }) (read h args.a)
read_alone h args is low c memory state e = by_state (memory (5 * args.a) == 0) refl
  where
    s : Represents h memory state
    s = represents h memory state e

    sound : is_sound_chunk (chunk_of memory args.a) ≡ true
    sound = sound_at h memory state args.a is s low

    run : alone c (read h args.a) memory
        ≡ alone c (cond (memory (5 * args.a) == 0) (fetch h args.a) (answer_cached h args.a))
        (held c (lock_of h args.a) memory)
    run = run_look h c args.a memory (λ n. cond (n == 0) (fetch h args.a) (answer_cached h args.a))
        low (free_lock h memory state args.a is s low)

    loaded : (i : ℕ) → i < 5
        → held c (lock_of h args.a) memory (5 * args.a + i) ≡ memory (5 * args.a + i)
    loaded i few = held_load c (lock_of h args.a) memory (5 * args.a + i) (omega arith)

    -- an answer that is the chunk's pair is the specification's
    allowed : (reply : ℕ) → reply ≡ shown (chunk_of memory args.a)
        → state_after true (record { method = OfCache Read; args = args }) reply state ≡ Some state
    allowed reply pair =
        let same : reply ≡ amount_of state args.a =
        pair ∙ sym (shown_at h memory state args.a is s low) in
        ap (λ n. cond (n == amount_of state args.a) (Some state) None) same
        ∙ ap (λ b. cond b (Some state) None) (same_number (amount_of state args.a))

    fetched_low : ℕ
    fetched_low = held c (lock_of h args.a) memory (5 * args.a + 3)

    fetched_high : ℕ
    fetched_high = held c (lock_of h args.a) memory (5 * args.a + 4)

    fetched : Memory
    fetched = stored c (lock_of h args.a) memory (5 * args.a + 1) fetched_low (5 * args.a + 2)
        fetched_high (5 * args.a) 1

    fetched_is : chunk_of fetched args.a
        ≡ with_cached 1 (memory (5 * args.a + 3)) (memory (5 * args.a + 4)) (chunk_of memory args.a)
    fetched_is = after_cached h.size c args.a memory 1 fetched_low fetched_high low
        ∙ ap (λ n. with_cached 1 n fetched_high (chunk_of memory args.a)) (loaded 3 (omega arith))
        ∙ ap (λ n. with_cached 1 (memory (5 * args.a + 3)) n (chunk_of memory args.a))
        (loaded 4 (omega arith))

    by_state : (b : Bool) → (memory (5 * args.a) == 0) ≡ b
        → MeetsSpecification h (record { method = OfCache Read; args = args })
        (read h args.a) c memory state
    by_state true absent =
        met h (record { method = OfCache Read; args = args }) (read h args.a) c memory fetched state
        state
        (joined fetched_low fetched_high)
        (run ∙ ap (λ b. alone c (cond b (fetch h args.a) (answer_cached h args.a))
        (held c (lock_of h args.a) memory)) absent)
        (kept h memory fetched state args.a
        (with_cached 1 (memory (5 * args.a + 3)) (memory (5 * args.a + 4)) (chunk_of memory args.a))
        is s low (leaves_cached h.size c args.a memory 1 fetched_low fetched_high)
        (stored-lock c (lock_of h args.a) memory (5 * args.a + 1) fetched_low (5 * args.a + 2)
        fetched_high (5 * args.a) 1) fetched_is (fetched_sound (chunk_of memory args.a) sound)
        (sym (shown_absent (chunk_of memory args.a) absent)))
        (allowed (joined fetched_low fetched_high) (ap (λ n. joined n fetched_high)
        (loaded 3 (omega arith))
        ∙ ap (joined (memory (5 * args.a + 3))) (loaded 4 (omega arith))
        ∙ joined_small (memory (5 * args.a + 3)) (memory (5 * args.a + 4)) (small
        (chunk_of memory args.a) sound).stored_lo (small (chunk_of memory args.a) sound).stored_hi
        ∙ sym (shown_absent (chunk_of memory args.a) absent)))
    by_state false there =
        met h (record { method = OfCache Read; args = args }) (read h args.a) c memory
        (untouched c (lock_of h args.a) memory) state state
        (joined (held c (lock_of h args.a) memory (5 * args.a + 1))
        (held c (lock_of h args.a) memory (5 * args.a + 2)))
        (run ∙ ap (λ b. alone c (cond b (fetch h args.a) (answer_cached h args.a))
        (held c (lock_of h args.a) memory)) there)
        (kept h memory (untouched c (lock_of h args.a) memory) state args.a (chunk_of memory args.a)
        is s low (λ cell e0 e1 e2 e3 e4 lock. untouched-other c (lock_of h args.a) memory cell lock)
        (changed_cell (held c (lock_of h args.a) memory) (lock_of h args.a) 0)
        (after_none h.size c args.a memory low) sound refl)
        (allowed
        (joined (held c (lock_of h args.a) memory (5 * args.a + 1))
        (held c (lock_of h args.a) memory (5 * args.a + 2)))
        (ap (λ n. joined n (held c (lock_of h args.a) memory (5 * args.a + 2)))
        (loaded 1 (omega arith))
        ∙ ap (joined (memory (5 * args.a + 1))) (loaded 2 (omega arith))
        ∙ joined_small (memory (5 * args.a + 1)) (memory (5 * args.a + 2)) (small
        (chunk_of memory args.a) sound).cached_lo (small (chunk_of memory args.a) sound).cached_hi
        ∙ sym (shown_cached (chunk_of memory args.a) there)))

pub procedure_right_alone : (h : Header) (method : Method) (args : Args) → h.subject ≡ Cache
    → subject_of method ≡ Cache → are_args h.size method args ≡ true → are_small args ≡ true
    → IsRightAlone h (record { method = method; args = args }) (procedure_of h Correct method args)
procedure_right_alone h method args is of_cache fit few =
    by_method method of_cache (chunk_below h.size method args of_cache fit)
  where
    by_method : (method : Method) → subject_of method ≡ Cache → args.a < h.size
        → IsRightAlone h (record { method = method; args = args })
        (procedure_of h Correct method args)
    by_method (OfCache Write) of_cache low = write_alone h args is low few
    by_method (OfCache Flush) of_cache low = flush_alone h args is low
    by_method (OfCache Evict) of_cache low = evict_alone h args is low
    by_method (OfCache Read) of_cache low = read_alone h args is low
    by_method (OfMultiset other) of_cache low = cc
    by_method (OfTree other) of_cache low = cc
    by_method (OfBuffers other) of_cache low = cc
    by_method (OwnNever i) of_cache low = cc
    by_method (OwnAtMostOnce i) of_cache low = cc
    by_method (OwnOnce i) of_cache low = cc
