-- Proofs of laws that an impl in src/ names: no contract says what is defined here.
-- How the parts of the procedures are played alone.
use Rattle.std.proofs.Common.{◌≡◌, ℕ, zero, suc, ◌+◌, ◌*◌, ◌%◌, ◌^◌, ◌<◌, Bool, true, false, cond}
use Rattle.std.proofs.Common.{List, [], ◌∷◌, ◌++◌, Some, None, refl, ap, ◌∙◌, sym, append_assoc}
use Rattle.std.proofs.Common.{arith}
use Rattle.std.specs.Prelude.{◌==◌}
use Rattle.std.proofs.lemmas.List.{append-nil}
use Rattle.vyrd_base.specs.declared.header.Header.{Header}
use Rattle.vyrd_base.specs.Buffers.{text_of}
use Rattle.vyrd_base.proofs.TestLaws.{apart_of}
use Rattle.vyrd_memory.specs.declared.act.Act.TheVariants.{Load}
use Rattle.vyrd_memory.specs.Scripts.{Script, step}
use Rattle.vyrd_memory.specs.Alone.{Memory, with_cell, alone}
use Rattle.vyrd_memory.proofs.Memories.{other_cell}
use Rattle.vyrd_buffers.specs.Cells.{count_cell, character_cell, lock_of, lock, unlock, lock_other}
use Rattle.vyrd_buffers.specs.Procedures.{load_from, store_from, unlock_both, read_from}
use Rattle.vyrd_buffers.specs.Contents.{buffer_of}
use Rattle.vyrd_buffers.specs.Laws.Alone.Stores.{held, lock_changed, both_held, both_given, loaded}
use Rattle.vyrd_buffers.specs.Laws.Alone.Stores.{with_characters}

-- a free lock is taken
pub run_lock : (h : Header) (c b : ℕ) (memory : Memory) (later : Script) → memory (lock_of h b) ≡ 0
    → alone c (lock h b later) memory ≡ alone c later (held c (lock_of h b) memory)
run_lock h c b memory later free =
    ap (λ n. cond (n == 0) (alone c later (held c (lock_of h b) memory)) None) free

-- the lock of a buffer is taken, and its count is loaded
pub run_look : (h : Header) (c b : ℕ) (memory : Memory) (rest : ℕ → Script) → b < h.size
    → memory (lock_of h b) ≡ 0
    → alone c (lock h b (step (Load (count_cell b)) rest)) memory
    ≡ alone c (rest (memory (count_cell b))) (held c (lock_of h b) memory)
run_look h c b memory rest low free =
    run_lock h c b memory (step (Load (count_cell b)) rest) free
    ∙ ap (λ n. alone c (rest n) (held c (lock_of h b) memory))
    (lock_changed h b (c + 1) memory (count_cell b) (omega arith))

-- the locks of two buffers are taken
pub run_lock_both : (h : Header) (c first second : ℕ) (memory : Memory) (later : Script)
    → memory (lock_of h first) ≡ 0 → memory (lock_of h second) ≡ 0
    → alone c (lock h first (lock_other h first second later)) memory
    ≡ alone c later (both_held h c first second memory)
run_lock_both h c first second memory later free free_other =
    run_lock h c first memory (lock_other h first second later) free
    ∙ by_test (first == second) refl
  where
    by_test : (same : Bool) → (first == second) ≡ same
        → alone c (cond same later (lock h second later)) (held c (lock_of h first) memory)
        ≡ alone c later (cond same (held c (lock_of h first) memory)
        (held c (lock_of h second) (held c (lock_of h first) memory)))
    by_test true e = refl
    by_test false e =
        let apart = apart_of first second e in
        run_lock h c second (held c (lock_of h first) memory) later
        (other_cell memory (lock_of h first) (c + 1) (lock_of h second) (omega (arith, apart))
        ∙ free_other)

-- and given back
pub run_unlock_both : (h : Header) (c first second : ℕ) (memory : Memory) (later : Script)
    → alone c (unlock_both h first second later) memory
    ≡ alone c later (both_given h first second memory)
run_unlock_both h c first second memory later = by_test (first == second)
  where
    by_test : (same : Bool)
        → alone c (cond same (unlock h first later) (unlock h second (unlock h first later))) memory
        ≡ alone c later
        (with_cell (cond same memory (with_cell memory (lock_of h second) 0)) (lock_of h first) 0)
    by_test true = refl
    by_test false = refl

-- characters are loaded after those that are held
pub run_load : (c : ℕ) (memory : Memory) (left s i : ℕ) (so_far : List ℕ) (later : List ℕ → Script)
    → alone c (load_from left s i so_far later) memory
    ≡ alone c (later (so_far ++ loaded memory s left i)) memory
run_load c memory zero s i so_far later =
    ap (λ characters. alone c (later characters) memory) (sym (append-nil so_far))
run_load c memory (suc left) s i so_far later =
    run_load c memory left s (i + 1) (so_far ++ memory (character_cell s i) ∷ []) later
    ∙ ap (λ characters. alone c (later characters) memory)
    (append_assoc so_far (memory (character_cell s i) ∷ []) (loaded memory s left (i + 1)))

-- characters are stored
pub run_store : (c : ℕ) (characters : List ℕ) (b i : ℕ) (memory : Memory) (later : Script)
    → alone c (store_from characters b i later) memory
    ≡ alone c later (with_characters characters b i memory)
run_store c [] b i memory later = refl
run_store c (character ∷ characters) b i memory later =
    run_store c characters b (i + 1) (with_cell memory (character_cell b i) character) later

-- The rest of a buffer's characters is read after the text of those before it.
pub run_read : (h : Header) (c : ℕ) (memory : Memory) (left b i : ℕ)
    → ((j : ℕ) → j < i + left → (buffer_of memory b).character j < 255)
    → alone c (read_from h left b i (text_of (buffer_of memory b).character i)) memory
    ≡ Some (record {
      reply = text_of (buffer_of memory b).character (i + left);
      memory = with_cell memory (lock_of h b) 0;
    })
run_read h c memory zero b i low =
    let e : i ≡ i + 0 = omega arith in
    ap (λ n. Some (record {
      reply = text_of (buffer_of memory b).character n;
      memory = with_cell memory (lock_of h b) 0;
    })) e
run_read h c memory (suc left) b i low =
    let one : i + 1 ≡ suc i = omega arith in
    let on : i + 1 + left ≡ i + suc left = omega arith in
    ap (λ n. alone c (read_from h left b (i + 1)
    (text_of (buffer_of memory b).character i + (n + 1) * 256 ^ i)) memory)
    (whole (memory (character_cell b i)) (low i (omega arith)))
    ∙ ap (λ n. alone c (read_from h left b (i + 1) (text_of (buffer_of memory b).character n))
    memory) (sym one)
    ∙ run_read h c memory left b (i + 1) (λ j under. low j (omega arith))
    ∙ ap (λ n. Some (record {
      reply = text_of (buffer_of memory b).character n;
      memory = with_cell memory (lock_of h b) 0;
    })) on
  where
    whole : (n : ℕ) → n < 255 → n % 255 ≡ n
    whole n low = omega arith
