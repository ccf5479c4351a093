-- What it says of a memory that it represents a state.
use Rattle.vyrd_memory.proofs.Prelude.{◌≡◌, ℕ, ◌+◌, ◌<◌, ◌≤◌, Bool, true, length, map, Some, subst}
use Rattle.vyrd_memory.proofs.Prelude.{arith, rules, ◌==◌, ◌≢◌, ◌&&◌, drop, slice_index, list_all}
use Rattle.vyrd_memory.proofs.Prelude.{nat_tests, Header, numbers_from, plain_words, lock_words}
use Rattle.vyrd_memory.proofs.Prelude.{Amounts, IsAmounts, IsAmounts-collected}
use Rattle.std.proofs.lemmas.List.Folds.{list_all-map}
use Rattle.vyrd_base.specs.Views.{view_of_words, parts_of}
use Rattle.vyrd_base.specs.Represented.{is_sound, state_of_words}
use Rattle.vyrd_base.proofs.PlaceLaws.{length-mapped, pass_all}
use Rattle.vyrd_base.proofs.TestLaws.{then_some_true, both_true, first_true, second_true}
use Rattle.vyrd_memory.specs.Alone.{Memory, words_in, state_in, with_cell}
use Rattle.vyrd_memory.proofs.NumberLists.{element_below, drop-from, all_pass}

-- the words are sound, the locks are free, and the state is what the words show
pub record Represents (h : Header) (memory : Memory) (state : Amounts) : Type 0 where
  pub sound : is_sound h.subject h.size (words_in h memory) ≡ true
  pub free : (lock : ℕ) → plain_words h ≤ lock → lock < plain_words h + lock_words h → memory lock
      ≡ 0
  pub shows : view_of_words h (words_in h memory) ≡ state

-- a plain word or a lock among the words
pub word_at : (h : Header) (memory : Memory) (cell : ℕ) → cell < plain_words h + lock_words h
    → slice_index (words_in h memory) cell ≡ memory cell
word_at h memory cell low = element_below memory (plain_words h + lock_words h) cell low

-- the test by which a lock is free
abbrev pub is_free : ℕ → Bool
is_free lock = lock == 0

free_list : (memory : Memory) (k n : ℕ)
    → list_all is_free (map memory (numbers_from k n)) ≡ list_all (λ lock. is_free (memory lock))
    (numbers_from k n)
free_list memory k n = list_all-map is_free memory (numbers_from k n)

locks_are : (h : Header) (memory : Memory) → drop (plain_words h) (words_in h memory)
    ≡ map memory (numbers_from (plain_words h) (lock_words h))
locks_are h memory = grind (arith, drop-from)

zero_of : (n : ℕ) → is_free n ≡ true → n ≡ 0
zero_of n e = grind (arith, nat_tests)

-- the words are as many as the header says
right_length : (h : Header) (memory : Memory)
    → (length (words_in h memory) == plain_words h + lock_words h) ≡ true
right_length h memory = grind (arith, nat_tests, length-mapped)

-- what a memory that represents a state is
pub represents : (h : Header) (memory : Memory) (state : Amounts) → state_in h memory ≡ Some state
    → Represents h memory state
unfolding state_of_words
represents h memory state e = record {
  sound = first_true (is_sound h.subject h.size (words_in h memory))
      (list_all is_free (drop (plain_words h) (words_in h memory))) both;
  free = λ lock from to. zero_of (memory lock)
      (all_pass (λ lock. is_free (memory lock)) (plain_words h) (lock_words h) free lock from to);
  shows = all.1;
}
  where
    all : ((length (words_in h memory) == plain_words h + lock_words h
        && (is_sound h.subject h.size (words_in h memory) && list_all is_free
        (drop (plain_words h) (words_in h memory)))) ≡ true)
        × (view_of_words h (words_in h memory) ≡ state)
    all = then_some_true _ (view_of_words h (words_in h memory)) state e

    both : (is_sound h.subject h.size (words_in h memory) && list_all is_free
        (drop (plain_words h) (words_in h memory))) ≡ true
    both = second_true (length (words_in h memory) == plain_words h + lock_words h) _ all.0

    free : list_all (λ lock. is_free (memory lock)) (numbers_from (plain_words h) (lock_words h))
        ≡ true
    free =
        search (locks_are, free_list, second_true, arith)

-- a memory that is so represents the state
pub represented : (h : Header) (memory : Memory) (state : Amounts) → Represents h memory state
    → state_in h memory ≡ Some state
unfolding state_of_words
represented h memory state s = search
    (both_true, right_length, locks_are, free_list, pass_all, arith)

-- the state that a memory represents is a map
pub is_amounts : (h : Header) (memory : Memory) (state : Amounts) → Represents h memory state
    → IsAmounts state
unfolding view_of_words
is_amounts h memory state s = subst IsAmounts s.shows
    (IsAmounts-collected (parts_of h.subject h.size (words_in h memory)))

-- the cell that was changed, and every other cell
pub changed_cell : (memory : Memory) (cell value : ℕ) → with_cell memory cell value cell ≡ value
changed_cell memory cell value = search rules

pub other_cell : (memory : Memory) (cell value other : ℕ) → other ≢ cell
    → with_cell memory cell value other ≡ memory other
other_cell memory cell value other apart = grind (arith, nat_tests, apart)
