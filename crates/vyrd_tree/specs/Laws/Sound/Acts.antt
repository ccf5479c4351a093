-- Proofs of laws that an impl in src/ names: no contract says what is defined here. Single acts of
-- a sound procedure: the cells and the locks of a tree, and what an operation may do while it holds
-- some.
use Rattle.std.proofs.Common.{◌≡◌, ℕ, ◌+◌, ◌*◌, ◌^◌, ◌<◌, ◌≤◌, Bool, true, false, cond, not, List}
use Rattle.std.proofs.Common.{[], ◌∷◌, Some, refl, ap, ◌∙◌, sym, subst, arith}
use Rattle.std.specs.Prelude.{◌==◌, ◌&&◌, ◌||◌, nat_lt, nat_le, filter}
use Rattle.std.specs.List.{list_any}
use Rattle.vyrd_base.specs.declared.header.Header.{Header}
use Rattle.vyrd_base.specs.declared.subject.Subject.TheVariants.{Tree}
use Rattle.vyrd_base.specs.declared.subject.Method.{Method}
use Rattle.vyrd_base.specs.Subjects.{is_observer}
use Rattle.vyrd_base.specs.Layout.{plain_words_of, lock_words_of}
use Rattle.vyrd_base.specs.Histories.{cells_of, is_plain, is_lock}
use Rattle.vyrd_base.proofs.TestLaws.{both_true, same_number, is_below, is_at_most, lower_isnt}
use Rattle.vyrd_memory.specs.declared.act.Act.TheVariants.{Load, Store, Take, Give}
use Rattle.vyrd_memory.specs.Scripts.{Script, step, perform, returns, gives_up}
use Rattle.vyrd_memory.specs.Soundness.{Situation, IsSound, holds}

-- these locks are held in an execution of the method, and whether that has committed and whether a
-- block is open
abbrev pub holding : List ℕ → Method → Bool → Bool → Situation
holding locks method committed in_block =
    record { locks = locks; called = Some method; committed = committed; in_block = in_block }

pub plain_cell : (h : Header) (cell : ℕ) → h.subject ≡ Tree → cell < 12 * h.size + 2
    → is_plain (cells_of h) cell ≡ true
plain_cell h cell is low =
    ap (λ s. nat_lt cell (plain_words_of s h.size)) is ∙ is_below cell (12 * h.size + 2) low

-- a lock of the tree
abbrev pub IsLock : Header → ℕ → Type 0
IsLock h lock = (12 * h.size + 2 ≤ lock) × (lock < 13 * h.size + 4)

lock_cell : (h : Header) (lock : ℕ) → h.subject ≡ Tree → IsLock h lock
    → is_lock (cells_of h) lock ≡ true
lock_cell h lock is fits =
    ap (λ s. nat_le (plain_words_of s h.size) lock
    && nat_lt lock (plain_words_of s h.size + lock_words_of s h.size)) is
    ∙ both_true _ _ (is_at_most (12 * h.size + 2) lock fits.0)
    (is_below lock (12 * h.size + 2 + (h.size + 2)) (omega (arith, fits.1)))

-- a load
pub loads : (h : Header) (s : Situation) (cell : ℕ) (rest : ℕ → Script) → h.subject ≡ Tree
    → cell < 12 * h.size + 2 → ((value : ℕ) → value < 2 ^ 63 → IsSound h s (rest value))
    → IsSound h s (step (Load cell) rest)
loads h s cell rest is low sound = (plain_cell h cell is low, sound)

-- a store
pub stores : (h : Header) (locks : List ℕ) (method : Method) (committed in_block : Bool)
    (cell value : ℕ) (later : Script)
    → h.subject ≡ Tree → cell < 12 * h.size + 2 → value < 2 ^ 63
    → IsSound h (holding locks method committed in_block) later
    → IsSound h (holding locks method committed in_block) (perform (Store cell value) later)
stores h locks method committed in_block cell value later is low small sound = (
  both_true _ _ (both_true _ _ (plain_cell h cell is low) (is_below value (2 ^ 63) small)) refl,
  λ _ _. sound,
)

-- a lock is taken that isn't held
pub takes : (h : Header) (locks : List ℕ) (method : Method) (committed in_block : Bool) (lock : ℕ)
    (later : Script)
    → h.subject ≡ Tree → IsLock h lock → list_any (λ held. held == lock) locks ≡ false
    → IsSound h (holding (lock ∷ locks) method committed in_block) later
    → IsSound h (holding locks method committed in_block) (perform (Take lock) later)
takes h locks method committed in_block lock later is fits free sound =
    (both_true _ _ (lock_cell h lock is fits) (ap not free), λ _ _. sound)

-- the lock that was taken last is given back
pub gives : (h : Header) (locks : List ℕ) (method : Method) (committed in_block : Bool) (lock : ℕ)
    (later : Script)
    → h.subject ≡ Tree → IsLock h lock → filter (λ held. not (held == lock)) locks ≡ locks
    → IsSound h (holding locks method committed in_block) later
    → IsSound h (holding (lock ∷ locks) method committed in_block) (perform (Give lock) later)
gives h locks method committed in_block lock later is fits lower_isnt sound = (
  both_true _ _ (lock_cell h lock is fits) held,
  λ _ _. subst (λ locks. IsSound h (holding locks method committed in_block) later)
      (sym (gone ∙ lower_isnt)) sound,
)
  where
    held : holds (holding (lock ∷ locks) method committed in_block) lock ≡ true
    held = ap (λ b. b || list_any (λ held. held == lock) locks) (same_number lock)

    gone : filter (λ held. not (held == lock)) (lock ∷ locks)
        ≡ filter (λ held. not (held == lock)) locks
    gone = ap (λ b. cond (not b) (lock ∷ filter (λ held. not (held == lock)) locks)
        (filter (λ held. not (held == lock)) locks)) (same_number lock)

pub takes_first : (h : Header) (method : Method) (committed in_block : Bool) (lock : ℕ)
    (later : Script)
    → h.subject ≡ Tree → IsLock h lock
    → IsSound h (holding (lock ∷ []) method committed in_block) later
    → IsSound h (holding [] method committed in_block) (perform (Take lock) later)
takes_first h method committed in_block lock later is fits sound =
    takes h [] method committed in_block lock later is fits refl sound

pub gives_last : (h : Header) (method : Method) (committed in_block : Bool) (lock : ℕ)
    (later : Script)
    → h.subject ≡ Tree → IsLock h lock → IsSound h (holding [] method committed in_block) later
    → IsSound h (holding (lock ∷ []) method committed in_block) (perform (Give lock) later)
gives_last h method committed in_block lock later is fits sound =
    gives h [] method committed in_block lock later is fits refl sound

-- another lock, which is higher than the one that is held
pub takes_second : (h : Header) (method : Method) (committed in_block : Bool) (first lock : ℕ)
    (later : Script)
    → h.subject ≡ Tree → IsLock h lock → first < lock
    → IsSound h (holding (lock ∷ first ∷ []) method committed in_block) later
    → IsSound h (holding (first ∷ []) method committed in_block) (perform (Take lock) later)
takes_second h method committed in_block first lock later is fits higher sound =
    takes h (first ∷ []) method committed in_block lock later is fits
    (ap (λ b. b || false) (lower_isnt first lock higher)) sound

pub gives_second : (h : Header) (method : Method) (committed in_block : Bool) (first lock : ℕ)
    (later : Script)
    → h.subject ≡ Tree → IsLock h lock → first < lock
    → IsSound h (holding (first ∷ []) method committed in_block) later
    → IsSound h (holding (lock ∷ first ∷ []) method committed in_block) (perform (Give lock) later)
gives_second h method committed in_block first lock later is fits higher sound =
    gives h (first ∷ []) method committed in_block lock later is fits
    (ap (λ b. cond (not b) (first ∷ []) []) (lower_isnt first lock higher)) sound

-- the return, after which the caller is at rest
pub returned : (h : Header) (method : Method) (committed : Bool) (reply : ℕ)
    → (is_observer method || committed) ≡ true
    → IsSound h (holding [] method committed false) (returns reply)
returned h method committed reply may = (both_true _ _ may refl, λ _ _. refl)

-- the commit of a mutator that gives up
pub gave_up : (h : Header) (method : Method) → is_observer method ≡ false
    → IsSound h (holding [] method false false) gives_up
gave_up h method mutates = (rw mutates, λ _ _. returned h method true 0 (rw mutates))
