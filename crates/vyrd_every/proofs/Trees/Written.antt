-- What writes make of a memory, word by word, and what an act makes of the memory that the log
-- shows and of the one that
-- callers see.
use Rattle.vyrd_every.proofs.Prelude
use Prelude.{◌≡◌, ℕ, Bool, true, false, cond, List, [], ◌∷◌, Option, Some, None, refl, arith, ◌==◌}
use Prelude.{◌||◌, is_some, unwrap_or, option_or, cons_option, AllByRecursion, Header, BlockClose}
use Prelude.{BlockCommit, Entry, Did, first_answer, has_block, block_writes, given_to, logged}
use Prelude.{same_of, Act, Store, Mark, Memory, Situation, act_of_event, root_cell, shown_by}
use Prelude.{written, pending_after, Shape, TreeLocals, seen_after, out_after, TreeReaches}
use Rattle.vyrd_every.proofs.Logs.{one_more, more}

-- what the writes give the word, if they give it something
abbrev pub given_by : ℕ → List (ℕ × ℕ) → Option ℕ
given_by w ws = first_answer (given_to w) ws

pub written_at : (ws : List (ℕ × ℕ)) (m : Memory) (w : ℕ) → written ws m w
    ≡ unwrap_or (given_by w ws) (m w)
written_at [] m w = refl
written_at ((word, value) ∷ ws) m w = by_place (word == w) refl (written_at ws m w)
  where
    flip : (a b : ℕ) (t : Bool) → (a == b) ≡ t → (b == a) ≡ t
    flip a b t e = search arith

    by_place : (b : Bool) → (word == w) ≡ b → written ws m w ≡ unwrap_or (given_by w ws) (m w)
        → cond (w == word) value (written ws m w)
        ≡ unwrap_or (option_or (cond (word == w) (Some value) None) (given_by w ws)) (m w)
    by_place b e later = search (written, flip, arith)

pub not_written : (ws : List (ℕ × ℕ)) (m : Memory) (w : ℕ) → is_some (given_by w ws) ≡ false
    → written ws m w ≡ m w
not_written ws m w none = grind (arith, written_at, is_some)

-- writes of other words may come in either order
pub either_order : (a b : List (ℕ × ℕ)) (m : Memory)
    → ((w : ℕ) → is_some (given_by w a) ≡ true → is_some (given_by w b) ≡ true → ⊥)
    → written a (written b m) ≡ written b (written a m)
either_order a b m apart = grind (arith, apart, written_at, written, is_some)

-- what holds of all words that are written
pub all_given : (P : ℕ → Type 0) (ws : List (ℕ × ℕ)) (w : ℕ)
    → AllByRecursion (λ write. P write.0) ws → is_some (given_by w ws) ≡ true → P w
all_given P [] w all e = cc
all_given P ((word, value) ∷ ws) w all e = by_place (all_given P ws w all.1) (word == w) refl e
  where
    by_place : (is_some (given_by w ws) ≡ true → P w) → (b : Bool) → (word == w) ≡ b
        → is_some (option_or (cond b (Some value) None) (given_by w ws)) ≡ true → P w
    by_place later b same f = search (same_of, arith)

-- the writes that an act makes the log show
abbrev pub takes_effect : Bool → List (ℕ × ℕ) → Act → List (ℕ × ℕ)
takes_effect inside pending (Store cell value) = cond inside [] ((cell, value) ∷ [])
takes_effect inside pending (Mark BlockClose) = pending
takes_effect inside pending (Mark BlockCommit) = pending
takes_effect inside pending _ = []

pub shown_more : (h : Header) (s : Situation) (k : TreeLocals) (g : Shape) (m : Memory) (c : ℕ)
    (did : Did) (log : List Entry) → has_block c log ≡ s.in_block
    → k.pending ≡ block_writes c log → TreeReaches h s k g m (act_of_event did)
    → shown_by (cons_option (logged c did) log)
    ≡ written (takes_effect s.in_block k.pending (act_of_event did)) (shown_by log)
shown_more h s k g m c did log block pending reaches =
    grind (arith, written, shown_by, one_more, more)

-- Callers see the same writes, where the caller's own weren't seen before and aren't after.
pub seen_more : (h : Header) (s : Situation) (k : TreeLocals) (m : Memory) (act : Act)
    → k.out ≡ false → out_after h s act k.out ≡ false
    → seen_after h s k m act ≡ written (takes_effect s.in_block k.pending act) m
seen_more h s k m act quiet still = grind (arith, quiet, still, written)

-- the store from which on a block's writes are seen
pub record ComesOut (h : Header) (s : Situation) (k : TreeLocals) (m : Memory) (act : Act) : Type 0
  where
    pub value : ℕ
    pub stores : act ≡ Store (root_cell h) value
    pub inside : s.in_block ≡ true
    pub seen : seen_after h s k m act ≡ written (pending_after act k.pending) m
    pub none : takes_effect s.in_block k.pending act ≡ []

never_out : (b : Bool) → b ≡ false → (b || false) ≡ true → ⊥
never_out b e f = search arith

pub when_out : (h : Header) (s : Situation) (k : TreeLocals) (m : Memory) (act : Act)
    → k.out ≡ false → out_after h s act k.out ≡ true → ComesOut h s k m act
when_out h s k m act quiet out = search (never_out, same_of, arith)
