-- Where the writes of effects stand, and that their words are the header's.
use Rattle.vyrd_witness.proofs.Prelude
use Prelude.{◌≡◌, ℕ, zero, suc, ◌+◌, ◌<◌, ◌≤◌, Bool, true, false, cond, List, [], ◌∷◌, ◌++◌, length}
use Prelude.{take, drop, Option, Some, None, slice_get, refl, ap, subst, ◌∙◌, sym, arith, ◌==◌}
use Prelude.{option_map, option_map_or, drop-drop, slice_get_within, Header, Kind, Call, Return}
use Prelude.{Write, Commit, BlockOpen, BlockClose, BlockCommit, Entry, plain_words, first_break}
use Prelude.{newest_first_onto, newest_first, has_block, has_inner_commit, with_write, block_writes}
use Prelude.{ahead_at, writes_ahead, effects_at, rules_at, slice_get-drop, same_of, Effect}
use Prelude.{numbered_kind, numbered_entry, numbered_from, value_at, effects_by, effects_there}
use Rattle.std.specs.Prelude.{All}
use Rattle.std.proofs.lemmas.List.Elements.{All-nil, All-cons, All-head, All-tail, All-append}
use Rattle.std.proofs.lemmas.List.Elements.{All-map, All-weaker}
use Rattle.vyrd_base.proofs.BlockLaws.{own_writes, entry, by_same, other_writes}
use Rattle.vyrd_base.proofs.KeptLaws.{write_kept}
use Rattle.vyrd_witness.specs.Written.{IsWritten}
use Rattle.vyrd_witness.proofs.NumberedLaws.{behind, ahead, behind_next}
use Rattle.vyrd_witness.proofs.EffectLaws.{entry_there}

-- the entry at the position of a write is the caller's write to that word
abbrev pub Stands : List Entry → ℕ → ℕ × ℕ → Type 0
Stands log c write = slice_get log write.1 ≡ Some (entry c (Write write.0 (value_at log write.1)))

one_stands : (log : List Entry) (c n word value : ℕ) (e : Entry) → slice_get log n ≡ Some e
    → e.caller ≡ c → e.kind ≡ Write word value → Stands log c (word, n)
one_stands log c n word value e here same is = grind arith

-- those of a block so far
own_step : (log : List Entry) (c n : ℕ) (e : Entry) (ws : List (ℕ × ℕ)) → slice_get log n ≡ Some e
    → e.caller ≡ c → All (Stands log c) ws → (kind : Kind) → e.kind ≡ kind
    → All (Stands log c) (with_write true (numbered_kind n kind) ws)
own_step log c n e ws here same all kind is = grind (arith, here, one_stands)

behind_stand : (log : List Entry) (c n : ℕ) → n ≤ length log
    → All (Stands log c) (block_writes c (behind log n))
behind_stand log c zero low = All-nil (Stands log c)
behind_stand log c (suc n) low =
    let there = entry_there log n (omega (arith, low)) in
    let one : n + 1 ≡ suc n = omega arith in
    rw (← one)
    (rw (behind_next log n there.0 there.1)
    (step there.0 there.1 (behind_stand log c n (omega (arith, low)))))
  where
    step : (e : Entry) → slice_get log n ≡ Some e
        → All (Stands log c) (block_writes c (behind log n))
        → All (Stands log c) (block_writes c (numbered_entry n e ∷ behind log n))
    step e here all = search (by_same, behind, own_writes, own_step, here, other_writes, arith)

-- those that a block still makes
abbrev StandIfSome : List Entry → ℕ → Option (List (ℕ × ℕ)) → Type 0
StandIfSome log c o = (ws : List (ℕ × ℕ)) → o ≡ Some ws → All (Stands log c) ws

one_more : (log : List Entry) (c word n : ℕ) (o : Option (List (ℕ × ℕ)))
    → Stands log c (word, n) → StandIfSome log c o
    → StandIfSome log c (option_map (λ ws. ws ++ (word, n) ∷ []) o)
one_more log c word n None one rest ws is = cc
one_more log c word n (Some found) one rest ws is =
    let same : found ++ (word, n) ∷ [] ≡ ws = cc in
    subst (All (Stands log c)) same (All-append (Stands log c) found ((word, n) ∷ [])
    (rest found refl) (All-cons (Stands log c) (word, n) [] one (All-nil (Stands log c))))

none_left : (log : List Entry) (c : ℕ) → StandIfSome log c (Some [])
none_left log c ws is = grind (arith, All-nil (Stands log c))

ahead_step : (log : List Entry) (c n : ℕ) (e : Entry) (o : Option (List (ℕ × ℕ)))
    → slice_get log n ≡ Some e → e.caller ≡ c → StandIfSome log c o → (kind : Kind)
    → e.kind ≡ kind → StandIfSome log c (ahead_at (numbered_kind n kind) o)
ahead_step log c n e o here same rest (Call method args) is = rest
ahead_step log c n e o here same rest (Return reply) is = λ ws some. cc
ahead_step log c n e o here same rest (Write word value) is =
    one_more log c word n o (one_stands log c n word value e here same is) rest
ahead_step log c n e o here same rest Commit is = rest
ahead_step log c n e o here same rest BlockOpen is = rest
ahead_step log c n e o here same rest BlockClose is = none_left log c
ahead_step log c n e o here same rest BlockCommit is = none_left log c

from_stand : (log : List Entry) (c p : ℕ) (es : List Entry) → drop p log ≡ es
    → StandIfSome log c (writes_ahead c (numbered_from p es))
from_stand log c p [] is = λ ws some. cc
from_stand log c p (e ∷ es) is = by_test (e.caller == c) refl
    (from_stand log c (p + 1) es (sym (drop-drop 1 p _) ∙ ap (drop 1) is))
  where
    o : Option (List (ℕ × ℕ))
    o = writes_ahead c (numbered_from (p + 1) es)

    here : slice_get log p ≡ Some e
    here = cc (slice_get-drop log p)

    by_test : (b : Bool) → (e.caller == c) ≡ b → StandIfSome log c o
        → StandIfSome log c (cond b (ahead_at (numbered_kind p e.kind) o) o)
    by_test true same rest = search (ahead_step, here, same_of, arith)
    by_test false same rest = rest

drop_from : (n p : ℕ) (es : List Entry)
    → drop n (numbered_from p es) ≡ numbered_from (p + n) (drop n es)
drop_from zero p es = grind arith
drop_from (suc n) p [] = refl
drop_from (suc n) p (e ∷ es) = grind (arith, drop_from n (p + 1) es)

ahead_stand : (log : List Entry) (c n : ℕ) → StandIfSome log c (writes_ahead c (ahead log n))
ahead_stand log c n = grind (arith, drop_from n 0 log, from_stand log c n (drop n log) refl)

-- those that take effect at an entry
at_stand : (log : List Entry) (at c : ℕ) (e : Entry) → slice_get log at ≡ Some e → e.caller ≡ c
    → at ≤ length log → (kind : Kind) → e.kind ≡ kind
    → All (Stands log c)
    (effects_at (behind log at) c (numbered_kind at kind) (ahead log (at + 1)))
at_stand log at c e here same low (Call method args) is = All-nil (Stands log c)
at_stand log at c e here same low (Return reply) is = All-nil (Stands log c)
at_stand log at c e here same low (Write word value) is = by_test (has_block c (behind log at))
  where
    by_test : (b : Bool) → All (Stands log c) (cond b [] ((word, at) ∷ []))
    by_test b = search (one_stands, here, arith)
at_stand log at c e here same low Commit is =
    by_test (has_block c (behind log at)) (writes_ahead c (ahead log (at + 1)))
    (ahead_stand log c (at + 1))
  where
    by_test : (b : Bool) (o : Option (List (ℕ × ℕ))) → StandIfSome log c o
        → All (Stands log c) (cond b (option_map_or
        (λ ahead. ahead ++ block_writes c (behind log at)) o []) [])
    by_test false o rest = All-nil (Stands log c)
    by_test true None rest = All-nil (Stands log c)
    by_test true (Some ws) rest = All-append (Stands log c) ws (block_writes c (behind log at))
        (rest ws refl) (behind_stand log c at low)
at_stand log at c e here same low BlockOpen is = All-nil (Stands log c)
at_stand log at c e here same low BlockClose is = by_test (has_inner_commit c (behind log at))
  where
    by_test : (b : Bool) → All (Stands log c) (cond b [] (block_writes c (behind log at)))
    by_test b = search (behind_stand, arith)
at_stand log at c e here same low BlockCommit is = by_test (has_inner_commit c (behind log at))
  where
    by_test : (b : Bool) → All (Stands log c) (cond b [] (block_writes c (behind log at)))
    by_test b = search (behind_stand, arith)

All-newest_first : {A : Type 0} (P : A → Type 0) (xs ys : List A) → All P xs → All P ys
    → All P (newest_first_onto xs ys)
All-newest_first P xs [] all more = all
All-newest_first P xs (y ∷ ys) all more = All-newest_first P (y ∷ xs) ys
    (All-cons P y xs (All-head P y ys more) all) (All-tail P y ys more)

pub by_written : (log : List Entry) (at : ℕ) (e : Entry) → slice_get log at ≡ Some e
    → All (IsWritten log) (effects_by log at e)
by_written log at e here = All-map (IsWritten _) _ _
    (All-newest_first (Stands _ _) [] found (All-nil _)
    (at_stand log at _ e here refl low e.kind refl))
  where
    found : List (ℕ × ℕ)
    found = effects_at (behind log at) e.caller (numbered_kind at e.kind) (ahead log (at + 1))

    low : at ≤ length log
    low = let within = slice_get_within _ at e here in omega (arith, within)

there_written : (log : List Entry) (at : ℕ) → All (IsWritten log) (effects_there log at)
there_written log at = grind (arith, by_written)

-- their words are the header's, where the log keeps all rules
pub there_fit : (h : Header) (log : List Entry) (at n : ℕ) (es : List Effect)
    → first_break h log ≡ None → n ≡ plain_words h → es ≡ effects_there log at
    → All (λ x. x.word < n) es
there_fit h log at n es kept count is = subst (All (λ x. x.word < n)) (sym is)
    (All-weaker (IsWritten log) (λ x. x.word < n) fits (effects_there log at)
    (there_written log at))
  where
    fits : (x : Effect) → IsWritten log x → x.word < n
    fits x here = subst (λ k. x.word < k) (sym count)
        (write_kept h x.caller x.word x.value (newest_first (take x.written log))
        (rules_at h log x.written (entry x.caller (Write x.word x.value)) here kept)).word_fits
