-- An entry's steps are paid by what is owed before it and a constant.
use Rattle.vyrd_words.proofs.Prelude
use Prelude.{◌≡◌, ◌≢◌, ℕ, zero, suc, ◌+◌, ◌*◌, ◌<◌, ◌≤◌, List, ◌∷◌, length, refl, arith, Bool, true}
use Prelude.{false, cond, Option, ◌==◌, unwrap_or, Result, Ok, Err, OnOk, option_or, sum_by}
use Prelude.{sum_by-cons, Kind, Call, Return, Write, Commit, BlockOpen, BlockClose, BlockCommit}
use Prelude.{Entry, StartWord, has_block, open_or_close, numbers_from, block_writes, with_write}
use Prelude.{apart_of, same_of, isnt_same, ShadowKept, kept_writes, HasWords, Keeps, work_held}
use Prelude.{effect_count, kept_back, all_kept_back, each_entry, owed}
use Rattle.vyrd_words.proofs.FewLaws.{first_few, length-words_of}
use Rattle.vyrd_words.proofs.WordsLaws.{low_caller, closes_block, commits_block}

-- the effects of an entry, by whether the caller's block is open and what it has written
abbrev own_effects : Kind → Bool → List (ℕ × ℕ) → ℕ
own_effects (Write word value) b writes = cond b 0 1
own_effects BlockClose b writes = cond b (length writes) 0
own_effects BlockCommit b writes = cond b (length writes) 0
own_effects _ b writes = 0

-- what is kept back, or takes effect, of one caller at its own entry
own_kept : (kind : Kind) (answer : Option Bool) (writes : List (ℕ × ℕ)) (effects : ℕ)
    → effects ≤ own_effects kind (unwrap_or answer false) writes
    → cond (unwrap_or (option_or (open_or_close kind) answer) false)
    (length (with_write true kind writes)) 0 + effects
    ≤ cond (unwrap_or answer false) (length writes) 0 + 1
own_kept kind answer writes effects few = grind (arith, few)

kept_by_caller : (e : Entry) (earlier : List Entry) (effects : ℕ) → effects ≤ own_effects e.kind
    (has_block e.caller earlier) (block_writes e.caller earlier)
    → kept_back (e ∷ earlier) e.caller + effects ≤ kept_back earlier e.caller + 1
kept_by_caller e earlier effects few = grind (arith, few, own_kept)

kept_by_other : (c : ℕ) (e : Entry) (earlier : List Entry) → c ≢ e.caller
    → kept_back (e ∷ earlier) c ≡ kept_back earlier c
kept_by_other c e earlier apart = grind (arith, apart, isnt_same)

-- sums in which one caller's part changes
sum_apart : (f g : ℕ → ℕ) (c k n : ℕ) → c < k → ((x : ℕ) → x ≢ c → f x ≡ g x)
    → sum_by f (numbers_from k n) ≡ sum_by g (numbers_from k n)
sum_apart f g c k zero low same = refl
sum_apart f g c k (suc n) low same =
    let rest = sum_apart f g c (k + 1) n (omega (arith, low)) same in
    let here = same k (λ e. absurd (omega (arith, low, e))) in
    omega (
      arith,
      sum_by-cons f k (numbers_from (k + 1) n),
      sum_by-cons g k
          (numbers_from (k + 1) n),
      rest,
      here,
    )

pub sum_at : (f g : ℕ → ℕ) (m c w k n : ℕ) → k ≤ c → c < k + n → ((x : ℕ) → x ≢ c → f x ≡ g x)
    → f c + w ≤ g c + m
    → sum_by f (numbers_from k n) + w ≤ sum_by g (numbers_from k n) + m
sum_at f g m c w k zero low high same own = absurd (omega (arith, low, high))
sum_at f g m c w k (suc n) low high same own =
    by_test (k == c) refl (λ apart. sum_at f g m c w (k + 1) n (omega (arith, low, apart))
    (omega (arith, high)) same own)
  where
    by_test : (b : Bool) → (k == c) ≡ b
        → (k ≢ c → sum_by f (numbers_from (k + 1) n) + w ≤ sum_by g (numbers_from (k + 1) n) + m)
        → sum_by f (k ∷ numbers_from (k + 1) n) + w ≤ sum_by g (k ∷ numbers_from (k + 1) n) + m
    by_test true is rest =
        grind (
          arith,
          sum_by-cons f k (numbers_from (k + 1) n),
          sum_by-cons g k (numbers_from (k +
              1) n),
          sum_apart f g c (k + 1) n (omega (arith, (same_of k c is))) same,
          same_of k c is,
        )
    by_test false is rest =
        grind (
          arith,
          sum_by-cons f k (numbers_from (k + 1) n),
          sum_by-cons g k (numbers_from (k +
              1) n),
          rest (apart_of k c is),
          same k (apart_of k c is),
        )

all_kept : (callers : ℕ) (e : Entry) (earlier : List Entry) (effects : ℕ) → e.caller < callers
    → effects ≤ own_effects e.kind (has_block e.caller earlier) (block_writes e.caller earlier)
    → all_kept_back callers (e ∷ earlier) + effects ≤ all_kept_back callers earlier + 1
all_kept callers e earlier effects low few =
    sum_at (kept_back (e ∷ earlier)) (kept_back earlier) 1 e.caller effects 0 callers (omega arith)
    (omega (arith, low))
    (λ x apart. kept_by_other x e earlier apart) (kept_by_caller e earlier effects few)

-- an open block keeps no more than it has written
block_few : (kept : ShadowKept) (starting : List StartWord) (inner : List ℕ) (earlier : List Entry)
    (c : ℕ) → HasWords kept inner starting earlier → c < kept.header.callers
    → has_block c earlier ≡ true → length (kept_writes kept c) ≤ cond (has_block c earlier)
    (length (block_writes c earlier)) 0
block_few kept starting inner earlier c has low inside = search (length-words_of, first_few, arith)

-- the effects are those of the caller's own block
effects_few : (kept : ShadowKept) (starting : List StartWord) (inner : List ℕ)
    (earlier : List Entry)
    (e : Entry) → HasWords kept inner starting earlier
    → Keeps kept.header earlier e → effect_count kept e.caller e.kind ≤ own_effects e.kind
    (has_block e.caller earlier) (block_writes e.caller earlier)
effects_few kept starting inner earlier e has keeps = by_kind e.kind refl
  where
    by_kind : (kind : Kind) → e.kind ≡ kind → effect_count kept e.caller kind ≤ own_effects kind
        (has_block e.caller earlier) (block_writes e.caller earlier)
    by_kind (Call method args) at = omega arith
    by_kind (Return reply) at = omega arith
    by_kind Commit at = omega arith
    by_kind BlockOpen at = omega arith
    by_kind (Write word value) at = grind arith
    by_kind BlockClose at = search (block_few, kept, starting, low_caller, closes_block, arith)
    by_kind BlockCommit at = search (block_few, kept, starting, low_caller, commits_block, arith)

-- what an entry costs, with what is owed after it
pub owed_paid : {T E : Type 0} (r : Result T E) (kept : ShadowKept) (starting : List StartWord)
    (inner : List ℕ) (earlier : List Entry) (e : Entry)
    (s0 s1 : ℕ) → HasWords kept inner starting earlier → Keeps kept.header earlier e
    → OnOk r (s1 + work_held kept.header.callers (e ∷ earlier)
    ≤ s0 + 5 + work_held kept.header.callers earlier + 4 * effect_count kept e.caller e.kind + 2
    * kept.header.callers)
    → OnOk r (s1 + owed kept.header.callers (e ∷ earlier) ≤ s0 + owed kept.header.callers earlier
    + each_entry kept.header.callers)
owed_paid (Err x) kept starting inner earlier e s0 s1 has keeps paid = tt
owed_paid (Ok x) kept starting inner earlier e s0 s1 has keeps paid =
    let n = kept.header.callers in
    let w = effect_count kept e.caller e.kind in
    let all = all_kept n e earlier w (low_caller keeps)
    (effects_few kept starting inner earlier e has keeps) in
    omega (arith, paid, all)

-- and whatever is owed after it
pub owed_at_most : (kept : ShadowKept) (starting : List StartWord) (inner : List ℕ)
    (earlier : List Entry)
    (e : Entry)
    (s0 s1 : ℕ) → HasWords kept inner starting earlier → Keeps kept.header earlier e
    → s1 ≤ s0 + 5 + work_held kept.header.callers earlier + 4 * effect_count kept e.caller e.kind
    + 2 * kept.header.callers
    → s1 ≤ s0 + owed kept.header.callers earlier + each_entry kept.header.callers
owed_at_most kept starting inner earlier e s0 s1 has keeps paid =
    let n = kept.header.callers in
    let w = effect_count kept e.caller e.kind in
    let all = all_kept n e earlier w (low_caller keeps)
    (effects_few kept starting inner earlier e has keeps) in
    omega (arith, paid, all)
