-- The prices of an entry's effects are paid by the writes that open blocks keep back.
use Rattle.vyrd_words.proofs.Prelude
use Prelude.{◌≡◌, ◌≢◌, ℕ, ◌+◌, ◌*◌, ◌<◌, ◌≤◌, List, [], ◌∷◌, ◌++◌, refl, arith, Bool, true, false}
use Prelude.{cond, Option, ◌==◌, unwrap_or, Result, Ok, Err, OnOk, option_or, sum_by, list_any}
use Prelude.{sum_by-cons, sum_by_push, Kind, Call, Return, Write, Commit, BlockOpen, BlockClose}
use Prelude.{BlockCommit, Entry, StartWord, has_block, open_or_close, numbers_below, block_writes}
use Prelude.{with_write, isnt_same, first_written, ShadowKept, words_of, kept_writes, HasWords}
use Prelude.{Keeps, held, work_held, effect_count, effect_words, each_entry, owed}
use Rattle.vyrd_words.specs.Costs.{entry_price, price_back, price_kept}
use Rattle.vyrd_words.proofs.WordsLaws.{low_caller, closes_block, commits_block}
use Rattle.vyrd_words.proofs.OwedLaws.{sum_at, owed_paid, owed_at_most}

abbrev prices_of : (ℕ → ℕ) → List (ℕ × ℕ) → ℕ
prices_of p writes = sum_by (λ write. p write.0) writes

-- the prices of an entry's effects, by whether the caller's block is open and what it has written
abbrev own_prices : (ℕ → ℕ) → Kind → Bool → List (ℕ × ℕ) → ℕ
own_prices p (Write word value) b writes = cond b 0 (p word)
own_prices p BlockClose b writes = cond b (prices_of p writes) 0
own_prices p BlockCommit b writes = cond b (prices_of p writes) 0
own_prices p _ b writes = 0

-- what is kept back, or takes effect, of one caller at its own entry
own_priced : (p : ℕ → ℕ) (kind : Kind) (answer : Option Bool) (writes : List (ℕ × ℕ)) (effects : ℕ)
    → effects ≤ own_prices p kind (unwrap_or answer false) writes
    → cond (unwrap_or (option_or (open_or_close kind) answer) false)
    (prices_of p (with_write true kind writes)) 0 + effects
    ≤ cond (unwrap_or answer false) (prices_of p writes) 0 + entry_price p kind
own_priced p (Call method args) answer writes effects few = omega (arith, few)
own_priced p (Return reply) answer writes effects few = omega (arith, few)
own_priced p Commit answer writes effects few = omega (arith, few)
own_priced p BlockOpen answer writes effects few = omega (arith, few)
own_priced p BlockClose answer writes effects few = omega (arith, few)
own_priced p BlockCommit answer writes effects few = omega (arith, few)
own_priced p (Write word value) answer writes effects few = by_test (unwrap_or answer false) few
  where
    by_test : (b : Bool) → effects ≤ cond b 0 (p word)
        → cond b (prices_of p ((word, value) ∷ writes)) 0 + effects ≤ cond b (prices_of p writes) 0
        + p word
    by_test true few = omega (arith, few, sum_by-cons (λ write. p write.0) (word, value) writes)
    by_test false few = omega (arith, few)

priced_by_caller : (p : ℕ → ℕ) (e : Entry) (earlier : List Entry) (effects : ℕ)
    → effects ≤ own_prices p e.kind (has_block e.caller earlier) (block_writes e.caller earlier)
    → price_back p (e ∷ earlier) e.caller + effects ≤ price_back p earlier e.caller
    + entry_price p e.kind
priced_by_caller p e earlier effects few = grind (arith, few, own_priced)

priced_by_other : (p : ℕ → ℕ) (c : ℕ) (e : Entry) (earlier : List Entry) → c ≢ e.caller
    → price_back p (e ∷ earlier) c ≡ price_back p earlier c
priced_by_other p c e earlier apart = grind (arith, apart, isnt_same)

-- the words of a block have no greater price than its writes
first_priced : (p : ℕ → ℕ) (writes : List (ℕ × ℕ)) → sum_by p (first_written writes)
    ≤ prices_of p writes
first_priced p [] = omega arith
first_priced p ((word, value) ∷ writes) = by_test
    (list_any (λ other. word == other) (first_written writes)) (first_priced p writes)
  where
    by_test : (b : Bool) → sum_by p (first_written writes) ≤ prices_of p writes
        → sum_by p (cond b (first_written writes) (first_written writes ++ word ∷ []))
        ≤ prices_of p ((word, value) ∷ writes)
    by_test true rest = omega (arith, rest, sum_by-cons (λ write. p write.0) (word, value) writes)
    by_test false rest =
        omega (
          arith,
          rest,
          sum_by-cons (λ write. p write.0) (word, value) writes,
          sum_by_push p
              (first_written writes) word,
        )

block_priced : (p : ℕ → ℕ) (kept : ShadowKept) (starting : List StartWord) (inner : List ℕ)
    (earlier : List Entry) (c : ℕ) → HasWords kept inner starting earlier
    → c < kept.header.callers → has_block c earlier ≡ true
    → sum_by p (words_of (kept_writes kept c)) ≤ cond (has_block c earlier)
    (prices_of p (block_writes c earlier)) 0
block_priced p kept starting inner earlier c has low inside = search (first_priced, arith)

one_price : (p : ℕ → ℕ) (b : Bool) (word : ℕ) → sum_by p (cond b [] (word ∷ [])) ≤ cond b 0 (p word)
one_price p b word = search arith

-- the effects are those of the caller's own block
prices_few : (p : ℕ → ℕ) (kept : ShadowKept) (starting : List StartWord) (inner : List ℕ)
    (earlier : List Entry) (e : Entry) → HasWords kept inner starting earlier
    → Keeps kept.header earlier e
    → sum_by p (effect_words kept e.caller e.kind) ≤ own_prices p e.kind
    (has_block e.caller earlier) (block_writes e.caller earlier)
prices_few p kept starting inner earlier e has keeps = by_kind e.kind refl
  where
    by_kind : (kind : Kind) → e.kind ≡ kind
        → sum_by p (effect_words kept e.caller kind) ≤ own_prices p kind
        (has_block e.caller earlier) (block_writes e.caller earlier)
    by_kind (Call method args) at = omega arith
    by_kind (Return reply) at = omega arith
    by_kind Commit at = omega arith
    by_kind BlockOpen at = omega arith
    by_kind (Write word value) at = grind (arith, one_price p (has_block e.caller earlier) word)
    by_kind BlockClose at = search (block_priced, kept, starting, low_caller, closes_block, arith)
    by_kind BlockCommit at = search (block_priced, kept, starting, low_caller, commits_block, arith)

-- what all blocks keep back, after an entry whose effects have these prices
prices_paid : (p : ℕ → ℕ) (kept : ShadowKept) (starting : List StartWord) (inner : List ℕ)
    (earlier : List Entry) (e : Entry) → HasWords kept inner starting earlier
    → Keeps kept.header earlier e
    → price_kept p kept.header.callers (e ∷ earlier) + sum_by p (effect_words kept e.caller e.kind)
    ≤ price_kept p kept.header.callers earlier + entry_price p e.kind
prices_paid p kept starting inner earlier e has keeps =
    sum_at (price_back p (e ∷ earlier)) (price_back p earlier) (entry_price p e.kind) e.caller
    (sum_by p (effect_words kept e.caller e.kind)) 0 kept.header.callers
    (omega arith) (omega (arith, low_caller keeps)) (λ x apart. priced_by_other p x e earlier apart)
    (priced_by_caller p e earlier (sum_by p (effect_words kept e.caller e.kind))
    (prices_few p kept starting inner earlier e has keeps))

-- what an entry costs, with what is owed after it, by the price of what it writes
pub owed_priced : {T E : Type 0} (r : Result T E) (p : ℕ → ℕ) (kept : ShadowKept)
    (starting : List StartWord) (inner : List ℕ) (earlier : List Entry) (e : Entry)
    (s0 s1 : ℕ) → HasWords kept inner starting earlier → Keeps kept.header earlier e
    → OnOk r (s1 + work_held kept.header.callers (e ∷ earlier)
    ≤ s0 + sum_by p (effect_words kept e.caller e.kind) + 5 + work_held kept.header.callers earlier
    + 4 * effect_count kept e.caller e.kind
    + 2 * kept.header.callers)
    → OnOk r (s1 + owed kept.header.callers (e ∷ earlier) + price_kept p kept.header.callers
    (e ∷ earlier)
    ≤ s0 + owed kept.header.callers earlier + price_kept p kept.header.callers earlier
    + (each_entry kept.header.callers + entry_price p e.kind))
owed_priced (Err x) p kept starting inner earlier e s0 s1 has keeps paid = tt
owed_priced {T = T} {E = E} (Ok x) p kept starting inner earlier e s0 s1 has keeps paid =
    let n = kept.header.callers in
    let prices = sum_by p (effect_words kept e.caller e.kind) in
    let all = owed_paid {T = T} {E = E} (Ok x) kept starting inner earlier e (s0 + prices) s1 has
    keeps paid in
    let each = prices_paid p kept starting inner earlier e has keeps in
    omega (arith, all, each)

-- and whatever is owed after it
pub priced_at_most : (p : ℕ → ℕ) (kept : ShadowKept) (starting : List StartWord) (inner : List ℕ)
    (earlier : List Entry) (e : Entry)
    (s0 s1 : ℕ) → HasWords kept inner starting earlier → Keeps kept.header earlier e
    → s1 ≤ s0 + sum_by p (effect_words kept e.caller e.kind) + 5
    + work_held kept.header.callers earlier + 4 * effect_count kept e.caller e.kind
    + 2 * kept.header.callers
    → s1 ≤ s0 + owed kept.header.callers earlier + price_kept p kept.header.callers earlier
    + (each_entry kept.header.callers + entry_price p e.kind)
priced_at_most p kept starting inner earlier e s0 s1 has keeps paid =
    let n = kept.header.callers in
    let prices = sum_by p (effect_words kept e.caller e.kind) in
    let all = owed_at_most kept starting inner earlier e (s0 + prices) s1 has keeps paid in
    let each = prices_paid p kept starting inner earlier e has keeps in
    omega (arith, all, each)

-- before the first entry nothing is owed
sum_none : (f : ℕ → ℕ) (xs : List ℕ) → ((x : ℕ) → f x ≡ 0) → sum_by f xs ≡ 0
sum_none f [] none = refl
sum_none f (x ∷ xs) none = cc (sum_by-cons f x xs, none x, sum_none f xs none)

pub owed_none : (callers : ℕ) → owed callers [] ≡ 0
owed_none callers = search (sum_none, held, arith)

pub price_none : (p : ℕ → ℕ) (callers : ℕ) → price_kept p callers [] ≡ 0
price_none p callers = sum_none (price_back p []) (numbers_below callers) (λ c. refl)
