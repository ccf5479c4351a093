-- What late writes cost over a whole log: the work that open blocks hold is a potential.
use Rattle.vyrd_words.proofs.Prelude
use Prelude.{◌≡◌, ◌≢◌, ℕ, zero, suc, ◌+◌, ◌*◌, ◌<◌, ◌≤◌, List, [], ◌∷◌, ◌++◌, length, refl, ap, ◌∙◌}
use Prelude.{sym, arith, Bool, true, false, cond, Option, None, ◌==◌, ◌||◌, unwrap_or, option_or}
use Prelude.{sum_by, list_any, sum_by-cons, Kind, Call, Return, Write, Commit, BlockOpen}
use Prelude.{BlockClose, BlockCommit, Entry, has_block, by_caller, open_or_close, is_commit}
use Prelude.{commit_count, first_answer, numbers_from, numbers_below, commit_count-cons, same_of}
use Prelude.{apart_of, same_number, inner_number, number_at, parts_since, parts_behind, Result, Ok}
use Prelude.{Err, OnOk, words_of, WordsView, Shows, effect_count, effect_words, held, work_held}
use Rattle.vyrd_words.proofs.WordsLaws.{number_low}

-- two steps for each commit since, if a block is open
abbrev held_if : Bool → ℕ → ℕ → ℕ
held_if is_open number commits = cond is_open (2 * parts_since commits number) 0

-- one more commit, seen from a block that may be closed
seen_by_other : (is_open cuts : Bool) (commits n : ℕ) → n ≤ commits
    → held_if is_open n (cond cuts 1 0 + commits) ≤ held_if is_open n commits + 2
seen_by_other is_open cuts commits n low = grind arith

-- a lone commit holds a commit alone
new_commit : (is_open : Bool) (commits : ℕ) → held_if is_open (suc commits) (1 + commits) ≤ 2
new_commit is_open commits = search arith

-- a caller's part of what is held, after an entry of this caller or another
by_same : (same : Bool) (kind : Kind) (commits n : ℕ) (answer : Option Bool) → n ≤ commits
    → held_if (unwrap_or (option_or (cond same (open_or_close kind) None) answer) false)
    (cond same (number_at kind commits n) n)
    (cond (is_commit kind) 1 0 + commits)
    ≤ held_if (unwrap_or answer false) n commits + 2
by_same same kind commits n answer low = grind (arith, seen_by_other, new_commit)

pub held_more : (c : ℕ) (e : Entry) (earlier : List Entry) → held (e ∷ earlier) c ≤ held earlier c
    + 2
held_more c e earlier =
    let more = by_same (e.caller == c) e.kind (commit_count earlier) (inner_number c earlier)
    (first_answer (by_caller c open_or_close) earlier)
    (number_low c earlier) in
    let same : held (e ∷ earlier) c ≡ held_if (has_block c (e ∷ earlier))
    (inner_number c (e ∷ earlier)) (cond (is_commit e.kind) 1 0 + commit_count earlier) =
    (λ j. held_if (has_block c (e ∷ earlier)) (inner_number c (e ∷ earlier))
    (commit_count-cons e earlier j)) in
    omega (arith, same, more)

-- sums over callers, each of which may have something more
sum_more : (f g : ℕ → ℕ) (k : ℕ) (xs : List ℕ) → ((x : ℕ) → f x ≤ g x + k) → sum_by f xs
    ≤ sum_by g xs + sum_by (λ x. k) xs
sum_more f g k [] more = omega arith
sum_more f g k (x ∷ xs) more =
    let rest = sum_more f g k xs more in
    let here = more x in
    omega (arith, sum_by-cons f x xs, sum_by-cons g x xs, sum_by-cons (λ y. k) x xs, rest, here)

-- and one of which has nothing any more
sum_closed : (f g : ℕ → ℕ) (k c : ℕ) (xs : List ℕ) → list_any (λ x. x == c) xs ≡ true → f c ≡ 0
    → ((x : ℕ) → f x ≤ g x + k)
    → sum_by f xs + g c ≤ sum_by g xs + sum_by (λ x. k) xs
sum_closed f g k c [] there none more = cc
sum_closed f g k c (x ∷ xs) there none more =
    by_test (x == c) refl there (λ rest. sum_closed f g k c xs rest none more)
  where
    by_test : (b : Bool) → (x == c) ≡ b → (b || list_any (λ y. y == c) xs) ≡ true
        → (list_any (λ y. y == c) xs ≡ true → sum_by f xs + g c ≤ sum_by g xs + sum_by (λ y. k) xs)
        → sum_by f (x ∷ xs) + g c ≤ sum_by g (x ∷ xs) + sum_by (λ y. k) (x ∷ xs)
    by_test true is there rest =
        let same = same_of x c is in
        let left = sum_more f g k xs more in
        let gone : f x ≡ 0 = ap f same ∙ none in
        let own = ap g same in
        omega (
          arith,
          sum_by-cons f x xs,
          sum_by-cons g x xs,
          sum_by-cons
              (λ y. k) x xs,
          left,
          gone,
          own,
        )
    by_test false is there rest =
        let left = rest there in
        let here = more x in
        omega (arith, sum_by-cons f x xs, sum_by-cons g x xs, sum_by-cons (λ y. k) x xs, left, here)

is_among_from : (k n c : ℕ) → k ≤ c → c < k + n → list_any (λ x. x == c) (numbers_from k n) ≡ true
is_among_from k zero c low high = absurd (omega (arith, low, high))
is_among_from k (suc n) c low high =
    by_test (k == c) refl (λ apart. is_among_from (k + 1) n c (omega (arith, low, apart))
    (omega (arith, high)))
  where
    by_test : (b : Bool) → (k == c) ≡ b
        → (k ≢ c → list_any (λ x. x == c) (numbers_from (k + 1) n) ≡ true)
        → (b || list_any (λ x. x == c) (numbers_from (k + 1) n)) ≡ true
    by_test b is rest = search (apart_of, arith)

-- the same for each caller
two_each : (k n : ℕ) → sum_by (λ c. 2) (numbers_from k n) ≡ 2 * n
two_each k zero = refl
two_each k (suc n) =
    let rest = two_each (k + 1) n in
    omega (arith, sum_by-cons (λ c. 2) k (numbers_from (k + 1) n), rest)

-- What an end of a block costs is what was held, and what is held grows by a commit alone.
pub late_paid : (callers : ℕ) (e : Entry) (earlier : List Entry)
    → e.caller < callers → (e.kind ≡ BlockClose → has_block e.caller earlier ≡ true)
    → 2 * parts_behind earlier e.caller e.kind + work_held callers (e ∷ earlier)
    ≤ work_held callers earlier + 2 * callers
late_paid callers e earlier low opened = by_kind e.kind refl
  where
    more : (x : ℕ) → held (e ∷ earlier) x ≤ held earlier x + 2
    more x = held_more x e earlier

    quiet : parts_behind earlier e.caller e.kind ≡ 0
        → 2 * parts_behind earlier e.caller e.kind + work_held callers (e ∷ earlier)
        ≤ work_held callers earlier + 2 * callers
    quiet none =
        let all = sum_more (held (e ∷ earlier)) (held earlier) 2 (numbers_below callers) more in
        omega (arith, all, two_each 0 callers, none)

    by_kind : (kind : Kind) → e.kind ≡ kind
        → 2 * parts_behind earlier e.caller e.kind + work_held callers (e ∷ earlier)
        ≤ work_held callers earlier + 2 * callers
    by_kind (Call method args) at = quiet (ap (parts_behind earlier e.caller) at)
    by_kind (Return reply) at = quiet (ap (parts_behind earlier e.caller) at)
    by_kind (Write word value) at = quiet (ap (parts_behind earlier e.caller) at)
    by_kind Commit at = quiet (ap (parts_behind earlier e.caller) at)
    by_kind BlockOpen at = quiet (ap (parts_behind earlier e.caller) at)
    by_kind BlockCommit at = quiet (ap (parts_behind earlier e.caller) at)
    by_kind BlockClose at =
        let closed : has_block e.caller (e ∷ earlier) ≡ false =
        (λ j. unwrap_or (option_or (cond (same_number e.caller j) (open_or_close (at j)) None)
        (first_answer (by_caller e.caller open_or_close) earlier)) false) in
        let none : held (e ∷ earlier) e.caller ≡ 0 =
        cc in
        let there = is_among_from 0 callers e.caller (omega arith) (omega (arith, low)) in
        let all = sum_closed (held (e ∷ earlier)) (held earlier) 2 e.caller (numbers_below callers)
        there none more in
        let own : held earlier e.caller ≡ 2 * parts_since (commit_count earlier)
        (inner_number e.caller earlier) =
        cc (opened at) in
        let here = ap (λ kind. parts_behind earlier e.caller kind) at in
        omega (arith, all, two_each 0 callers, own, here)

-- the same, of what is kept before an entry
pub paid_now : {v w : WordsView} (e : Entry) {kind : Kind} (earlier : List Entry)
    (writes : List (ℕ × ℕ)) (s0 s1 : ℕ)
    → w ≡ v → e.kind ≡ kind → e.caller < w.shadow.header.callers
    → (kind ≡ BlockClose → has_block e.caller earlier ≡ true)
    → length writes ≡ effect_count w.shadow e.caller kind
    → s1 ≤ s0 + 4 * length writes + 2 * parts_behind earlier e.caller kind
    → s1 + work_held v.shadow.header.callers (e ∷ earlier)
    ≤ s0 + work_held v.shadow.header.callers earlier + 4 * effect_count v.shadow e.caller e.kind + 2
    * v.shadow.header.callers
paid_now {v} {w} e {kind} earlier writes s0 s1 is at low opened count cost =
    rw (← is)
    (let n = w.shadow.header.callers in
    let effects : length writes ≡ effect_count w.shadow e.caller e.kind = count
    ∙ ap (effect_count w.shadow e.caller) (sym at) in
    let paid = late_paid n e earlier low (λ closes. opened (sym at ∙ closes)) in
    let here = ap (λ x. parts_behind earlier e.caller x) at in
    omega (arith, paid, here, effects, cost))

-- and whatever is kept after it
pub paid_at_most : {v w : WordsView} (e : Entry) {kind : Kind} (earlier : List Entry)
    (writes : List (ℕ × ℕ)) (s0 s1 : ℕ)
    → w ≡ v → e.kind ≡ kind → e.caller < w.shadow.header.callers
    → (kind ≡ BlockClose → has_block e.caller earlier ≡ true)
    → length writes ≡ effect_count w.shadow e.caller kind
    → s1 ≤ s0 + 4 * length writes + 2 * parts_behind earlier e.caller kind
    → s1 ≤ s0 + work_held v.shadow.header.callers earlier + 4 * effect_count v.shadow e.caller
    e.kind + 2 * v.shadow.header.callers
paid_at_most {v} {w} e {kind} earlier writes s0 s1 is at low opened count cost =
    let paid = paid_now {v = v} {w = w} e {kind = kind} earlier writes s0 s1 is at low opened count
    cost in
    omega (arith, paid)

pub paid_closed : {T E : Type 0} {v w : WordsView} (r : Result T E) (e : Entry) {kind : Kind}
    (earlier : List Entry) (writes : List (ℕ × ℕ)) (s0 s1 : ℕ)
    → w ≡ v → e.kind ≡ kind → e.caller < w.shadow.header.callers
    → (kind ≡ BlockClose → has_block e.caller earlier ≡ true)
    → length writes ≡ effect_count w.shadow e.caller kind
    → OnOk r (s1 ≤ s0 + 4 * length writes + 2 * parts_behind earlier e.caller kind)
    → OnOk r (s1 + work_held v.shadow.header.callers (e ∷ earlier)
    ≤ s0 + work_held v.shadow.header.callers earlier + 4 * effect_count v.shadow e.caller e.kind + 2
    * v.shadow.header.callers)
paid_closed {v = v} {w = w} (Ok x) e {kind} earlier writes s0 s1 is at low opened count cost =
    paid_now {v = v} {w = w} e {kind = kind} earlier writes s0 s1 is at low opened count cost
paid_closed (Err x) e earlier writes s0 s1 is at low opened count cost = tt

-- how many words a write has changed
pub one_changed : (b : Bool) (changed old : List ℕ) (w : ℕ) → changed ≡ cond b old (old ++ w ∷ [])
    → old ≡ [] → length changed ≡ cond b 0 1
one_changed b changed old w is none = search arith

-- and the end of a block
pub block_changed : (changed old : List ℕ) (kept : List (ℕ × ℕ)) → changed ≡ old ++ words_of kept
    → old ≡ [] → length changed ≡ length kept
block_changed changed old kept is none = cc (by_list kept)
  where
    by_list : (xs : List (ℕ × ℕ)) → length (words_of xs) ≡ length xs
    by_list [] = refl
    by_list (x ∷ xs) = ap suc (by_list xs)

-- which words a write has changed, and the end of a block
pub one_word : (b : Bool) (changed old : List ℕ) (w : ℕ) → changed ≡ cond b old (old ++ w ∷ [])
    → old ≡ [] → changed ≡ cond b [] (w ∷ [])
one_word b changed old w is none = search arith

pub block_words : (changed old : List ℕ) (kept : List (ℕ × ℕ)) → changed ≡ old ++ words_of kept
    → old ≡ [] → changed ≡ words_of kept
block_words changed old kept is none = is ∙ ap (λ xs. xs ++ words_of kept) none

-- and their prices
pub priced : {v w : WordsView} (price : Shows → ℕ → ℕ) (e : Entry) {kind : Kind} (changed : List ℕ)
    → w ≡ v → e.kind ≡ kind
    → changed ≡ effect_words w.shadow e.caller kind
    → sum_by (price w.views.shows) changed ≡ sum_by (price v.views.shows)
    (effect_words v.shadow e.caller e.kind)
priced {v} {w} price e {kind} changed is at same = cc
