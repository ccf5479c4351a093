-- Where the writes stand that blocks keep.
use Rattle.vyrd_shadow.proofs.Prelude
use Prelude.{◌≡◌, ℕ, suc, zero, ◌+◌, ◌<◌, Bool, true, false, cond, ◌||◌, List, [], ◌∷◌, ◌++◌}
use Prelude.{length, Option, Some, None, refl, ap, ◌∙◌, sym, subst, arith, get_or, set}
use Prelude.{get_or-set_other, get_or-set_same, length-set, length-append, ◌==◌, unwrap_or, is_some}
use Prelude.{list_any, nat_tests, Write, Entry, StartWord, has_block, block_writes, broken_rule}
use Prelude.{entry, by_same, same_of, with_kept, is_at, kept_by, ShadowKept, HasFollowed}
use Rattle.std.proofs.Math.ListN.{get_or-append}
use Rattle.std.proofs.Math.Seq.{get_or-append_seam}
use Rattle.vyrd_base.proofs.EffectLaws.{never}
use Rattle.vyrd_base.proofs.SettledWords.{is_to, some_to, holds_is}
use Rattle.vyrd_base.proofs.ShadowLaws.{write_kept}
use Rattle.vyrd_base.proofs.TestLaws.{first_true, second_true, same_number}
use Rattle.vyrd_shadow.specs.Blocks.{IsFree, ArePlaced}
use Rattle.vyrd_shadow.proofs.KeptWrites.{differs}

-- a place is one of the block's
low_at : (i w : ℕ) (ws : List (ℕ × ℕ)) → is_at i w ws ≡ true → i < length ws
low_at i w ws at = search (first_true, arith)

-- and its word is this one
word_at : (i w : ℕ) (ws : List (ℕ × ℕ)) → is_at i w ws ≡ true → (get_or ws i (0, 0)).0 ≡ w
word_at i w ws at = search (same_of, second_true, arith)

at_from : (i w : ℕ) (ws : List (ℕ × ℕ)) → i < length ws → (get_or ws i (0, 0)).0 ≡ w → is_at i w ws
    ≡ true
at_from i w ws low is = grind (arith, nat_tests, same_number)

none_at : {P : Type 0} (i w : ℕ) → is_at i w [] ≡ true → P
none_at i w at = absurd (omega (arith, low_at i w [] at))

-- what a caller's block keeps, once one was replaced
kept_same : (blocks : List (Option (List (ℕ × ℕ)))) (c : ℕ) (b : Option (List (ℕ × ℕ)))
    → c < length blocks → kept_by (set blocks c b) c ≡ unwrap_or b []
kept_same blocks c b low = ap (λ o. unwrap_or o []) (get_or-set_same blocks c b None low)

kept_other : (blocks : List (Option (List (ℕ × ℕ)))) (c d : ℕ) (b : Option (List (ℕ × ℕ)))
    → (c == d) ≡ false
    → kept_by (set blocks c b) d ≡ kept_by blocks d
kept_other blocks c d b other = cc (get_or-set_other blocks c d b None (differs c d other))

-- one block is replaced
placed_set : (blocks : List (Option (List (ℕ × ℕ)))) (holders : List (ℕ × ℕ)) (c : ℕ)
    (b : Option (List (ℕ × ℕ))) → c < length blocks
    → ((i w : ℕ) → is_at i w (unwrap_or b []) ≡ true → get_or holders w (0, 0) ≡ (c, i))
    → ((d i w : ℕ) → is_at i w (kept_by blocks d) ≡ true → get_or holders w (0, 0) ≡ (d, i))
    → ArePlaced (set blocks c b) holders
placed_set blocks holders c b low own others = search (by_same, is_at, kept_same, kept_other, arith)

-- a write to a new word
pub placed_pushed : (blocks : List (Option (List (ℕ × ℕ)))) (holders : List (ℕ × ℕ)) (c w v n : ℕ)
    → c < length blocks
    → w < length holders → ((d i : ℕ) → is_at i w (kept_by blocks d) ≡ false)
    → n ≡ length (kept_by blocks c) → ArePlaced blocks holders
    → ArePlaced (set blocks c (Some (kept_by blocks c ++ (w, v) ∷ []))) (set holders w (c, n))
placed_pushed blocks holders c w v n low low_w new size placed =
    placed_set blocks (set holders w (c, n)) c (Some (ws ++ (w, v) ∷ [])) low own before
  where
    ws : List (ℕ × ℕ)
    ws = kept_by blocks c

    before : (d i x : ℕ) → is_at i x (kept_by blocks d) ≡ true → get_or (set holders w (c, n)) x
        (0, 0) ≡ (d, i)
    before d i x at = search (by_same, never, is_at, get_or-set_other, differs, placed, arith)

    own : (i x : ℕ) → is_at i x (ws ++ (w, v) ∷ []) ≡ true → get_or (set holders w (c, n)) x (0, 0)
        ≡ (c, i)
    own i x at =
        let long : length (ws ++ (w, v) ∷ []) ≡ length ws + 1 = length-append ws ((w, v) ∷ []) in
        let within : i < length ws + 1 = omega (arith, low_at i x (ws ++ (w, v) ∷ []) at, long) in
        let is = word_at i x (ws ++ (w, v) ∷ []) at in
        by_same (length ws) i
        (λ same.
        let last : w ≡ x = sym (ap (λ (y : ℕ × ℕ). y.0) (get_or-append_seam ws (w, v) [] (0, 0)))
        ∙ subst (λ j. (get_or (ws ++ (w, v) ∷ []) j (0, 0)).0 ≡ x) (sym same) is in
        subst (λ y. get_or (set holders w (c, n)) y (0, 0) ≡ (c, i)) last
        (get_or-set_same holders w (c, n) (0, 0) low_w ∙ ap (λ j. (c, j)) (size ∙ same)))
        (λ other.
        let front : i < length ws = grind (arith, nat_tests, within, other) in
        before c i x
        (at_from i x ws front
        (sym (ap (λ (y : ℕ × ℕ). y.0) (get_or-append ws ((w, v) ∷ []) (0, 0) i front)) ∙ is)))

abbrev none : ℕ × ℕ
none = (0, 0)

pub placed_still : (blocks : List (Option (List (ℕ × ℕ)))) (old new : List (ℕ × ℕ))
    → ((w : ℕ) → get_or new w (0, 0) ≡ get_or old w (0, 0)) → ArePlaced blocks old
    → ArePlaced blocks new
placed_still blocks old new same placed = λ c i w at. same w ∙ placed c i w at

-- a word whose holder doesn't keep it there isn't kept by that caller
pub not_kept : (blocks : List (Option (List (ℕ × ℕ)))) (holders : List (ℕ × ℕ)) (c w : ℕ)
    → ArePlaced blocks holders
    → is_at (get_or holders w (0, 0)).1 w (kept_by blocks c) ≡ false → (i : ℕ)
    → is_at i w (kept_by blocks c) ≡ false
not_kept blocks holders c w placed nowhere i = grind (arith, placed, nowhere, is_at, never)

-- a new word comes last
pub pushed_is : (ws : List (ℕ × ℕ)) (w v : ℕ) → ((i : ℕ) → is_at i w ws ≡ false) → ws ++ (w, v) ∷ []
    ≡ with_kept ws w v
pushed_is [] w v new = refl
pushed_is ((q, u) ∷ ws) w v new = by_same w q
    (λ same. never (new 0) (at_from 0 w ((q, u) ∷ ws) (omega arith) (sym same)))
    (λ other. ap (λ t. (q, u) ∷ t) (pushed_is ws w v (λ i. later i))
    ∙ ap (λ b. cond b ((q, v) ∷ ws) ((q, u) ∷ with_kept ws w v)) (sym other))
  where
    by_test : (i : ℕ) (b : Bool) → is_at i w ws ≡ b → b ≡ false
    by_test i false e = refl
    by_test i true e = never (new (suc i))
        (at_from (suc i) w ((q, u) ∷ ws) (omega (arith, low_at i w ws e)) (word_at i w ws e))

    later : (i : ℕ) → is_at i w ws ≡ false
    later i = by_test i (is_at i w ws) refl

-- a word that stands at one place keeps it
pub replaced_is : (ws : List (ℕ × ℕ)) (p w v : ℕ) → is_at p w ws ≡ true
    → ((i : ℕ) → is_at i w ws ≡ true → i ≡ p)
    → set ws p (w, v) ≡ with_kept ws w v
replaced_is [] p w v there one = none_at p w there
replaced_is ((q, u) ∷ ws) zero w v there one = cc (word_at 0 w ((q, u) ∷ ws) there, same_number w)
replaced_is ((q, u) ∷ ws) (suc p) w v there one = by_same w q
    (λ same. absurd (omega (arith, one 0 (at_from 0 w ((q, u) ∷ ws) (omega arith) (sym same)))))
    (λ other. ap (λ t. (q, u) ∷ t)
    (replaced_is ws p w v (at_from p w _ (omega (arith, low_at (suc p) w ((q, u) ∷ ws) there))
    (word_at (suc p) w ((q, u) ∷ ws) there))
    (λ i at. omega (
      arith,
      one (suc i) (at_from (suc i) w ((q, u) ∷ ws) (omega (arith, low_at i w ws at))
          (word_at i w ws at)),
    ))) ∙ ap (λ b. cond b ((q, v) ∷ ws) ((q, u) ∷ with_kept ws w v)) (sym other))

-- the place of a word's holder is the only one in its block
pub one_place : (blocks : List (Option (List (ℕ × ℕ)))) (holders : List (ℕ × ℕ)) (c w i : ℕ)
    → ArePlaced blocks holders
    → is_at i w (kept_by blocks c) ≡ true → i ≡ (get_or holders w (0, 0)).1
one_place blocks holders c w i placed at = sym (ap (λ (h : ℕ × ℕ). h.1) (placed c i w at))

-- the place of a word's holder, as it was read
pub place_is : (holders lent : List (ℕ × ℕ)) (w : ℕ) (holder : ℕ × ℕ)
    → holder ≡ get_or lent w (0, 0) → lent ≡ holders
    → holder.1 ≡ (get_or holders w (0, 0)).1
place_is holders lent w holder is same = cc

-- the word stands at its holder's place, and the write there is replaced
replaced_there : (blocks : List (Option (List (ℕ × ℕ)))) (holders : List (ℕ × ℕ)) (c w v p : ℕ)
    → ArePlaced blocks holders
    → p ≡ (get_or holders w (0, 0)).1 → is_at p w (kept_by blocks c) ≡ true
    → set (kept_by blocks c) p (w, v) ≡ with_kept (kept_by blocks c) w v
replaced_there blocks holders c w v p placed place there = search (replaced_is, one_place, arith)

pub replaced_in : (blocks : List (Option (List (ℕ × ℕ)))) (holders : List (ℕ × ℕ)) (c w v p : ℕ)
    (read block : Option (List (ℕ × ℕ)))
    → ArePlaced blocks holders → p ≡ (get_or holders w (0, 0)).1 → is_at p w (kept_by blocks c)
    ≡ true → read ≡ get_or blocks c None
    → block ≡ Some (set (unwrap_or read []) p (w, v)) → set blocks c block
    ≡ set blocks c (Some (with_kept (kept_by blocks c) w v))
replaced_in blocks holders c w v p read block placed place there is new =
    grind (arith, read, placed, there, replaced_there)

pub replaced_length : (blocks : List (Option (List (ℕ × ℕ)))) (holders : List (ℕ × ℕ)) (c w v p : ℕ)
    → ArePlaced blocks holders
    → p ≡ (get_or holders w (0, 0)).1 → is_at p w (kept_by blocks c) ≡ true
    → length (with_kept (kept_by blocks c) w v) ≡ length (kept_by blocks c) + 0
replaced_length blocks holders c w v p placed place there =
    let same = ap length (replaced_there blocks holders c w v p placed place there) in
    omega (arith, same, length-set (kept_by blocks c) p (w, v))

-- it doesn't, and the write comes last
pub pushed_in : (blocks : List (Option (List (ℕ × ℕ)))) (holders : List (ℕ × ℕ)) (c w v p : ℕ)
    → ArePlaced blocks holders
    → p ≡ (get_or holders w (0, 0)).1 → is_at p w (kept_by blocks c) ≡ false → kept_by blocks c
    ++ (w, v) ∷ [] ≡ with_kept (kept_by blocks c) w v
pushed_in blocks holders c w v p placed place nowhere = search (pushed_is, not_kept, is_at, arith)

pub pushed_length : (blocks : List (Option (List (ℕ × ℕ)))) (holders : List (ℕ × ℕ)) (c w v p : ℕ)
    → ArePlaced blocks holders
    → p ≡ (get_or holders w (0, 0)).1 → is_at p w (kept_by blocks c) ≡ false
    → length (with_kept (kept_by blocks c) w v) ≡ length (kept_by blocks c) + 1
pushed_length blocks holders c w v p placed place nowhere =
    sym (ap length (pushed_in blocks holders c w v p placed place nowhere))
    ∙ length-append (kept_by blocks c) ((w, v) ∷ [])

-- the same of the block that was read
pub pushed_read : (blocks : List (Option (List (ℕ × ℕ)))) (holders holders' : List (ℕ × ℕ))
    (c w v n : ℕ) (read block : Option (List (ℕ × ℕ))) → c < length blocks
    → ArePlaced blocks holders → ((x : ℕ) → get_or holders' x (0, 0) ≡ get_or holders x (0, 0))
    → w < length holders'
    → ((d i : ℕ) → is_at i w (kept_by blocks d) ≡ false) → read ≡ get_or blocks c None
    → n ≡ length (unwrap_or read [])
    → block ≡ Some (unwrap_or read [] ++ (w, v) ∷ []) → ArePlaced (set blocks c block)
    (set holders' w (c, n))
pushed_read blocks holders holders' c w v n read block low placed same low_w new is size pushed =
    grind (arith, read, placed, pushed, placed_pushed, placed_still)

-- a word is among the writes
any_at : (ws : List (ℕ × ℕ)) (i w : ℕ) → is_at i w ws ≡ true → list_any (is_to w) ws ≡ true
any_at [] i w at = none_at i w at
any_at ((q, u) ∷ ws) zero w at = search (word_at, same_number, arith)
any_at ((q, u) ∷ ws) (suc i) w at = by_test (q == w)
    (any_at ws i w (at_from i w ws (omega (arith, low_at (suc i) w ((q, u) ∷ ws) at))
    (word_at (suc i) w ((q, u) ∷ ws) at)))
  where
    by_test : (b : Bool) → list_any (is_to w) ws ≡ true → (b || list_any (is_to w) ws) ≡ true
    by_test true e = refl
    by_test false e = e

-- a block that keeps something is one of the blocks, and open
opened_at : (blocks : List (Option (List (ℕ × ℕ)))) (c i w : ℕ) → is_at i w (kept_by blocks c)
    ≡ true
    → (c < length blocks) × (is_some (get_or blocks c None) ≡ true)
opened_at [] c i w at = none_at i w at
opened_at (None ∷ blocks) zero i w at = none_at i w at
opened_at (Some ws ∷ blocks) zero i w at = (omega arith, refl)
opened_at (b ∷ blocks) (suc c) i w at = let rest = opened_at blocks c i w at in
    (omega (arith, rest.0), rest.1)

-- a write that keeps the rules is to a word that no other block keeps
pub free_by_rules : (kept : ShadowKept) (starting : List StartWord) (earlier : List Entry)
    (c word value : ℕ) → length kept.blocks ≡ kept.header.callers
    → HasFollowed kept starting earlier → broken_rule kept.header earlier
    (entry c (Write word value)) ≡ None → IsFree kept.blocks c word
free_by_rules kept starting earlier c word value size followed keeps = λ d i at. by_same d c
    (λ same. same) (λ other.
    let here = opened_at kept.blocks d i word at in
    let low : d < kept.header.callers = omega (arith, here.0, size) in
    let inside : has_block d earlier ≡ true = sym (followed.blocks d low) ∙ here.1 in
    let written : list_any (is_to word) (block_writes d earlier)
    ≡ true = sym (some_to word (block_writes d earlier))
    ∙ ap is_some (sym (followed.values d word low inside)) ∙ some_to word (kept_by kept.blocks d)
    ∙ any_at (kept_by kept.blocks d) i word at in
    never ((write_kept kept.header c word value earlier keeps).free d low other)
    (holds_is d word earlier inside ∙ written))
