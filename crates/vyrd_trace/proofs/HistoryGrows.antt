-- A legal history with one event more, and an induction over legal histories from the front.
use Rattle.std.proofs.Common.{◌≡◌, ℕ, zero, suc, ◌+◌, ◌<◌, ◌≤◌, ◌^◌, true, false, not, List, []}
use Rattle.std.proofs.Common.{◌∷◌, ◌++◌, map, length, Option, Some, refl, sym, ap, ◌∙◌, subst}
use Rattle.std.proofs.Common.{arith, append-nil, append_assoc}
use Rattle.std.specs.Prelude.{slice_get, unwrap_or}
use Rattle.std.specs.Option.{option_or}
use Rattle.std.specs.List.{list_all}
use Rattle.std.proofs.lemmas.List.Folds.{list_all-append, list_all-map}
use Rattle.vyrd_base.specs.declared.log.Kind.{Kind}
use Rattle.vyrd_base.specs.declared.history.Did.{Did}
use Rattle.vyrd_base.specs.declared.history.Did.TheVariants.{Read, Wrote, Took, Gave, Marked}
use Rattle.vyrd_base.specs.declared.history.Stamped.{Stamped}
use Rattle.vyrd_base.specs.Places.{places_after, newest_first}
use Rattle.vyrd_base.specs.Histories.{Cells, made_of, value_in, is_write, may_do, is_legal_at}
use Rattle.vyrd_base.specs.Histories.{is_legal}
pub use Rattle.vyrd_base.proofs.PlaceLaws.{length-newest_first}
use Rattle.vyrd_base.proofs.PlaceLaws.{with_later, places_after-append, newest_first-push}
use Rattle.vyrd_base.proofs.TestLaws.{both_true, first_true, second_true, is_below, is_same}
use Rattle.vyrd_base.proofs.TestLaws.{below_of, same_of}
use Rattle.vyrd_base.proofs.CellLaws.{is_lock_of}

-- what an event makes of a cell that had the value v
abbrev pub value_after : ℕ → ℕ → ℕ → Did → ℕ
value_after cell v caller did = unwrap_or (made_of cell caller did) v

or_else : (a b : Option ℕ) → unwrap_or (option_or a b) 0 ≡ unwrap_or a (unwrap_or b 0)
or_else a b = search arith

-- the values after one event more
pub value_in-snoc : (h : List Stamped) (e : Stamped) (cell : ℕ)
    → value_in (newest_first (h ++ e ∷ [])) cell ≡ value_after cell (value_in (newest_first h) cell)
    e.caller e.did
value_in-snoc h e cell = grind (arith, newest_first-push, or_else)

pub may_read : (z : Cells) (earlier : List Stamped) (caller c x : ℕ) → c < z.plain
    → x ≡ value_in earlier c
    → may_do z earlier caller (Read c x) ≡ true
may_read z earlier caller c x l e = search (both_true, is_below, is_same, arith)

pub may_write : (z : Cells) (earlier : List Stamped) (caller c x : ℕ) → c < z.plain → x < 2 ^ 63
    → may_do z earlier caller (Wrote c x) ≡ true
may_write z earlier caller c x l e = both_true _ _ (is_below c z.plain l) (is_below x (2 ^ 63) e)

pub may_take : (z : Cells) (earlier : List Stamped) (caller c : ℕ) → z.plain ≤ c → c < z.plain
    + z.locks → value_in earlier c ≡ 0
    → may_do z earlier caller (Took c) ≡ true
may_take z earlier caller c a b e = search (both_true, is_lock_of, is_same, arith)

pub may_give : (z : Cells) (earlier : List Stamped) (caller c : ℕ) → z.plain ≤ c → c < z.plain
    + z.locks
    → value_in earlier c ≡ caller + 1 → may_do z earlier caller (Gave c) ≡ true
may_give z earlier caller c a b e = search (both_true, is_lock_of, is_same, arith)

pub may_mark : (z : Cells) (earlier : List Stamped) (caller : ℕ) (kind : Kind) → is_write kind
    ≡ false → may_do z earlier caller (Marked kind) ≡ true
may_mark z earlier caller kind e = ap not e

-- one event more that may come next
pub legal-snoc : (z : Cells) (h : List Stamped) (e : Stamped) → is_legal z h ≡ true → e.number
    ≡ length h → e.caller < z.callers
    → may_do z (newest_first h) e.caller e.did ≡ true → is_legal z (h ++ e ∷ []) ≡ true
unfolding is_legal
legal-snoc z h e legal number caller may =
    ap (list_all (is_legal_at z)) (places_after-append [] h (e ∷ []))
    ∙ list_all-append (is_legal_at z) (map (with_later (e ∷ [])) (places_after [] h))
    (places_after (newest_first h) (e ∷ []))
    ∙ both_true _ _ (list_all-map (is_legal_at z) (with_later (e ∷ [])) (places_after [] h) ∙ legal)
    (both_true _ _ (both_true _ _ (both_true _ _ (is_same e.number (length (newest_first h)) (number
    ∙ sym (length-newest_first h))) (is_below e.caller z.callers caller)) may) refl)

-- what the event at a place is, after those before it
facts_at : (z : Cells) (earlier : List Stamped) (x : Stamped) (xs : List Stamped)
    → list_all (is_legal_at z) (places_after earlier (x ∷ xs)) ≡ true
    → (x.number ≡ length earlier) × (x.caller < z.callers)
    × (may_do z earlier x.caller x.did ≡ true)
    × (list_all (is_legal_at z) (places_after (x ∷ earlier) xs) ≡ true)
facts_at z earlier x xs legal = search (first_true, same_of, below_of, second_true, arith)

-- the events that follow have the numbers that follow
numbered_after : (z : Cells) (earlier xs : List Stamped) → list_all (is_legal_at z)
    (places_after earlier xs) ≡ true
    → (i : ℕ) (e : Stamped) → slice_get xs i ≡ Some e → (e.number ≡ length earlier + i)
    × (e.caller < z.callers)
numbered_after z earlier [] legal i e at = absurd (cc)
numbered_after z earlier (x ∷ xs) legal zero e at = search (facts_at, arith)
numbered_after z earlier (x ∷ xs) legal (suc i) e at =
    let f = facts_at z earlier x xs legal in
    let r = numbered_after z (x ∷ earlier) xs f.3 i e at in
    let n = r.0 in (omega arith, r.1)

-- the event at place i has the number i, and a caller in range
pub numbered : (z : Cells) (h : List Stamped) → is_legal z h ≡ true → (i : ℕ) (e : Stamped)
    → slice_get h i ≡ Some e
    → (e.number ≡ i) × (e.caller < z.callers)
unfolding is_legal
numbered z h legal i e at = let r = numbered_after z [] h legal i e at in let n = r.0 in
    (omega arith, r.1)

module _ (z : Cells) (P : List Stamped → Type 0) (none : P [])
    (more : (h : List Stamped) (e : Stamped) → P h → may_do z (newest_first h) e.caller e.did ≡ true
    → P (h ++ e ∷ [])) where
  -- from the events h on
  onward : (h xs : List Stamped) → P h → list_all (is_legal_at z) (places_after (newest_first h) xs)
      ≡ true → P (h ++ xs)
  onward h [] so_far legal = subst P (sym (append-nil h)) so_far
  onward h (x ∷ xs) so_far legal =
      let f = facts_at z (newest_first h) x xs legal in
      let next = onward (h ++ x ∷ []) xs (more h x so_far f.2) (cc (newest_first-push h x, f.3)) in
      subst P (append_assoc h _ _) next

  -- what holds of no event, and after each event that may come next, holds of a legal history
  pub legal_induction : (h : List Stamped) → is_legal z h ≡ true → P h
  unfolding is_legal
  legal_induction h legal = onward [] h none legal
