-- What each caller did in a history that was put together from lanes.
use Rattle.vyrd_live.proofs.Prelude.{◌≡◌, ◌≢◌, ℕ, suc, ◌≤◌, Bool, true, false, cond, List, [], ◌∷◌}
use Rattle.vyrd_live.proofs.Prelude.{map, Some, None, refl, ap, ◌∙◌, arith, ne_eqb, ◌==◌, slice_get}
use Rattle.vyrd_live.proofs.Prelude.{cons_option, Stamped, newest_first, newest_first_onto, Cells}
use Rattle.vyrd_live.proofs.Prelude.{is_legal, part_of, part, dids_of, done_by}
use Rattle.vyrd_trace.proofs.HistoryGrows.{numbered}

-- the events of one caller, in any order
of_part : (c : ℕ) (es : List Stamped) → part_of c es ≡ map (λ (e : Stamped). e.did) (part c es)
of_part c [] = refl
of_part c (e ∷ es) = by_caller (e.caller == c) (of_part c es)
  where
    by_caller : (b : Bool) → part_of c es ≡ map (λ (e : Stamped). e.did) (part c es)
        → cons_option (cond b (Some e.did) None) (part_of c es) ≡ map (λ (e : Stamped). e.did)
        (cond b (e ∷ part c es) (part c es))
    by_caller true rest = ap (λ xs. e.did ∷ xs) rest
    by_caller false rest = rest

-- one caller's part of the list the other way round
part_onto : (c : ℕ) (earlier es : List Stamped) → part c (newest_first_onto earlier es)
    ≡ newest_first_onto (part c earlier) (part c es)
part_onto c earlier [] = refl
part_onto c earlier (e ∷ es) = part_onto c (e ∷ earlier) es ∙ by_caller (e.caller == c)
  where
    by_caller : (b : Bool) → newest_first_onto (cond b (e ∷ part c earlier) (part c earlier))
        (part c es) ≡ newest_first_onto (part c earlier)
        (cond b (e ∷ part c es) (part c es))
    by_caller true = refl
    by_caller false = refl

-- what a caller did is what the events of its part did
pub done_by-part : (c : ℕ) (history : List Stamped) → done_by c history ≡ dids_of (part c history)
done_by-part c history = cc (of_part c (newest_first history), part_onto c [] history)

-- a caller that no event has did nothing
pub no_part : (c : ℕ) (es : List Stamped)
    → ((i : ℕ) (e : Stamped) → slice_get es i ≡ Some e → e.caller ≢ c) → part c es ≡ []
no_part c [] apart = refl
no_part c (e ∷ es) apart = ap (λ b. cond b (e ∷ part c es) (part c es))
    (ne_eqb _ c (apart 0 e refl)) ∙ no_part c es (λ i x is. apart (suc i) x is)

pub nothing_done : (z : Cells) (c : ℕ) (history : List Stamped) → is_legal z history ≡ true
    → z.callers ≤ c → done_by c history ≡ []
nothing_done z c history legal out = search (done_by-part, no_part, numbered, arith)
