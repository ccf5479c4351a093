-- How the numbers of commits and of returns without a commit grow, entry by entry.
use Rattle.vyrd_plain.proofs.Prelude
use Prelude.{◌≡◌, ℕ, suc, ◌+◌, ◌<◌, Bool, true, false, cond, ◌&&◌, List, ◌∷◌, length, take, drop}
use Prelude.{get_or, set, Some, None, slice_get, ap, subst, ◌∙◌, sym, arith, drop-cons, count_by}
use Prelude.{not, sum_by-cons, slice_get_within, Header, Kind, Call, Return, Write, Commit}
use Prelude.{BlockOpen, BlockClose, BlockCommit, Entry, places_after, newest_first, has_committed}
use Prelude.{commit_or_call, is_return, observer_returns, entry, by_same, committed_after}
use Prelude.{AreCommitted, newest_next, committed-other, committed-quiet, committed-own}
use Prelude.{slice_get-set_same, slice_get-set_other, apart_of}

-- a call, a commit or a return tells of its caller whether it has committed then
changed : (h : Header) (c : ℕ) (kind : Kind) (earlier : List Entry) (committed : List Bool)
    (b : Bool) → c < h.callers
    → AreCommitted h earlier committed
    → commit_or_call kind ≡ Some b → AreCommitted h (entry c kind ∷ earlier) (set committed c b)
changed h c kind earlier committed b here so own d within = by_same c d
    (λ same. subst
    (λ k. slice_get (set committed c b) k ≡ Some (has_committed k (entry c kind ∷ earlier))) same
    (slice_get-set_same committed c b (slice_get_within _ c (has_committed c _) (so c here))
    ∙ ap Some (sym (committed-own c kind earlier b own))))
    (λ other. slice_get-set_other _ c d b (apart_of c d other) ∙ so d within
    ∙ ap Some (sym (committed-other d c _ _ other)))

-- any other entry changes nothing
unchanged : (h : Header) (c : ℕ) (kind : Kind) (earlier : List Entry) (committed : List Bool)
    → commit_or_call kind ≡ None
    → AreCommitted h earlier committed
    → AreCommitted h (entry c kind ∷ earlier) committed
unchanged h c kind earlier committed quiet so = search (committed-quiet, arith)

pub committed-next : (h : Header) (c : ℕ) (kind : Kind) (earlier : List Entry)
    (committed : List Bool) → c < h.callers
    → AreCommitted h earlier committed
    → AreCommitted h (entry c kind ∷ earlier) (committed_after committed c kind)
committed-next h c (Call method args) earlier committed here so = search (changed, here, arith)
committed-next h c (Return reply) earlier committed here so = search (changed, here, arith)
committed-next h c (Write word value) earlier committed here so = search (unchanged, arith)
committed-next h c Commit earlier committed here so = search (changed, here, arith)
committed-next h c BlockOpen earlier committed here so = search (unchanged, arith)
committed-next h c BlockClose earlier committed here so = search (unchanged, arith)
committed-next h c BlockCommit earlier committed here so = search (changed, here, arith)

-- how many executions return without a commit from a place on
abbrev pub observers_from : List Entry → ℕ → ℕ
observers_from es at = count_by observer_returns
    (places_after (newest_first (take at es)) (drop at es))

pub observers_next : (es : List Entry) (at : ℕ) (d : Entry) → at < length es
    → observers_from es at ≡ cond (observer_returns (record {
      earlier = newest_first (take at es);
      here = get_or es at d;
      later = drop (at + 1) es;
    })) 1 0 + observers_from es (at + 1)
observers_next es at d within =
    let more : suc at ≡ at + 1 = omega arith in
    let earlier = newest_first (take at es) in
    let here = get_or es at d in
    ap (λ later. count_by observer_returns (places_after earlier later))
    (drop-cons es at d within ∙ ap (λ n. here ∷ drop n es) more)
    ∙ sum_by-cons (λ place. cond (observer_returns place) 1 0) (record {
      earlier = earlier;
      here = here;
      later = drop (at + 1) es;
    }) (places_after (here ∷ earlier) (drop (at + 1) es))
    ∙ ap (λ before. cond
    (observer_returns (record { earlier = earlier; here = here; later = drop (at + 1) es })) 1 0
    + count_by observer_returns (places_after before (drop (at + 1) es)))
    (sym (newest_next es at d within))

-- the same for an entry that was read, with whether such a return stands there
pub observers_step : (es : List Entry) (at : ℕ) (r : Entry) (b : Bool) → at < length es
    → get_or es at r ≡ r
    → b ≡ (is_return r.kind && not (has_committed r.caller (newest_first (take at es))))
    → observers_from es at ≡ cond b 1 0 + observers_from es (at + 1)
observers_step es at r b within same returns = grind (arith, within, observers_next)

pub committed_step : (h : Header) (es : List Entry) (at : ℕ) (r : Entry) (old new : List Bool)
    → at < length es
    → get_or es at r ≡ r → r.caller < h.callers
    → AreCommitted h (newest_first (take at es)) old → new ≡ committed_after old r.caller r.kind
    → AreCommitted h (newest_first (take (at + 1) es)) new
committed_step h es at r old new within same low so after =
    subst (AreCommitted h (newest_first (take (at + 1) es))) (sym after)
    (subst (λ earlier. AreCommitted h earlier (committed_after old r.caller r.kind))
    (sym (newest_next es at r within ∙ ap (λ e. e ∷ newest_first (take at es)) same))
    (committed-next h r.caller r.kind (newest_first (take at es)) old low so))

-- one more where the test holds
pub counted_true : (b : Bool) (old new rest total : ℕ) → b ≡ true → new ≡ old + 1
    → old + (cond b 1 0 + rest) ≡ total → new + rest ≡ total
counted_true b old new rest total is one e = search arith

pub counted_false : (b : Bool) (old new rest total : ℕ) → b ≡ false → new ≡ old
    → old + (cond b 1 0 + rest) ≡ total → new + rest ≡ total
counted_false b old new rest total is one e = search arith
