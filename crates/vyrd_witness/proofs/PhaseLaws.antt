-- The phases of the callers, with one more entry.
use Rattle.vyrd_witness.proofs.Prelude
use Prelude.{◌≡◌, ℕ, ◌+◌, ◌<◌, Bool, true, false, ◌&&◌, List, ◌∷◌, take, set, length, Some, None}
use Prelude.{slice_get, refl, ap, subst, ◌∙◌, sym, ◌==◌, slice_get_within, Header, Kind, Call}
use Prelude.{Return, Write, Commit, BlockOpen, BlockClose, BlockCommit, Entry, first_break}
use Prelude.{newest_first, has_block, entry, by_same, own_block, own_inner, rules_at, caller_kept}
use Prelude.{newest_first-push, apart_of, take_one_more, slice_get-set_same, slice_get-set_other}
use Prelude.{Phase, phase_of, phase_after, ArePhases}

-- one entry further, in the log itself
pub newest_at : (log : List Entry) (n : ℕ) (e : Entry) → slice_get log n ≡ Some e
    → newest_first (take (n + 1) log) ≡ e ∷ newest_first (take n log)
newest_at log n e here = cc (take_one_more log n e here, newest_first-push (take n log) e)

-- a caller's own entry
own_parts : (c : ℕ) (kind : Kind) (earlier : List Entry) (phase : Phase)
    → has_block c (entry c kind ∷ earlier) ≡ phase.in_block
    → (phase_of c (entry c kind ∷ earlier)).has_commit ≡ phase.has_commit
    → phase_of c (entry c kind ∷ earlier) ≡ phase
own_parts c kind earlier phase block commit =
    λ i. record { in_block = block i; has_commit = commit i }

and_yes : (b : Bool) → (b && true) ≡ b
and_yes true = refl
and_yes false = refl

pub phase_own : (c : ℕ) (kind : Kind) (earlier : List Entry)
    → phase_of c (entry c kind ∷ earlier) ≡ phase_after kind (phase_of c earlier)
phase_own c (Call method args) earlier =
    let kind = Call method args in
    own_parts c kind earlier _ (own_block c kind earlier) (own_inner c kind earlier)
phase_own c (Return reply) earlier =
    let kind = Return reply in
    own_parts c kind earlier _ (own_block c kind earlier) (own_inner c kind earlier)
phase_own c (Write word value) earlier =
    let kind = Write word value in
    own_parts c kind earlier _ (own_block c kind earlier) (own_inner c kind earlier)
phase_own c Commit earlier = own_parts c Commit earlier _ (own_block c Commit earlier)
    (own_inner c Commit earlier ∙ and_yes _)
phase_own c BlockOpen earlier = own_parts c BlockOpen earlier _ (own_block c BlockOpen earlier)
    (own_inner c BlockOpen earlier)
phase_own c BlockClose earlier = simp (own_parts, own_block, own_inner)
phase_own c BlockCommit earlier = simp (own_parts, own_block, own_inner)

-- another caller's
pub phase_other : (c d : ℕ) (kind : Kind) (earlier : List Entry) → (d == c) ≡ false
    → phase_of c (entry d kind ∷ earlier) ≡ phase_of c earlier
phase_other c d kind earlier other = cc

-- all phases, after an entry whose caller had this one
pub phases_next : (h : Header) (log : List Entry) (at : ℕ) (e : Entry) (phases : List Phase)
    (old new : Phase) → slice_get log at ≡ Some e
    → ArePhases h phases (newest_first (take at log)) → e.caller < h.callers
    → slice_get phases e.caller ≡ Some old → new ≡ phase_after e.kind old
    → ArePhases h (set phases e.caller new) (newest_first (take (at + 1) log))
phases_next h log at e phases old new here are low there is c within = by_same e.caller c
    (λ same. subst (λ k. slice_get (set phases e.caller new) k ≡ Some (phase_of k next)) same mine)
    (λ other. slice_get-set_other phases e.caller c new (apart_of e.caller c other)
    ∙ are c within ∙ ap Some (sym (ap (phase_of c) (newest_at log at e here)
    ∙ phase_other c e.caller e.kind earlier other)))
  where
    earlier : List Entry
    earlier = newest_first (take at log)

    next : List Entry
    next = newest_first (take (at + 1) log)

    before : old ≡ phase_of e.caller earlier
    before = let both : Some old ≡ Some (phase_of e.caller earlier) =
        sym there ∙ are e.caller low in cc

    mine : slice_get (set phases e.caller new) e.caller ≡ Some (phase_of e.caller next)
    mine = slice_get-set_same phases e.caller new (slice_get_within phases e.caller old there)
        ∙ ap Some (is ∙ ap (phase_after e.kind) before
        ∙ sym (ap (phase_of e.caller) (newest_at log at e here)
        ∙ phase_own e.caller e.kind earlier))

-- the phase that is kept of the caller of an entry
pub phase_kept : (h : Header) (c : ℕ) (phases : List Phase) (phase : Phase) (earlier : List Entry)
    → ArePhases h phases earlier → c < h.callers → slice_get phases c ≡ Some phase
    → phase ≡ phase_of c earlier
phase_kept h c phases phase earlier are low there =
    let both : Some phase ≡ Some (phase_of c earlier) = sym there ∙ are c low in cc

-- where the log keeps all rules, the caller of an entry is one of the header's, and its phase is
-- kept
pub caller_low : (h : Header) (log : List Entry) (at : ℕ) (e : Entry) → slice_get log at ≡ Some e
    → first_break h log ≡ None → e.caller < h.callers
caller_low h log at e here kept = caller_kept h _ e (rules_at h log at e here kept)

pub caller_inside : (h : Header) (log : List Entry) (at : ℕ) (e : Entry) (phases : List Phase)
    → slice_get log at ≡ Some e → first_break h log ≡ None
    → ArePhases h phases (newest_first (take at log)) → e.caller < length phases
caller_inside h log at e phases here kept are = slice_get_within phases e.caller _
    (are e.caller (caller_low h log at e here kept))
