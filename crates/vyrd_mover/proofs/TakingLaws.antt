-- A history is taken in event by event.
use Rattle.vyrd_mover.proofs.Prelude
use Prelude.{◌≡◌, ℕ, ◌+◌, ◌^◌, ◌<◌, true, List, [], ◌∷◌, ◌++◌, map, length, replicate, take, drop}
use Prelude.{drop-cons, get_or, suc, refl, ap, sym, ◌∙◌, subst, arith, length-map, Header, Stamped}
use Prelude.{newest_first, cells_of, is_legal, plain_words, lock_words, length-newest_first}
use Prelude.{first_true, second_true, same_of, below_of, step_of, step_coded, code_of, IsShort}
use Prelude.{role_of, words_for, UsageKept, HaveSeen, IsInRange, IsBehind, HasPlaceIn, held_by}
use Prelude.{kept_after, unused, Taken, HasTaken, IsNext}
use Rattle.std.proofs.lemmas.List.{take-append-drop, take_more}
use Rattle.vyrd_base.proofs.HeaderLaws.{few_callers, few_words}
use Rattle.vyrd_mover.proofs.SeenLaws.{have_seen_nothing, have_seen_more}
use Rattle.vyrd_mover.proofs.LegalPlaces.{MayCome, in_range, behind, wider, has_place_in}
use Rattle.vyrd_mover.proofs.TextLaws.{all_more, all_here, legal_test}
use Rattle.vyrd_mover.proofs.StepLaws.{steps_more, short_role}

pub taken_nothing : (h : Header) (uses : UsageKept) → uses.held ≡ replicate h.callers
    (replicate (words_for (lock_words h)) 0) → uses.cells ≡ replicate (plain_words h) unused
    → HasTaken (record { header = h; uses = uses; steps = [] }) []
unfolding is_legal
taken_nothing h uses held cells = record {
  legal = refl;
  seen = subst (HaveSeen (cells_of h) []) (λ i. record { held = sym held i; cells = sym cells i })
      (have_seen_nothing (cells_of h));
  steps_are = refl;
}

-- what a legal event keeps to
pub may_come : (h : Header) (history : List Stamped) (e : Stamped) → IsNext h history e
    → MayCome (cells_of h) (newest_first history) (length history) e
may_come h history e legal =
    search (first_true, same_of, length-newest_first, below_of, second_true, arith)

-- what is asked of a header's next event where it is taken in
pub record Fits (t : Taken) (e : Stamped) : Type 0 where
  pub caller : e.caller < 256
  pub below : e.caller < t.header.callers
  pub known : e.caller < length t.uses.held
  pub in_range : IsInRange (length t.uses.cells) (2 ^ 31) e.did
  pub few : length t.uses.cells < 2 ^ 31
  pub behind : IsBehind (length t.uses.cells) e.did
  pub room : HasPlaceIn (length t.uses.cells) (length (held_by t.uses e.caller)) e.did
  pub in_cells : IsInRange (plain_words t.header) (plain_words t.header + lock_words t.header) e.did
  pub short : IsShort (role_of e.did)

pub fits : (t : Taken) (history : List Stamped) (e : Stamped) → HasTaken t history
    → IsNext t.header history e → Fits t e
fits t history e taken next = search
    (may_come, in_range, few_callers, few_words, wider, behind, has_place_in, short_role, arith)

-- one more event
pub taken_more : (h : Header) (uses : UsageKept) (codes : List ℕ) (history : List Stamped)
    (e : Stamped)
    → HasTaken (record { header = h; uses = uses; steps = map step_coded codes }) history
    → IsNext h history e
    → HasTaken (record {
      header = h;
      uses = kept_after uses e.caller e.did;
      steps = map step_coded
          (codes ++ code_of (step_of e) ∷ []);
    }) (history ++ e ∷ [])
unfolding is_legal
taken_more h uses codes history e taken next =
    let come = may_come h history e next in
    let callers = few_callers h in
    record {
      legal = all_more (legal_test h) (λ more place. refl) history e taken.legal next;
      seen = have_seen_more (cells_of h) history uses e taken.seen come.caller come.may;
      steps_are = steps_more codes history e taken.steps_are (omega (arith, come.caller, callers));
    }

-- there are as many steps as events
pub taken_count : (t : Taken) (history : List Stamped) → HasTaken t history → length t.steps
    ≡ length history
taken_count t history taken = ap length taken.steps_are ∙ length-map history step_of

-- each event of a legal history is legal after those before it
pub next_in : (h : Header) (history : List Stamped) (i : ℕ) (d : Stamped)
    → is_legal (cells_of h) history ≡ true → i < length history
    → IsNext h (take i history) (get_or history i d)
unfolding is_legal
next_in h history i d legal low =
    all_here (legal_test h) (λ more place. refl) (take i _) (get_or _ i d) (drop (suc i) history)
    (cc (drop-cons history i d low, take-append-drop i history))

-- and is taken in after them
pub taken_up_to : (t : Taken) (history : List Stamped) (i : ℕ) (d : Stamped) → i < length history
    → HasTaken t (take i history ++ get_or history i d ∷ [])
    → HasTaken t (take (i + 1) history)
taken_up_to t history i d low taken = subst (HasTaken t) (sym (take_more history i d low)) taken
