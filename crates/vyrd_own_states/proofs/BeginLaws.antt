-- What a specification of a user's own begins with is the state at the start.
use Rattle.vyrd_own_states.proofs.Prelude.{◌≡◌, ℕ, not, List, Option, Some, None, Result, Ok, Err}
use Rattle.vyrd_own_states.proofs.Prelude.{is_none, IfOk, IfSome, option_map, Header, StartWord}
use Rattle.vyrd_own_states.proofs.Prelude.{own_start, may_stand, written_in, own, rules_by}
use Rattle.vyrd_own_states.proofs.Prelude.{words_at_start, state_at_start, OwnSpec, stands_so}

pub begins_so : {E : Type 0} (h : Header) (lines : List (List ℕ)) (starting : List StartWord)
    (words : List ℕ) (found : Result (Option OwnSpec) E) → words ≡ words_at_start h starting
    → IfOk found (λ o. is_none o ≡ not (may_stand (written_in lines) words))
    → IfOk found (λ o. IfSome o (λ s. s.state ≡ own_start (written_in lines) words))
    → IfOk found
    (λ o. option_map (λ s. s.state) o ≡ state_at_start (rules_by (own h lines)) starting)
begins_so h lines starting words (Err e) same none state = tt
begins_so h lines starting words (Ok None) same none state =
    stands_so h lines starting words same None none tt
begins_so h lines starting words (Ok (Some s)) same none state =
    stands_so h lines starting words same (Some s.state) none state
