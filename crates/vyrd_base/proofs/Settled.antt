-- Effects that stay however a front goes on: those of entries of which each commit has returned, so
-- that its block has ended.
use Rattle.vyrd_base.proofs.Prelude.{◌≡◌, ℕ, Bool, true, false, cond, List, [], ◌∷◌, ◌++◌, Some}
use Rattle.vyrd_base.proofs.Prelude.{None, refl, ap, option_or, Header, Kind, Call, Return, Write}
use Rattle.vyrd_base.proofs.Prelude.{Commit, BlockOpen, BlockClose, BlockCommit, Entry, StartWord}
use Rattle.vyrd_base.proofs.Prelude.{◌==◌, Place, is_commit, returned, next_reply, ahead_at}
use Rattle.vyrd_base.proofs.Prelude.{writes_ahead, effects_at, effects, words_with, words_at}
use Rattle.vyrd_base.proofs.PlaceLaws.{with_later}

-- what the caller's open block still writes is known once the caller has returned
pub ahead_stays : (c : ℕ) (later more : List Entry) (r : ℕ) → next_reply c later ≡ Some r
    → writes_ahead c (later ++ more) ≡ writes_ahead c later
ahead_stays c [] more r found = cc
ahead_stays c (e ∷ later) more r found = step (λ f. ahead_stays c later more r f)
    (e.caller == c) e.kind found
  where
    -- the claim about the entries after this one
    Rest : Type 0
    Rest = next_reply c later ≡ Some r → writes_ahead c (later ++ more) ≡ writes_ahead c later

    step : Rest → (b : Bool) (kind : Kind) → option_or (cond b (returned kind) None)
        (next_reply c later) ≡ Some r
        → cond b (ahead_at kind (writes_ahead c (later ++ more))) (writes_ahead c (later ++ more))
        ≡ cond b (ahead_at kind (writes_ahead c later)) (writes_ahead c later)
    step rest false kind f = rest f
    step rest true (Call method args) f = rest f
    step rest true (Return reply) f = refl
    step rest true (Write word value) f = ap (ahead_at (Write word value)) (rest f)
    step rest true Commit f = rest f
    step rest true BlockOpen f = rest f
    step rest true BlockClose f = refl
    step rest true BlockCommit f = refl

-- where the entry is a commit, its caller returns later
abbrev pub IsReturned : ℕ → Kind → List Entry → Type 0
IsReturned c kind later = is_commit kind ≡ true → (r : ℕ) × (next_reply c later ≡ Some r)

pub effects_at_stays : (earlier : List Entry) (c : ℕ) (kind : Kind) (later more : List Entry)
    → IsReturned c kind later
    → effects_at earlier c kind (later ++ more) ≡ effects_at earlier c kind later
effects_at_stays earlier c (Call method args) later more is = refl
effects_at_stays earlier c (Return reply) later more is = refl
effects_at_stays earlier c (Write word value) later more is = refl
effects_at_stays earlier c Commit later more is =
    cc (ahead_stays c later more (is refl).0 (is refl).1)
effects_at_stays earlier c BlockOpen later more is = refl
effects_at_stays earlier c BlockClose later more is = refl
effects_at_stays earlier c BlockCommit later more is = refl

-- the effects of the entries before a place stay, whatever comes after what stands after it
abbrev pub Settled : List Entry → List Entry → Type 0
Settled earlier later = (more : List Entry) → effects earlier (later ++ more)
    ≡ effects earlier later

pub settled_none : (later : List Entry) → Settled [] later
settled_none later = λ more. refl

-- one entry more before the place
pub settled_next : (e : Entry) (earlier later : List Entry) → IsReturned e.caller e.kind later
    → Settled earlier (e ∷ later)
    → Settled (e ∷ earlier) later
settled_next e earlier later is settled = λ more. λ i. effects_at_stays earlier e.caller e.kind
    later more is i ++ settled more i

-- so the words at a place stay
pub words_at_stay : (h : Header) (starting : List StartWord) (place : Place Entry)
    (more : List Entry)
    → IsReturned place.here.caller place.here.kind place.later
    → Settled place.earlier (place.here ∷ place.later)
    → words_at h starting (with_later more place) ≡ words_at h starting place
unfolding words_at
words_at_stay h starting place more is settled =
    ap (words_with h starting) (settled_next place.here place.earlier place.later is settled more)
