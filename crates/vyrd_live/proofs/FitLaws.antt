-- A script that is played on a hand: what comes next may be done, and it stays so.
use Rattle.vyrd_live.proofs.Prelude
use Prelude.{◌≡◌, ◌≢◌, ℕ, ◌+◌, ◌≤◌, ◌^◌, Bool, true, false, not, ◌&&◌, ◌||◌, List, [], ◌∷◌, Some}
use Prelude.{None, refl, ap, ◌∙◌, sym, subst, arith, ne_eqb, nat_lt, nat_le, ◌==◌, is_some, is_none}
use Prelude.{filter, list_any, ∥∥₁_elim, ∥∥₁_map, Bool-set, Header, Call, Return, Write, Commit}
use Prelude.{BlockOpen, BlockClose, BlockCommit, Did, Read, Wrote, Took, Gave, Marked, plain_words}
use Prelude.{lock_words, cells_of, is_plain, is_lock, is_write, made_of, both_true, first_true}
use Prelude.{second_true, below_of, same_of, at_most_of, Act, Load, Store, Take, Give, Mark, Done}
use Prelude.{Script, stop, step, next_act, after_answer, event_of, is_stop, is_between, Situation}
use Prelude.{IsSound, IsSoundSomewhere, at_rest, holds, is_nil, may_act, after_act, stop_of, Plan}
use Prelude.{Look, last_value, HandView, Holds, with_spare, with_one_more, holds-taken, holds-still}
use Prelude.{holds-beside, with_forgotten, MayAct, HasActed, IsMemoryOf, FitsHand}
use mathlib.Core.Logic.{dite}
use native.Mathlib.Decide.{ℕ_discrete}
use Rattle.vyrd_base.specs.declared.log.Kind.{Kind}

-- the same as `MayAct`, as a test
may_test : Plan → HandView → Act → Bool
may_test plan hand (Load cell) = nat_lt cell plan.plain
may_test plan hand (Store cell value) = nat_lt cell plan.plain && nat_lt value (2 ^ 63)
may_test plan hand (Take lock) = nat_le plan.plain lock && nat_lt lock (plan.plain + plan.locks)
may_test plan hand (Give lock) = (nat_le plan.plain lock && nat_lt lock (plan.plain + plan.locks))
    && (last_value hand.lane lock == hand.caller + 1)
may_test plan hand (Mark kind) = not (is_write kind)
may_test plan hand Done = false

tested : (plan : Plan) (hand : HandView) (act : Act) → may_test plan hand act ≡ true
    → MayAct plan hand act
unfolding may_test
tested plan hand act e = search (below_of, first_true, second_true, at_most_of, same_of, arith)

-- an act that a sound script does is within the plan
plain_of : (h : Header) (plan : Plan) (cell : ℕ) → IsMemoryOf h plan → is_plain (cells_of h) cell
    ≡ true → nat_lt cell plan.plain ≡ true
plain_of h plan cell is e = ap (λ n. nat_lt cell n) is.plain ∙ e

lock_of : (h : Header) (plan : Plan) (lock : ℕ) → IsMemoryOf h plan → is_lock (cells_of h) lock
    ≡ true
    → (nat_le plan.plain lock && nat_lt lock (plan.plain + plan.locks)) ≡ true
lock_of h plan lock is e = cc (is.plain, is.locks)

no_write : (h : Header) (s : Situation) (kind : Kind) → may_act h s (Mark kind) ≡ true
    → not (is_write kind) ≡ true
no_write h s kind may = search arith

may_of : (h : Header) (plan : Plan) (hand : HandView) (s : Situation) (act : Act)
    → IsMemoryOf h plan
    → ((lock : ℕ) → holds s lock ≡ true → (plain_words h ≤ lock) × Holds hand lock)
    → may_act h s act ≡ true → may_test plan hand act ≡ true
unfolding may_test
may_of h plan hand s act is held may = search
    (plain_of, first_true, is_some, both_true, second_true, lock_of, no_write, arith)

next_test : (h : Header) (plan : Plan) (left : Script) (hand : HandView) → IsMemoryOf h plan
    → next_act left ≢ Done → FitsHand h left hand
    → may_test plan hand (next_act left) ≡ true
next_test h plan left hand is goes fits = search (step, may_of, arith)

-- what comes next may be done
pub next_may : (h : Header) (plan : Plan) (left : Script) (hand : HandView) → IsMemoryOf h plan
    → next_act left ≢ Done → ∥ FitsHand h left hand ∥₁
    → MayAct plan hand (next_act left)
next_may h plan left hand is goes fits = tested plan hand (next_act left)
    (∥∥₁_elim fits (Bool-set _ _) (next_test h plan left hand is goes))

-- a lock that is held of those that are left when another one is given back
other_held : (lock given : ℕ) (locks : List ℕ) → list_any (λ held. held == lock)
    (filter (λ held. not (held == given)) locks) ≡ true
    → (list_any (λ held. held == lock) locks ≡ true) × (given ≢ lock)
other_held lock given [] e = absurd (cc_of e)
  where
    cc_of : false ≡ true → ⊥
    cc_of e = cc
other_held lock given (x ∷ xs) e = by_given (x == given) refl (x == lock) refl
    (other_held lock given xs)
  where
    by_given : (b : Bool) → (x == given) ≡ b → (a : Bool) → (x == lock) ≡ a
        → (list_any (λ held. held == lock) (filter (λ held. not (held == given)) xs) ≡ true
        → (list_any (λ held. held == lock) xs ≡ true) × (given ≢ lock))
        → (list_any (λ held. held == lock) (x ∷ xs) ≡ true) × (given ≢ lock)
    by_given true is true here later = grind arith
    by_given true is false here later = grind arith
    by_given false is true here later = grind arith
    by_given false is false here later = grind arith

-- the hand holds these locks
abbrev AreHeld : Header → Situation → HandView → Type 0
AreHeld h s hand = (lock : ℕ) → holds s lock ≡ true → (plain_words h ≤ lock) × Holds hand lock

still_held : (h : Header) (s : Situation) (hand : HandView) (number : ℕ) (did : Did) (look : Look)
    → ((lock : ℕ) → plain_words h ≤ lock → made_of lock hand.caller did ≡ None) → AreHeld h s hand
    → AreHeld h s (with_one_more hand number did look)
still_held h s hand number did look apart held lock e = let l = held lock e in
    (l.0, holds-still hand lock number did look (apart lock l.0) l.1)

no_lock : (h : Header) (hand : HandView) → AreHeld h at_rest hand
no_lock h hand = search arith

stored_apart : (h : Header) (cell value lock caller : ℕ) → is_plain (cells_of h) cell ≡ true
    → plain_words h ≤ lock
    → made_of lock caller (Wrote cell value) ≡ None
stored_apart h cell value lock caller plain le = search (below_of, arith)

-- each act leaves the hand with the locks that it should hold
held_after : (h : Header) (s : Situation) (act : Act) (answer : ℕ) (did : Did) (number : ℕ)
    (look : Look) (hand : HandView) → may_act h s act ≡ true
    → event_of act answer ≡ Some did
    → AreHeld h s hand → AreHeld h (after_act s act) (with_one_more hand number did look)
held_after h s (Load cell) answer did number look hand may e held =
    let is : Read cell answer ≡ did = cc in
    subst (λ did. AreHeld h s (with_one_more hand number did look)) is
    (still_held h s hand number (Read cell answer) look (λ lock le. refl) held)
held_after h s (Store cell value) answer did number look hand may e held =
    let is : Wrote cell value ≡ did = cc in
    let plain = first_true (is_plain (cells_of h) cell) (nat_lt value (2 ^ 63))
    (first_true (is_plain (cells_of h) cell && nat_lt value (2 ^ 63)) (is_some s.called) may) in
    subst (λ did. AreHeld h s (with_one_more hand number did look)) is
    (still_held h s hand number (Wrote cell value) look
    (λ lock le. stored_apart h cell value lock hand.caller plain le) held)
held_after h s (Take taken) answer did number look hand may e held =
    let is : Took taken ≡ did = cc in
    subst (λ did. AreHeld h (after_act s (Take taken)) (with_one_more hand number did look)) is
    (λ lock some. dite (ℕ_discrete taken lock)
    (λ here. subst
    (λ lock. (plain_words h ≤ lock) × Holds (with_one_more hand number (Took taken) look) lock) here (
      is_high,
      holds-taken hand taken number look,
    ))
    (λ no. let l = held lock (sym (ap (λ b. b || holds s lock) (ne_eqb taken lock no)) ∙ some) in
    (l.0, (holds-beside hand lock taken number look no l.1).0)))
  where
    is_high : plain_words h ≤ taken
    is_high = at_most_of (plain_words h) taken
        (first_true (nat_le (plain_words h) taken) (nat_lt taken (plain_words h + lock_words h))
        (first_true (is_lock (cells_of h) taken) (not (holds s taken)) may))
held_after h s (Give given) answer did number look hand may e held =
    let is : Gave given ≡ did = cc in
    subst (λ did. AreHeld h (after_act s (Give given)) (with_one_more hand number did look)) is
    (λ lock some. let o = other_held lock given s.locks some in let l = held lock o.0 in
    (l.0, (holds-beside hand lock given number look o.1 l.1).1))
held_after h s (Mark (Call method args)) answer did number look hand may e held = no_lock h
    (with_one_more hand number did look)
held_after h s (Mark (Return reply)) answer did number look hand may e held = no_lock h
    (with_one_more hand number did look)
held_after h s (Mark (Write word value)) answer did number look hand may e held = cc
held_after h s (Mark Commit) answer did number look hand may e held =
    let is : Marked Commit ≡ did = cc in
    subst (λ did. AreHeld h s (with_one_more hand number did look)) is
    (still_held h s hand number (Marked Commit) look (λ lock le. refl) held)
held_after h s (Mark BlockOpen) answer did number look hand may e held =
    let is : Marked BlockOpen ≡ did = cc in
    subst (λ did. AreHeld h s (with_one_more hand number did look)) is
    (still_held h s hand number (Marked BlockOpen) look (λ lock le. refl) held)
held_after h s (Mark BlockClose) answer did number look hand may e held =
    let is : Marked BlockClose ≡ did = cc in
    subst (λ did. AreHeld h s (with_one_more hand number did look)) is
    (still_held h s hand number (Marked BlockClose) look (λ lock le. refl) held)
held_after h s (Mark BlockCommit) answer did number look hand may e held =
    let is : Marked BlockCommit ≡ did = cc in
    subst (λ did. AreHeld h s (with_one_more hand number did look)) is
    (still_held h s hand number (Marked BlockCommit) look (λ lock le. refl) held)
held_after h s Done answer did number look hand may e held = cc

fits_after : (h : Header) (left : Script) (hand now : HandView) (answer : ℕ)
    → HasActed (next_act left) answer hand now → FitsHand h left hand
    → FitsHand h (after_answer left answer) now
fits_after h stop hand now answer acted fits = none acted.event
  where
    none : None ≡ Some acted.did → FitsHand h stop now
    none e = cc
fits_after h (step act rest) hand now answer acted fits = record {
  situation = after_act fits.situation act;
  sound = fits.sound.1 answer acted.answered;
  held = subst (AreHeld h (after_act fits.situation act)) (sym acted.hand)
      (held_after h fits.situation act answer acted.did acted.number now.look hand fits.sound.0
      acted.event fits.held);
}

-- what is left after the act can be played on
pub fits_on : (h : Header) (left : Script) (hand now : HandView) (answer : ℕ)
    → HasActed (next_act left) answer hand now → ∥ FitsHand h left hand ∥₁
    → ∥ FitsHand h (after_answer left answer) now ∥₁
fits_on h left hand now answer acted fits = ∥∥₁_map fits (fits_after h left hand now answer acted)

-- room alone changes nothing
pub fits_with_room : (h : Header) (left : Script) (hand now : HandView)
    → now ≡ with_spare hand now.spare
    → ∥ FitsHand h left hand ∥₁ → ∥ FitsHand h left now ∥₁
fits_with_room h left hand now is fits = ∥∥₁_map fits
    (λ s. subst (FitsHand h _) (sym is)
    (record { situation = s.situation; sound = s.sound; held = s.held }))

-- so does what the hand keeps of its lane
pub fits_kept : (h : Header) (left : Script) (forgotten : ℕ) (hand now : HandView)
    → now ≡ with_forgotten hand forgotten
    → ∥ FitsHand h left hand ∥₁ → ∥ FitsHand h left now ∥₁
fits_kept h left forgotten hand now is fits = ∥∥₁_map fits
    (λ s. subst (FitsHand h _) (sym is)
    (record { situation = s.situation; sound = s.sound; held = s.held }))

-- between operations no lock is held
none_held : (h : Header) (s : Situation) (left : Script) → is_between left ≡ true → IsSound h s left
    → is_nil s.locks ≡ true
none_held h s left between sound = search (step, second_true, first_true, is_none, arith)

fits_first : (h : Header) (left : Script) (hand : HandView) → is_between left ≡ true
    → (s : Situation) × IsSound h s left → FitsHand h left hand
fits_first h left hand between sound = search (none_held, arith)

-- a sound script that hasn't begun can be played
pub fits_fresh : (h : Header) (left : Script) (hand : HandView) → is_between left ≡ true
    → IsSoundSomewhere h left → ∥ FitsHand h left hand ∥₁
fits_fresh h left hand between sound = ∥∥₁_map sound (fits_first h left hand between)

-- if nothing comes next, nothing is left
nothing : (h : Header) (left : Script) (hand : HandView) → next_act left ≡ Done
    → FitsHand h left hand → is_stop left ≡ true
nothing h left hand done fits = search (step, arith)

pub nothing_left : (h : Header) (left : Script) (hand : HandView) → next_act left ≡ Done
    → ∥ FitsHand h left hand ∥₁ → left ≡ stop
nothing_left h left hand done fits = stop_of left
    (∥∥₁_elim fits (Bool-set _ _) (nothing h left hand done))
