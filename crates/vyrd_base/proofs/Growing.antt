-- How replies, committed executions and states grow with a front.
use Rattle.vyrd_base.proofs.Prelude.{◌≡◌, ℕ, true, false, List, [], ◌∷◌, ◌++◌, Option, Some, None}
use Rattle.vyrd_base.proofs.Prelude.{refl, ap, ◌∙◌, option_and_then, then_some, Entry, Place}
use Rattle.vyrd_base.proofs.Prelude.{first_answer, Called, by_caller, State, cons_option, Rules}
use Rattle.vyrd_base.specs.Commits.{once_returned, is_commit, returned, next_reply, Committed}
use Rattle.vyrd_base.specs.Commits.{committed_at, commits_after, state_after, states_from}
use Rattle.vyrd_base.proofs.PlaceLaws.{with_later, first_answer-append}

-- an answer that is there stays
pub first_answer_stays : {A B : Type 0} (f : A → Option B) (xs ys : List A) (b : B)
    → first_answer f xs ≡ Some b → first_answer f (xs ++ ys) ≡ Some b
first_answer_stays f xs ys b e = cc (first_answer-append f xs ys)

pub next_reply_stays : (c : ℕ) (later more : List Entry) (r : ℕ) → next_reply c later ≡ Some r
    → next_reply c (later ++ more) ≡ Some r
next_reply_stays c later more r e = first_answer_stays (by_caller c returned) later more r e

-- the same execution, which may have returned meanwhile
pub record Grows (x y : Committed) : Type 0 where
  pub called : y.called ≡ x.called
  pub reply : (r : ℕ) → x.reply ≡ Some r → y.reply ≡ Some r

-- the same executions, which may have returned meanwhile, and further ones
abbrev pub Extends : List Committed → List Committed → Type 0
Extends [] ys = Unit {0}
Extends (x ∷ xs) [] = ⊥
Extends (x ∷ xs) (y ∷ ys) = Grows x y × Extends xs ys

pub committed_at_grows : (place : Place Entry) (more : List Entry) → Grows (committed_at place)
    (committed_at (with_later more place))
committed_at_grows place more =
    record { called = refl; reply = λ r e. next_reply_stays place.here.caller place.later more r e }

pub commits_after_extend : (earlier xs ys : List Entry) → Extends (commits_after earlier xs)
    (commits_after earlier (xs ++ ys))
commits_after_extend earlier [] ys = tt
commits_after_extend earlier (x ∷ xs) ys =
    let rest = commits_after_extend (x ∷ earlier) xs ys in
    let old : Place Entry = record { earlier = earlier; here = x; later = xs } in
    let new : Place Entry = record { earlier = earlier; here = x; later = xs ++ ys } in
    elim (is_commit x.kind) as (λ b. Extends
    (cons_option (then_some b (committed_at old)) (commits_after (x ∷ earlier) xs))
    (cons_option (then_some b (committed_at new)) (commits_after (x ∷ earlier) (xs ++ ys)))) [
      | true ↦ (committed_at_grows old ys, rest)
      | false ↦ rest
    ]

-- what a call gives with its reply, apart
abbrev pub with_reply : {B : Type 0} → (Called → ℕ → Option B) → Option Called → Option ℕ → Option B
with_reply f called reply = option_and_then (λ x. option_and_then (f x) reply) called

-- what was given stays given
with_reply_stays : {B : Type 0} (f : Called → ℕ → Option B) (called : Option Called)
    (reply later_reply : Option ℕ) (b : B)
    → ((r : ℕ) → reply ≡ Some r → later_reply ≡ Some r) → with_reply f called reply ≡ Some b
    → with_reply f called later_reply ≡ Some b
with_reply_stays f None reply later_reply b stays e = cc
with_reply_stays f (Some x) None later_reply b stays e = cc
with_reply_stays f (Some x) (Some r) later_reply b stays e = cc (stays r refl)

pub once_returned_stays : {B : Type 0} (f : Called → ℕ → Option B) (x y : Committed) (b : B)
    → Grows x y
    → once_returned f x ≡ Some b → once_returned f y ≡ Some b
once_returned_stays f x y b grows e = ap (λ o. with_reply f o y.reply) grows.called
    ∙ with_reply_stays f x.called x.reply y.reply b grows.reply e

-- what was given had a reply
with_reply_replied : {B : Type 0} (f : Called → ℕ → Option B) (called : Option Called)
    (reply : Option ℕ) (b : B)
    → with_reply f called reply ≡ Some b → (r : ℕ) × (reply ≡ Some r)
with_reply_replied f None reply b e = cc
with_reply_replied f (Some x) None b e = cc
with_reply_replied f (Some x) (Some r) b e = (r, refl)

pub once_returned_replied : {B : Type 0} (f : Called → ℕ → Option B) (x : Committed) (b : B)
    → once_returned f x ≡ Some b
    → (r : ℕ) × (x.reply ≡ Some r)
once_returned_replied f x b e = with_reply_replied f x.called x.reply b e

-- if one thing was given, nothing changes any more
with_reply_decided : {B C : Type 0} (f : Called → ℕ → Option B) (g : Called → ℕ
    → Option C) (called : Option Called) (reply later_reply : Option ℕ) (b : B)
    → ((r : ℕ) → reply ≡ Some r → later_reply ≡ Some r) → with_reply f called reply ≡ Some b
    → with_reply g called later_reply ≡ with_reply g called reply
with_reply_decided f g None reply later_reply b stays e = refl
with_reply_decided f g (Some x) None later_reply b stays e = cc
with_reply_decided f g (Some x) (Some r) later_reply b stays e = cc (stays r refl)

pub once_returned_decided : {B C : Type 0} (f : Called → ℕ → Option B) (g : Called → ℕ → Option C)
    (x y : Committed) (b : B)
    → Grows x y → once_returned f x ≡ Some b → once_returned g y ≡ once_returned g x
once_returned_decided f g x y b grows e = ap (λ o. with_reply g o y.reply) grows.called
    ∙ with_reply_decided f g x.called x.reply y.reply b grows.reply e

-- the states stay, and further ones may follow
pub states_stay : (r : Rules) (state : State) (xs ys : List Committed) → Extends xs ys
    → (more : List State) × (states_from r state ys ≡ states_from r state xs ++ more)
states_stay r state [] [] h = ([], refl)
states_stay r state [] (y ∷ ys) h =
    ((elim (state_after r state y) [ None ↦ [] | Some next ↦ states_from r next ys ]), refl)
states_stay r state (x ∷ xs) [] h = absurd h
states_stay r state (x ∷ xs) (y ∷ ys) h =
    (elim (state_after r state x) as (λ o. state_after r state x ≡ o
    → (more : List State)
    × (states_from r state (y ∷ ys) ≡ state
    ∷ (elim o [ None ↦ [] | Some next ↦ states_from r next xs ]) ++ more)) [
      | None ↦ λ e.
          ((elim (state_after r state y) [ None ↦ [] | Some next ↦ states_from r next ys ]), refl)
      | Some next ↦ λ e.
          let rest = states_stay r next xs ys h.1 in (
            rest.0,
            ap (λ o. state
                ∷ (elim o as (λ _. List State) [ None ↦ [] | Some n ↦ states_from r n ys ]))
                (once_returned_stays (λ called reply. r.next called.method called.args reply state)
                x y next h.0 e) ∙ ap (λ ss. state ∷ ss) rest.1,
          )
    ]) refl
