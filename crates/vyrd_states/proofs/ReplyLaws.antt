-- The replies that a state allows, one more.
use Rattle.vyrd_states.proofs.Prelude
use Prelude.{◌≡◌, ℕ, ◌+◌, Bool, true, false, cond, List, [], ◌∷◌, ◌++◌, map, Option, Some, None}
use Prelude.{refl, ap, ◌∙◌, sym, append-nil, append_assoc, slice_get, is_some, filter}
use Prelude.{option_map_or, Entry, StartWord, Called, numbers_below, Rules, State}
use Prelude.{numbers_below-push, Item, Allowed, Execution, execution_in, state_then, called_at}
use Prelude.{before_items, call_items, reply_items, called_by}
use Rattle.vyrd_states.proofs.CallLaws.{execution_is, no_execution}

-- the replies below a number that a state allows, if it is known
abbrev pub allowed_below : Rules → Called → Option State → ℕ → List Item
allowed_below r called o n = option_map_or
    (λ state. map Allowed (filter (λ reply. is_some (r.next called.method called.args reply state))
    (numbers_below n))) o []

-- what passes a test among one element more
filter_push : (p : ℕ → Bool) (xs : List ℕ) (x : ℕ)
    → map Allowed (filter p (xs ++ x ∷ []))
    ≡ map Allowed (filter p xs) ++ cond (p x) (Allowed x ∷ []) []
filter_push p [] x = by_test (p x)
  where
    by_test : (b : Bool) → map Allowed (cond b (x ∷ []) []) ≡ cond b (Allowed x ∷ []) []
    by_test true = refl
    by_test false = refl
filter_push p (y ∷ xs) x = by_test (p y) (filter_push p xs x)
  where
    by_test : (b : Bool)
        → map Allowed (filter p (xs ++ x ∷ []))
        ≡ map Allowed (filter p xs) ++ cond (p x) (Allowed x ∷ []) []
        → map Allowed (cond b (y ∷ filter p (xs ++ x ∷ [])) (filter p (xs ++ x ∷ [])))
        ≡ map Allowed (cond b (y ∷ filter p xs) (filter p xs)) ++ cond (p x) (Allowed x ∷ []) []
    by_test true same = ap (λ ys. Allowed y ∷ ys) same
    by_test false same = same

one_more : (r : Rules) (called : Called) (s : State) (n : ℕ)
    → allowed_below r called (Some s) (n + 1) ≡ allowed_below r called (Some s) n
    ++ cond (is_some (r.next called.method called.args n s)) (Allowed n ∷ []) []
one_more r called s n = cc (numbers_below-push n, filter_push p (numbers_below n) n)
  where
    p : ℕ → Bool
    p reply = is_some (r.next called.method called.args reply s)

-- one more that is allowed, and one more that isn't
pub reply_allowed : (r : Rules) (called : Called) (o : Option State) (s : State) (n : ℕ)
    (first before after : List Item) (b : Bool) → o ≡ Some s
    → b ≡ is_some (r.next called.method called.args n s) → b ≡ true
    → before ≡ first ++ allowed_below r called o n → after ≡ before ++ Allowed n ∷ []
    → after ≡ first ++ allowed_below r called o (n + 1)
reply_allowed r called o s n first before after b known is allowed so next =
    cc (append_assoc first (allowed_below r called o n) (Allowed n ∷ []), one_more r called s n)

pub reply_refused : (r : Rules) (called : Called) (o : Option State) (s : State) (n : ℕ)
    (first before : List Item) (b : Bool) → o ≡ Some s
    → b ≡ is_some (r.next called.method called.args n s) → b ≡ false
    → before ≡ first ++ allowed_below r called o n
    → before ≡ first ++ allowed_below r called o (n + 1)
reply_refused r called o s n first before b known is refused so =
    cc (append-nil (allowed_below r called (Some s) n), one_more r called s n)

-- what the entry's caller has called, and what is said of it
pub called_there : (front : List Entry) (at : ℕ) (e : Entry) (x : Execution)
    → slice_get front at ≡ Some e → execution_in front at e.caller ≡ Some x
    → called_at front at ≡ Some (called_by x)
called_there front at e x here is = cc ((execution_is front at e.caller x is).0)

pub called_nothing : (front : List Entry) (at : ℕ) (e : Entry) → slice_get front at ≡ Some e
    → execution_in front at e.caller ≡ None → called_at front at ≡ None
called_nothing front at e here is = cc (no_execution front at e.caller is)

pub replies_to : (r : Rules) (starting : List StartWord) (front : List Entry) (at : ℕ) (e : Entry)
    (x : Execution) → slice_get front at ≡ Some e → execution_in front at e.caller ≡ Some x
    → option_map_or (λ s. before_items r at s (called_by x)) (state_then r starting front at) []
    ++ allowed_below r (called_by x) (state_then r starting front at) 3
    ≡ reply_items r starting front at
replies_to r starting front at e x here is =
    by_state (state_then r starting front at)
    ∙ ap (λ q. option_map_or (λ s. option_map_or (call_items r at s) q [])
    (state_then r starting front at) []) (sym (called_there front at e x here is))
  where
    by_state : (o : Option State)
        → option_map_or (λ s. before_items r at s (called_by x)) o []
        ++ allowed_below r (called_by x) o 3
        ≡ option_map_or (λ s. option_map_or (call_items r at s) (Some (called_by x)) []) o []
    by_state None = refl
    by_state (Some s) = refl

pub no_replies : (r : Rules) (starting : List StartWord) (front : List Entry) (at : ℕ) (e : Entry)
    → slice_get front at ≡ Some e → execution_in front at e.caller ≡ None
    → reply_items r starting front at ≡ []
no_replies r starting front at e here is =
    ap (λ q. option_map_or (λ s. option_map_or (call_items r at s) q [])
    (state_then r starting front at) []) (called_nothing front at e here is)
    ∙ by_state (state_then r starting front at)
  where
    by_state : (o : Option State)
        → option_map_or (λ s. option_map_or (call_items r at s) None []) o [] ≡ []
    by_state None = refl
    by_state (Some s) = refl
