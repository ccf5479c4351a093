-- How many keys a step touches, and how many it shows then.
use Rattle.vyrd_own_spec.proofs.Prelude
use Prelude.{◌≡◌, ℕ, zero, suc, ◌+◌, ◌*◌, ◌≤◌, Bool, true, false, cond, List, [], ◌∷◌, length, map}
use Prelude.{Option, Some, arith, filter, find, option_map, option_and_then, slice_get, same_Some}
use Prelude.{none-some, list_any, put, by_order, Ordering, Less, Equal, Greater, nat_cmp}
use Prelude.{le-max_left, le-max_right, length-append, length-map, Amounts, with_amount, State}
use Prelude.{given, Args, Effect, holds, value, Case, Method, Written, own_method, with_effect}
use Prelude.{with_effects, shown_keys, is_clearing, effects_of, allowed_effects, effect_of, most_of}
use Prelude.{line_count, most_effects, touched_by, effects_by}
use Rattle.vyrd_base.specs.declared.subject.Method as declared
use Rattle.vyrd_base.specs.declared.own.effect.Effect.TheVariants.{SetShown, SetHidden, SetRegister}
use Rattle.vyrd_base.specs.declared.own.effect.Effect.TheVariants.{PutLast, PutFirst, TakeFirst}
use Rattle.vyrd_base.specs.declared.own.effect.Effect.TheVariants.{TakeLast, Empty, EmptyShown}

-- one key more at most
put_one : (k v : ℕ) (s : Amounts) → length (put nat_cmp k v s) ≤ suc (length s)
put_one k v [] = omega arith
put_one k v (e ∷ s) = by_order_of (nat_cmp k e.0) (put_one k v s)
  where
    by_order_of : (o : Ordering) → length (put nat_cmp k v s) ≤ suc (length s)
        → length (by_order o ((k, v) ∷ e ∷ s) ((e.0, v) ∷ s) (e ∷ put nat_cmp k v s))
        ≤ suc (suc (length s))
    by_order_of Less rest = omega arith
    by_order_of Equal rest = omega arith
    by_order_of Greater rest = omega (arith, rest)

fewer : (p : ℕ × ℕ → Bool) (s : Amounts) → length (filter p s) ≤ length s
fewer p [] = omega arith
fewer p (x ∷ s) = by_test (p x) (fewer p s)
  where
    by_test : (b : Bool) → length (filter p s) ≤ length s
        → length (cond b (x ∷ filter p s) (filter p s)) ≤ suc (length s)
    by_test true rest = omega (arith, rest)
    by_test false rest = omega (arith, rest)

one_more : (s : Amounts) (k a : ℕ) → length (with_amount s k a) ≤ suc (length s)
one_more s k a = search (put, fewer, put_one, arith)

-- how many keys are left from before, if what is shown is cleared or not
more_left : (b : Bool) (m n : ℕ) → m ≤ suc n → cond b 0 m ≤ suc (cond b 0 n)
more_left b m n e = search arith

none_left : (b : Bool) → cond b 0 0 ≤ 0
none_left b = search arith

-- how many keys are shown after some effects
shown_then : (s : State) (es : List Effect) → length (with_effects s es).shown
    ≤ cond (list_any is_clearing es) 0 (length s.shown) + length es
shown_then s [] = omega arith
shown_then s (SetShown k a ∷ es) =
    grind (
      arith,
      shown_then (with_effect s (SetShown k a)) es,
      more_left (list_any is_clearing es)
          (length (with_amount s.shown k a)) (length s.shown) (one_more s.shown k a),
    )
shown_then s (SetHidden k a ∷ es) = grind (arith, shown_then (with_effect s (SetHidden k a)) es)
shown_then s (SetRegister i a ∷ es) = grind (arith, shown_then (with_effect s (SetRegister i a)) es)
shown_then s (PutLast i a ∷ es) = grind (arith, shown_then (with_effect s (PutLast i a)) es)
shown_then s (PutFirst i a ∷ es) = grind (arith, shown_then (with_effect s (PutFirst i a)) es)
shown_then s (TakeFirst i ∷ es) = grind (arith, shown_then (with_effect s (TakeFirst i)) es)
shown_then s (TakeLast i ∷ es) = grind (arith, shown_then (with_effect s (TakeLast i)) es)
shown_then s (Empty i ∷ es) = grind (arith, shown_then (with_effect s (Empty i)) es)
shown_then s (EmptyShown ∷ es) =
    grind (arith, shown_then (with_effect s EmptyShown) es, none_left (list_any is_clearing es))

-- each effect sets one key at most
few_keys : (es : List Effect) → length (shown_keys es) ≤ length es
few_keys [] = omega arith
few_keys (SetShown k a ∷ es) = let rest = few_keys es in omega (arith, rest)
few_keys (SetHidden k a ∷ es) = let rest = few_keys es in omega (arith, rest)
few_keys (SetRegister i a ∷ es) = let rest = few_keys es in omega (arith, rest)
few_keys (PutLast i a ∷ es) = let rest = few_keys es in omega (arith, rest)
few_keys (PutFirst i a ∷ es) = let rest = few_keys es in omega (arith, rest)
few_keys (TakeFirst i ∷ es) = let rest = few_keys es in omega (arith, rest)
few_keys (TakeLast i ∷ es) = let rest = few_keys es in omega (arith, rest)
few_keys (Empty i ∷ es) = let rest = few_keys es in omega (arith, rest)
few_keys (EmptyShown ∷ es) = let rest = few_keys es in omega (arith, rest)

-- what is touched, with what is shown then
pub touched_paid : (s : State) (es : List Effect)
    → length (touched_by s es) + length (with_effects s es).shown
    ≤ length s.shown + 2 * length es
touched_paid s es = grind (arith, shown_then, few_keys, length-append, length-map)

-- one of some things has no more than the most that they have
most_found : {A : Type 0} (f : A → ℕ) (xs : List A) (i : ℕ) (x : A) → slice_get xs i ≡ Some x
    → f x ≤ most_of f xs
most_found f [] i x is = absurd (none-some _ is)
most_found f (y ∷ ys) zero x is = grind (arith, same_Some _ _ is, le-max_left (f y) (most_of f ys))
most_found f (y ∷ ys) (suc i) x is =
    grind (arith, most_found f ys i x is, le-max_right (f y) (most_of f ys))

-- what the case that is found does, is no more than the longest case has lines
case_few : (s : State) (values : List ℕ) (cases : List Case) (es : List Effect)
    → allowed_effects s values cases ≡ Some es → length es ≤ most_of line_count cases
case_few s values [] es is = absurd (none-some _ is)
case_few s values (case ∷ cases) es is = by_test (holds _) (case_few s values cases es) is
  where
    by_test : (b : Bool)
        → (allowed_effects s values cases ≡ Some es → length es ≤ most_of line_count cases)
        → option_map (λ c. map (effect_of s values) c.changes)
        (cond b (Some case) (find (λ c. holds (value s values c.allow)) cases))
        ≡ Some es
        → length es ≤ most_of line_count (case ∷ cases)
    by_test true rest e = search (length-map, values, arith)
    by_test false rest e = search arith

method_few : (w : Written) (i : ℕ) (args : Args) (reply : ℕ) (s : State) (es : List Effect)
    (o : Option Method) → own_method w i ≡ o
    → option_and_then (λ m. effects_of w m s (given w i args) reply) o ≡ Some es
    → length es ≤ most_effects w
method_few w i args reply s es o is e = search (case_few, given, most_found, arith)

-- a call has no more effects than the longest case has lines
pub effects_few : (w : Written) (method : declared.Method) (args : Args) (reply : ℕ) (s : State)
    (es : List Effect) → effects_by w method args reply s ≡ Some es
    → length es ≤ most_effects w
effects_few w method args reply s es is = grind (arith, method_few, own_method)
