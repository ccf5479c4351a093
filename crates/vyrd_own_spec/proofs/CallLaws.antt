-- What is said of a call by its number.
use Rattle.vyrd_own_spec.proofs.Prelude
use Prelude.{◌≡◌, ℕ, zero, suc, ◌<◌, ◌≤◌, List, [], ◌∷◌, Option, Some, None, refl, ap, sym, arith}
use Prelude.{length, take, Bool, map, option_map, option_and_then, slice_get, slice_index_or}
use Prelude.{if◌then◌else◌, is_some, length-take, State, own_number, given, Args, Effect, Method}
use Prelude.{Written, own_method, own_next, with_effects, effects_of, next_of, answer_of, method_of}
use Prelude.{own_effects, effects_by, next_by, answer_by}
use Rattle.vyrd_base.specs.declared.subject.Method as declared
use Rattle.vyrd_own.specs.declared.program.Method as program

module _ (w : Written) (args : Args) (reply : ℕ) (s : State) where
  next_of_method : (i : ℕ) (o : Option Method)
      → option_and_then (λ m. next_of w m (given w i args) reply s) o
      ≡ option_map (with_effects s)
      (option_and_then (λ m. effects_of w m s (given w i args) reply) o)
  unfolding next_of
  next_of_method i o = search arith

  next_of_number : (n : Option ℕ) → option_and_then (λ i. own_next w i (given w i args) reply s) n
      ≡ option_map (with_effects s) (option_and_then (λ i. own_effects w i args reply s) n)
  next_of_number None = refl
  next_of_number (Some i) = next_of_method i (own_method w i)

-- the state after a call, by what it does
pub next_of_effects : (w : Written) (method : declared.Method) (args : Args) (reply : ℕ) (s : State)
    (o : Option (List Effect))
    → effects_by w method args reply s ≡ o → next_by w method args reply s
    ≡ option_map (with_effects s) o
next_of_effects w method args reply s o e = cc (next_of_number w args reply s (own_number method))

-- a reply is allowed if the call does something by it, be it nothing
pub allowed_is : (w : Written) (method : declared.Method) (args : Args) (reply : ℕ) (s : State)
    (effects : List Effect) (allowed : Bool)
    → effects_by w method args reply s ≡ (if allowed then Some effects else None)
    → allowed ≡ is_some (next_by w method args reply s)
allowed_is w method args reply s effects allowed is = grind (arith, is_some, next_of_effects)

-- a method that was found
pub method_found : (methods : List program.Method) (i : ℕ) (m : program.Method) → i < length methods
    → m ≡ slice_index_or methods i m → slice_get (map method_of methods) i ≡ Some (method_of m)
method_found [] i m low is = absurd (omega arith)
method_found (x ∷ methods) zero m low is = ap (λ y. Some (method_of y)) (sym is)
method_found (x ∷ methods) (suc i) m low is = method_found methods i m (omega arith) is

-- what it answers
pub answer_found : (w : Written) (method : declared.Method) (args : Args) (s : State) (i : ℕ)
    (m : Method) (given_args : List ℕ) (o : Option ℕ)
    → own_number method ≡ Some i → own_method w i ≡ Some m
    → given_args ≡ take m.arity (args.a ∷ args.b ∷ args.c ∷ []) → o ≡ answer_of w m given_args s
    → o ≡ answer_by w method args s
answer_found w method args s i m given_args o number found is answer = cc

-- there are three arguments at most
pub few_given : (n a b c : ℕ) (xs : List ℕ) → xs ≡ take n (a ∷ b ∷ c ∷ []) → length xs ≤ 3
few_given n a b c xs is = omega (arith, ap length is, length-take n (a ∷ b ∷ c ∷ []))

pub length-mapped : {A B : Type 0} (f : A → B) (xs : List A) → length (map f xs) ≡ length xs
length-mapped f [] = refl
length-mapped f (x ∷ xs) = ap suc (length-mapped f xs)
