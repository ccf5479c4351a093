-- The method that a name finds, and what stands between the spaces of a line.
use Rattle.vyrd_own_log.proofs.Prelude
use Prelude.{◌≡◌, ℕ, suc, zero, ◌+◌, ◌-◌, ◌<◌, ◌≤◌, Bool, true, false, cond, not, ◌&&◌, List, []}
use Prelude.{◌∷◌, ◌++◌, length, take, drop, get_or, Option, Some, None, refl, ap, sym, ◌∙◌, arith}
use Prelude.{◌==◌, nat_le, slice_get, list_all, slice_split, option_map_or, bytes_eq, append-nil}
use Prelude.{append_cancel_left, take_all, take-append-drop, drop_more, take_rest, bytes_eq-Decides}
use Prelude.{OwnMethod, Method, own_method, named_from, lacks, split_at, split_whole, both_true}
use Prelude.{first_true, second_true, at_most_of, same_of, after_field, is_callable}

-- the name of a method by its place
abbrev pub name_in : List Method → ℕ → List ℕ
name_in methods j = option_map_or (λ m. m.name) (slice_get methods j) []

-- the number of arguments of a method by its place
abbrev pub arity_in : List Method → ℕ → ℕ
arity_in methods j = option_map_or (λ m. m.arity) (slice_get methods j) 0

-- what is known of the method that a name finds, among those from a number on
pub record IsNamed (i : ℕ) (methods : List Method) (name : List ℕ) (m : OwnMethod) : Type 0 where
  pub place : ℕ
  pub within : place < length methods
  pub number : m.number ≡ i + place
  pub called : name_in methods place ≡ name
  pub arity : arity_in methods place ≡ m.arity
  pub few : m.arity ≤ 3
  pub short : length name ≤ 32
  pub one_word : lacks 32 name ≡ true
  pub one_line : lacks 10 name ≡ true

pub named_is : (i : ℕ) (methods : List Method) (name : List ℕ) (m : OwnMethod)
    → list_all is_callable methods ≡ true
    → named_from i methods name ≡ Some m → IsNamed i methods name m
named_is i [] name m all e = cc
named_is i (first ∷ methods) name m all e =
    by_test (named_is (i + 1) methods name m (second_true (is_callable first) _ all))
    (bytes_eq first.name name) refl e
  where
    ok : is_callable first ≡ true
    ok = first_true _ _ all

    by_test : (named_from (i + 1) methods name ≡ Some m → IsNamed (i + 1) methods name m)
        → (b : Bool) → bytes_eq first.name name ≡ b
        → cond b (Some (own_method i first)) (named_from (i + 1) methods name) ≡ Some m
        → IsNamed i (first ∷ methods) name m
    by_test rest true is f =
        let same : own_method i first ≡ m = cc in
        let called : first.name ≡ name = (bytes_eq-Decides first.name name).0 is in
        let short : length first.name ≤ 32 = at_most_of (length first.name) 32
        (second_true (nat_le first.arity 3) _ (first_true _ _ (first_true _ _ ok))) in
        let few : first.arity ≤ 3 = at_most_of first.arity 3
        (first_true _ _ (first_true _ _ (first_true _ _ ok))) in
        record {
          place = 0;
          within = omega arith;
          number = let number : i ≡ m.number = ap (λ o. o.number) same in omega (arith, number);
          called = called;
          arity = ap (λ o. o.arity) same;
          few = let arity : first.arity ≡ m.arity = ap (λ o. o.arity) same in
              omega (arith, arity, few);
          short = omega (arith, ap length called, short);
          one_word = ap (lacks 32) (sym called)
              ∙ second_true (nat_le first.arity 3 && nat_le (length first.name) 32) _
              (first_true _ _ ok);
          one_line = ap (lacks 10) (sym called)
              ∙ second_true (nat_le first.arity 3 && nat_le (length first.name) 32
              && lacks 32 first.name) _ ok;
        }
    by_test rest false is f =
        let more = rest f in
        record {
          place = suc more.place;
          within = omega (arith, more.within);
          number = omega (arith, more.number);
          called = more.called;
          arity = more.arity;
          few = more.few;
          short = more.short;
          one_word = more.one_word;
          one_line = more.one_line;
        }

-- what stands between spaces, behind a field
fields_after : Option (List ℕ) → List (List ℕ)
fields_after None = []
fields_after (Some rest) = slice_split (λ b. b == 32) rest

split_field : (field : List ℕ) (rest : Option (List ℕ)) → lacks 32 field ≡ true
    → slice_split (λ b. b == 32) (field ++ after_field rest) ≡ field ∷ fields_after rest
unfolding fields_after
split_field field None lack = cc (append-nil field, split_whole 32 field lack)
split_field field (Some rest) lack = split_at _ _ _ lack

same_after : (r s : Option (List ℕ)) → after_field r ≡ after_field s → r ≡ s
same_after r s e = grind arith

-- a field without a space, and what follows it, are one
pub one_field : (a b : List ℕ) (r s : Option (List ℕ)) → lacks 32 a ≡ true → lacks 32 b ≡ true
    → a ++ after_field r ≡ b ++ after_field s → (a ≡ b) × (r ≡ s)
one_field a b r s la lb e =
    let parts : a ∷ fields_after r ≡ b ∷ fields_after s = sym (split_field a r la)
    ∙ ap (slice_split _) e ∙ split_field b s lb in
    let same : a ≡ b = cc in (same, same_after r s (append_cancel_left a _ _ (cc)))

-- where a text is cut at its first space
not_true : (b : Bool) → ¬ (b ≡ true) → not b ≡ true
not_true b h = search arith

pub front_lacks : (b k : ℕ) (xs : List ℕ) → k ≤ length xs
    → ((i : ℕ) → i < k → ¬ ((get_or xs i 0 == b) ≡ true)) → lacks b (take k xs) ≡ true
front_lacks b zero xs h none = refl
front_lacks b (suc k) [] h none = refl
front_lacks b (suc k) (x ∷ xs) h none = both_true _ _ (not_true _ (none 0 (omega arith)))
    (front_lacks b k xs (omega arith) (λ i l. none (suc i) (omega arith)))

pub whole_lacks : (b : ℕ) (xs : List ℕ)
    → ((i : ℕ) → i < length xs → ¬ ((get_or xs i 0 == b) ≡ true)) → lacks b xs ≡ true
whole_lacks b xs none = ap (lacks b) (sym (take_all (length xs) xs (omega arith)))
    ∙ front_lacks b (length xs) xs (omega arith) none

pub parted_at : (b : ℕ) (xs : List ℕ) (k : ℕ) → k < length xs → (get_or xs k 0 == b) ≡ true
    → xs ≡ take k xs ++ b ∷ take (length xs - (k + 1)) (drop (k + 1) xs)
parted_at b xs k h e = sym (take-append-drop k _) ∙ ap (λ t. take k xs ++ t)
    (drop_more _ k 0 h ∙ (λ i. same_of _ b e i ∷ sym (take_rest xs (k + 1)) i))
