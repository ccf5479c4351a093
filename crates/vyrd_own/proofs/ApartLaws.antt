-- What effects do to each part of a state.
use Rattle.vyrd_own.proofs.Prelude
use Prelude.{◌≡◌, ℕ, Bool, true, false, cond, List, [], ◌∷◌, ◌++◌, refl, ap, ◌∙◌, sym, ◌<◌, ◌+◌}
use Prelude.{length, drop, suc, add-one, drop-cons, ◌||◌, slice_index_or, list_any, Amounts, Effect}
use Prelude.{SetShown, SetHidden, SetRegister, PutLast, PutFirst, TakeFirst, TakeLast, Empty}
use Prelude.{EmptyShown, State, with_effect, with_effects, hidden_with, is_clearing, shown_after}
use Prelude.{hidden_after, registers_with, registers_after, lists_with, lists_after}
use Rattle.vyrd_own.proofs.SetLaws.{set_more}

registers_one : (s : State) (e : Effect) → registers_with s.registers e
    ≡ (with_effect s e).registers
registers_one s (SetShown k a) = refl
registers_one s (SetHidden k a) = refl
registers_one s (SetRegister i a) = refl
registers_one s (PutLast i a) = refl
registers_one s (PutFirst i a) = refl
registers_one s (TakeFirst i) = refl
registers_one s (TakeLast i) = refl
registers_one s (Empty i) = refl
registers_one s EmptyShown = refl

pub registers_by : (s : State) (es : List Effect) → registers_after s.registers es
    ≡ (with_effects s es).registers
registers_by s [] = refl
registers_by s (e ∷ es) = cc (registers_one s e, registers_by (with_effect s e) es)

lists_one : (s : State) (e : Effect) → lists_with s.lists e ≡ (with_effect s e).lists
lists_one s (SetShown k a) = refl
lists_one s (SetHidden k a) = refl
lists_one s (SetRegister i a) = refl
lists_one s (PutLast i a) = refl
lists_one s (PutFirst i a) = refl
lists_one s (TakeFirst i) = refl
lists_one s (TakeLast i) = refl
lists_one s (Empty i) = refl
lists_one s EmptyShown = refl

pub lists_by : (s : State) (es : List Effect) → lists_after s.lists es ≡ (with_effects s es).lists
lists_by s [] = refl
lists_by s (e ∷ es) = ap (λ ls. lists_after ls es) (lists_one s e) ∙ lists_by (with_effect s e) es

cond_alike : (b : Bool) → cond b [] (let none : Amounts = [] in none) ≡ []
cond_alike true = refl
cond_alike false = refl

pub shown_by : (base : Amounts) (pairs : List (ℕ × ℕ)) (s : State) (es : List Effect)
    → s.shown ≡ hidden_with base pairs
    → (with_effects s es).shown ≡ hidden_with (cond (list_any is_clearing es) [] base)
    (shown_after pairs es)
shown_by base pairs s [] is = is
shown_by base pairs s (SetShown k a ∷ es) is = shown_by base (pairs ++ (k, a) ∷ [])
    (with_effect s (SetShown k a)) es (cc (set_more base pairs k a))
shown_by base pairs s (SetHidden k a ∷ es) is = shown_by base pairs (with_effect s (SetHidden k a))
    es is
shown_by base pairs s (SetRegister i a ∷ es) is = shown_by base pairs
    (with_effect s (SetRegister i a)) es is
shown_by base pairs s (PutLast i a ∷ es) is = shown_by base pairs (with_effect s (PutLast i a)) es
    is
shown_by base pairs s (PutFirst i a ∷ es) is = shown_by base pairs (with_effect s (PutFirst i a)) es
    is
shown_by base pairs s (TakeFirst i ∷ es) is = shown_by base pairs (with_effect s (TakeFirst i)) es
    is
shown_by base pairs s (TakeLast i ∷ es) is = shown_by base pairs (with_effect s (TakeLast i)) es is
shown_by base pairs s (Empty i ∷ es) is = shown_by base pairs (with_effect s (Empty i)) es is
shown_by base pairs s (EmptyShown ∷ es) is =
    cc (shown_by [] [] (with_effect s EmptyShown) es refl, cond_alike (list_any is_clearing es))

pub hidden_by : (base : Amounts) (pairs : List (ℕ × ℕ)) (s : State) (es : List Effect) → s.hidden
    ≡ hidden_with base pairs
    → (with_effects s es).hidden ≡ hidden_with base (hidden_after pairs es)
hidden_by base pairs s [] is = is
hidden_by base pairs s (SetHidden k a ∷ es) is = hidden_by base (pairs ++ (k, a) ∷ [])
    (with_effect s (SetHidden k a)) es (cc (set_more base pairs k a))
hidden_by base pairs s (SetShown k a ∷ es) is = hidden_by base pairs (with_effect s (SetShown k a))
    es is
hidden_by base pairs s (SetRegister i a ∷ es) is = hidden_by base pairs
    (with_effect s (SetRegister i a)) es is
hidden_by base pairs s (PutLast i a ∷ es) is = hidden_by base pairs (with_effect s (PutLast i a)) es
    is
hidden_by base pairs s (PutFirst i a ∷ es) is = hidden_by base pairs (with_effect s (PutFirst i a))
    es is
hidden_by base pairs s (TakeFirst i ∷ es) is = hidden_by base pairs (with_effect s (TakeFirst i)) es
    is
hidden_by base pairs s (TakeLast i ∷ es) is = hidden_by base pairs (with_effect s (TakeLast i)) es
    is
hidden_by base pairs s (Empty i ∷ es) is = hidden_by base pairs (with_effect s (Empty i)) es is
hidden_by base pairs s (EmptyShown ∷ es) is = hidden_by base pairs (with_effect s EmptyShown) es is

-- the parts of a state together
pub whole : (s : State) (es : List Effect) (shown hidden : Amounts) (registers : List ℕ)
    (lists : List (List ℕ))
    → shown ≡ (with_effects s es).shown → hidden ≡ (with_effects s es).hidden
    → registers ≡ (with_effects s es).registers → lists ≡ (with_effects s es).lists
    → (let t : State = record {
      shown = shown;
      hidden = hidden;
      registers = registers;
      lists = lists;
    } in t) ≡ with_effects s es
whole s es shown hidden registers lists a b c d =
    ap (λ x. let t : State = record {
      shown = x;
      hidden = hidden;
      registers = registers;
      lists = lists;
    } in t) a
    ∙ ap (λ x. let t : State = record {
      shown = (with_effects s es).shown;
      hidden = x;
      registers = registers;
      lists = lists;
    } in t) b
    ∙ ap (λ x. let t : State =
    record {
      shown = (with_effects s es).shown;
      hidden = (with_effects s es).hidden;
      registers = x;
      lists = lists;
    } in t) c
    ∙ ap (λ x. let t : State =
    record {
      shown = (with_effects s es).shown;
      hidden = (with_effects s es).hidden;
      registers = (with_effects s es).registers;
      lists = x;
    } in t) d

-- the effects of a list, the first and then the others
pub shown_then : (pairs : List (ℕ × ℕ)) (e : Effect) (es : List Effect)
    → shown_after pairs (e ∷ es) ≡ shown_after (shown_after pairs (e ∷ [])) es
shown_then pairs (SetShown k a) es = refl
shown_then pairs (SetHidden k a) es = refl
shown_then pairs (SetRegister i a) es = refl
shown_then pairs (PutLast i a) es = refl
shown_then pairs (PutFirst i a) es = refl
shown_then pairs (TakeFirst i) es = refl
shown_then pairs (TakeLast i) es = refl
shown_then pairs (Empty i) es = refl
shown_then pairs EmptyShown es = refl

pub hidden_then : (pairs : List (ℕ × ℕ)) (e : Effect) (es : List Effect)
    → hidden_after pairs (e ∷ es) ≡ hidden_after (hidden_after pairs (e ∷ [])) es
hidden_then pairs (SetShown k a) es = refl
hidden_then pairs (SetHidden k a) es = refl
hidden_then pairs (SetRegister i a) es = refl
hidden_then pairs (PutLast i a) es = refl
hidden_then pairs (PutFirst i a) es = refl
hidden_then pairs (TakeFirst i) es = refl
hidden_then pairs (TakeLast i) es = refl
hidden_then pairs (Empty i) es = refl
hidden_then pairs EmptyShown es = refl

-- one effect more was gathered
swapped : (a b r : Bool) → ((a || b) || r) ≡ (b || (a || r))
swapped true true r = refl
swapped true false r = refl
swapped false true r = refl
swapped false false r = refl

pub clears_more : (es : List Effect) (i : ℕ) (d : Effect) (clears cleared after end : Bool)
    → i < length es
    → (clears || list_any is_clearing (drop i es)) ≡ end
    → cleared ≡ is_clearing (slice_index_or es i d) → after ≡ (cleared || clears)
    → (after || list_any is_clearing (drop (i + 1) es)) ≡ end
clears_more es i d clears cleared after end low was is_cleared is_after =
    ap (λ b. b || list_any is_clearing (drop (i + 1) es)) is_after
    ∙ ap (λ n. (cleared || clears) || list_any is_clearing (drop n es)) (add-one i)
    ∙ swapped cleared clears (list_any is_clearing (drop (suc i) es))
    ∙ ap (λ b. clears || (b || list_any is_clearing (drop (suc i) es))) is_cleared
    ∙ ap (λ rest. clears || list_any is_clearing rest) (sym (drop-cons es i d low)) ∙ was

pub shown_more : (es : List Effect) (i : ℕ) (d : Effect) (pairs after end : List (ℕ × ℕ))
    → i < length es
    → shown_after pairs (drop i es) ≡ end → after ≡ shown_after pairs (slice_index_or es i d ∷ [])
    → shown_after after (drop (i + 1) es) ≡ end
shown_more es i d pairs after end low was is_after =
    cc (add-one i, shown_then pairs (slice_index_or es i d) (drop (suc i) es), drop-cons es i d low)

pub hidden_more : (es : List Effect) (i : ℕ) (d : Effect) (pairs after end : List (ℕ × ℕ))
    → i < length es
    → hidden_after pairs (drop i es) ≡ end → after ≡ hidden_after pairs (slice_index_or es i d ∷ [])
    → hidden_after after (drop (i + 1) es) ≡ end
hidden_more es i d pairs after end low was is_after =
    ap (λ ps. hidden_after ps (drop (i + 1) es)) is_after
    ∙ ap (λ n. hidden_after (hidden_after pairs (slice_index_or es i d ∷ [])) (drop n es))
    (add-one i)
    ∙ sym (hidden_then pairs (slice_index_or es i d) (drop (suc i) es))
    ∙ ap (hidden_after pairs) (sym (drop-cons es i d low)) ∙ was

pub or_of : (a b : Bool) → a ≡ true → a ≡ (a || b)
or_of true b e = refl
or_of false b e = cc

-- each part as effects leave it
pub each_part : (s : State) (es : List Effect) (clears : Bool) (pairs others : List (ℕ × ℕ))
    (shown hidden : Amounts) (registers : List ℕ) (lists : List (List ℕ))
    → clears ≡ list_any is_clearing es → pairs ≡ shown_after [] es → others ≡ hidden_after [] es
    → shown ≡ hidden_with (cond clears [] s.shown) pairs → hidden ≡ hidden_with s.hidden others
    → registers ≡ registers_after s.registers es → lists ≡ lists_after s.lists es
    → (let t : State = record {
      shown = shown;
      hidden = hidden;
      registers = registers;
      lists = lists;
    } in t) ≡ with_effects s es
each_part s es clears pairs others shown hidden registers lists c p o a b r l =
    whole s es _ _ _ _ (cc (shown_by s.shown [] s es refl))
    (b ∙ ap (hidden_with _) o ∙ sym (hidden_by s.hidden [] s es refl)) (r ∙ registers_by s es)
    (l ∙ lists_by s es)
