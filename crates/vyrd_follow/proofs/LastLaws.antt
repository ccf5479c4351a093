-- The last step that set something, one effect more.
use Rattle.vyrd_follow.proofs.Prelude
use Prelude.{◌≡◌, ℕ, zero, suc, ◌+◌, ◌<◌, Bool, true, false, cond, List, [], ◌∷◌, ◌++◌, length}
use Prelude.{take, drop, map, set, get_or, Option, Some, None, refl, ap, ◌∙◌, sym, arith}
use Prelude.{append-nil, append_assoc, replicate, filter, filter_map, cons_option, map-append}
use Prelude.{length-append, flat_map_more, filter-append, Entry, StartWord, Effect, last_in}
use Prelude.{numbers_below, Charter, slice_get-last, numbers_below-push, Item, LastStepped, Thing}
use Prelude.{done_at, does_set, placed_at, done_before, last_setting, last_of, last_item}
use Rattle.std.specs.List.{flat_map}

last_in-push : (xs : List (ℕ × Effect)) (x : ℕ × Effect) → last_in (xs ++ x ∷ []) ≡ Some x
last_in-push xs x = grind (arith, length-append xs (x ∷ []), slice_get-last xs x)

-- one effect more is the last, if it sets the thing
setting-push : (told : Thing) (done : List (ℕ × Effect)) (x : ℕ × Effect)
    → last_setting told (done ++ x ∷ [])
    ≡ cond (does_set told x.1) (Some x) (last_setting told done)
setting-push told done x =
    ap last_in (filter-append (λ step. does_set told step.1) done (x ∷ []))
    ∙ by_test (does_set told x.1)
  where
    before : List (ℕ × Effect)
    before = filter (λ step. does_set told step.1) done

    by_test : (b : Bool) → last_in (before ++ cond b (x ∷ []) [])
        ≡ cond b (Some x) (last_in before)
    by_test true = last_in-push before x
    by_test false = ap last_in (append-nil before)

pub last_of-push : (told : Thing) (done : List (ℕ × Effect)) (at : ℕ) (doing : Effect)
    → last_of (done ++ (at, doing) ∷ []) told
    ≡ cond (does_set told doing) (Some (LastStepped at doing)) (last_of done told)
last_of-push told done at doing = search (setting-push, last_of, arith)

-- the next of what a step does
placed_more : (before : List (ℕ × Effect)) (at : ℕ) (done : List Effect) (doing : Effect)
    → before ++ map (placed_at at) (done ++ doing ∷ [])
    ≡ (before ++ map (placed_at at) done) ++ (at, doing) ∷ []
placed_more before at done doing = grind (arith, map-append, append_assoc)

pub noted_next : (told : Thing) (before : List (ℕ × Effect)) (at : ℕ) (done : List Effect)
    (doing : Effect) (found next : Option Item)
    → found ≡ last_of (before ++ map (placed_at at) done) told
    → next ≡ cond (does_set told doing) (Some (LastStepped at doing)) found
    → next ≡ last_of (before ++ map (placed_at at) (done ++ doing ∷ [])) told
noted_next told before at done doing found next so is =
    grind (arith, told, found, last_of-push, last_of, placed_more)

-- a list in which one element more is that of another function
pub one_more_set : {A B : Type 0} (f g : A → B) (xs : List A) (i : ℕ) (d : A) → i < length xs
    → set (map g (take i xs) ++ map f (drop i xs)) i (g (get_or xs i d))
    ≡ map g (take (i + 1) xs) ++ map f (drop (i + 1) xs)
one_more_set f g [] i d low = absurd (omega (arith, low))
one_more_set f g (x ∷ xs) zero d low = refl
one_more_set f g (x ∷ xs) (suc i) d low =
    grind (arith, one_more_set f g xs i d (omega (arith, low)))

pub here_still : {A B : Type 0} (f g : A → B) (xs : List A) (i : ℕ) (d : A) (e : B) → i < length xs
    → get_or (map g (take i xs) ++ map f (drop i xs)) i e ≡ f (get_or xs i d)
here_still f g [] i d e low = absurd (omega (arith, low))
here_still f g (x ∷ xs) zero d e low = refl
here_still f g (x ∷ xs) (suc i) d e low = here_still f g xs i d e (omega (arith, low))

-- what is there of what a function may give
pub there_in : {A B : Type 0} (f : A → Option B) (xs : List A)
    → filter_map (λ o. o) (map f xs) ≡ filter_map f xs
there_in f [] = refl
there_in f (x ∷ xs) = ap (cons_option (f x)) (there_in f xs)

-- before the first step nothing is set
pub none_set : (items : List Item) → replicate (length items) None ≡ map (last_item []) items
none_set [] = refl
none_set (item ∷ items) = ap (λ xs. None ∷ xs) (none_set items)

-- what is done before one position more
pub done_next : (c : Charter) (starting : List StartWord) (front : List Entry) (p : ℕ)
    → done_before c starting front p ++ map (placed_at p) (done_at c starting front p)
    ≡ done_before c starting front (p + 1)
done_next c starting front p = flat_map_more (λ q. map _ _) [] (numbers_below p) p
    ∙ ap (flat_map _) (sym (numbers_below-push p))
