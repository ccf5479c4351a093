-- Verdicts that threads gave, part by part, as one list.
use Rattle.vyrd_batch.proofs.Prelude
use Prelude.{◌≡◌, Vec, Global, Bor, ℕ, ◌≤◌, List, [], ◌∷◌, ◌++◌, length, take, drop, arith, map}
use Prelude.{Result, Ok, Err, IfOk, refl, ap, ◌∙◌, sym, Contains, MatchResult, flat_map, AllZip}
use Prelude.{AllByRecursion, map-append, length-append, length-map, take-append-drop}
use Prelude.{flat_map-append, Verdict, log_verdict, Span, bytes_of, verdicts_of}

-- where each answer shows what it should if it is one, and all are, they all show it
all_right : {X Y Z : Type 0} (E : Type 0) (show : Y → Z) (f : X → Z) (xs : List X) (ys : List Y)
    → AllZip (λ x (r : Result Y E). IfOk r (λ y. show y ≡ f x)) xs (map (λ (y : Y). Ok y) ys)
    → map show ys ≡ map f xs
all_right E show f [] [] h = refl
all_right E show f [] (y ∷ ys) h = absurd h
all_right E show f (x ∷ xs) [] h = absurd h
all_right E show f (x ∷ xs) (y ∷ ys) h = let rest = all_right E show f xs ys h.1 in
    (λ i. h.0 i ∷ rest i)

-- The answers were collected, each of them or an error.
pub collected : {V X Y Z E : Type 0} (items : V → List Y) (show : Y → Z) (f : X → Z) (xs : List X)
    (rs : List (Result Y E)) (r : Result V E)
    → MatchResult r (λ v. (ys : List Y) × (rs ≡ map Ok ys) × (items v ≡ ys))
    (λ e. Contains rs (Err e))
    → AllZip (λ x r. IfOk r (λ y. show y ≡ f x)) xs rs → IfOk r (λ v. map show (items v) ≡ map f xs)
collected e0 items show = grind (arith, all_right)

-- what all items of parts show, and what all parts have, where each part's items show what that
-- part has
pub flat_same : {X Y Z : Type 0} (show : Y → List Z) (f : X → List Z) (ys : List Y) (xs : List X)
    → map show ys ≡ map f xs
    → flat_map show ys ≡ flat_map f xs
flat_same show f [] [] e = refl
flat_same show f [] (x ∷ xs) e = cc
flat_same show f (y ∷ ys) [] e = cc
flat_same show f (y ∷ ys) (x ∷ xs) e =
    let head : show y ≡ f x = cc in
    let tail : map show ys ≡ map f xs = cc in
    let rest = flat_same show f ys xs tail in
    (λ i. head i ++ rest i)

-- a map of parts, one after the other
pub map_parts : {P X Y : Type 0} (g : X → Y) (part : P → List X) (ps : List P)
    → flat_map (λ p. map g (part p)) ps ≡ map g (flat_map part ps)
map_parts g part [] = refl
map_parts g part (p ∷ ps) = cc (map_parts g part ps, map-append g (part p) (flat_map part ps))

-- what holds of all spans holds of those of each part
all_front : {X : Type 0} (P : X → Type 0) (xs ys : List X) → AllByRecursion P (xs ++ ys)
    → AllByRecursion P xs
all_front P [] ys all = tt
all_front P (x ∷ xs) ys all = (all.0, all_front P xs ys all.1)

all_back : {X : Type 0} (P : X → Type 0) (xs ys : List X) → AllByRecursion P (xs ++ ys)
    → AllByRecursion P ys
all_back P [] ys all = all
all_back P (x ∷ xs) ys all = all_back P xs ys all.1

pub all_parts : {Q X : Type 0} (P : X → Type 0) (part : Q → List X) (ps : List Q)
    → AllByRecursion P (flat_map part ps)
    → AllByRecursion (λ p. AllByRecursion P (part p)) ps
all_parts P part [] all = tt
all_parts P part (p ∷ ps) all =
    (all_front P _ (flat_map part ps) all, all_parts P part ps (all_back P (part p) _ all))

pub where_all : {V Y E : Type 0} (items : V → List Y) (a b : List Y) → a ≡ b → (r : Result V E)
    → IfOk r (λ v. items v ≡ a) → IfOk r (λ v. items v ≡ b)
where_all items a b same r is = search arith

-- the verdicts about all parts, one part after the other
pub flat_verdicts : (bytes : List ℕ) (spans : List Span) (parts : List (Bor (List Span)))
    (judged : List (Vec Verdict Global))
    → flat_map (λ part. part.now) parts ≡ spans
    → map (λ verdicts. verdicts.items) judged
    ≡ map (λ part. verdicts_of (map (bytes_of bytes) part.now)) parts
    → flat_map (λ verdicts. verdicts.items) judged ≡ verdicts_of (map (bytes_of bytes) spans)
flat_verdicts bytes spans parts judged all right = flat_same
    (λ (verdicts : Vec Verdict Global). verdicts.items) (λ (part : Bor (List Span)). verdicts_of _)
    judged parts right ∙ map_parts (log_verdict _) (λ (part : Bor (List Span)). map _ _) parts
    ∙ ap verdicts_of (map_parts (bytes_of _) (λ (part : Bor (List Span)). part.now) parts)
    ∙ ap (λ spans. verdicts_of (map (bytes_of bytes) spans)) all

-- the first parts have no more than all of them
pub flat_front : {X Y : Type 0} (f : X → List Y) (n : ℕ) (xs : List X)
    → length (flat_map f (take n xs)) ≤ length (flat_map f xs)
flat_front f n xs =
    let all : length (flat_map f (take n xs ++ drop n xs)) ≡ length (flat_map f xs) =
    ap (λ xs. length (flat_map f xs)) (take-append-drop n xs) in
    let parted = ap length (flat_map-append f (take n xs) (drop n xs)) in
    omega (arith, all, parted, length-append (flat_map f (take n xs)) (flat_map f (drop n xs)))

-- there is a verdict about each log
pub verdict_each : (bytes : List ℕ) (spans : List Span)
    → length (verdicts_of (map (bytes_of bytes) spans)) ≡ length spans
verdict_each bytes spans = search (length-map, arith)

-- and one list of them about each part
pub list_each : {X Y Z : Type 0} (show : Y → Z) (f : X → Z) (ys : List Y) (xs : List X)
    → map show ys ≡ map f xs → length ys ≡ length xs
list_each show f ys xs e = sym (length-map ys show) ∙ ap length e ∙ length-map xs f
