-- The numbered log, entry by entry, and what its effects tell of the log's own.
use Rattle.vyrd_witness.proofs.Prelude
use Prelude.{◌≡◌, ℕ, suc, zero, ◌+◌, ◌≤◌, List, [], ◌∷◌, ◌++◌, length, map, take, drop, Some}
use Prelude.{slice_get, refl, ap, ◌∙◌, sym, arith, append_assoc, reverse, option_map, option_map_or}
use Prelude.{take-map, drop-map, drop-drop, drop_more, drop_all, slice_get_within}
use Prelude.{get_or_from_slice_get, Kind, Entry, newest_first_onto, newest_first, newest_first-push}
use Prelude.{newest_first_onto-append, slice_get-drop, take_one_more, value_of, value_at}
use Rattle.vyrd_witness.specs.Numbered.{numbered, numbered_kind, numbered_entry, numbered_from}
use Rattle.vyrd_witness.proofs.Valued.{valued_kind, valued}

-- the numbered entries before a position, the newest first, and those from it on
abbrev pub behind : List Entry → ℕ → List Entry
behind log n = newest_first (take n (numbered log))

abbrev pub ahead : List Entry → ℕ → List Entry
ahead log n = drop n (numbered log)

-- a list the other way round
pub map-newest_first_onto : {A B : Type 0} (f : A → B) (xs ys : List A)
    → map f (newest_first_onto xs ys) ≡ newest_first_onto (map f xs) (map f ys)
map-newest_first_onto f xs [] = refl
map-newest_first_onto f xs (y ∷ ys) = map-newest_first_onto f (y ∷ xs) ys

pub map-newest_first : {A B : Type 0} (f : A → B) (xs : List A)
    → map f (newest_first xs) ≡ newest_first (map f xs)
map-newest_first f xs = map-newest_first_onto f [] xs

turned_onto : {A : Type 0} (front ys : List A)
    → newest_first_onto front ys ≡ newest_first ys ++ front
turned_onto front [] = refl
turned_onto front (y ∷ ys) = turned_onto (y ∷ front) ys
    ∙ sym (cc (turned_onto (y ∷ []) ys, append_assoc (newest_first ys) (y ∷ []) front))

pub turned-append : {A : Type 0} (xs ys : List A)
    → newest_first (xs ++ ys) ≡ newest_first ys ++ newest_first xs
turned-append xs ys = newest_first_onto-append [] xs ys ∙ turned_onto (newest_first xs) ys

pub turned_twice : {A : Type 0} (xs : List A) → newest_first (newest_first xs) ≡ xs
turned_twice [] = refl
turned_twice (x ∷ xs) = ap newest_first (turned_onto (x ∷ []) xs)
    ∙ newest_first-push (newest_first xs) x ∙ ap (λ ys. x ∷ ys) (turned_twice xs)

pub turned_is : {A : Type 0} (xs : List A) → newest_first xs ≡ reverse xs
turned_is e0 = grind (arith, turned_onto)

-- an entry of the numbered log
there_from : (p n : ℕ) (es : List Entry)
    → slice_get (numbered_from p es) n ≡ option_map (numbered_entry (p + n)) (slice_get es n)
there_from p n [] = refl
there_from p zero (e ∷ es) = grind arith
there_from p (suc n) (e ∷ es) = grind (arith, there_from (p + 1) n es)

pub numbered_there : (log : List Entry) (n : ℕ) (e : Entry) → slice_get log n ≡ Some e
    → slice_get (numbered log) n ≡ Some (numbered_entry n e)
numbered_there log n e here = grind (arith, here, there_from)

length_from : (p : ℕ) (es : List Entry) → length (numbered_from p es) ≡ length es
length_from p [] = refl
length_from p (e ∷ es) = ap suc (length_from (p + 1) es)

-- one entry further
pub behind_next : (log : List Entry) (n : ℕ) (e : Entry) → slice_get log n ≡ Some e
    → behind log (n + 1) ≡ numbered_entry n e ∷ behind log n
behind_next log n e here =
    ap newest_first (take_one_more (numbered log) n (numbered_entry n e)
    (numbered_there log n e here))
    ∙ newest_first-push (take n (numbered log)) (numbered_entry n e)

pub ahead_here : (log : List Entry) (n : ℕ) (e : Entry) → slice_get log n ≡ Some e
    → ahead log n ≡ numbered_entry n e ∷ ahead log (n + 1)
ahead_here log n e here =
    let x = numbered_entry n e in
    let there = numbered_there log n e here in
    drop_more (numbered log) n x (slice_get_within (numbered log) n x there)
    ∙ ap (λ y. y ∷ ahead log (n + 1)) (get_or_from_slice_get (numbered log) n x x there)

pub ahead_end : (log : List Entry) (n : ℕ) → length log ≤ n → ahead log n ≡ []
ahead_end log n past = drop_all n (numbered log) (omega (arith, length_from 0 log, past))

-- with the values that are written there the numbered log is the log
kind_back : (f : ℕ → ℕ) (p : ℕ) (kind : Kind) → f p ≡ value_of kind
    → valued_kind f (numbered_kind p kind) ≡ kind
kind_back f p kind is = grind arith

pub value_here : (log : List Entry) (p : ℕ) (e : Entry) → slice_get log p ≡ Some e
    → value_at log p ≡ value_of e.kind
value_here log p e here = ap (λ o. option_map_or (λ x. value_of x.kind) o 0) here

from_back : (log : List Entry) (p : ℕ) (es : List Entry) → drop p log ≡ es
    → map (valued (value_at log)) (numbered_from p es) ≡ es
from_back log p [] is = refl
from_back log p (e ∷ es) is =
    let here : slice_get log p ≡ Some e = cc (slice_get-drop log p) in
    let kind = kind_back _ p _ (value_here _ p e here) in
    let rest = from_back log (p + 1) es (sym (drop-drop 1 p _) ∙ ap (drop 1) is) in
    λ i. record { caller = e.caller; kind = kind i } ∷ rest i

pub numbered_back : (log : List Entry) → map (valued (value_at log)) (numbered log) ≡ log
numbered_back log = from_back log 0 log refl

pub behind_back : (log : List Entry) (n : ℕ)
    → map (valued (value_at log)) (behind log n) ≡ newest_first (take n log)
behind_back log n = map-newest_first (valued (value_at log)) (take n (numbered log))
    ∙ ap newest_first (sym (take-map (valued (value_at log)) n (numbered log))
    ∙ ap (take n) (numbered_back log))

pub ahead_back : (log : List Entry) (n : ℕ)
    → map (valued (value_at log)) (ahead log n) ≡ drop n log
ahead_back log n = cc (drop-map (valued (value_at log)) n (numbered log), numbered_back log)

pub kind_there : (log : List Entry) (n : ℕ) (e : Entry) → slice_get log n ≡ Some e
    → valued_kind (value_at log) (numbered_kind n e.kind) ≡ e.kind
kind_there log n e here = kind_back (value_at log) n e.kind (value_here log n e here)
