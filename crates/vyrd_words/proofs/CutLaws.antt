-- Writes that wait, and the words at the commits among them.
use Rattle.vyrd_words.proofs.Prelude
use Prelude.{◌≡◌, ℕ, zero, suc, ◌+◌, ◌<◌, ◌≤◌, ◌^◌, List, [], ◌∷◌, ◌++◌, length, take, drop, set}
use Prelude.{refl, ap, subst, ◌∙◌, sym, arith, length-drop, length-append, sum_by-cons, sum_by_push}
use Prelude.{take-append-le, drop-append-le, take-length, length-set, drop-length, Header}
use Prelude.{plain_words, ◌==◌, true, false, get_or, map, All, Result, OnOk, list_any, append_assoc}
use Prelude.{get_or-set_other, list_any-append, AgreeElsewhere, Known, same_of, apart_of, is_same}
use Prelude.{flipped, lower_isnt, neither_true, with_writes-append, with_writes, AreInRange, just}
use Prelude.{with_late, total, first_of, split_at, since_of, with_part, first_with, written}
use Prelude.{AreCuts, AreKnown, cond, ◌-◌, Some, slice_get, option_map, append-nil, Bool}
use Rattle.std.proofs.lemmas.List.Elements.{All-append, All-head, All-tail, All-cons, All-nil}
use Rattle.vyrd_shadow.proofs.KeptWrites.{length-with_writes, below_set, below_with, keys_below}

pub in_range-append : (n : ℕ) (xs ys : List (ℕ × ℕ)) → AreInRange n xs → AreInRange n ys
    → AreInRange n (xs ++ ys)
in_range-append n [] ys in_xs in_ys = in_ys
in_range-append n ((w, v) ∷ xs) ys in_xs in_ys =
    (in_xs.0, in_xs.1, in_range-append n xs ys in_xs.2 in_ys)

pub in_range-take : (n k : ℕ) (xs : List (ℕ × ℕ)) → AreInRange n xs → AreInRange n (take k xs)
in_range-take n zero xs all = tt
in_range-take n (suc k) [] all = tt
in_range-take n (suc k) ((w, v) ∷ xs) all = (all.0, all.1, in_range-take n k xs all.2)

pub in_range-drop : (n k : ℕ) (xs : List (ℕ × ℕ)) → AreInRange n xs → AreInRange n (drop k xs)
in_range-drop n zero xs all = all
in_range-drop n (suc k) [] all = all
in_range-drop n (suc k) ((w, v) ∷ xs) all = in_range-drop n k xs all.2

pub sum-cons : (k : ℕ × List (ℕ × ℕ)) (ks : List (ℕ × List (ℕ × ℕ))) → total (k ∷ ks) ≡ k.0
    + total ks
sum-cons k ks = sum_by-cons (λ (commit : ℕ × List (ℕ × ℕ)). commit.0) k ks

-- how many lists there are
pub length-split_at : (ks : List (ℕ × List (ℕ × ℕ))) (ws : List (ℕ × ℕ)) → length (split_at ks ws)
    ≡ suc (length ks)
length-split_at [] ws = refl
length-split_at (k ∷ ks) ws = ap suc (length-split_at ks (drop k.0 ws))

pub length-since_of : (ks : List (ℕ × List (ℕ × ℕ))) (ws : List (ℕ × ℕ)) → length (since_of ks ws)
    ≡ length ks
length-since_of ks ws = search (length-split_at, arith)

pub never_same : (n m : ℕ) → n < m → (m == n) ≡ false
never_same n m less = flipped n m (lower_isnt n m less)

-- one more commit
split_push : (ks : List (ℕ × List (ℕ × ℕ))) (t : ℕ) (ws : List (ℕ × ℕ)) → total ks + t ≡ length ws
    → split_at (ks ++ just t ∷ []) ws ≡ split_at ks ws ++ [] ∷ []
split_push [] t ws counted =
    let same : t ≡ length ws = omega (arith, counted) in
    (λ i. (take (same i) ws ++ []) ∷ drop (same i) ws ∷ [])
    ∙ (λ i. (take-length ws i ++ []) ∷ drop-length ws i ∷ [])
    ∙ ap (λ xs. xs ∷ [] ∷ []) (append-nil ws)
split_push (k ∷ ks) t ws counted =
    cc (split_push ks t (drop k.0 ws) (omega (arith, counted, length-drop k.0 ws, sum-cons k ks)))

pub since_push : (ks : List (ℕ × List (ℕ × ℕ))) (t : ℕ) (ws : List (ℕ × ℕ)) → total ks + t
    ≡ length ws → since_of (ks ++ just t ∷ []) ws ≡ since_of ks ws ++ [] ∷ []
since_push [] t ws counted =
    let same : t ≡ length ws = omega (arith, counted) in (λ i. drop (same i) ws ∷ [])
    ∙ (λ i. drop-length ws i ∷ [])
since_push (k ∷ ks) t ws counted = search (split_push, counted, length-drop, sum-cons, arith)

pub first_push : (words : List ℕ) (ks : List (ℕ × List (ℕ × ℕ))) (t : ℕ) (ws : List (ℕ × ℕ))
    → total ks + t ≡ length ws → first_of words (ks ++ just t ∷ []) ws ≡ first_of words ks ws
first_push words [] t ws counted = grind (arith, take-length ws, append-nil ws)
first_push words (k ∷ ks) t ws counted = refl

pub cons_first : {A : Type 0} {x y : A} {xs ys : List A} → x ∷ xs ≡ y ∷ ys → x ≡ y
cons_first e = cc

cons_rest : {A : Type 0} {x y : A} {xs ys : List A} → x ∷ xs ≡ y ∷ ys → xs ≡ ys
cons_rest e = cc

-- the first commit no longer waits: the words at the next one, and what took effect since that
pub first_next : (words : List ℕ) (ks : List (ℕ × List (ℕ × ℕ))) (ws part : List (ℕ × ℕ))
    (rest : List (List (ℕ × ℕ))) → split_at ks ws ≡ part ∷ rest
    → first_of words ks ws ≡ with_writes words part
first_next words ks ws part rest is = search (cons_first, arith)

pub since_next : (ks : List (ℕ × List (ℕ × ℕ))) (ws part : List (ℕ × ℕ))
    (rest : List (List (ℕ × ℕ))) → split_at ks ws ≡ part ∷ rest → since_of ks ws ≡ rest
since_next ks ws part rest is = search (cons_rest, arith)

-- further writes after the last commit
split_more : (ks : List (ℕ × List (ℕ × ℕ))) (ws more : List (ℕ × ℕ)) → total ks ≤ length ws
    → split_at ks (ws ++ more) ≡ with_part 0 more (split_at ks ws)
split_more [] ws more within = refl
split_more (k ∷ ks) ws more within =
    let long : k.0 ≤ length ws = omega (arith, within, sum-cons k ks) in
    (λ i. (take-append-le k.0 ws more long i ++ k.1) ∷ split_at ks
    (drop-append-le k.0 ws more long i)) ∙ ap (λ rest. (take k.0 ws ++ k.1) ∷ rest)
    (split_more ks (drop k.0 ws) more (omega (arith, within, length-drop k.0 ws, sum-cons k ks)))
    ∙ ap (λ b. cond b (((take k.0 ws ++ k.1) ++ more) ∷ split_at ks (drop k.0 ws))
    ((take k.0 ws ++ k.1) ∷ with_part 0 more (split_at ks (drop k.0 ws))))
    (sym (never_same 0 _ (omega (arith, length-split_at ks (drop k.0 ws)))))

pub since_more : (ks : List (ℕ × List (ℕ × ℕ))) (ws more : List (ℕ × ℕ)) → total ks ≤ length ws
    → 0 < length ks
    → since_of ks (ws ++ more) ≡ with_part 0 more (since_of ks ws)
since_more [] ws more within some = absurd (omega (arith, some))
since_more (k ∷ ks) ws more within some =
    let long : k.0 ≤ length ws = omega (arith, within, sum-cons k ks) in
    ap (split_at ks) (drop-append-le k.0 ws more long) ∙ split_more ks (drop k.0 ws) more
    (omega (arith, within, length-drop k.0 ws, sum-cons k ks))

pub first_more : (words : List ℕ) (ks : List (ℕ × List (ℕ × ℕ))) (ws more : List (ℕ × ℕ)) → total ks
    ≤ length ws → 0 < length ks
    → first_of words ks (ws ++ more) ≡ first_with 0 more (first_of words ks ws) (since_of ks ws)
first_more words ks ws more within some =
    grind (arith, more, within, take-append-le, sum-cons, never_same, split_at, length-split_at)

-- further writes in a list that isn't there
pub with_part_none : (behind : ℕ) (new : List (ℕ × ℕ)) (parts : List (List (ℕ × ℕ))) → length parts
    ≤ behind → with_part behind new parts ≡ parts
with_part_none behind new [] past = refl
with_part_none behind new (part ∷ parts) past =
    ap (λ b. cond b ((part ++ new) ∷ parts) (part ∷ with_part behind new parts))
    (lower_isnt (length parts) behind (omega (arith, past)))
    ∙ ap (λ rest. part ∷ rest) (with_part_none behind new parts (omega (arith, past)))

pub length-with_part : (behind : ℕ) (new : List (ℕ × ℕ)) (parts : List (List (ℕ × ℕ)))
    → length (with_part behind new parts) ≡ length parts
length-with_part behind new [] = refl
length-with_part behind new (part ∷ parts) = by_test (length-with_part behind new parts)
    (length parts == behind)
  where
    by_test : length (with_part behind new parts) ≡ length parts → (b : Bool)
        → length (cond b ((part ++ new) ∷ parts) (part ∷ with_part behind new parts))
        ≡ suc (length parts)
    by_test rest b = search arith

-- writes in two steps
pub with_part_twice : (behind : ℕ) (xs ys : List (ℕ × ℕ)) (parts : List (List (ℕ × ℕ)))
    → with_part behind (xs ++ ys) parts ≡ with_part behind ys (with_part behind xs parts)
with_part_twice behind xs ys [] = refl
with_part_twice behind xs ys (part ∷ parts) = by_test (with_part_twice behind xs ys parts)
    (length parts == behind) refl
  where
    by_test : with_part behind (xs ++ ys) parts ≡ with_part behind ys (with_part behind xs parts)
        → (b : Bool) → (length parts == behind) ≡ b
        → cond b ((part ++ (xs ++ ys)) ∷ parts) (part ∷ with_part behind (xs ++ ys) parts)
        ≡ with_part behind ys (cond b ((part ++ xs) ∷ parts) (part ∷ with_part behind xs parts))
    by_test rest b e = search (append_assoc, length-with_part, behind, parts, arith)

pub first_with_twice : (behind : ℕ) (xs ys : List (ℕ × ℕ)) (first : List ℕ)
    (since : List (List (ℕ × ℕ)))
    → first_with behind (xs ++ ys) first since ≡ first_with behind ys
    (first_with behind xs first since) (with_part behind xs since)
first_with_twice behind xs ys first since = search (length-with_part, with_writes-append, arith)

-- nothing is written
pub with_part_nothing : (behind : ℕ) (parts : List (List (ℕ × ℕ))) → with_part behind [] parts
    ≡ parts
with_part_nothing behind [] = refl
with_part_nothing behind (part ∷ parts) = by_test (with_part_nothing behind parts)
    (length parts == behind)
  where
    by_test : with_part behind [] parts ≡ parts → (b : Bool) → cond b ((part ++ []) ∷ parts)
        (part ∷ with_part behind [] parts) ≡ part ∷ parts
    by_test rest true = ap (λ p. p ∷ parts) (append-nil part)
    by_test rest false = ap (λ ps. part ∷ ps) rest

pub first_with_nothing : (behind : ℕ) (first : List ℕ) (since : List (List (ℕ × ℕ)))
    → first_with behind [] first since ≡ first
first_with_nothing behind first since = grind arith

-- the changed words with one more
pub written_more : (words changed : List ℕ) (w : ℕ) → written words (changed ++ w ∷ [])
    ≡ written words changed ++ (w, get_or words w 0) ∷ []
written_more words [] w = refl
written_more words (x ∷ changed) w = cc (written_more words changed w)

-- a commit has further late writes
abbrev pub late_at : List (ℕ × List (ℕ × ℕ)) → ℕ → List (ℕ × ℕ) → List (ℕ × List (ℕ × ℕ))
late_at ks i new = set ks i (with_late (get_or ks i (just 0)) new)

split_late : (ks : List (ℕ × List (ℕ × ℕ))) (i : ℕ) (new ws : List (ℕ × ℕ)) → i < length ks
    → split_at (late_at ks i new) ws ≡ with_part (length ks - i) new (split_at ks ws)
split_late [] i new ws low = absurd (omega (arith, low))
split_late (k ∷ ks) zero new ws low =
    search (split_at, append_assoc, is_same, length-split_at, arith)
split_late (k ∷ ks) (suc i) new ws low =
    grind (
      arith,
      split_late ks i new (drop k.0 ws) (omega (arith, low)),
      never_same (length ks - i)
          (length (split_at ks (drop k.0 ws))) (omega (arith, length-split_at ks (drop k.0 ws))),
    )

pub since_late : (ks : List (ℕ × List (ℕ × ℕ))) (i : ℕ) (new ws : List (ℕ × ℕ)) → i < length ks
    → since_of (late_at ks i new) ws ≡ with_part (length ks - i) new (since_of ks ws)
since_late ks i new ws low = grind (arith, with_part_none, split_at, length-split_at, split_late)

pub first_late : (words : List ℕ) (ks : List (ℕ × List (ℕ × ℕ))) (i : ℕ) (new ws : List (ℕ × ℕ))
    → i < length ks
    → first_of words (late_at ks i new) ws ≡ first_with (length ks - i) new (first_of words ks ws)
    (since_of ks ws)
first_late words ks i new ws low =
    grind (arith, append_assoc, with_writes-append, is_same, split_at, length-split_at, never_same)

total-late : (ks : List (ℕ × List (ℕ × ℕ))) (i : ℕ) (new : List (ℕ × ℕ)) → i < length ks
    → total (late_at ks i new) ≡ total ks
total-late [] i new low = absurd (omega (arith, low))
total-late (k ∷ ks) zero new low = omega (arith, sum-cons k ks, sum-cons (with_late k new) ks)
total-late (k ∷ ks) (suc i) new low =
    cc (sum-cons k ks, sum-cons k (late_at ks i new), total-late ks i new (omega (arith, low)))

late_in_range : (n : ℕ) (ks : List (ℕ × List (ℕ × ℕ))) (i : ℕ) (new : List (ℕ × ℕ))
    → AreInRange n new → All (λ (commit : ℕ × List (ℕ × ℕ)). AreInRange n commit.1) ks
    → All (λ (commit : ℕ × List (ℕ × ℕ)). AreInRange n commit.1) (late_at ks i new)
late_in_range n [] i new fits all = all
late_in_range n (k ∷ ks) zero new fits all = All-cons
    (λ (commit : ℕ × List (ℕ × ℕ)). AreInRange n commit.1) (with_late k new) ks
    (in_range-append n k.1 new
    (All-head (λ (commit : ℕ × List (ℕ × ℕ)). AreInRange n commit.1) k ks all) fits)
    (All-tail (λ (commit : ℕ × List (ℕ × ℕ)). AreInRange n commit.1) k ks all)
late_in_range n (k ∷ ks) (suc i) new fits all = All-cons
    (λ (commit : ℕ × List (ℕ × ℕ)). AreInRange n commit.1) k (late_at ks i new)
    (All-head (λ (commit : ℕ × List (ℕ × ℕ)). AreInRange n commit.1) k ks all)
    (late_in_range n ks i new fits
    (All-tail (λ (commit : ℕ × List (ℕ × ℕ)). AreInRange n commit.1) k ks all))

-- no commit that waits has that many after it
pub first_far : (behind : ℕ) (new : List (ℕ × ℕ)) (first : List ℕ) (since : List (List (ℕ × ℕ)))
    → length since < behind
    → first ≡ first_with behind new first since
first_far behind new first since far = cc (lower_isnt (length since) behind far)

pub since_far : (behind : ℕ) (new : List (ℕ × ℕ)) (since : List (List (ℕ × ℕ)))
    → length since < behind → since ≡ with_part behind new since
since_far behind new since far = sym (with_part_none behind new since (omega (arith, far)))

pub length-written : (words changed : List ℕ) → length (written words changed) ≡ length changed
length-written words [] = refl
length-written words (w ∷ changed) = ap suc (length-written words changed)

-- an element by another default
pub read_at : (ks : List ℕ) (i d : ℕ) → i < length ks → get_or ks i d ≡ get_or ks i 0
read_at [] i d low = absurd (omega (arith, low))
read_at (k ∷ ks) zero d low = refl
read_at (k ∷ ks) (suc i) d low = read_at ks i d (omega (arith, low))

-- the writes of changed words are the header's
pub written_in_range : (n : ℕ) (words changed : List ℕ) → All (λ w. w < n) changed
    → ((w : ℕ) → get_or words w 0 < 2 ^ 63) → AreInRange n (written words changed)
written_in_range n words [] all low = tt
written_in_range n words (w ∷ changed) all low = (
  All-head (λ x. x < n) w changed all,
  low w,
  written_in_range n words changed
      (All-tail (λ x. x < n) w changed all) low,
)

pub late_cuts : (h : Header) (words : List ℕ) (ks : List (ℕ × List (ℕ × ℕ))) (i : ℕ)
    (new ws : List (ℕ × ℕ)) (tail : ℕ) → i < length ks → AreInRange (plain_words h) new
    → AreCuts h words ks ws tail → AreCuts h words (late_at ks i new) ws tail
late_cuts h words ks i new ws tail low fits are = search (late_in_range, total-late, arith)

-- the next write takes effect
pub caught_up : (words : List ℕ) (old new : List (ℕ × ℕ)) (w v k j : ℕ) → k ≡ suc j → old ≡ (w, v)
    ∷ new
    → with_writes words (take k old) ≡ with_writes (set words w v) (take j new)
caught_up words old new w v k j more is = cc

pub dropped : (old new : List (ℕ × ℕ)) (w v k j : ℕ) → k ≡ suc j → old ≡ (w, v) ∷ new → drop k old
    ≡ drop j new
dropped old new w v k j more is = ap (λ n. drop n old) more ∙ ap (drop (suc j)) is

-- What is kept stays sound: the first commit no longer waits, and its late writes aren't known yet;
pub advanced : (h : Header) (words : List ℕ) (k : ℕ × List (ℕ × ℕ)) (ks : List (ℕ × List (ℕ × ℕ)))
    (writes : List (ℕ × ℕ)) (tail : ℕ) → AreCuts h words (k ∷ ks) writes tail
    → AreCuts h (with_writes words (take k.0 writes)) ks (drop k.0 writes) tail
advanced h words k ks writes tail are = record {
  all = length-with_writes words (take k.0 writes) ∙ are.all;
  values = below_with words (plain_words h) (take k.0 writes) are.values
      (in_range-take (plain_words h) k.0 writes are.in_range);
  in_range = in_range-drop (plain_words h) k.0 writes are.in_range;
  late = All-tail (λ (commit : ℕ × List (ℕ × ℕ)). AreInRange (plain_words h) commit.1) k ks
      are.late;
  counted = omega (arith, are.counted, sum-cons k ks, length-drop k.0 writes);
}

-- further writes take effect at once;
pub written_cuts : (h : Header) (words : List ℕ) (ks : List (ℕ × List (ℕ × ℕ)))
    (writes : List (ℕ × ℕ)) (tail : ℕ) (late : List (ℕ × ℕ)) → AreInRange (plain_words h) late
    → AreCuts h words ks writes tail → AreCuts h (with_writes words late) ks writes tail
written_cuts h words ks writes tail late fits are = search (length-with_writes, below_with, arith)

-- one more commit waits;
pub pushed_cuts : (h : Header) (words : List ℕ) (ks : List (ℕ × List (ℕ × ℕ)))
    (writes : List (ℕ × ℕ)) (tail : ℕ) → AreCuts h words ks writes tail
    → AreCuts h words (ks ++ just tail ∷ []) writes 0
pushed_cuts h words ks writes tail are = record {
  all = are.all;
  values = are.values;
  in_range = are.in_range;
  late = All-append (λ (commit : ℕ × List (ℕ × ℕ)). AreInRange (plain_words h) commit.1) ks
      (just tail ∷ []) are.late
      (All-cons (λ (commit : ℕ × List (ℕ × ℕ)). AreInRange (plain_words h) commit.1) (just tail)
      [] tt (All-nil (λ (commit : ℕ × List (ℕ × ℕ)). AreInRange (plain_words h) commit.1)));
  counted = omega (
    arith,
    are.counted,
    sum_by_push (λ (commit : ℕ × List (ℕ × ℕ)). commit.0) ks
        (just tail),
  );
}

-- a write takes effect at once, where no commit waits;
pub at_once : (h : Header) (words : List ℕ) (writes : List (ℕ × ℕ)) (tail w v : ℕ) → v < 2 ^ 63
    → AreCuts h words [] writes tail
    → AreCuts h (set (with_writes words (take tail writes)) w v) [] (drop tail writes) 0
at_once h words writes tail w v low are = record {
  all = length-set (with_writes words (take tail writes)) w v ∙ length-with_writes words
      (take tail writes) ∙ are.all;
  values = below_set (with_writes words (take tail writes)) w v (2 ^ 63)
      (below_with words (plain_words h) (take tail writes) are.values
      (in_range-take (plain_words h) tail writes are.in_range)) low;
  in_range = in_range-drop (plain_words h) tail writes are.in_range;
  late = are.late;
  counted = omega (arith, are.counted, length-drop tail writes);
}

-- a write waits.
pub one_waits : (h : Header) (words : List ℕ) (ks : List (ℕ × List (ℕ × ℕ))) (writes : List (ℕ × ℕ))
    (tail w v : ℕ) → w < plain_words h → v < 2 ^ 63
    → AreCuts h words ks writes tail → AreCuts h words ks (writes ++ (w, v) ∷ []) (tail + 1)
one_waits h words ks writes tail w v fits low are = record {
  all = are.all;
  values = are.values;
  in_range = in_range-append (plain_words h) writes ((w, v) ∷ []) are.in_range (fits, low, tt);
  late = are.late;
  counted = omega (arith, are.counted, length-append writes ((w, v) ∷ []));
}

-- all writes have taken effect
pub now_at_once : (words : List ℕ) (writes : List (ℕ × ℕ)) (tail w v : ℕ) → tail ≡ length writes
    → with_writes (set (with_writes words (take tail writes)) w v) (drop tail writes)
    ≡ set (with_writes words writes) w v
now_at_once words writes tail w v all = cc (take-length writes, none_left writes)
  where
    none_left : (xs : List (ℕ × ℕ)) → drop (length xs) xs ≡ []
    none_left [] = refl
    none_left (x ∷ xs) = none_left xs

-- once the next write was taken
pub one_taken : (old new : List (ℕ × ℕ)) (w v k j : ℕ) → k ≡ suc j → old ≡ (w, v) ∷ new
    → k ≤ length old → j ≤ length new
one_taken old new w v k j more is within = omega (arith, more, within, ap length is)

pub range_left : (n : ℕ) (old new : List (ℕ × ℕ)) (w v : ℕ) → old ≡ (w, v) ∷ new → AreInRange n old
    → AreInRange n new
range_left n old new w v is all = let both = subst (AreInRange n) is all in both.2

-- a queue with no elements
pub nothing_in : {A : Type 0} (xs : List A) (n : ℕ) → n ≡ length xs → (n == 0) ≡ true → xs ≡ []
nothing_in [] n long none = refl
nothing_in (x ∷ xs) n long none = absurd (omega (arith, long, same_of n 0 none))

pub none_since : (ks : List (ℕ × List (ℕ × ℕ))) (ws : List (ℕ × ℕ)) (n : ℕ) → n ≡ length ks
    → (n == 0) ≡ true → since_of ks ws ≡ []
none_since ks ws n long none = ap (λ xs. since_of xs ws) (nothing_in ks n long none)

-- some commit waits
pub some_wait : (ks : List (ℕ × List (ℕ × ℕ))) (n : ℕ) → n ≡ length ks → (n == 0) ≡ false
    → 0 < length ks
some_wait ks n long some = grind (arith, long, apart_of)

-- a write takes effect at once, where no commit waits
pub first_at_once : {T E : Type 0} (r : Result T E) (first before : List ℕ)
    (since : List (List (ℕ × ℕ))) (w v : ℕ) → since ≡ []
    → OnOk r (first ≡ set before w v) → OnOk r (first ≡ first_with 0 ((w, v) ∷ []) before since)
first_at_once r first before since w v none done = grind arith

pub since_at_once : {T E : Type 0} (r : Result T E) (now since : List (List (ℕ × ℕ))) (w v : ℕ)
    → since ≡ []
    → OnOk r (now ≡ []) → OnOk r (now ≡ with_part 0 ((w, v) ∷ []) since)
since_at_once r now since w v none done = grind arith

-- the changed words, with those of one more write
pub changed_more : (old new : List (ℕ × ℕ)) (changed : List ℕ) (w v k j : ℕ) → k ≡ suc j
    → old ≡ (w, v) ∷ new
    → changed ++ map (λ write. write.0) (take k old) ≡ (changed ++ w ∷ []) ++ map (λ write. write.0)
    (take j new)
changed_more old new changed w v k j more is = grind (arith, changed, more, append_assoc)

-- a word that no write is to stays
unwritten : (words : List ℕ) (ws : List (ℕ × ℕ)) (x : ℕ)
    → list_any (λ y. y == x) (map (λ write. write.0) ws) ≡ false
    → get_or (with_writes words ws) x 0 ≡ get_or words x 0
unwritten words [] x none = refl
unwritten words ((w, v) ∷ ws) x none =
    let parts = neither_true (w == x) (list_any (λ y. y == x) (map (λ write. write.0) ws)) none in
    unwritten (set words w v) ws x parts.1 ∙ get_or-set_other words w x v 0
    (λ same. apart_of w x parts.0 (sym same))

-- what was compared is known except for the changed words, with further writes
pub agree_more : (before words changed : List ℕ) (ws : List (ℕ × ℕ))
    → AgreeElsewhere before words changed
    → AgreeElsewhere before (with_writes words ws) (changed ++ map (λ write. write.0) ws)
agree_more before words changed ws agree = λ x none.
    let parts = neither_true (list_any (λ y. y == x) changed) (list_any (λ y. y == x) (map _ _))
    (sym (list_any-append (λ y. y == x) changed (map _ _)) ∙ none) in
    unwritten _ ws x parts.1 ∙ agree x parts.0

pub within_more : (n : ℕ) (changed : List ℕ) (ws : List (ℕ × ℕ)) → All (λ w. w < n) changed
    → AreInRange n ws
    → All (λ w. w < n) (changed ++ map (λ write. write.0) ws)
within_more n changed ws within in_range = All-append (λ w. w < n) changed
    (map (λ write. write.0) ws) within (keys_below n ws in_range)

-- writes take effect: what is known of the words
pub known_more : (h : Header) (words changed : List ℕ) (compared : Known) (ws : List (ℕ × ℕ))
    → AreInRange (plain_words h) ws
    → AreKnown h words changed compared → AreKnown h (with_writes words ws)
    (changed ++ map (λ write. write.0) ws) compared
known_more h words changed compared ws in_range known = search (within_more, agree_more, arith)

-- no commit waits
pub none_waits : (ks : List (ℕ × List (ℕ × ℕ))) (writes : List (ℕ × ℕ)) → since_of ks writes ≡ []
    → ks ≡ []
none_waits [] writes e = refl
none_waits (k ∷ ks) writes e = cc (length-split_at ks (drop k.0 writes))

-- the first commit no longer waits: what is kept stays sound, whether its late writes take effect,
pub advanced_both : (h : Header) (words : List ℕ) (k : ℕ × List (ℕ × ℕ))
    (ks : List (ℕ × List (ℕ × ℕ))) (writes : List (ℕ × ℕ)) (tail : ℕ) (changed : List ℕ)
    (compared : Known)
    → AreCuts h words (k ∷ ks) writes tail × AreKnown h words changed compared
    → AreCuts h (with_writes words (take k.0 writes)) ks (drop k.0 writes) tail
    × AreKnown h (with_writes words (take k.0 writes))
    (changed ++ map (λ write. write.0) (take k.0 writes)) compared
advanced_both h words k ks writes tail changed compared both =
    search (tail, changed, both, advanced, known_more, in_range-take, arith)

-- or are refused
pub late_both : (h : Header) (words : List ℕ) (ks : List (ℕ × List (ℕ × ℕ))) (writes : List (ℕ × ℕ))
    (tail : ℕ) (changed : List ℕ) (compared : Known) (late : List (ℕ × ℕ)) (b : Bool)
    (words' changed' : List ℕ) → AreInRange (plain_words h) late
    → words' ≡ cond b (with_writes words late) words
    → changed' ≡ cond b (changed ++ map (λ write. write.0) late) changed
    → AreCuts h words ks writes tail × AreKnown h words changed compared
    → AreCuts h words' ks writes tail × AreKnown h words' changed' compared
late_both h words ks writes tail changed compared late true words' changed' fits is more both =
    grind (
      arith,
      written_cuts h words ks writes tail late fits both.0,
      known_more h words changed
          compared late fits both.1,
    )
late_both h words ks writes tail changed compared late false words' changed' fits is more both =
    grind arith

-- the late writes of the first commit are in range
pub first_in_range : (h : Header) (words : List ℕ) (k : ℕ × List (ℕ × ℕ))
    (ks : List (ℕ × List (ℕ × ℕ))) (writes : List (ℕ × ℕ)) (tail : ℕ)
    → AreCuts h words (k ∷ ks) writes tail
    → AreInRange (plain_words h) k.1
first_in_range h words k ks writes tail are = search arith

-- a write takes effect at once
pub at_once_both : (h : Header) (words : List ℕ) (writes : List (ℕ × ℕ)) (tail w v : ℕ)
    (changed : List ℕ) (compared : Known)
    → w < plain_words h → v < 2 ^ 63
    → AreCuts h words [] writes tail × AreKnown h words changed compared
    → AreCuts h (set (with_writes words (take tail writes)) w v) [] (drop tail writes) 0
    × AreKnown h (set (with_writes words (take tail writes)) w v)
    ((changed ++ map (λ write. write.0) (take tail writes)) ++ w ∷ []) compared
at_once_both h words writes tail w v changed compared fits low both = (
  at_once h words writes tail w v low both.0,
  known_more h
      (with_writes words (take tail writes)) _ _ ((w, v) ∷ []) (fits, low, tt)
      (known_more h words _ _ _ (in_range-take _ _ _ both.0.in_range) both.1),
)

-- where no commit waits all writes come after the last
pub all_tail : (ks : List (ℕ × List (ℕ × ℕ))) (tail : ℕ) (n : ℕ) → ks ≡ [] → total ks + tail ≡ n
    → tail ≡ n
all_tail ks tail n none counted = let e : total ks ≡ 0 = ap total none in omega (arith, e, counted)

-- what holds whatever the answer
pub always : {T E P : Type 0} (r : Result T E) → P → OnOk r P
always r p = search arith

-- the first commit was looked at, and then taken
pub first_taken : (xs new : List (ℕ × List (ℕ × ℕ))) (n : ℕ) (late : List (ℕ × ℕ))
    → option_map (λ (commit : ℕ × List (ℕ × ℕ)). commit.0) (slice_get xs 0) ≡ Some n
    → new ≡ drop 1 xs
    → late ≡ (get_or xs 0 (just 0)).1 → xs ≡ (n, late) ∷ new
first_taken xs new n late is rest late_is = grind arith
