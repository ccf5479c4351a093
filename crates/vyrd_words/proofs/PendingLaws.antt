-- What is pending for the changed words and the writes that wait.
use Rattle.vyrd_words.proofs.Prelude.{◌≡◌, ℕ, zero, suc, ◌+◌, ◌*◌, ◌≤◌, List, [], ◌∷◌, ◌++◌, length}
use Rattle.vyrd_words.proofs.Prelude.{take, drop, refl, ap, ◌<◌, append-nil, arith, length-append}
use Rattle.vyrd_words.proofs.Prelude.{map, sum_by, pending_for, written, just, late_writes}
use Rattle.std.specs.Prelude.{slice_index}
use Rattle.std.proofs.lemmas.List.{length-map}
use Rattle.std.proofs.lemmas.List.Sums.{sum_by-append, sum_by-cons, sum_by_push}
use Rattle.vyrd_words.proofs.CutLaws.{late_at, length-written}

-- the prices of the first writes, and those of the others
moved : (p : ℕ → ℕ) (n : ℕ) (writes : List (ℕ × ℕ))
    → sum_by p (map (λ write. write.0) (take n writes)) + sum_by (λ write. p write.0)
    (drop n writes) ≡ sum_by (λ write. p write.0) writes
moved p zero writes = omega arith
moved p (suc n) [] = omega arith
moved p (suc n) (x ∷ writes) =
    let rest = moved p n writes in
    omega (
      arith,
      sum_by-cons p x.0 (map (λ write. write.0) (take n writes)),
      sum_by-cons
          (λ write. p write.0) x writes,
      rest,
    )

moved_all : (p : ℕ → ℕ) (writes : List (ℕ × ℕ)) → sum_by p (map (λ write. write.0) writes)
    ≡ sum_by (λ write. p write.0) writes
moved_all p [] = refl
moved_all p (x ∷ writes) =
    let rest = moved_all p writes in
    omega (
      arith,
      sum_by-cons p x.0 (map (λ write. write.0) writes),
      sum_by-cons
          (λ write. p write.0) x writes,
      rest,
    )

moved_count : (n : ℕ) (writes : List (ℕ × ℕ)) → length (map (λ write. write.0) (take n writes))
    + length (drop n writes) ≡ length writes
moved_count zero writes = omega arith
moved_count (suc n) [] = omega arith
moved_count (suc n) (x ∷ writes) = let rest = moved_count n writes in omega (arith, rest)

taken_count : (n : ℕ) (writes : List (ℕ × ℕ)) → n ≤ length writes
    → length (map (λ write. write.0) (take n writes)) ≡ n
taken_count zero writes low = omega arith
taken_count (suc n) [] low = omega (arith, low)
taken_count (suc n) (x ∷ writes) low = cc (taken_count n writes (omega (arith, low)))

-- the first writes take effect, in a step each
pub caught_pending : (p : ℕ → ℕ) (changed : List ℕ) (n : ℕ) (writes : List (ℕ × ℕ))
    → n ≤ length writes
    → n + pending_for p (changed ++ map (λ write. write.0) (take n writes)) (drop n writes)
    ≡ pending_for p changed writes
caught_pending p changed n writes low =
    let words = map (λ write. write.0) (take n writes) in
    omega (
      arith,
      sum_by-append p changed words,
      length-append changed words,
      moved p n
          writes,
      moved_count n writes,
      taken_count n writes low,
    )

-- one more word has changed
pub one_pending : (p : ℕ → ℕ) (changed : List ℕ) (w : ℕ) (writes : List (ℕ × ℕ))
    → pending_for p (changed ++ w ∷ []) writes ≡ pending_for p changed writes + p w + 1
one_pending p changed w writes =
    omega (arith, sum_by_push p changed w, length-append changed (w ∷ []))

-- late writes come to those that wait
sum_written : (p : ℕ → ℕ) (words changed : List ℕ) → sum_by (λ write. p write.0)
    (written words changed) ≡ sum_by p changed
sum_written p words [] = refl
sum_written p words (w ∷ changed) =
    let rest = sum_written p words changed in
    omega (
      arith,
      sum_by-cons (λ write. p write.0) (w, slice_index words w)
          (written words changed),
      sum_by-cons p w changed,
      rest,
    )

late_sum : (f : ℕ × ℕ → ℕ) (ks : List (ℕ × List (ℕ × ℕ))) (i : ℕ) (new : List (ℕ × ℕ))
    → i < length ks
    → sum_by f (late_writes (late_at ks i new)) ≡ sum_by f (late_writes ks) + sum_by f new
late_sum f [] i new low = absurd (omega (arith, low))
late_sum f (k ∷ ks) zero new low =
    omega (
      arith,
      sum_by-append f (k.1 ++ new) (late_writes ks),
      sum_by-append f k.1
          new,
      sum_by-append f k.1 (late_writes ks),
    )
late_sum f (k ∷ ks) (suc i) new low =
    let rest = late_sum f ks i new (omega (arith, low)) in
    omega (
      arith,
      rest,
      sum_by-append f k.1 (late_writes (late_at ks i new)),
      sum_by-append f k.1
          (late_writes ks),
    )

late_length : (ks : List (ℕ × List (ℕ × ℕ))) (i : ℕ) (new : List (ℕ × ℕ)) → i < length ks
    → length (late_writes (late_at ks i new)) ≡ length (late_writes ks) + length new
late_length [] i new low = absurd (omega (arith, low))
late_length (k ∷ ks) zero new low = search (length-append, arith)
late_length (k ∷ ks) (suc i) new low =
    let rest = late_length ks i new (omega (arith, low)) in
    omega (
      arith,
      rest,
      length-append k.1 (late_writes (late_at ks i new)),
      length-append k.1
          (late_writes ks),
    )

pub late_pending : (p : ℕ → ℕ) (before : List ℕ) (ks : List (ℕ × List (ℕ × ℕ))) (i : ℕ)
    (words changed : List ℕ) (writes : List (ℕ × ℕ)) → i < length ks
    → pending_for p before (writes ++ late_writes (late_at ks i (written words changed)))
    ≡ pending_for p before (writes ++ late_writes ks) + sum_by p changed + 2 * length changed
late_pending p before ks i words changed writes low =
    let f : ℕ × ℕ → ℕ = (λ write. p write.0) in
    let new = written words changed in
    omega (
      arith,
      sum_by-append f writes (late_writes (late_at ks i new)),
      sum_by-append f writes (late_writes ks),
      late_sum f ks i new low,
      sum_written p words changed,
      length-append writes (late_writes (late_at ks i new)),
      length-append writes (late_writes ks),
      late_length ks i new low,
      length-written words changed,
    )

-- the first commit no longer waits: its writes and its late writes take effect, in a step each
pub first_pending : (p : ℕ → ℕ) (changed : List ℕ) (n : ℕ) (late : List (ℕ × ℕ))
    (ks : List (ℕ × List (ℕ × ℕ))) (writes : List (ℕ × ℕ)) → n ≤ length writes
    → n + length late + pending_for p ((changed ++ map (λ write. write.0) (take n writes))
    ++ map (λ write. write.0) late) (drop n writes ++ late_writes ks)
    ≡ pending_for p changed (writes ++ (late ++ late_writes ks))
first_pending p changed n late ks writes low =
    let f : ℕ × ℕ → ℕ = (λ write. p write.0) in
    let words = map (λ write. write.0) (take n writes) in
    let more = map (λ write. write.0) late in
    omega (
      arith,
      caught_pending p changed n writes low,
      sum_by-append p (changed ++ words) more,
      length-append (changed ++ words) more,
      moved_all p late,
      length-map late (λ write. write.0),
      sum_by-append f (drop n writes) (late_writes ks),
      length-append (drop n writes) (late_writes ks),
      sum_by-append f writes (late ++ late_writes ks),
      length-append writes (late ++ late_writes ks),
      sum_by-append f late (late_writes ks),
      length-append late (late_writes ks),
    )

-- where no commit waits there are no late writes
pub none_late : (p : ℕ → ℕ) (changed : List ℕ) (ks : List (ℕ × List (ℕ × ℕ)))
    (writes : List (ℕ × ℕ)) → ks ≡ []
    → pending_for p changed (writes ++ late_writes ks) ≡ pending_for p changed writes
none_late p changed ks writes none = cc (append-nil writes)

-- a commit without late writes waits too
pub push_pending : (ks : List (ℕ × List (ℕ × ℕ))) (n : ℕ) → late_writes (ks ++ just n ∷ [])
    ≡ late_writes ks
push_pending [] n = refl
push_pending (k ∷ ks) n = ap (λ xs. k.1 ++ xs) (push_pending ks n)
