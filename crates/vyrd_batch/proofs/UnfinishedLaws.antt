-- What may still become of bytes that hold no whole log.
use Rattle.vyrd_batch.proofs.Prelude
use Prelude.{◌≡◌, ℕ, ◌+◌, ◌<◌, ◌≤◌, Bool, true, false, cond, ◌&&◌, Bor, List, [], ◌∷◌, ◌++◌, length}
use Prelude.{drop, Option, Some, None, refl, ap, ◌∙◌, sym, arith, append_assoc, length-append, inl}
use Prelude.{inr, ◌⊎◌, nat_le, decimal, codes, is_some, bytes_eq, length-decimal-le, same_Some}
use Prelude.{bytes_eq-Decides, number_of, first_true, second_true, at_most_of, above_of, ended_line}
use Prelude.{is_one_line, Span, most_bytes, logs_end_within, first_word, log_word, Cut, first_line}
use Prelude.{size_in, span_of, log_at, IsNothingMore, IsNothingEver, most_left, longest_line}
use Rattle.std.specs.Prelude.{replicate, MatchOption}
use Rattle.std.proofs.lemmas.List.{length-replicate}
use Rattle.vyrd_batch.proofs.LineFacts.{no_line, no_size, too_far, is_log}
use Rattle.vyrd_batch.proofs.SettledLaws.{IsLonger, first_longer}

-- of two beginnings of the same bytes one is a beginning of the other
pub one_begins : (xs ys more rest : List ℕ) → xs ++ more ≡ ys ++ rest
    → ((m : List ℕ) × (ys ≡ xs ++ m)) ⊎ ((m : List ℕ) × (xs ≡ ys ++ m))
one_begins [] ys more rest e = inl (ys, refl)
one_begins (x ∷ xs) [] more rest e = inr (x ∷ xs, refl)
one_begins (x ∷ xs) (y ∷ ys) more rest e =
    let head : x ≡ y = cc in
    let tail : xs ++ more ≡ ys ++ rest = cc in
    elim (one_begins xs ys more rest tail) [
      | inl m ↦ inl (m.0, (λ i. sym head i ∷ m.1 i))
      | inr m ↦ inr (m.0, (λ i. head i ∷ m.1 i))
    ]

-- whether bytes are the beginning of a word, as a test tells
abbrev pub TellsFront : (word bytes : List ℕ) → Option (Bor (List ℕ)) → Type 0
TellsFront word bytes o = MatchOption o ((rest : List ℕ) → word ≡ bytes ++ rest → ⊥)
    (λ rest. word ≡ bytes ++ rest.now)

-- no first line comes of bytes that aren't its beginning
pub never_first : (log : ℕ) (bytes : List ℕ) (o : Option (Bor (List ℕ)))
    → TellsFront (ended_line first_word) bytes o → is_some o ≡ false
    → IsNothingMore None log bytes → IsNothingEver None log bytes
never_first log bytes None apart e nothing =
    λ more rest same. elim (one_begins bytes (ended_line first_word) more rest same) [
      | inl m ↦ apart m.0 m.1
      | inr m ↦ nothing m.0 m.1
    ]
never_first log bytes (Some rest) front e nothing = cc

-- a beginning of a word is short
pub short_front : (most : ℕ) (word bytes : List ℕ) (o : Option (Bor (List ℕ))) → length word ≤ most
    → TellsFront word bytes o → is_some o ≡ true
    → length bytes ≤ most
short_front most word bytes o small apart e = grind (arith, small, apart, length-append)

-- what a line that says a size is like
pub record SaysFew (line : List ℕ) (size : ℕ) : Type 0 where
  pub few : size ≤ most_bytes
  pub short : length line ≤ longest_line

pub says_few : (line : List ℕ) (size : ℕ) → Some size ≡ size_in line → SaysFew line size
says_few line size e = by_test (nat_le n most_bytes && bytes_eq (log_word n) line) refl (sym e)
  where
    n : ℕ
    n = number_of (drop 4 line)

    by_test : (t : Bool) → (nat_le n most_bytes && bytes_eq (log_word n) line) ≡ t
        → cond t (Some n) None ≡ Some size → SaysFew line size
    by_test false is e = cc
    by_test true is e =
        let few : n ≤ most_bytes = at_most_of n most_bytes (first_true _ _ is) in
        let word : log_word n ≡ line = (bytes_eq-Decides (log_word n) line).0
        (second_true (nat_le n most_bytes) _ is) in
        let digits : length (decimal n) ≤ 8 = length-decimal-le 8 n (omega arith)
        (omega (arith, few)) (omega arith) in
        let len : length line ≡ 4 + length (decimal n) = sym (ap length word)
        ∙ length-append (codes "log ") (decimal n) in
        let same : n ≡ size = same_Some n size e in
        record { few = omega (arith, few, same); short = omega (arith, digits, len) }

-- a long line says no size
long_line : (line : List ℕ) → longest_line < length line → size_in line ≡ None
long_line line long = grind (arith, long, says_few)

-- no log comes of bytes that are longer than the line before a log, and have no line feed
pub never_ended : (place : ℕ) (bytes : List ℕ) → first_line bytes ≡ None
    → longest_line < length bytes
    → (more : List ℕ) → log_at place (bytes ++ more) ≡ None
never_ended place bytes none long more = by_cut (first_line (bytes ++ more)) (first_longer _ _)
  where
    at_cut : Option Cut → Option Span
    at_cut o = elim o as (λ _. Option Span) [
      | None ↦ None
      | Some cut ↦ span_of
          (place + length cut.line + 1) cut.rest (size_in cut.line)
    ]

    by_cut : (all : Option Cut) → IsLonger bytes more (first_line bytes) all → at_cut all ≡ None
    by_cut all is = search (long_line, long, arith)

pub never_a_line : (place : ℕ) (bytes : List ℕ) → is_one_line bytes ≡ true
    → longest_line < length bytes
    → (more : List ℕ) → log_at place (bytes ++ more) ≡ None
never_a_line place bytes e = never_ended place bytes (no_line bytes e)

-- nor of bytes whose first line says no size
pub never_sized : (place : ℕ) (bytes : List ℕ) (cut : Cut) → first_line bytes ≡ Some cut
    → size_in cut.line ≡ None
    → (more : List ℕ) → log_at place (bytes ++ more) ≡ None
never_sized place bytes cut is none more = cc ((first_longer bytes more).same cut is)

longer_is : (bytes line rest more : List ℕ) → bytes ≡ line ++ 10 ∷ rest → bytes ++ more ≡ line
    ++ 10 ∷ (rest ++ more)
longer_is bytes line rest more is = cc (append_assoc line (10 ∷ rest) more)

-- none comes of bytes whose first line says no size
pub never_a_size : (place : ℕ) (bytes line rest : List ℕ) → is_one_line line ≡ true → bytes ≡ line
    ++ 10 ∷ rest → None ≡ size_in line
    → (more : List ℕ) → log_at place (bytes ++ more) ≡ None
never_a_size place bytes line rest e is none more = no_size place (bytes ++ more) line
    (rest ++ more) e (longer_is bytes line rest more is) none

-- or says one that lies beyond the limit
pub never_near : (place size : ℕ) (bytes line rest : List ℕ) → is_one_line line ≡ true
    → bytes ≡ line ++ 10 ∷ rest → Some size ≡ size_in line
    → logs_end_within < place + length line + 1 + size → (more : List ℕ)
    → log_at place (bytes ++ more) ≡ None
never_near place size bytes line rest e is some far more = too_far place size (bytes ++ more) line
    (rest ++ more) e (longer_is bytes _ rest more is) some far

-- a log that isn't whole is short
pub short_of_whole : (place size : ℕ) (bytes line rest : List ℕ) → is_one_line line ≡ true
    → bytes ≡ line ++ 10 ∷ rest → Some size ≡ size_in line
    → place + length line + 1 + size ≤ logs_end_within → log_at place bytes ≡ None → length bytes
    ≤ most_left
short_of_whole place size bytes line rest e is some near none = by_fit (nat_le size (length rest))
    refl
  where
    says : SaysFew line size
    says = says_few line size some

    by_fit : (t : Bool) → nat_le size (length rest) ≡ t → length bytes ≤ most_left
    by_fit true fits =
        let found = is_log place size bytes line rest e is some (at_most_of size (length rest) fits)
        near in
        let x : ◌≡◌ {A = Option Span} None
        (Some (record { first = place + length line + 1; past = place + length line + 1 + size })) =
        sym none ∙ found in
        cc
    by_fit false apart = omega (
      arith,
      says.few,
      says.short,
      ap length is,
      length-append line
          (10 ∷ rest),
      above_of size (length rest) apart,
    )

-- and one may come of it, if its line says a size within the limit
pub may_come : (place size : ℕ) (bytes line rest : List ℕ) → is_one_line line ≡ true → bytes ≡ line
    ++ 10 ∷ rest → Some size ≡ size_in line
    → place + length line + 1 + size ≤ logs_end_within
    → ((more : List ℕ) → log_at place (bytes ++ more) ≡ None) → length bytes ≤ longest_line
may_come place size bytes line rest e is some near never =
    let more : List ℕ = replicate size 0 in
    let fits : size ≤ length (rest ++ more) =
    omega (arith, length-append rest more, length-replicate {A = ℕ} size 0) in
    let found = is_log place size (bytes ++ more) line (rest ++ more) e
    (longer_is bytes line rest more is) some fits near in
    let x : ◌≡◌ {A = Option Span} None
    (Some (record { first = place + length line + 1; past = place + length line + 1 + size })) =
    sym (never more) ∙ found in
    cc
