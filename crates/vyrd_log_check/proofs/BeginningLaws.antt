-- Bytes that begin as a log with a specification in front does, and bytes that don't.
use Rattle.vyrd_log_check.proofs.Prelude
use Prelude.{◌≡◌, ℕ, ◌+◌, ◌-◌, ◌<◌, ◌≤◌, Bool, true, false, List, [], ◌++◌, length, take, drop}
use Prelude.{Option, Some, None, refl, ap, ◌∙◌, sym, arith, ◌==◌, nat_le, then_some, bytes_eq}
use Prelude.{nat_tests, own_beginning, is_own_text, Matches, matched_with}
use Rattle.std.proofs.Common.{min, append_assoc, append-nil, take-append-drop}
use Rattle.std.specs.Prelude.{◌≢◌}
use Rattle.std.specs.Option.{option_eq}
use Rattle.std.proofs.lemmas.Slice.Eq.{bytes_eq-Decides}
use Rattle.std.proofs.lemmas.List.{length-take, length-take-le, take_all, take-take, take_at}
use Rattle.std.proofs.lemmas.List.{take-append-le, drop_at, drop-take}
use Rattle.std.proofs.Math.Seq.{take-add}

isnt : (b : Bool) → (b ≡ true → ⊥) → b ≡ false
isnt b never = grind (arith, never)

both : (b : Bool) → b ≡ true → b ≡ false → ⊥
both b e f = cc

-- the bytes of the beginning, and that there are eleven
pub begun : (bytes : List ℕ) → is_own_text bytes ≡ true → take 11 bytes ≡ own_beginning
begun bytes is = (bytes_eq-Decides (take 11 bytes) own_beginning).0 is

begins : (bytes : List ℕ) → take 11 bytes ≡ own_beginning → is_own_text bytes ≡ true
begins bytes is = (bytes_eq-Decides (take 11 bytes) own_beginning).1 is

long : (bytes : List ℕ) → is_own_text bytes ≡ true → 11 ≤ length bytes
long bytes is = search (begun, length-take, arith)

pub begins_longer : (bytes more : List ℕ) → is_own_text bytes ≡ true
    → is_own_text (bytes ++ more) ≡ true
begins_longer bytes more is = search (begins, more, take-append-le, long, begun, arith)

pub short_isnt : (bytes : List ℕ) → length bytes < 11 → is_own_text bytes ≡ false
short_isnt bytes short = isnt (is_own_text bytes) (λ is. omega (arith, long bytes is))

-- bytes that don't begin so, of which longer ones do
pub part_of : (bytes more : List ℕ) → is_own_text bytes ≡ false
    → is_own_text (bytes ++ more) ≡ true
    → (length bytes < 11) × (bytes ≡ take (length bytes) own_beginning)
part_of bytes more isnt_yet later = by_length (nat_le 11 (length bytes)) refl
  where
    by_length : (b : Bool) → nat_le 11 (length bytes) ≡ b
        → (length bytes < 11) × (bytes ≡ take (length bytes) own_beginning)
    by_length true e =
        let enough : 11 ≤ length bytes = grind (arith, nat_tests) in
        absurd (both (is_own_text bytes)
        (begins bytes (sym (take-append-le 11 bytes more enough) ∙ begun (bytes ++ more) later))
        isnt_yet)
    by_length false e =
        let short : length bytes < 11 = grind (arith, nat_tests) in (
          short,
          sym (take_at bytes more (length bytes) refl)
              ∙ sym (take-take (length bytes) 11 (bytes ++ more) (omega (arith, short)))
              ∙ ap (take (length bytes)) (begun (bytes ++ more) later),
        )

-- a part of the beginning, with a piece behind it
module _ (n : ℕ) (bytes piece : List ℕ) (few : n < 11) (is : bytes ≡ take n own_beginning) where
  abbrev part : ℕ
  part = min (length piece) (11 - n)

  count : length bytes ≡ n
  count =
      let eleven : length own_beginning ≡ 11 = refl in
      ap length is ∙ length-take-le n own_beginning (omega (arith, few, eleven))

  goes_on : (m : ℕ) → matched_with n piece ≡ Some m
      → (m ≡ n + part) × (bytes ++ take part piece ≡ take m own_beginning)
  goes_on m found = by_test (bytes_eq (take part piece) (take part (drop n own_beginning))) refl
      found
    where
      by_test : (b : Bool) → bytes_eq (take part piece) (take part (drop n own_beginning)) ≡ b
          → then_some b (n + part) ≡ Some m
          → (m ≡ n + part) × (bytes ++ take part piece ≡ take m own_beginning)
      by_test true e f =
          let same = (bytes_eq-Decides (take part piece) (take part (drop n own_beginning))).0 e in
          let place : m ≡ n + part = cc in (place, cc (take-add n part own_beginning))
      by_test false e f = cc

  -- the beginning has come as a whole
  pub whole_comes : matched_with n piece ≡ Some 11
      → bytes ++ piece ≡ own_beginning ++ drop (11 - n) piece
  whole_comes found =
      let g = goes_on 11 found in
      let size : part ≡ 11 - n = omega (arith, g.0, few) in
      cc (take-append-drop part piece, append_assoc bytes (take part piece) (drop part piece))

  -- more of it has come
  pub more_comes : (m : ℕ) → matched_with n piece ≡ Some m → m ≢ 11
      → (m < 11) × (bytes ++ piece ≡ take m own_beginning)
  more_comes m found other = search (goes_on, take_all, arith)

  -- the piece differs from what comes next
  pub other_comes : matched_with n piece ≡ None → (more : List ℕ)
      → is_own_text ((bytes ++ piece) ++ more) ≡ false
  other_comes none more = isnt (is_own_text ((bytes ++ piece) ++ more))
      (λ so. by_test (bytes_eq (take part piece) (take part (drop n own_beginning))) refl none so)
    where
      next : is_own_text ((bytes ++ piece) ++ more) ≡ true
          → take part piece ≡ take part (drop n own_beginning)
      next so =
          let all = (bytes ++ piece) ++ more in
          let room : n + (11 - n) ≡ 11 = omega (arith, few) in
          sym (take-append-le part piece more (omega arith))
          ∙ sym (take-take part (11 - n) (piece ++ more) (omega arith))
          ∙ ap (λ xs. take part (take (11 - n) xs))
          (sym (drop_at bytes (piece ++ more) n count)
          ∙ ap (drop n) (sym (append_assoc bytes piece more)))
          ∙ ap (take part) (sym (drop-take n (11 - n) all))
          ∙ ap (λ k. take part (drop n (take k all))) room
          ∙ ap (λ xs. take part (drop n xs)) (begun all so)

      by_test : (b : Bool) → bytes_eq (take part piece) (take part (drop n own_beginning)) ≡ b
          → then_some b (n + part) ≡ None → is_own_text ((bytes ++ piece) ++ more) ≡ true → ⊥
      by_test true e f so = cc
      by_test false e f so = both (bytes_eq (take part piece) (take part (drop n own_beginning)))
          ((bytes_eq-Decides (take part piece) (take part (drop n own_beginning))).1 (next so)) e

-- bytes that are known not to begin so
pub matches_isnt : (matched : Option ℕ) (bytes : List ℕ) → Matches matched bytes
    → is_own_text bytes ≡ false
matches_isnt None bytes m = ap is_own_text (sym (append-nil bytes)) ∙ m []
matches_isnt (Some n) bytes m =
    let eleven : length own_beginning ≡ 11 = refl in
    short_isnt bytes
    (omega (arith, ap length m.1, length-take-le n own_beginning (omega (arith, m.0, eleven)), m.0))

-- longer ones
pub other_longer : (bytes more : List ℕ) → Matches None bytes → Matches None (bytes ++ more)
other_longer bytes more never = search (append_assoc, more, never, arith)

-- how far bytes match with a piece behind them, if the beginning hasn't come as a whole
pub matches_on : (n : ℕ) (bytes piece : List ℕ) (now : Option ℕ) → Matches (Some n) bytes
    → now ≡ matched_with n piece → (now ≡ Some 11 → ⊥) → Matches now (bytes ++ piece)
matches_on n bytes piece now m is other = search (other_comes, more_comes, arith)

-- no more has come than there is
pub within : (n : ℕ) (piece : List ℕ) (m : ℕ) → n < 11 → matched_with n piece ≡ Some m → m ≢ 11
    → m < 11
within n piece m few found other = grind (arith, few, found)

-- what a test of a place tells
pub is_place : (o : Option ℕ) (n : ℕ) → true ≡ option_eq (λ x y. x == y) o (Some n) → o ≡ Some n
is_place o n e = search arith

pub isnt_place : (o : Option ℕ) (n : ℕ) → false ≡ option_eq (λ x y. x == y) o (Some n) → o ≡ Some n
    → ⊥
isnt_place o n e f = search arith
