-- Digits at the front of a text are a number's spelling.
use Rattle.vyrd_text.proofs.Prelude
use Prelude.{rules, ◌≡◌, ℕ, ◌+◌, ◌-◌, ◌*◌, ◌%◌, ◌<◌, ◌≤◌, ◌≢◌, ◌^◌, true, List, [], ◌∷◌, ◌++◌, take}
use Prelude.{drop, length, get_or, refl, ap, sym, ◌∙◌, arith, append_assoc, length-append}
use Prelude.{AllDigits, digits_value, slice_range, decimal, digit_value, decimal_digit}
use Prelude.{digit_from_value, digits_len, list_all, pow-le-pow_right, mod-eq_of_lt}
use Prelude.{digits_value-lt, digits_more, digits_value_more, AllDigits-digits_len, length-take}
use Prelude.{length-take-le, get_or-take, take_all, take-append-drop, drop_more, take_rest, Subject}
use Prelude.{Entry, entry_line, is_entry_of, both_true, first_true, second_true, IsDigitField}
use Rattle.vyrd_text.specs.Quick.{IsFrontNumber, IsEntryAtFront, AreEntriesAtFront, entries_text}
use Rattle.vyrd_text.proofs.NumberLaws.{one_digit, more_digits, digit_is}

module _ (text : List ℕ) (value end : ℕ) (within : end ≤ length text)
    (digits : AllDigits 10 (take end text))
    (is : value ≡ digits_value 10 (take end text)) (small : value < 2 ^ 64) where
  many : length (take end text) ≡ end
  many = length-take-le end text within

  same : take end (take end text) ≡ take end text
  same = take_all end (take end text) (omega (arith, many))

  field : IsDigitField (take end text) value end
  field = search (many, same, arith)

  -- one digit
  pub front_digit : end ≡ 1 → IsFrontNumber text value end
  front_digit one = search (same, one_digit, field, arith)

  -- more digits that don't begin with 0
  pub front_digits : 1 < end → get_or text 0 0 ≢ 48 → IsFrontNumber text value end
  front_digits some first = record {
    within = within;
    spelled = sym same ∙ (more_digits (take end text) value end field small (omega arith)
        (λ e. first (sym (get_or-take end text 0 0 (omega arith)) ∙ e))).spelled;
  }

-- one more entry at the front of what stands after entries
entries_more : (es : List Entry) (e : Entry) (rest : List ℕ) → entries_text (es ++ e ∷ []) ++ rest
    ≡ entries_text es ++ (entry_line e ++ 10 ∷ rest)
entries_more [] e rest = append_assoc (entry_line e) (10 ∷ []) rest
entries_more (x ∷ es) e rest =
    append_assoc (entry_line x) (10 ∷ entries_text (es ++ e ∷ [])) rest
    ∙ ap (λ t. entry_line x ++ 10 ∷ t) (entries_more es e rest)
    ∙ sym (append_assoc (entry_line x) (10 ∷ entries_text es) (entry_line e ++ 10 ∷ rest))

all_more : (subject : Subject) (es : List Entry) (e : Entry) → list_all (is_entry_of subject) es
    ≡ true → is_entry_of subject e ≡ true
    → list_all (is_entry_of subject) (es ++ e ∷ []) ≡ true
all_more subject [] e all is = both_true _ _ is refl
all_more subject (x ∷ es) e all is = both_true _ _ (first_true _ _ all)
    (all_more subject es e (second_true (is_entry_of _ x) _ all) is)

pub one_more : (subject : Subject) (text : List ℕ) (before middle after : List Entry)
    (rest more : List ℕ) (count : ℕ) (e : Entry)
    → AreEntriesAtFront subject text before middle rest count → IsEntryAtFront subject rest e more
    → after ≡ middle ++ e ∷ []
    → AreEntriesAtFront subject text before after more (count + 1)
one_more subject text before middle after rest more count e are is grown = record {
  found = are.found ++ e ∷ [];
  grown = cc (are.grown, append_assoc before are.found (e ∷ []));
  counted = length-append are.found (e ∷ []) ∙ ap (λ n. n + 1) are.counted;
  spelled = cc (are.spelled, is.1, entries_more are.found e more);
  of_subject = all_more subject are.found e are.of_subject is.0;
}

-- digits that were read by words, few enough that their value didn't wrap
module _ (text : List ℕ) (value end : ℕ) (counted : end ≡ 0 + digits_len (drop 0 text))
    (few : end ≤ 19)
    (is : value ≡ (0 * 10 ^ (end - 0) + digits_value 10 (slice_range text 0 end)) % 2 ^ 64) where
  pub read_all : AllDigits 10 (take end text)
  read_all = AllDigits-digits_len text end (omega (arith, counted))

  pub read_value : value ≡ digits_value 10 (take end text)
  read_value =
      let front : slice_range text 0 end ≡ take end text = ap (λ n. take n text)
      (let e : end - 0 ≡ end = omega arith in e) in
      let below : digits_value 10 (take end text) < 10 ^ length (take end text) =
      digits_value-lt _ _ read_all in
      let short : length (take end text) ≤ 19 = omega (arith, length-take end text, few) in
      let bound : 10 ^ length (take end text) ≤ 10 ^ 19 = pow-le-pow_right
      (let p : 0 < 10 = omega arith in p) short in
      let small : digits_value 10 (take end text) < 2 ^ 64 = omega (arith, below, bound) in
      let plain : 0 * 10 ^ (end - 0) + digits_value 10 (slice_range text 0 end) ≡ digits_value 10
      (take end text) = omega (arith, ap (digits_value 10) front) in
      cc (mod-eq_of_lt small)

-- one digit before a byte
pub digit_front : (text : List ℕ) (n byte : ℕ) → 2 ≤ length text
    → digit_value (get_or text 0 0) < 10 → n ≡ get_or text 0 0 - 48
    → get_or text 1 0 ≡ byte → text ≡ decimal n ++ byte ∷ take (length text - 2) (drop 2 text)
digit_front [] n byte long digit is next = absurd (omega arith)
digit_front (d ∷ []) n byte long digit is next = absurd (omega arith)
digit_front (d ∷ b ∷ rest) n byte long digit is next =
    let range = digit_from_value d digit in
    let small : n < 10 = omega (arith, range, is) in
    let same : 48 + n ≡ d = omega (arith, range, is) in
    let spelled : decimal n ≡ d ∷ [] = cc (decimal_digit n small) in
    let tail : take (length (d ∷ b ∷ rest) - 2) rest ≡ rest = take_all _ _ (omega arith) in
    λ i. sym spelled i ++ next i ∷ sym tail i

-- that many digits at the front, and the number that they write
abbrev pub AreFrontDigits : List ℕ → ℕ → ℕ → Type 0
AreFrontDigits text value end = (end ≤ length text) × AllDigits 10 (take end text)
    × (value ≡ digits_value 10 (take end text))

-- none
pub no_digits : (text : List ℕ) → AreFrontDigits text 0 0
no_digits text = (omega arith, search rules, refl)

-- one more
pub digit_after : (text : List ℕ) (value end more : ℕ) → AreFrontDigits text value end
    → end < length text → digit_value (get_or text end 0) < 10
    → more ≡ value * 10 + (get_or text end 0 - 48) → AreFrontDigits text more (end + 1)
digit_after text value end more are within digit is =
    grind (
      arith,
      digits_more 10 text end within are.1 digit,
      are.2,
      digit_is (get_or text end 0)
          digit,
      digits_value_more 10 text end within,
    )

-- digits that don't begin with 0, before a byte
pub digits_front : (text : List ℕ) (value end byte : ℕ) → AreFrontDigits text value end → 1 < end
    → end ≤ 4 → end < length text
    → get_or text 0 0 ≢ 48 → get_or text end 0 ≡ byte
    → text ≡ decimal value ++ byte ∷ take (length text - (end + 1)) (drop (end + 1) text)
digits_front text value end byte are some few within first next =
    let below : digits_value 10 (take end text) < 10 ^ length (take end text) =
    digits_value-lt _ _ are.1 in
    let short : length (take end text) ≤ 4 = omega (arith, length-take end text, few) in
    let bound : 10 ^ length (take end text) ≤ 10 ^ 4 = pow-le-pow_right
    (let p : 0 < 10 = omega arith in p) short in
    let small : value < 2 ^ 64 = omega (arith, are.2, below, bound) in
    sym (take-append-drop end _) ∙ ap (λ t. take end text ++ t)
    (drop_more text end 0 within ∙ (λ i. next i ∷ sym (take_rest text (end + 1)) i))
    ∙ ap (λ t. t ++ byte ∷ take (length text - (end + 1)) (drop (end + 1) text))
    (front_digits text _ end are.0 are.1 are.2 small some first).spelled
