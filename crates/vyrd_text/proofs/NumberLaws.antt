-- The digits at the front of a text, and the one number that they spell.
use Rattle.vyrd_text.proofs.Prelude
use Prelude.{◌≡◌, ℕ, suc, zero, ◌+◌, ◌-◌, ◌*◌, ◌<◌, ◌≤◌, ◌≢◌, ◌^◌, List, [], ◌∷◌, ◌++◌, take}
use Prelude.{length, get_or, Option, Some, None, refl, ap, sym, ◌∙◌, arith, decimal, digit_value}
use Prelude.{AllDigits, digits_value, take_at, get_or-take, length-take-le, nat_tests, digits_more}
use Prelude.{digits_value_more, decimal_injective, decimal_digit, no_space, IsDigitField}
use Rattle.std.proofs.lemmas.List.{take-append-le, get_or_append_left}
use Rattle.std.proofs.lemmas.Str.Parse.{numerals_by_value, tells_digits, digits_value-take-le}
use Rattle.std.proofs.lemmas.Fmt.{decimal_is_IsNumeral, decimal-digits_value, decimal_nonempty}
use Rattle.std.proofs.lemmas.Fmt.{first_decimal}
use Rattle.vyrd_text.specs.Fields.{after_field, HasNoDigitField, IsNumberField, HasNoNumberField}

-- the digits at the front don't reach past the field
digits_within : (k : ℕ) (ds : List ℕ) (rest : Option (List ℕ))
    → AllDigits 10 (take k (ds ++ after_field rest))
    → k ≤ length (ds ++ after_field rest) → k ≤ length ds
digits_within zero ds rest all h = omega arith
digits_within (suc k) [] None all h = absurd (omega arith)
digits_within (suc k) [] (Some r) all h = absurd (no_space all.0)
digits_within (suc k) (d ∷ ds) rest all h =
    let more = digits_within k ds rest all.1 (omega arith) in
    omega arith

-- the first byte that is neither a digit nor a space isn't the end of the field
bad_byte_at : (i : ℕ) (ds : List ℕ) (rest : Option (List ℕ)) → AllDigits 10 ds
    → AllDigits 10 (take i (ds ++ after_field rest))
    → i < length (ds ++ after_field rest)
    → get_or (ds ++ after_field rest) i 0 ≢ 32
    → ¬ (digit_value (get_or (ds ++ after_field rest) i 0) < 10) → ⊥
bad_byte_at zero [] None all front h space digit = absurd (omega arith)
bad_byte_at zero [] (Some r) all front h space digit = space refl
bad_byte_at zero (d ∷ ds) rest all front h space digit = digit all.0
bad_byte_at (suc i) [] None all front h space digit = absurd (omega arith)
bad_byte_at (suc i) [] (Some r) all front h space digit = no_space front.0
bad_byte_at (suc i) (d ∷ ds) rest all front h space digit = bad_byte_at i ds rest all.1 front.1
    (omega arith) space digit

-- digits before the end of the text or a space are the whole field
field_end : (k : ℕ) (ds : List ℕ) (rest : Option (List ℕ)) → AllDigits 10 ds
    → AllDigits 10 (take k (ds ++ after_field rest))
    → k ≤ length (ds ++ after_field rest)
    → (k < length (ds ++ after_field rest) → get_or (ds ++ after_field rest) k 0 ≡ 32)
    → k ≡ length ds
field_end zero [] rest all front h ended = refl
field_end zero (d ∷ ds) rest all front h ended = search (ended, no_space, arith)
field_end (suc k) [] None all front h ended = absurd (omega arith)
field_end (suc k) [] (Some r) all front h ended = absurd (no_space front.0)
field_end (suc k) (d ∷ ds) rest all front h ended =
    let more = field_end k ds rest all.1 front.1 (omega arith) (λ l. ended (omega arith)) in
    ap suc more

module _ (text ds : List ℕ) (rest : Option (List ℕ)) (e : text ≡ ds ++ after_field rest)
    (all : AllDigits 10 ds) where
  pub bad_byte : (i : ℕ) → AllDigits 10 (take i text) → i < length text → get_or text i 0 ≢ 32
      → ¬ (digit_value (get_or text i 0) < 10) → ⊥
  bad_byte i front h space digit = search (bad_byte_at, arith)

  -- digits whose value is too large aren't at the front of a field with a small value
  pub too_large : (i : ℕ) → AllDigits 10 (take i text) → i < length text
      → digit_value (get_or text i 0) < 10 → digits_value 10 ds < 2 ^ 64
      → 2 ^ 64 ≤ digits_value 10 (take i text) * 10 + digit_value (get_or text i 0) → ⊥
  too_large i front h digit small large =
      let all_more : AllDigits 10 (take (i + 1) text) = digits_more _ _ i h front digit in
      let value_more : digits_value 10 (take (i + 1) text) ≡ digits_value 10 (take i text) * 10
      + digit_value (get_or text i 0) = digits_value_more _ _ i h in
      let within : i + 1 ≤ length ds = digits_within _ _ rest (rw e at all_more)
      (rw e at (let l : i + 1 ≤ length text = omega arith in l)) in
      let same : take (i + 1) text ≡ take (i + 1) ds = ap (take _) e
      ∙ take-append-le _ _ _ within in
      let part : digits_value 10 (take (i + 1) ds) ≤ digits_value 10 ds = digits_value-take-le 10 ds
      (i + 1) (omega arith) in
      omega (arith, ap (digits_value 10) same, value_more, part)

  -- where the digits end the field is known
  pub field_is : (k : ℕ) → AllDigits 10 (take k text) → k ≤ length text
      → (k < length text → get_or text k 0 ≡ 32) → k ≡ length ds
  field_is k front h ended = field_end k ds rest all (rw e at front) (rw e at h) (rw e at ended)

-- a number's digits
digits_of_decimal : (n : ℕ) → n < 2 ^ 64 → AllDigits 10 (decimal n)
digits_of_decimal n small = (decimal_is_IsNumeral n small).0.1

-- no digits, so no number
pub no_number : (text : List ℕ) → HasNoDigitField text → HasNoNumberField text
no_number text none n rest small e =
    let value : digits_value 10 (decimal n) ≡ n = (decimal_is_IsNumeral n small).1 in
    none (decimal n) rest (digits_of_decimal n small) (omega arith) e

-- the digits of a number are its field
pub number_end : (text : List ℕ) (value end n : ℕ) (rest : Option (List ℕ))
    → IsDigitField text value end → n < 2 ^ 64
    → text ≡ decimal n ++ after_field rest → end ≡ length (decimal n)
number_end text value end n rest field small e = search (field_is, digits_of_decimal, arith)

-- an empty field is no number
pub empty_field : (text : List ℕ) (value end : ℕ) → IsDigitField text value end → end ≡ 0
    → HasNoNumberField text
empty_field text value end field empty n rest small e =
    grind (arith, number_end text value end n rest field small e, decimal_nonempty n small)

-- a number that begins with 0 is 0
first_zero : (n : ℕ) → n < 2 ^ 64 → get_or (decimal n) 0 0 ≡ 48 → length (decimal n) ≡ 1
first_zero zero small e = ap length (decimal_digit 0 (omega arith))
first_zero (suc n) small e = absurd (omega (arith, first_decimal (suc n) (omega arith) small, e))

-- nor is a 0 before further digits
pub leading_zero : (text : List ℕ) (value end : ℕ) → IsDigitField text value end → 1 < end
    → get_or text 0 0 ≡ 48 → HasNoNumberField text
leading_zero text value end field long first n rest small e =
    let is = number_end text value end n rest field small e in
    let same : get_or text 0 0 ≡ get_or (decimal n) 0 0 =
    cc (get_or_append_left (decimal n) (after_field rest) 0 0 (decimal_nonempty n small)) in
    omega (arith, is, first_zero n small (sym same ∙ first))

-- digits that are canonical are the number's spelling
number_found : (text : List ℕ) (value end : ℕ) → IsDigitField text value end → value < 2 ^ 64
    → 0 < end
    → (get_or (take end text) 0 0 ≡ 48 → length (take end text) ≡ 1) → IsNumberField text value end
number_found text value end field small some canonical =
    let many : length (take end text) ≡ end = length-take-le _ _ field.within in
    let spelled : decimal (digits_value 10 (take end text)) ≡ take end text = decimal-digits_value
    (numerals_by_value _ tells_digits) _ field.digits (omega arith) canonical
    (omega (arith, field.value_is)) in
    record {
      within = field.within;
      spelled = sym spelled ∙ ap decimal (sym field.value_is);
      ended = field.ended;
    }

-- so is one digit
pub one_digit : (text : List ℕ) (value end : ℕ) → IsDigitField text value end → value < 2 ^ 64
    → end ≡ 1 → IsNumberField text value end
one_digit text value end field small one = search (number_found, small, arith)

-- and so are more that don't begin with 0
pub more_digits : (text : List ℕ) (value end : ℕ) → IsDigitField text value end → value < 2 ^ 64
    → 0 < end → get_or text 0 0 ≢ 48
    → IsNumberField text value end
more_digits text value end field small some first =
    let same : get_or (take end text) 0 0 ≡ get_or text 0 0 = get_or-take end text 0 0 some in
    number_found text value end field small some (λ e. absurd (first (sym same ∙ e)))

-- the number of a field is one, and so is what stands after it
pub one_number : (text : List ℕ) (m end n : ℕ) (rest : Option (List ℕ)) → IsNumberField text m end
    → m < 2 ^ 64 → n < 2 ^ 64
    → text ≡ decimal n ++ after_field rest
    → (end ≡ length (decimal n)) × (m ≡ n)
one_number text m end n rest field low small e =
    let digits : AllDigits 10 (take end text) = rw field.spelled (digits_of_decimal m low) in
    let is = field_is _ _ _ e (digits_of_decimal n small) _ digits field.within field.ended in (
      is,
      decimal_injective m n low small (sym field.spelled ∙ ap (take _) e
          ∙ take_at _ _ _ (sym is)),
    )

-- a digit's value
pub digit_is : (c : ℕ) → digit_value c < 10 → digit_value c ≡ c - 48
digit_is c h = grind (arith, nat_tests)
