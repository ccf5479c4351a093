-- What stands at the front of a text: a number, and after it nothing, or a space and what follows.
use Rattle.std.specs.Prelude.{◌≡◌, ℕ, ◌<◌, ◌≤◌, ◌^◌, List, [], ◌∷◌, ◌++◌, length, take, slice_index}
use Rattle.std.specs.Prelude.{Option, Some, None, decimal}
use Rattle.std.specs.Str.Parse.{AllDigits, digits_value}

-- what follows a field: nothing, or a space and the rest
abbrev pub after_field : Option (List ℕ) → List ℕ
after_field None = []
after_field (Some rest) = 32 ∷ rest

-- the first `end` bytes are digits of the value, and there the text ends or a space stands
pub record IsDigitField (text : List ℕ) (value end : ℕ) : Type 0 where
  pub within : end ≤ length text
  pub digits : AllDigits 10 (take end text)
  pub value_is : value ≡ digits_value 10 (take end text)
  pub ended : end < length text → slice_index text end ≡ 32

-- no digits with a value below 2^64 are the first field
abbrev pub HasNoDigitField : List ℕ → Type 0
HasNoDigitField text = (digits : List ℕ) (rest : Option (List ℕ)) → AllDigits 10 digits
    → digits_value 10 digits < 2 ^ 64 → text ≡ digits ++ after_field rest → ⊥

-- the first `end` bytes are the spelling of the number, and there the text ends or a space stands
pub record IsNumberField (text : List ℕ) (number end : ℕ) : Type 0 where
  pub within : end ≤ length text
  pub spelled : take end text ≡ decimal number
  pub ended : end < length text → slice_index text end ≡ 32

-- the spelling of no number below 2^64 is the first field
abbrev pub HasNoNumberField : List ℕ → Type 0
HasNoNumberField text = (number : ℕ) (rest : Option (List ℕ)) → number < 2 ^ 64
    → text ≡ decimal number ++ after_field rest → ⊥
