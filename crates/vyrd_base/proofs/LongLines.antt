-- No line with more than 64 bytes spells anything.
use Rattle.vyrd_base.proofs.Prelude
use Prelude.{◌≡◌, ℕ, suc, zero, ◌+◌, ◌<◌, ◌≤◌, ◌^◌, Bool, true, false, cond, ◌&&◌, List, [], ◌∷◌}
use Prelude.{◌++◌, map, take, length, Option, Some, None, Err, refl, ap, arith, length-append}
use Prelude.{nat_lt, nat_le, codes, decimal, ok_or, option_and_then, join_with_byte, bytes_eq}
use Prelude.{nat_tests, bytes_eq-Decides, Subject, BadHeader, UnknownVersion, Kind, Entry}
use Prelude.{StartWord, is_sized, subject_name, header_line, kind_fields, start_line, entry_line}
use Prelude.{end_line, is_kind_of, is_entry_of, fields_of, guessed_entry, entry_in, start_in}
use Prelude.{header_of, header_spelled, header_from, header_in, first_true, second_true, below_of}
use Rattle.std.proofs.lemmas.Fmt.{length-decimal-le}
use Rattle.vyrd_base.proofs.StructureLaws.{short_method, short_subject}
use Rattle.vyrd_base.proofs.LineLaws.{is_start, start_numbers, start_in_sound}

-- how long fields are with the spaces after them
abbrev pub spaced_length : List (List ℕ) → ℕ
spaced_length [] = 0
spaced_length (field ∷ fields) = length field + 1 + spaced_length fields

length-join : (c : ℕ) (fields : List (List ℕ)) → length (join_with_byte c fields)
    ≤ spaced_length fields
length-join c [] = omega arith
length-join c (x ∷ []) = omega arith
length-join c (x ∷ y ∷ fields) =
    grind (arith, length-append x (c ∷ join_with_byte c (y ∷ fields)), length-join c (y ∷ fields))

-- how many digits a number of 32 bits has, and one of 64 bits
pub short_number : (n : ℕ) → n < 2 ^ 32 → length (decimal n) ≤ 10
short_number n low = length-decimal-le 10 n (omega arith) (omega arith) (omega arith)

pub short_value : (n : ℕ) → n < 2 ^ 64 → length (decimal n) ≤ 20
short_value n low = length-decimal-le 20 n (omega arith) (omega arith) (omega arith)

short_32 : (n : ℕ) → nat_lt n (2 ^ 32) ≡ true → length (decimal n) ≤ 10
short_32 n e = short_number n (below_of n (2 ^ 32) e)

short_64 : (n : ℕ) → nat_lt n (2 ^ 64) ≡ true → length (decimal n) ≤ 20
short_64 n e = short_value n (below_of n (2 ^ 64) e)

-- fewer arguments are no longer
fewer : (n : ℕ) (numbers : List ℕ) → spaced_length (map decimal (take n numbers))
    ≤ spaced_length (map decimal numbers)
fewer zero numbers = omega arith
fewer (suc n) [] = omega arith
fewer (suc n) (x ∷ numbers) = grind (arith, fewer n numbers)

-- the fields after the caller have at most 52 bytes, with their spaces
short_kind : (subject : Subject) (kind : Kind) → is_kind_of subject kind ≡ true
    → spaced_length (kind_fields kind) ≤ 52
short_kind subject kind e =
    grind (arith, short_32, second_true, first_true, short_method, fewer, short_64)

-- an entry's line has at most 64 bytes
pub short_entry : (subject : Subject) (e : Entry) → is_entry_of subject e ≡ true
    → length (entry_line e) ≤ 64
short_entry subject e is =
    let caller = short_32 e.caller (first_true _ _ is) in
    let kind = short_kind subject e.kind (second_true (nat_lt e.caller (2 ^ 32)) _ is) in
    omega (arith, length-join 32 (decimal e.caller ∷ kind_fields e.kind), caller, kind)

-- a longer line isn't an entry
pub long_entry : (subject : Subject) (line : List ℕ) → 64 < length line → entry_in subject line
    ≡ None
unfolding entry_in
long_entry subject line long = by_guess (guessed_entry subject (fields_of line))
  where
    checked : (e : Entry) (b : Bool) → (is_entry_of subject e && bytes_eq (entry_line e) line) ≡ b
        → cond b (Some e) None ≡ None
    checked e false f = refl
    checked e true f =
        let same = (bytes_eq-Decides (entry_line e) line).0
        (second_true (is_entry_of subject e) _ f) in
        let short = short_entry subject e (first_true _ _ f) in
        absurd (omega (arith, ap length same, short))

    by_guess : (o : Option Entry)
        → option_and_then (λ e. cond (is_entry_of subject e && bytes_eq (entry_line e) line)
        (Some e) None) o ≡ None
    by_guess None = refl
    by_guess (Some e) = checked e (is_entry_of subject e && bytes_eq (entry_line e) line) refl

-- a starting word's line has at most 64 bytes
pub short_start : (s : StartWord) → is_start s ≡ true → length (start_line s) ≤ 64
short_start s is =
    let word = short_32 s.word (first_true _ _ is) in
    let value = short_64 s.value (second_true (nat_lt s.word (2 ^ 32)) _ is) in
    omega (arith, length-join 32 (codes "start" ∷ start_numbers s), word, value)

-- a longer line isn't a starting word
pub long_start : (line : List ℕ) → 64 < length line → start_in line ≡ None
long_start line long = by_found (start_in line) refl
  where
    by_found : (o : Option StartWord) → start_in line ≡ o → o ≡ None
    by_found None found = refl
    by_found (Some s) found =
        let sound = start_in_sound line s found in
        let short = short_start s sound.1 in
        absurd (omega (arith, ap length sound.0, short))

-- nor is it the line `end`
pub long_isnt_end : (line : List ℕ) → 64 < length line → bytes_eq line end_line ≡ false
long_isnt_end line long = by_test (bytes_eq line end_line) refl
  where
    by_test : (b : Bool) → bytes_eq line end_line ≡ b → b ≡ false
    by_test false e = refl
    by_test true e = absurd (omega (arith, ap length ((bytes_eq-Decides line end_line).0 e)))

short_size : (n most : ℕ) → most < 2 ^ 32 → nat_le n most ≡ true → nat_lt n (2 ^ 32) ≡ true
short_size n most m e = grind (arith, nat_tests)

-- a header's line has at most 64 bytes
short_header : (version : ℕ) (subject : Subject) (size callers : ℕ) → nat_lt version (2 ^ 32) ≡ true
    → is_sized size callers ≡ true → length (header_line version subject size callers) ≤ 64
short_header version subject size callers v sized =
    let n = short_32 size
    (short_size size 1024 (omega arith)
    (second_true (nat_le 1 size) _ (first_true _ _ (first_true _ _ sized)))) in
    let c = short_32 callers
    (short_size callers 64 (omega arith)
    (second_true (nat_le 1 size && nat_le size 1024 && nat_le 1 callers) _ sized)) in
    omega (
      arith,
      length-join 32 (codes "vyrd" ∷ decimal version ∷ subject_name subject
          ∷ decimal size ∷ decimal callers ∷ []),
      short_32 version v,
      short_subject subject,
      n,
      c,
    )

long_spelled : (line : List ℕ) (version : ℕ) (subject : Option Subject) (size callers : ℕ)
    → 64 < length line
    → header_spelled line version subject size callers ≡ Err BadHeader
long_spelled line version None size callers long = refl
long_spelled line version (Some subject) size callers long =
    by_test (nat_lt version (2 ^ 32) && is_sized size callers
    && bytes_eq (header_line version subject size callers) line) refl
  where
    by_test : (b : Bool)
        → (nat_lt version (2 ^ 32) && is_sized size callers
        && bytes_eq (header_line version subject size callers) line) ≡ b
        → cond b (ok_or (header_of version subject size callers) UnknownVersion) (Err BadHeader)
        ≡ Err BadHeader
    by_test false e = refl
    by_test true e =
        let same = (bytes_eq-Decides (header_line version subject size callers) line).0
        (second_true (nat_lt version (2 ^ 32) && is_sized size callers) _ e) in
        let short = short_header version subject size callers (first_true _ _ (first_true _ _ e))
        (second_true (nat_lt version (2 ^ 32)) _ (first_true _ _ e)) in
        absurd (omega (arith, ap length same, short))

long_from : (line : List ℕ) (fields : List (List ℕ)) → 64 < length line → header_from line fields
    ≡ Err BadHeader
long_from line [] long = refl
long_from line (a ∷ []) long = refl
long_from line (a ∷ b ∷ []) long = refl
long_from line (a ∷ b ∷ c ∷ []) long = refl
long_from line (a ∷ b ∷ c ∷ d ∷ []) long = refl
long_from line (a ∷ b ∷ c ∷ d ∷ e ∷ more) long = search (long_spelled, long, arith)

-- a longer line isn't a header
pub long_header : (line : List ℕ) → 64 < length line → header_in line ≡ Err BadHeader
unfolding header_in
long_header line long = long_from line (fields_of line) long

-- a line of more than 64 bytes is no shorter with more
pub longer : (line more : List ℕ) → 64 < length line → 64 < length (line ++ more)
longer line more long = omega (arith, long, length-append line more)
