-- A text of versions 1 and 2 can name a built-in subject alone.
use Rattle.vyrd_check.proofs.Prelude
use Prelude.{◌≡◌, ℕ, Bool, true, false, cond, ◌&&◌, List, [], ◌∷◌, ◌^◌, Option, Some, None, Ok, Err}
use Prelude.{Result, refl, ok_or, nat_lt, bytes_eq, slice_split, ◌==◌, Header, Subject, Rule}
use Prelude.{BadHeader, UnknownVersion, is_sized, is_built_in, limits_of, header_line, fields_of}
use Prelude.{number_of, subject_called, header_if, header_of, header_spelled, header_from}
use Prelude.{header_in, Reading, Input, body_read, header_before, stopped, text_read, reading}
use Rattle.vyrd_base.proofs.SubjectLaws.{called_built_in}

-- whether a header, if there is one, is that of a built-in subject
abbrev of_built_in : Result Header Rule → Bool
of_built_in (Ok h) = is_built_in h.subject
of_built_in (Err rule) = true

made_built_in : (version : ℕ) (subject : Subject) (size callers : ℕ) (b : Bool)
    (e : limits_of subject version size callers ≡ b)
    → is_built_in subject ≡ true
    → of_built_in (ok_or (header_if version subject size callers b e) UnknownVersion) ≡ true
made_built_in version subject size callers true e built = built
made_built_in version subject size callers false e built = refl

spelled_built_in : (line : List ℕ) (version : ℕ) (subject : Option Subject) (size callers : ℕ)
    → ((s : Subject) → subject ≡ Some s → is_built_in s ≡ true)
    → of_built_in (header_spelled line version subject size callers) ≡ true
spelled_built_in line version None size callers known = refl
spelled_built_in line version (Some subject) size callers known =
    by_test (nat_lt version (2 ^ 32) && is_sized size callers
    && bytes_eq (header_line version subject size callers) line)
  where
    by_test : (b : Bool)
        → of_built_in (cond b (ok_or (header_of version subject size callers) UnknownVersion)
        (Err BadHeader)) ≡ true
    by_test true = made_built_in _ subject _ _ _ _ (known _ refl)
    by_test false = refl

from_built_in : (line : List ℕ) (fields : List (List ℕ)) → of_built_in (header_from line fields)
    ≡ true
from_built_in line [] = refl
from_built_in line (a ∷ []) = refl
from_built_in line (a ∷ b ∷ []) = refl
from_built_in line (a ∷ b ∷ c ∷ []) = refl
from_built_in line (a ∷ b ∷ c ∷ d ∷ []) = refl
from_built_in line (a ∷ b ∷ c ∷ d ∷ e ∷ more) =
    spelled_built_in line (number_of b) (subject_called c) (number_of d) (number_of e)
    (called_built_in c)

line_built_in : (line : List ℕ) → of_built_in (header_in line) ≡ true
unfolding header_in
line_built_in line = from_built_in line (fields_of line)

text_built_in : (input : Input) (parts : List (List ℕ)) (h : Header)
    → (text_read input parts).header ≡ Some h → is_built_in h.subject ≡ true
text_built_in input [] h has = cc
text_built_in input (rest ∷ []) h has = cc
text_built_in input (line ∷ next ∷ lines) h has = by_header (header_in line) refl has
  where
    text : Result Header Rule → Reading
    text r = elim r as (λ _. Reading) [
      | Ok x ↦ header_before x
          (body_read input x (next ∷ lines))
      | Err rule ↦ stopped 1 (Some rule)
    ]

    by_header : (r : Result Header Rule) → header_in line ≡ r → (text r).header ≡ Some h
        → is_built_in h.subject ≡ true
    by_header (Err rule) is e = cc
    by_header (Ok x) is e = cc (line_built_in line)

pub reading_built_in : (input : Input) (bytes : List ℕ) (h : Header) → (reading input bytes).header
    ≡ Some h → is_built_in h.subject ≡ true
unfolding reading
reading_built_in input bytes h has = text_built_in input (slice_split (λ b. b == 10) bytes) h has
