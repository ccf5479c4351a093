-- The first line has one reading.
use Rattle.vyrd_own_log.proofs.Prelude
use Prelude.{◌≡◌, ℕ, ◌<◌, ◌^◌, Bool, true, false, cond, ◌&&◌, List, [], ◌∷◌, ◌++◌, Option, Some}
use Prelude.{None, refl, ap, sym, ◌∙◌, arith, codes, decimal, IsSome, IfSome, ◌↔◌, IsTrue, bytes_eq}
use Prelude.{append_cancel_left, bytes_eq-Decides, Header, Own, is_own_sized, limits_of}
use Prelude.{header_line, fields_of, number_of, header_of, own_header_spelled, own_header_from}
use Prelude.{own_header_in, all_lack, split-join, decimal_lacks, no_space, number_of_decimal}
use Prelude.{bytes_same, both_true, first_true, second_true, at_most_of, made, one_before_space}
use Rattle.std.proofs.lemmas.Fmt.{decimal_digit}

-- the text of a header of version 3
abbrev pub own_text : ℕ → ℕ → List ℕ
own_text words callers = codes "vyrd 3 own " ++ (decimal words ++ 32 ∷ decimal callers)

line_is : (words callers : ℕ) → header_line 3 Own words callers ≡ own_text words callers
line_is words callers = cc (decimal_digit 3 (omega arith))

pub few_words : (words callers : ℕ) → is_own_sized words callers ≡ true → words < 2 ^ 32
few_words words callers sized = grind (arith, sized, at_most_of, first_true)

pub few_callers : (words callers : ℕ) → is_own_sized words callers ≡ true → callers < 2 ^ 32
few_callers words callers sized = grind (arith, sized, at_most_of, second_true)

-- a line that is read as a header is the text of one
pub record IsHeaderLine (line : List ℕ) (h : Header) : Type 0 where
  pub words : ℕ
  pub callers : ℕ
  pub sized : is_own_sized words callers ≡ true
  pub spelled : line ≡ own_text words callers

from_sound : (line : List ℕ) (fields : List (List ℕ)) (h : Header) → own_header_from line fields
    ≡ Some h → IsHeaderLine line h
from_sound line [] h e = cc
from_sound line (a ∷ []) h e = cc
from_sound line (a ∷ b ∷ []) h e = cc
from_sound line (a ∷ b ∷ c ∷ []) h e = cc
from_sound line (a ∷ b ∷ c ∷ d ∷ []) h e = cc
from_sound line (a ∷ b ∷ c ∷ d ∷ f ∷ more) h e =
    by_test (is_own_sized (number_of d) (number_of f)
    && bytes_eq (header_line 3 Own (number_of d) (number_of f)) line) refl e
  where
    by_test : (t : Bool)
        → (is_own_sized (number_of d) (number_of f)
        && bytes_eq (header_line 3 Own (number_of d) (number_of f)) line) ≡ t
        → cond t (header_of 3 Own (number_of d) (number_of f)) None ≡ Some h → IsHeaderLine line h
    by_test false is g = cc
    by_test true is g = record {
      words = number_of d;
      callers = number_of f;
      sized = first_true _ _ is;
      spelled = sym ((bytes_eq-Decides _ _).0 (second_true _ _ is)) ∙ line_is _ _;
    }

pub header_sound : (line : List ℕ) (h : Header) → own_header_in line ≡ Some h → IsHeaderLine line h
unfolding own_header_in
header_sound line h e = from_sound line (fields_of line) h e

-- a line that is no header's
pub no_header : (line : List ℕ)
    → ((words callers : ℕ) → is_own_sized words callers ≡ true → line ≡ own_text words callers → ⊥)
    → None ≡ own_header_in line
no_header line none = by_answer (own_header_in _) refl
  where
    by_answer : (o : Option Header) → own_header_in line ≡ o → None ≡ o
    by_answer None e = refl
    by_answer (Some h) e = let is = header_sound _ h e in absurd (none _ _ is.sized is.spelled)

pub no_beginning : (line : List ℕ) → ((rest : List ℕ) → line ≡ codes "vyrd 3 own " ++ rest → ⊥)
    → None ≡ own_header_in line
no_beginning line none = search (no_header, arith)

-- the text of a header is read as that header
pub header_complete : (words callers : ℕ) → is_own_sized words callers ≡ true
    → own_header_in (own_text words callers) ≡ header_of 3 Own words callers
unfolding own_header_in
header_complete words callers sized = ap (λ t. own_header_from t (fields_of t))
    (sym (line_is words callers)) ∙ ap (own_header_from text)
    (split-join 32 (codes "vyrd") (decimal 3 ∷ codes "own" ∷ decimal words ∷ decimal callers ∷ [])
    lack) ∙ (λ i. own_header_spelled text (number_of_decimal words w i)
    (number_of_decimal callers c i)) ∙ ap (λ b. cond b (header_of 3 Own words callers) None)
    (both_true _ _ sized (bytes_same text))
  where
    text : List ℕ
    text = header_line 3 Own words callers

    w : words < 2 ^ 64
    w = let h = few_words _ callers sized in omega (arith, h)

    c : callers < 2 ^ 64
    c = let h = few_callers _ callers sized in omega (arith, h)

    lack : all_lack 32 (codes "vyrd" ∷ decimal 3 ∷ codes "own" ∷ decimal words ∷ decimal callers
        ∷ []) ≡ true
    lack = search (both_true, decimal_lacks, no_space, arith)

module _ (line rest : List ℕ) (begun : line ≡ codes "vyrd 3 own " ++ rest) where
  pub no_words : ((n : ℕ) (more : List ℕ) → n < 2 ^ 32 → rest ≡ decimal n ++ 32 ∷ more → ⊥)
      → None ≡ own_header_in line
  no_words none = search (no_header, few_words, arith)

  module _ (n : ℕ) (more : List ℕ) (low : n < 2 ^ 32) (parts : rest ≡ decimal n ++ 32 ∷ more) where
    after_words : (words callers : ℕ) → is_own_sized words callers ≡ true
        → line ≡ own_text words callers
        → (n ≡ words) × (more ≡ decimal callers)
    after_words words callers sized e =
        let few = few_words words callers sized in
        one_before_space n words more (decimal callers) (omega arith) (omega (arith, few))
        (sym parts ∙ append_cancel_left (codes "vyrd 3 own ") rest
        (decimal words ++ 32 ∷ decimal callers) (sym begun ∙ e))

    pub no_callers : ((k : ℕ) → k < 2 ^ 32 → more ≡ decimal k → ⊥) → None ≡ own_header_in line
    no_callers none = no_header line (λ words callers sized e.
        none callers (few_callers words callers sized) (after_words words callers sized e).1)

    -- what is made of the numbers
    pub header_read : (k : ℕ) → k < 2 ^ 32 → more ≡ decimal k → (o : Option Header)
        → IsSome o ↔ IsTrue (limits_of Own 3 n k)
        → IfSome o (λ h. h.version ≡ 3) → IfSome o (λ h. h.subject ≡ Own)
        → IfSome o (λ h. h.size ≡ n) → IfSome o (λ h. h.callers ≡ k)
        → o ≡ own_header_in line
    header_read k small end (Some h) within v s z c =
        let same : line ≡ own_text n k = begun ∙ ap (λ t. codes "vyrd 3 own " ++ t)
        (parts ∙ ap (λ t. decimal n ++ 32 ∷ t) end) in
        sym (ap own_header_in same ∙ header_complete n k (within.0 refl) ∙ made 3 Own n k h v s z c)
    header_read k small end None within v s z c = no_header line (λ words callers sized e.
        let is = after_words words callers sized e in
        let few = few_callers words callers sized in
        let same : k ≡ callers = sym (number_of_decimal k (omega arith))
        ∙ ap number_of (sym end ∙ is.1) ∙ number_of_decimal callers (omega (arith, few)) in
        let none : false ≡ true = within.1 ((λ i. is_own_sized (is.0 i) (same i)) ∙ sized) in
        cc)
