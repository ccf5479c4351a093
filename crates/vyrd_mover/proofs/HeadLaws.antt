-- The first line of a history has one reading.
use Rattle.vyrd_mover.proofs.Prelude
use Prelude.{◌≡◌, ℕ, ◌<◌, ◌^◌, Bool, true, false, cond, List, [], ◌∷◌, ◌++◌, Option, Some, None}
use Prelude.{refl, sym, ◌∙◌, arith, codes, decimal, list_all, bytes_eq, bytes_eq-Decides, Header}
use Prelude.{Subject, fields_of, lacks, split-join, lacks-join, number_of_decimal, bytes_same}
use Prelude.{is_plain_field, both_true, one_before_space, history_header_line, history_header_in}
use Rattle.vyrd_base.specs.Subjects.{is_built_in, limits_of}
use Rattle.vyrd_base.specs.Spelling.{subject_name}
use Rattle.vyrd_base.specs.Lines.{number_of, subject_called, header_if, header_of}
use Rattle.vyrd_base.proofs.HeaderLaws.{first_version_built_in, size_in_32_bits, callers_in_32_bits}
use Rattle.vyrd_base.proofs.LineLaws.{plain_number, plain_spaces, plain_line_feeds}
use Rattle.vyrd_base.proofs.StructureLaws.{plain_subject}
use Rattle.vyrd_base.proofs.SubjectLaws.{subject_read, one_name}
use Rattle.vyrd_text.proofs.HeaderLaws.{made, not_made}
use Rattle.vyrd_mover.specs.HistoryLines.{history_header_if, history_header_from}
use Rattle.vyrd_mover.specs.HistorySpelled.{AreBoundsRead, IsFirstRead}

-- a size that no number of callers follows
pub no_callers : (text : List ℕ) (m : ℕ) (r : List ℕ) → m < 2 ^ 64 → text ≡ decimal m ++ 32 ∷ r
    → ((n : ℕ) → n < 2 ^ 32 → r ≡ decimal n → ⊥) → AreBoundsRead text None
no_callers text m r low e none = grind (arith, one_before_space)

-- a line that no bounds end
pub no_bounds : (line r : List ℕ) (found : Subject) (t : List ℕ) → line ≡ codes "history " ++ r
    → r ≡ subject_name found ++ 32 ∷ t
    → AreBoundsRead t None → IsFirstRead line None
no_bounds line r found t e g none = search (one_name, arith)

-- a first line and what it names
module _ (subject : Subject) (size callers : ℕ) (s : size < 2 ^ 64) (c : callers < 2 ^ 64) where
  plain : list_all is_plain_field (codes "history" ∷ subject_name subject ∷ decimal size
      ∷ decimal callers ∷ []) ≡ true
  plain = search (both_true, plain_subject, plain_number, arith)

  fields : fields_of (history_header_line subject size callers) ≡ codes "history"
      ∷ subject_name subject ∷ decimal size ∷ decimal callers ∷ []
  fields = search (split-join, plain_spaces, plain, arith)

  -- it is one line
  pub first_line_whole : lacks 10 (history_header_line subject size callers) ≡ true
  first_line_whole = search (lacks-join, plain_line_feeds, plain, arith)

  -- it is read as the header with its numbers, if there is one
  pub header_known : is_built_in subject ≡ true
      → history_header_in (history_header_line subject size callers)
      ≡ header_of 1 subject size callers
  unfolding history_header_in
  header_known built = search (fields, subject_read, number_of_decimal, bytes_same, arith)

-- a header is read back from its first line
pub header_in-first_line : (h : Header) → h.version ≡ 1
    → history_header_in (history_header_line h.subject h.size h.callers) ≡ Some h
header_in-first_line h one =
    let s : h.size < 2 ^ 64 = let l = size_in_32_bits h in omega (arith, l) in
    let c : h.callers < 2 ^ 64 = let l = callers_in_32_bits h in omega (arith, l) in
    header_known h.subject h.size h.callers s c (first_version_built_in h one)
    ∙ made 1 h.subject h.size h.callers h one refl refl refl

-- what a first line is read as has version 1 and this line
abbrev pub IsFirst : List ℕ → Header → Type 0
IsFirst line h = (h.version ≡ 1) × (line ≡ history_header_line h.subject h.size h.callers)

pub header_in_sound : (line : List ℕ) (h : Header) → history_header_in line ≡ Some h
    → IsFirst line h
unfolding history_header_in
header_in_sound line h found = from (fields_of line) found
  where
    of_header : (subject : Subject) (size callers : ℕ) (b : Bool)
        (e : limits_of subject 1 size callers ≡ b)
        → line ≡ history_header_line subject size callers → header_if 1 subject size callers b e
        ≡ Some h
        → IsFirst line h
    of_header subject size callers false e same f = cc
    of_header subject size callers true e same f = grind arith

    spelled : (subject : Subject) (size callers : ℕ) (b : Bool)
        → bytes_eq (history_header_line subject size callers) line ≡ b
        → cond b (header_of 1 subject size callers) None ≡ Some h → IsFirst line h
    spelled subject size callers false t f = cc
    spelled subject size callers true t f = of_header subject size callers
        (limits_of subject 1 size callers) refl
        (sym ((bytes_eq-Decides (history_header_line subject size callers) line).0 t)) f

    if_spelled : (subject : Option Subject) (size callers : ℕ)
        → history_header_if line subject size callers ≡ Some h
        → IsFirst line h
    if_spelled None size callers f = cc
    if_spelled (Some subject) size callers f = spelled subject size callers
        (bytes_eq (history_header_line subject size callers) line) refl f

    from : (parts : List (List ℕ)) → history_header_from line parts ≡ Some h → IsFirst line h
    from [] f = cc
    from (a ∷ []) f = cc
    from (a ∷ b ∷ []) f = cc
    from (a ∷ b ∷ c ∷ []) f = cc
    from (a ∷ b ∷ c ∷ d ∷ more) f = if_spelled (subject_called b) (number_of c) (number_of d) f

-- a line that names nothing isn't a first line
pub no_first : (line : List ℕ) → IsFirstRead line None → None ≡ history_header_in line
no_first line none = by_answer (history_header_in line) refl
  where
    by_answer : (o : Option Header) → history_header_in line ≡ o → None ≡ o
    by_answer None e = refl
    by_answer (Some h) e =
        let is = header_in_sound line h e in
        absurd (none h.subject h.size h.callers (first_version_built_in h is.0) (size_in_32_bits h)
        (callers_in_32_bits h) is.1)

module _ (line : List ℕ) (subject : Subject) (size callers : ℕ) (s : size < 2 ^ 32)
    (c : callers < 2 ^ 32)
    (is : (is_built_in subject ≡ true) × (line ≡ history_header_line subject size callers)) where
  on_line : history_header_in line ≡ header_of 1 subject size callers
  on_line = cc (is.1, header_known subject size callers (omega (arith, s)) (omega (arith, c)) is.0)

  -- its numbers aren't within the limits
  pub out_of_bounds : ¬ (limits_of subject 1 size callers ≡ true) → None ≡ history_header_in line
  out_of_bounds no_header = sym (on_line ∙ not_made 1 subject size callers no_header)

  -- or they are
  pub first_found : (h : Header) → h.version ≡ 1 → h.subject ≡ subject → h.size ≡ size → h.callers
      ≡ callers → Some h ≡ history_header_in line
  first_found h v u n k = sym (on_line ∙ made 1 subject size callers h v u n k)
