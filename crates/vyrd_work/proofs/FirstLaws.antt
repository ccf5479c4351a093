-- The first line has one reading.
use Rattle.vyrd_work.proofs.Prelude
use Prelude.{◌≡◌, ℕ, ◌<◌, ◌^◌, Bool, true, false, cond, List, [], ◌∷◌, ◌++◌, Option, Some, None}
use Prelude.{refl, ap, sym, ◌∙◌, arith, codes, decimal, option_map, list_all, bytes_eq}
use Prelude.{bytes_eq-Decides, Header, Subject, fields_of, size_in_32_bits, callers_in_32_bits}
use Prelude.{first_version_built_in, lacks, split-join, lacks-join, number_of_decimal, bytes_same}
use Prelude.{is_plain_field, plain_number, plain_spaces, plain_line_feeds, both_true, Variant}
use Prelude.{one_before_space, Workload, variant_name, work_header_line, begun, begun_in}
use Rattle.vyrd_base.specs.Subjects.{limits_of, is_built_in}
use Rattle.vyrd_base.specs.Spelling.{subject_name}
use Rattle.vyrd_base.specs.Lines.{number_of, subject_called, header_if, header_of}
use Rattle.vyrd_base.proofs.StructureLaws.{plain_subject}
use Rattle.vyrd_base.proofs.SubjectLaws.{subject_read, one_name}
use Rattle.vyrd_text.proofs.HeaderLaws.{made, not_made}
use Rattle.vyrd_work.specs.WorkLines.{variant_called, begun_if_spelled, begun_from}
use Rattle.vyrd_work.specs.Spelled.{IsVariantRead, AreBoundsRead, IsFirstRead}

-- a size that no number of callers follows
pub no_callers : (text : List ℕ) (m : ℕ) (r : List ℕ) → m < 2 ^ 64 → text ≡ decimal m ++ 32 ∷ r
    → ((n : ℕ) (s : List ℕ) → n < 2 ^ 32 → r ≡ decimal n ++ 32 ∷ s → ⊥)
    → AreBoundsRead text None
no_callers text m r low e none = grind (arith, one_before_space)

-- a number of callers that no variant follows
pub no_variant : (text : List ℕ) (m n : ℕ) (r t : List ℕ) → m < 2 ^ 64 → n < 2 ^ 64
    → text ≡ decimal m ++ 32 ∷ r
    → r ≡ decimal n ++ 32 ∷ t → IsVariantRead t None
    → AreBoundsRead text None
no_variant text m n r t low small e g none = search (one_before_space, arith)

-- a line that no bounds end
pub no_bounds : (line r : List ℕ) (found : Subject) (t : List ℕ) → line ≡ codes "work " ++ r
    → r ≡ subject_name found ++ 32 ∷ t → AreBoundsRead t None
    → IsFirstRead line None
no_bounds line r found t e g none = search (one_name, arith)

variant_read : (variant : Variant) → variant_called (variant_name variant) ≡ Some variant
variant_read variant = search arith

plain_variant : (variant : Variant) → is_plain_field (variant_name variant) ≡ true
plain_variant variant = search arith

-- a first line and what it names
module _ (subject : Subject) (size callers : ℕ) (variant : Variant) (s : size < 2 ^ 64)
    (c : callers < 2 ^ 64) where
  parts : List (List ℕ)
  parts = subject_name subject ∷ decimal size ∷ decimal callers ∷ variant_name variant ∷ []

  plain : list_all is_plain_field (codes "work" ∷ subject_name subject ∷ decimal size
      ∷ decimal callers ∷ variant_name variant ∷ []) ≡ true
  plain = search (both_true, plain_subject, plain_number, plain_variant, arith)

  fields : fields_of (work_header_line subject size callers variant) ≡ codes "work"
      ∷ subject_name subject ∷ decimal size ∷ decimal callers ∷ variant_name variant ∷ []
  fields = search (split-join, plain_spaces, plain, arith)

  -- it is one line
  pub first_line_whole : lacks 10 (work_header_line subject size callers variant) ≡ true
  first_line_whole = search (lacks-join, plain_line_feeds, plain, arith)

  -- it is read as the header with its numbers, if there is one
  pub begun_known : is_built_in subject ≡ true
      → begun_in (work_header_line subject size callers variant) ≡ option_map (begun variant)
      (header_of 1 subject size callers)
  unfolding begun_in
  begun_known built =
      search (fields, subject_read, number_of_decimal, variant_read, begun, bytes_same, arith)

-- a workload's header and variant are read back from its first line
pub begun_in-first_line : (h : Header) (variant : Variant) → h.version ≡ 1
    → begun_in (work_header_line h.subject h.size h.callers variant) ≡ Some (begun variant h)
begun_in-first_line h variant one =
    let s : h.size < 2 ^ 64 = let l = size_in_32_bits h in omega (arith, l) in
    let c : h.callers < 2 ^ 64 = let l = callers_in_32_bits h in omega (arith, l) in
    begun_known h.subject h.size h.callers variant s c (first_version_built_in h one)
    ∙ ap (option_map (begun variant)) (made 1 h.subject h.size h.callers h one refl refl refl)

-- what a first line is read as: a workload of nothing, whose first line it is, and whose runs leave
-- logs of version 1
pub record IsBegun (line : List ℕ) (w : Workload) : Type 0 where
  pub version : w.header.version ≡ 1
  pub empty : w ≡ begun w.variant w.header
  pub line_is : line ≡ work_header_line w.header.subject w.header.size w.header.callers w.variant

pub begun_in_sound : (line : List ℕ) (w : Workload) → begun_in line ≡ Some w → IsBegun line w
unfolding begun_in
begun_in_sound line w found = from (fields_of line) found
  where
    of_header : (subject : Subject) (size callers : ℕ) (variant : Variant) (b : Bool)
        (e : limits_of subject 1 size callers ≡ b)
        → line ≡ work_header_line subject size callers variant
        → option_map (begun variant) (header_if 1 subject size callers b e) ≡ Some w
        → IsBegun line w
    of_header subject size callers variant false e same f = cc
    of_header subject size callers variant true e same f = grind arith

    spelled : (subject : Subject) (size callers : ℕ) (variant : Variant) (b : Bool)
        → bytes_eq (work_header_line subject size callers variant) line ≡ b
        → cond b (option_map (begun variant) (header_of 1 subject size callers)) None ≡ Some w
        → IsBegun line w
    spelled subject size callers variant false t f = cc
    spelled subject size callers variant true t f = of_header subject size callers variant
        (limits_of subject 1 size callers) refl
        (sym ((bytes_eq-Decides (work_header_line subject size callers variant) line).0 t)) f

    if_spelled : (subject : Option Subject) (size callers : ℕ) (variant : Option Variant)
        → begun_if_spelled line subject size callers variant ≡ Some w → IsBegun line w
    if_spelled None size callers variant f = cc
    if_spelled (Some subject) size callers None f = cc
    if_spelled (Some subject) size callers (Some variant) f = spelled subject size callers variant
        (bytes_eq (work_header_line subject size callers variant) line) refl f

    from : (parts : List (List ℕ)) → begun_from line parts ≡ Some w → IsBegun line w
    from [] f = cc
    from (a ∷ []) f = cc
    from (a ∷ b ∷ []) f = cc
    from (a ∷ b ∷ c ∷ []) f = cc
    from (a ∷ b ∷ c ∷ d ∷ []) f = cc
    from (a ∷ b ∷ c ∷ d ∷ e ∷ more) f = if_spelled (subject_called b) (number_of c) (number_of d)
        (variant_called e) f

-- a line that names nothing isn't a first line
pub no_first : (line : List ℕ) → IsFirstRead line None → None ≡ begun_in line
no_first line none = by_answer (begun_in _) refl
  where
    by_answer : (o : Option Workload) → begun_in line ≡ o → None ≡ o
    by_answer None e = refl
    by_answer (Some w) e =
        let is = begun_in_sound _ w e in
        absurd (none _ _ _ _ (first_version_built_in w.header is.version) (size_in_32_bits w.header)
        (callers_in_32_bits w.header) is.line_is)

module _ (line : List ℕ) (subject : Subject) (size callers : ℕ) (variant : Variant)
    (s : size < 2 ^ 32) (c : callers < 2 ^ 32)
    (built : is_built_in subject ≡ true) (is : line ≡ work_header_line subject size callers variant)
  where
    on_line : begun_in line ≡ option_map (begun variant) (header_of 1 subject size callers)
    on_line = ap begun_in is ∙ begun_known subject size callers variant (omega (arith, s))
        (omega (arith, c)) built

    -- its numbers aren't within the limits
    pub out_of_bounds : ¬ (limits_of subject 1 size callers ≡ true) → None ≡ begun_in line
    out_of_bounds no_header =
        sym (on_line ∙ ap (option_map (begun variant)) (not_made 1 subject size callers no_header))

    -- or they are
    pub first_found : (h : Header) → h.version ≡ 1 → h.subject ≡ subject → h.size ≡ size → h.callers
        ≡ callers → Some (begun variant h) ≡ begun_in line
    first_found h v u n k =
        sym (on_line ∙ ap (option_map (begun variant)) (made 1 subject size callers h v u n k))
