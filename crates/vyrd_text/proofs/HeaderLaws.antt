-- The first line has one reading.
use Rattle.vyrd_text.proofs.Prelude
use Prelude.{◌≡◌, ℕ, ◌<◌, ◌^◌, Bool, true, false, cond, ◌&&◌, List, [], ◌∷◌, ◌++◌, Option, Some}
use Prelude.{None, Err, refl, ap, sym, ◌∙◌, arith, nat_lt, codes, decimal, ok_or, list_all}
use Prelude.{bytes_eq, bytes_eq-Decides, Header, Subject, BadHeader, UnknownVersion, header_line}
use Prelude.{header_in, bytes_same, both_true, first_true, second_true, below_of, is_below}
use Rattle.std.proofs.Math.Bool.{Bool-set}
use Rattle.vyrd_base.specs.Limits.{is_sized}
use Rattle.vyrd_base.specs.Subjects.{is_built_in, limits_of}
use Rattle.vyrd_base.specs.Spelling.{subject_name}
use Rattle.vyrd_base.specs.Lines.{fields_of, number_of, header_if, header_of, header_spelled}
use Rattle.vyrd_base.specs.Lines.{header_from}
use Rattle.vyrd_base.proofs.HeaderLaws.{small_size, small_callers}
use Rattle.vyrd_base.proofs.SplitLaws.{split-join, number_of_decimal, is_plain_field}
use Rattle.vyrd_base.proofs.LineLaws.{plain_number, plain_spaces}
use Rattle.vyrd_base.proofs.SubjectLaws.{one_name, subject_read, called_built_in}
use Rattle.vyrd_base.proofs.StructureLaws.{plain_subject}
use Rattle.vyrd_text.specs.Spelled.{AreLimitsRead, AreNumbersRead}
use Rattle.vyrd_text.proofs.PartLaws.{one_before_space}

-- a size that no number of callers follows
pub no_callers : (text : List ℕ) (m : ℕ) (r : List ℕ) → m < 2 ^ 64 → text ≡ decimal m ++ 32 ∷ r
    → ((n : ℕ) → n < 2 ^ 32 → r ≡ decimal n → ⊥) → AreLimitsRead text None
no_callers text m r low e none = search (one_before_space, small_size, small_callers, arith)

-- numbers that aren't within the limits
pub not_sized : (text : List ℕ) (m n : ℕ) (r : List ℕ) → m < 2 ^ 64 → n < 2 ^ 64 → text ≡ decimal m
    ++ 32 ∷ r → r ≡ decimal n
    → is_sized m n ≡ false → AreLimitsRead text None
not_sized text m n r low small e f bad size callers sized g =
    let s = small_size size callers sized in
    let c = small_callers size callers sized in
    let is = one_before_space m size r (decimal callers) low (omega (arith, s)) (sym e ∙ g) in
    let same : n ≡ callers = number_same n callers small (omega (arith, c)) (sym f ∙ is.1) in
    let both : true ≡ false = sym sized ∙ (λ i. is_sized (sym is.0 i) (sym same i)) ∙ bad in
    cc
  where
    number_same : (a b : ℕ) → a < 2 ^ 64 → b < 2 ^ 64 → decimal a ≡ decimal b → a ≡ b
    number_same a b l h e = sym (number_of_decimal a l) ∙ ap number_of e ∙ number_of_decimal b h

-- a version that no subject follows
pub no_subject : (line r : List ℕ) (m : ℕ) (s : List ℕ) → m < 2 ^ 64 → line ≡ codes "vyrd " ++ r
    → r ≡ decimal m ++ 32 ∷ s
    → ((subject : Subject) (rest : List ℕ) → is_built_in subject ≡ true → s ≡ subject_name subject
    ++ 32 ∷ rest → ⊥) → AreNumbersRead line None
no_subject line r m s low e f none = search (one_before_space, arith)

-- a subject that no limits follow
pub no_limits : (line r : List ℕ) (m : ℕ) (s : List ℕ) (found : Subject) (t : List ℕ) → m < 2 ^ 64
    → line ≡ codes "vyrd " ++ r → r ≡ decimal m ++ 32 ∷ s
    → s ≡ subject_name found ++ 32 ∷ t → AreLimitsRead t None → AreNumbersRead line None
no_limits line r m s found t low e f h none = search (one_before_space, one_name, arith)

-- a line with a version, a subject and limits is read as that header, where the version is known
pub header_known : (line : List ℕ) (version : ℕ) (subject : Subject) (size callers : ℕ)
    → AreNumbersRead line (Some (version, subject, size, callers))
    → header_in line ≡ ok_or (header_of version subject size callers) UnknownVersion
unfolding header_in
header_known line version subject size callers is = ap (λ l. header_from l (fields_of l)) is.3
    ∙ ap (header_from text) fields
    ∙ (λ i. header_spelled text (number_of_decimal version v i) (subject_read subject is.1 i)
    (number_of_decimal size s i) (number_of_decimal callers c i))
    ∙ ap (λ b. cond b (ok_or (header_of version subject size callers) UnknownVersion)
    (Err BadHeader)) (both_true _ _ (both_true _ _ (is_below version (2 ^ 32) is.0) is.2)
    (bytes_same text))
  where
    text : List ℕ
    text = header_line version subject size callers

    v : version < 2 ^ 64
    v = let h = is.0 in omega (arith, h)

    s : size < 2 ^ 64
    s = let h = small_size size callers is.2 in omega (arith, h)

    c : callers < 2 ^ 64
    c = let h = small_callers size callers is.2 in omega (arith, h)

    parts : List (List ℕ)
    parts = decimal version ∷ subject_name subject ∷ decimal size ∷ decimal callers ∷ []

    plain : list_all is_plain_field (codes "vyrd" ∷ parts) ≡ true
    plain = search (both_true, plain_number, plain_subject, arith)

    fields : fields_of text ≡ codes "vyrd" ∷ parts
    fields = split-join 32 (codes "vyrd") parts (plain_spaces (codes "vyrd" ∷ parts) plain)

-- a line without them is none
spelled_none : (line : List ℕ) (version : ℕ) (subject : Option Subject) (size callers : ℕ)
    → ((s : Subject) → subject ≡ Some s → is_built_in s ≡ true) → AreNumbersRead line None
    → header_spelled line version subject size callers ≡ Err BadHeader
spelled_none line version None size callers known none = refl
spelled_none line version (Some subject) size callers known none =
    by_test (nat_lt version (2 ^ 32) && is_sized size callers
    && bytes_eq (header_line version subject size callers) line) refl
  where
    by_test : (b : Bool)
        → (nat_lt version (2 ^ 32) && is_sized size callers
        && bytes_eq (header_line version subject size callers) line) ≡ b
        → cond b (ok_or (header_of version subject size callers) UnknownVersion) (Err BadHeader)
        ≡ Err BadHeader
    by_test false e = refl
    by_test true e =
        let same = (bytes_eq-Decides (header_line version subject size callers) line).0
        (second_true (nat_lt version (2 ^ 32) && is_sized size callers) _ e) in
        absurd (none version subject size callers
        (below_of version (2 ^ 32) (first_true _ _ (first_true _ _ e)))
        (known subject refl) (second_true (nat_lt version (2 ^ 32)) _ (first_true _ _ e))
        (sym same))

from_none : (line : List ℕ) (fields : List (List ℕ)) → AreNumbersRead line None
    → header_from line fields ≡ Err BadHeader
from_none line [] none = refl
from_none line (a ∷ []) none = refl
from_none line (a ∷ b ∷ []) none = refl
from_none line (a ∷ b ∷ c ∷ []) none = refl
from_none line (a ∷ b ∷ c ∷ d ∷ []) none = refl
from_none line (a ∷ b ∷ c ∷ d ∷ e ∷ more) none = search (spelled_none, called_built_in, arith)

pub header_unknown : (line : List ℕ) → AreNumbersRead line None → Err BadHeader ≡ header_in line
unfolding header_in
header_unknown line none = sym (from_none line (fields_of line) none)

-- the header that was made is the one with the numbers
made_if : (h : Header) (b : Bool) (e : limits_of h.subject h.version h.size h.callers ≡ b)
    → b ≡ true
    → Some h ≡ header_if h.version h.subject h.size h.callers b e
made_if h true e t = ap (λ w. Some (record h { within = w })) (Bool-set _ _ _ e)
made_if h false e t = cc

pub made : (version : ℕ) (subject : Subject) (size callers : ℕ) (h : Header) → h.version ≡ version
    → h.subject ≡ subject
    → h.size ≡ size → h.callers ≡ callers
    → header_of version subject size callers ≡ Some h
made version subject size callers h v s n c =
    cc (made_if h (limits_of h.subject h.version h.size h.callers) refl h.within)

not_made_if : (version : ℕ) (subject : Subject) (size callers : ℕ) (b : Bool)
    (e : limits_of subject version size callers ≡ b)
    → ¬ (limits_of subject version size callers ≡ true) → header_if version subject size callers b e
    ≡ None
not_made_if version subject size callers b e no_header = search arith

pub not_made : (version : ℕ) (subject : Subject) (size callers : ℕ)
    → ¬ (limits_of subject version size callers ≡ true)
    → header_of version subject size callers ≡ None
not_made version subject size callers no_header = search (not_made_if, no_header, arith)
