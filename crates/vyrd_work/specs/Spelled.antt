-- What the parts of a workload's lines spell: the reader of a part finds exactly what has the text
-- as its spelling.
use Rattle.std.specs.Prelude.{◌≡◌, ℕ, ◌<◌, ◌^◌, true, List, ◌∷◌, ◌++◌, Option, Some, None, decimal}
use Rattle.vyrd_base.specs.declared.subject.Subject.{Subject}
use Rattle.vyrd_base.specs.Subjects.{is_built_in}
use Rattle.vyrd_memory.specs.declared.op.Variant.{Variant}
use Rattle.vyrd_work.specs.declared.line.Item.{Item}
use Rattle.vyrd_work.specs.Workloads.{variant_name, work_header_line, item_line}
use Rattle.vyrd_work.specs.WorkLines.{is_item_of}

-- the variant whose name it is
abbrev pub IsVariantRead : List ℕ → Option Variant → Type 0
IsVariantRead text None = (variant : Variant) → text ≡ variant_name variant → ⊥
IsVariantRead text (Some variant) = text ≡ variant_name variant

-- the size, the number of callers and the variant whose text it is
abbrev pub AreBoundsRead : List ℕ → Option (ℕ × ℕ × Variant) → Type 0
AreBoundsRead text None = (size callers : ℕ) (variant : Variant) → size < 2 ^ 32 → callers < 2 ^ 32
    → text ≡ decimal size ++ 32 ∷ (decimal callers ++ 32 ∷ variant_name variant) → ⊥
AreBoundsRead text (Some (size, callers, variant)) =
    text ≡ decimal size ++ 32 ∷ (decimal callers ++ 32 ∷ variant_name variant)

-- the built-in subject, the size, the number of callers and the variant whose text it is
abbrev pub IsFirstRead : List ℕ → Option (Subject × ℕ × ℕ × Variant) → Type 0
IsFirstRead line None = (subject : Subject) (size callers : ℕ) (variant : Variant)
    → is_built_in subject ≡ true → size < 2 ^ 32 → callers < 2 ^ 32
    → line ≡ work_header_line subject size callers variant → ⊥
IsFirstRead line (Some (subject, size, callers, variant)) =
    (is_built_in subject ≡ true) × (line ≡ work_header_line subject size callers variant)

-- the operation of the subject, or the turns, whose line it is
abbrev pub IsItemRead : Subject → List ℕ → Option Item → Type 0
IsItemRead subject line None = (x : Item) → is_item_of subject x ≡ true → line ≡ item_line x → ⊥
IsItemRead subject line (Some x) = (is_item_of subject x ≡ true) × (line ≡ item_line x)
