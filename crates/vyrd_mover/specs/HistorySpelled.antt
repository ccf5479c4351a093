-- What the parts of a history's lines spell: the reader of a part finds exactly what has the text
-- as its spelling.
use Rattle.std.specs.Prelude.{◌≡◌, ℕ, ◌<◌, ◌^◌, Bool, true, false, ◌&&◌, nat_lt, List, [], ◌∷◌}
use Rattle.std.specs.Prelude.{◌++◌, Option, Some, None, codes, decimal}
use Rattle.vyrd_base.specs.declared.subject.Subject.{Subject}
use Rattle.vyrd_base.specs.Subjects.{is_built_in}
use Rattle.vyrd_base.specs.declared.history.Did.{Did}
use Rattle.vyrd_base.specs.declared.history.Did.TheVariants.{Read, Wrote, Took, Gave, Marked}
use Rattle.vyrd_base.specs.declared.history.Stamped.{Stamped}
use Rattle.vyrd_mover.specs.HistoryText.{history_header_line, event_line}

-- the size and the number of callers whose text it is
abbrev pub AreBoundsRead : List ℕ → Option (ℕ × ℕ) → Type 0
AreBoundsRead text None = (size callers : ℕ) → size < 2 ^ 32 → callers < 2 ^ 32
    → text ≡ decimal size ++ 32 ∷ decimal callers → ⊥
AreBoundsRead text (Some (size, callers)) = text ≡ decimal size ++ 32 ∷ decimal callers

-- the built-in subject, the size and the number of callers whose line it is
abbrev pub IsFirstRead : List ℕ → Option (Subject × ℕ × ℕ) → Type 0
IsFirstRead line None = (subject : Subject) (size callers : ℕ) → is_built_in subject ≡ true
    → size < 2 ^ 32 → callers < 2 ^ 32 → line ≡ history_header_line subject size callers → ⊥
IsFirstRead line (Some (subject, size, callers)) =
    (is_built_in subject ≡ true) × (line ≡ history_header_line subject size callers)

-- whether it is a read, a write, a take or a give whose numbers are in the text's ranges
abbrev pub is_act : Did → Bool
is_act (Read cell value) = nat_lt cell (2 ^ 32) && nat_lt value (2 ^ 64)
is_act (Wrote cell value) = nat_lt cell (2 ^ 32) && nat_lt value (2 ^ 64)
is_act (Took lock) = nat_lt lock (2 ^ 32)
is_act (Gave lock) = nat_lt lock (2 ^ 32)
is_act (Marked kind) = false

-- the text of such an event after the caller and a space
abbrev pub act_text : Did → List ℕ
act_text (Read cell value) = codes "read " ++ (decimal cell ++ 32 ∷ decimal value)
act_text (Wrote cell value) = codes "wrote " ++ (decimal cell ++ 32 ∷ decimal value)
act_text (Took lock) = codes "took " ++ decimal lock
act_text (Gave lock) = codes "gave " ++ decimal lock
act_text (Marked kind) = []

-- the cell below 2^32 and the value below 2^64 whose text it is
abbrev pub IsPairRead : List ℕ → Option (ℕ × ℕ) → Type 0
IsPairRead text None = (cell value : ℕ) → cell < 2 ^ 32 → value < 2 ^ 64
    → text ≡ decimal cell ++ 32 ∷ decimal value → ⊥
IsPairRead text (Some (cell, value)) = text ≡ decimal cell ++ 32 ∷ decimal value

-- the read, write, take or give whose text it is
abbrev pub IsActRead : List ℕ → Option Did → Type 0
IsActRead text None = (did : Did) → is_act did ≡ true → text ≡ act_text did → ⊥
IsActRead text (Some did) = (is_act did ≡ true) × (text ≡ act_text did)

-- the event with this number, a read, write, take or give, whose line it is
abbrev pub IsStampedRead : ℕ → List ℕ → Option Stamped → Type 0
IsStampedRead number line None =
    (e : Stamped) → e.caller < 2 ^ 32 → is_act e.did ≡ true → line ≡ event_line e → ⊥
IsStampedRead number line (Some e) =
    (e.number ≡ number) × (e.caller < 2 ^ 32) × (is_act e.did ≡ true) × (line ≡ event_line e)
