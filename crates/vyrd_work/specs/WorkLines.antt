-- What a line of a workload spells: a guess from its fields, which counts only if its one spelling
-- is the line.
use Rattle.std.specs.Prelude.{ℕ, ◌^◌, Bool, ◌&&◌, nat_lt, nat_le, List, [], ◌∷◌, find, Option, Some}
use Rattle.std.specs.Prelude.{None, option_map, option_and_then, codes, if◌then◌else◌}
use Rattle.std.specs.Str.{bytes_eq}
use Rattle.vyrd_base.specs.declared.header.Header.{Header}
use Rattle.vyrd_base.specs.declared.subject.Subject.{Subject}
use Rattle.vyrd_base.specs.Subjects.{arity_of, are_padded, is_named}
use Rattle.vyrd_base.specs.Lines.{fields_of, number_of, method_called, args_from, subject_called}
use Rattle.vyrd_base.specs.Lines.{header_of}
use Rattle.vyrd_memory.specs.Arguments.{are_small}
use Rattle.vyrd_memory.specs.declared.op.Variant.{Variant}
use Rattle.vyrd_memory.specs.declared.op.Variant.TheVariants.{Correct, Broken}
use Rattle.vyrd_work.specs.declared.line.Item.{Item}
use Rattle.vyrd_work.specs.declared.line.Item.TheVariants as item
use Rattle.vyrd_work.specs.Workloads.{Workload, variant_name, work_header_line, item_line}
use Rattle.vyrd_work.specs.Workloads.{most_turns}

-- the variant of that name
abbrev pub variant_called : List ℕ → Option Variant
variant_called name = find (λ variant. bytes_eq (variant_name variant) name) (Correct ∷ Broken ∷ [])

-- a workload of which no line but the first was read
abbrev pub begun : Variant → Header → Workload
begun variant h = record { header = h; variant = variant; ops = []; turns = [] }

-- the workload that begins with these numbers, if they are within the limits and the line is their
-- spelling
abbrev pub begun_if_spelled : List ℕ → Option Subject → ℕ → ℕ → Option Variant → Option Workload
begun_if_spelled line (Some subject) size callers (Some variant) =
    if bytes_eq (work_header_line subject size callers variant) line
    then option_map (begun variant) (header_of 1 subject size callers)
    else None
begun_if_spelled line None size callers variant = None
begun_if_spelled line (Some subject) size callers None = None

-- the first line names a subject, a size, a number of callers and a variant
abbrev pub begun_from : List ℕ → List (List ℕ) → Option Workload
begun_from line (word ∷ subject ∷ size ∷ callers ∷ variant ∷ more) =
    begun_if_spelled line (subject_called subject) (number_of size) (number_of callers)
    (variant_called variant)
begun_from line _ = None

-- the workload that begins with the line
unfoldable pub begun_in : List ℕ → Option Workload
begun_in line = begun_from line (fields_of line)

-- whether a later line can say this: numbers are in the text's ranges, the method is of the
-- subject, which is built in, arguments that it doesn't have are 0, and turns are from 1 to
-- 4,000,000
abbrev pub is_item_of : Subject → Item → Bool
is_item_of subject (item.Op o) = nat_lt o.caller (2 ^ 32)
    && (is_named o.op.method subject && are_padded (arity_of o.op.method) o.op.args
    && are_small o.op.args)
is_item_of subject (item.Turns t) =
    nat_lt t.caller (2 ^ 32) && (nat_le 1 t.count && nat_le t.count most_turns)

-- a guess at what the fields of a later line say
abbrev pub guessed_item : Subject → List (List ℕ) → Option Item
guessed_item subject (word ∷ caller ∷ x ∷ fields) = if bytes_eq word (codes "op")
    then option_map (λ method. item.Op (record {
      caller = number_of caller;
      op = record { method = method; args = args_from fields };
    })) (method_called subject x)
    else Some (item.Turns (record { caller = number_of caller; count = number_of x }))
guessed_item subject _ = None

-- what a later line says
unfoldable pub item_in : Subject → List ℕ → Option Item
item_in subject line = option_and_then
    (λ x. if is_item_of subject x && bytes_eq (item_line x) line then Some x else None)
    (guessed_item subject (fields_of line))
