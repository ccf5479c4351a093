-- A workload as lists, and its one text: a line for the header, a line for each operation, a line
-- for each number of turns, and the line `end`. Numbers, spaces and line feeds are those of a log.
use Rattle.std.specs.Prelude.{ℕ, List, [], ◌∷◌, ◌++◌, map, codes, decimal, flat_map}
use Rattle.vyrd_base.specs.declared.header.Header.{Header}
use Rattle.vyrd_base.specs.declared.subject.Subject.{Subject}
use Rattle.vyrd_base.specs.Spelling.{spaced, ended_line, subject_name, method_name, arg_fields}
use Rattle.vyrd_base.specs.Spelling.{end_line}
use Rattle.vyrd_memory.specs.declared.op.Turn.{Turn}
use Rattle.vyrd_memory.specs.declared.op.Variant.{Variant}
use Rattle.vyrd_memory.specs.declared.op.Variant.TheVariants.{Correct, Broken}
use Rattle.vyrd_work.specs.declared.work.WorkOp.{WorkOp}
use Rattle.vyrd_work.specs.declared.work.Work.{Work}
use Rattle.vyrd_work.specs.declared.line.Item.{Item}
use Rattle.vyrd_work.specs.declared.line.Item.TheVariants as item

-- the most lines of turns, and the most turns in a line and in all
abbrev pub most_turn_lines : ℕ
most_turn_lines = 200000

abbrev pub most_turns : ℕ
most_turns = 4000000

-- a workload: its header, the variant of the structure, the operations in their order, and the
-- turns in theirs
pub record Workload : Type 0 where
  pub header : Header
  pub variant : Variant
  pub ops : List WorkOp
  pub turns : List Turn

-- the workload that a value holds
abbrev pub workload_of : Work → Workload
workload_of work = record {
  header = work.header;
  variant = work.variant;
  ops = work.ops.items;
  turns = work.turns.items;
}

-- the name of a variant
abbrev pub variant_name : Variant → List ℕ
variant_name Correct = codes "correct"
variant_name Broken = codes "broken"

-- line 1: `work`, the subject, the size, the number of callers, and the variant
abbrev pub work_header_line : Subject → ℕ → ℕ → Variant → List ℕ
work_header_line subject size callers variant =
    spaced (codes "work" ∷ subject_name subject ∷ decimal size ∷ decimal callers
    ∷ variant_name variant ∷ [])

-- the fields of a later line: an operation's are `op`, the caller, the method and its arguments;
-- turns' are `turn`, the caller and the count
abbrev pub item_fields : Item → List (List ℕ)
item_fields (item.Op o) =
    codes "op" ∷ decimal o.caller ∷ method_name o.op.method ∷ arg_fields o.op.method o.op.args
item_fields (item.Turns t) = codes "turn" ∷ decimal t.caller ∷ decimal t.count ∷ []

-- a later line
abbrev pub item_line : Item → List ℕ
item_line x = spaced (item_fields x)

-- what the later lines say: the operations, then the turns
abbrev pub items_of : Workload → List Item
items_of w = map item.Op w.ops ++ map item.Turns w.turns

-- all lines, without their line feeds
abbrev pub lines_of : Workload → List (List ℕ)
lines_of w = work_header_line w.header.subject w.header.size w.header.callers w.variant
    ∷ map item_line (items_of w) ++ end_line ∷ []

-- the text of a workload
unfoldable pub work_text : Workload → List ℕ
work_text w = flat_map ended_line (lines_of w)
