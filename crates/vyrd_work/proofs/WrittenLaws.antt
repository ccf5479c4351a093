-- What is appended in turn is a workload's text.
use Rattle.vyrd_work.proofs.Prelude.{◌≡◌, ℕ, List, [], ◌∷◌, ◌++◌, map, refl, ap, sym, ◌∙◌}
use Rattle.vyrd_work.proofs.Prelude.{append_assoc, codes, flat_map, ended_line, end_line, Turn}
use Rattle.vyrd_work.proofs.Prelude.{WorkOp, Workload, work_header_line, item_line, work_text}
use Rattle.vyrd_work.specs.declared.line.Item.TheVariants as item

-- the lines of operations, and those of turns
abbrev pub ops_text : List WorkOp → List ℕ
ops_text ops = flat_map (λ o. ended_line (item_line (item.Op o))) ops

abbrev pub turns_text : List Turn → List ℕ
turns_text turns = flat_map (λ t. ended_line (item_line (item.Turns t))) turns

after_turns : (turns : List Turn)
    → flat_map ended_line (map item_line (map item.Turns turns) ++ end_line ∷ []) ≡ turns_text turns
    ++ codes "end\n"
after_turns [] = refl
after_turns (t ∷ turns) =
    ap (λ rest. ended_line (item_line (item.Turns t)) ++ rest) (after_turns turns)
    ∙ sym (append_assoc (ended_line (item_line (item.Turns t))) (turns_text turns) (codes "end\n"))

after_ops : (ops : List WorkOp) (turns : List Turn)
    → flat_map ended_line (map item_line (map item.Op ops ++ map item.Turns turns) ++ end_line ∷ [])
    ≡ ops_text ops ++ (turns_text turns ++ codes "end\n")
after_ops [] turns = after_turns turns
after_ops (o ∷ ops) turns =
    ap (λ rest. ended_line (item_line (item.Op o)) ++ rest) (after_ops ops turns)
    ∙ sym (append_assoc (ended_line (item_line (item.Op o))) (ops_text ops)
    (turns_text turns ++ codes "end\n"))

-- the first line, the operations, the turns and `end` are a workload's text
pub whole_work : (w : Workload) (old first second third : List ℕ)
    → first ≡ old
    ++ ended_line (work_header_line w.header.subject w.header.size w.header.callers w.variant)
    → second ≡ first ++ ops_text w.ops → third ≡ second ++ turns_text w.turns → third
    ++ codes "end\n" ≡ old ++ work_text w
unfolding work_text
whole_work w old first second third e f g =
    let line = ended_line
    (work_header_line w.header.subject w.header.size w.header.callers w.variant) in
    ap (λ t. t ++ codes "end\n")
    (g ∙ ap (λ t. t ++ turns_text w.turns) (f ∙ ap (λ t. t ++ ops_text w.ops) e))
    ∙ append_assoc ((old ++ line) ++ ops_text w.ops) (turns_text w.turns) (codes "end\n")
    ∙ append_assoc (old ++ line) (ops_text w.ops) (turns_text w.turns ++ codes "end\n")
    ∙ append_assoc old line (ops_text w.ops ++ (turns_text w.turns ++ codes "end\n"))
    ∙ ap (λ t. old ++ (line ++ t)) (sym (after_ops w.ops w.turns))
