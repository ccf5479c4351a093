use Rattle.vyrd_mover.proofs.Prelude.{◌∙◌, ap, sym, cond, isnt_some, AfterEnd, BadLine, refused}
use Rattle.vyrd_mover.proofs.Prelude.{unless_too_many}
use Rattle.vyrd_mover.proofs.LinesLaws.{value_of, long_first, long_later}
use Rattle.vyrd_mover.proofs.lines.Lines.break_long_line.Goals as goal
use Rattle.vyrd_mover.proofs.lines.Lines.break_long_line.Goals.{then-is_none}
use Rattle.vyrd_mover.proofs.lines.Lines.break_long_line.Goals.{else-is_none+then-self}
use Rattle.vyrd_mover.proofs.lines.Lines.break_long_line.Goals.{else-is_none+else-self}

pub returns : goal.returns
returns c = λ bytes more at lack long rest.
    let l = c.args.self.now in
    let fine = isnt_some l.fault (sym c.if-is_some.ensures) in
    let rule = ap (refused l.line) (sym c.unless_too_many.ensures) in
    elim c.if-is_none.branch [
      | then-is_none w ↦
          long_first l bytes more rest fine (isnt_some l.events w.if-is_none.ensures) at lack long
          ∙ ap (λ r. refused l.line (unless_too_many l.line r)) (sym w.rule-is) ∙ rule
      | else-is_none+then-self w ↦
          let later = value_of l.events w.if-is_none.ensures in
          long_later l later.value bytes more rest fine later.is at lack long
          ∙ ap (λ d. refused l.line (unless_too_many l.line (cond d AfterEnd BadLine)))
          w.if-self.true
          ∙ ap (λ r. refused l.line (unless_too_many l.line r)) (sym w.rule-is) ∙ rule
      | else-is_none+else-self w ↦
          let later = value_of l.events w.if-is_none.ensures in
          long_later l later.value bytes more rest fine later.is at lack long
          ∙ ap (λ d. refused l.line (unless_too_many l.line (cond d AfterEnd BadLine)))
          w.if-self.false
          ∙ ap (λ r. refused l.line (unless_too_many l.line r)) (sym w.rule-is) ∙ rule
    ]
