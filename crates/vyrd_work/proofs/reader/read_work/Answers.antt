use Rattle.vyrd_work.proofs.Prelude.{Ok, Err, ap, sym, ◌∙◌, Result, err_from_is_err_and, cut}
use Rattle.vyrd_work.proofs.Prelude.{Workload, workload_of, Refusal, refused, lines_read}
use Rattle.vyrd_work.proofs.Prelude.{work_reading}
use Rattle.vyrd_work.proofs.WalkLaws.{first_step, first_last, refusal_first}
use Rattle.vyrd_work.proofs.TextLaws.{reading_sound}
use Rattle.vyrd_work.proofs.reader.read_work.Goals as goal

pub returns-in_default-clause-refused : goal.returns-in_default-clause-refused
returns-in_default-clause-refused c = first_last c.args.bytes.now c.in_default.ensures
    ∙ ap (refused 1) (sym c.unfinished_rule.ensures)

pub returns-in_err-work-clause-refused : goal.returns-in_err-work-clause-refused
returns-in_err-work-clause-refused c =
    let p = err_from_is_err_and c.from_residual.result c.from_residual.ensures.1 in
    rw p.1 (rw p.2 (rw c.in-Some.ensures.1
    (refusal_first c.in_err-work.field-0.0 c.in-Some.line.now c.in-Some.rest.now c.in-Some.ensures.0
    c.in_err-work.ensures.err)))

pub returns-in_err-read_lines-clause-refused : goal.returns-in_err-read_lines-clause-refused
returns-in_err-read_lines-clause-refused c =
    let line = c.in-Some.line.now in
    let rest = c.in-Some.rest.now in
    let on = ap work_reading c.in-Some.ensures.1 ∙ first_step line rest c.in-Some.ensures.0
    ∙ ap (λ r. elim r as (λ _. Result Workload Refusal) [
      | Ok w ↦ lines_read w 2
          (cut rest)
      | Err rule ↦ refused 1 rule
    ]) c.in_ok-work.ensures.ok in
    let p = err_from_is_err_and c.from_residual-in_err-read_lines.result
    c.from_residual-in_err-read_lines.ensures.1 in
    rw p.1 (rw p.2 (rw on c.in_err-read_lines.ensures.err))

pub returns-clause-work : goal.returns-clause-work
returns-clause-work c =
    let line = c.in-Some.line.now in
    let rest = c.in-Some.rest.now in
    ap work_reading c.in-Some.ensures.1 ∙ first_step line rest c.in-Some.ensures.0
    ∙ ap (λ r. elim r as (λ _. Result Workload Refusal) [
      | Ok w ↦ lines_read w 2
          (cut rest)
      | Err rule ↦ refused 1 rule
    ]) c.in_ok-work.ensures.ok
    ∙ c.in_ok-read_lines.ensures.ok

pub returns-clause-limits : goal.returns-clause-limits
returns-clause-limits c =
    let line = c.in-Some.line.now in
    let rest = c.in-Some.rest.now in
    let read = ap work_reading c.in-Some.ensures.1 ∙ first_step line rest c.in-Some.ensures.0
    ∙ ap (λ r. elim r as (λ _. Result Workload Refusal) [
      | Ok w ↦ lines_read w 2
          (cut rest)
      | Err rule ↦ refused 1 rule
    ]) c.in_ok-work.ensures.ok
    ∙ c.in_ok-read_lines.ensures.ok in
    (reading_sound c.args.bytes.now (workload_of c.read_lines.new.work) read).limits
