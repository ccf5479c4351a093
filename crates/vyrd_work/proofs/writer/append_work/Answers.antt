use Rattle.vyrd_work.proofs.Prelude.{codes, ap, ◌++◌, ◌∙◌, append_assoc, err_from_is_err_and}
use Rattle.vyrd_work.proofs.Prelude.{ended_line, workload_of, work_header_line}
use Rattle.vyrd_text.proofs.WrittenLaws.{front_of_front, appended}
use Rattle.vyrd_work.proofs.WrittenLaws.{ops_text, whole_work}
use Rattle.vyrd_work.proofs.writer.append_work.Goals as goal

pub returns-in_err-append_ops-clause-err : goal.returns-in_err-append_ops-clause-err
returns-in_err-append_ops-clause-err c =
    let w = workload_of c.args.work.now in
    let p = err_from_is_err_and c.from_residual-in_err-append_ops.result
    c.from_residual-in_err-append_ops.ensures.1 in
    rw p.1 (front_of_front c.args.out.now.items
    (ended_line (work_header_line w.header.subject w.header.size w.header.callers w.variant))
    c.append_header.new.out.items c.append_ops.new.out.items c.in_ok-append_header.ensures.ok
    c.in_err-append_ops.ensures.err)

pub returns-in_err-append_turns-clause-err : goal.returns-in_err-append_turns-clause-err
returns-in_err-append_turns-clause-err c =
    let w = workload_of c.args.work.now in
    let line = ended_line
    (work_header_line w.header.subject w.header.size w.header.callers w.variant) in
    let p = err_from_is_err_and c.from_residual-in_err-append_turns.result
    c.from_residual-in_err-append_turns.ensures.1 in
    let old = c.args.out.now.items in
    let ops = c.deref.result.now in
    let two = c.in_ok-append_ops.ensures.ok
    ∙ ap (λ t. t ++ ops_text ops) c.in_ok-append_header.ensures.ok
    ∙ append_assoc old line (ops_text ops) in
    rw p.1 (front_of_front old (line ++ ops_text ops) c.append_ops.new.out.items
    c.append_turns.new.out.items two c.in_err-append_turns.ensures.err)

pub returns-clause-ok : goal.returns-clause-ok
returns-clause-ok c =
    let w = workload_of c.args.work.now in
    appended c.extend_from_slice.result c.append_turns.new.out.items
    (codes "end\n") c.extend_from_slice.new.self.items _ c.extend_from_slice.ensures.items
    (whole_work w c.args.out.now.items c.append_header.new.out.items c.append_ops.new.out.items
    c.append_turns.new.out.items
    c.in_ok-append_header.ensures.ok (rw c.deref.ensures.value at c.in_ok-append_ops.ensures.ok)
    (rw c.deref-2.ensures.value at c.in_ok-append_turns.ensures.ok))
