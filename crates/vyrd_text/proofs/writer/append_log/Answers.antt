use Rattle.vyrd_text.proofs.Prelude.{codes, ◌++◌, ◌∙◌, append_assoc, ap, flat_map, ended_line}
use Rattle.vyrd_text.proofs.Prelude.{start_line, header_line}
use Rattle.std.proofs.lemmas.Result.{err_from_is_err_and}
use Rattle.vyrd_text.proofs.WrittenLaws.{front_of_front, appended, whole_log}
use Rattle.vyrd_text.proofs.writer.append_log.Goals as goal

pub returns-in_err-append_start-clause-err : goal.returns-in_err-append_start-clause-err
returns-in_err-append_start-clause-err c =
    let p = err_from_is_err_and c.from_residual-in_err-append_start.result
    c.from_residual-in_err-append_start.ensures.1 in
    rw p.1 (front_of_front c.args.out.now.items
    (ended_line (header_line c.args.header.version c.args.header.subject c.args.header.size
    c.args.header.callers))
    c.write_header.new.out.items c.append_start.new.out.items c.in_ok-write_header.ensures.ok
    c.in_err-append_start.ensures.err)

pub returns-in_err-append_entries-clause-err : goal.returns-in_err-append_entries-clause-err
returns-in_err-append_entries-clause-err c =
    let p = err_from_is_err_and c.from_residual-in_err-append_entries.result
    c.from_residual-in_err-append_entries.ensures.1 in
    let line = ended_line
    (header_line c.args.header.version c.args.header.subject c.args.header.size
    c.args.header.callers) in
    let starts = flat_map (λ s. ended_line (start_line s)) c.args.start.now in
    rw p.1 (front_of_front c.args.out.now.items (line ++ starts) c.append_start.new.out.items
    c.append_entries.new.out.items
    (c.in_ok-append_start.ensures.ok ∙ ap (λ t. t ++ starts) c.in_ok-write_header.ensures.ok
    ∙ append_assoc c.args.out.now.items line starts)
    c.in_err-append_entries.ensures.err)

pub returns-clause-ok : goal.returns-clause-ok
returns-clause-ok c =
    appended c.extend_from_slice.result c.append_entries.new.out.items
    (codes "end\n") c.extend_from_slice.new.self.items _ c.extend_from_slice.ensures.items
    (whole_log c.args.header c.args.start.now c.args.entries.now c.args.out.now.items
    c.write_header.new.out.items c.append_start.new.out.items
    c.append_entries.new.out.items c.in_ok-write_header.ensures.ok c.in_ok-append_start.ensures.ok
    c.in_ok-append_entries.ensures.ok)
