use Rattle.std.proofs.Common.{codes}
use Rattle.vyrd_text.proofs.WrittenLaws.{appended}
use Rattle.vyrd_mover.proofs.WrittenLaws.{whole_history}
use Rattle.vyrd_mover.proofs.writer.append_history.Goals as goal

pub returns-clause-ok : goal.returns-clause-ok
returns-clause-ok c =
    appended c.extend_from_slice.result c.append_events.new.out.items
    (codes "end\n") c.extend_from_slice.new.self.items _ c.extend_from_slice.ensures.items
    (whole_history c.args.header c.args.history.now c.args.out.now.items
    c.write_history_header.new.out.items c.append_events.new.out.items
    c.in_ok-write_history_header.ensures.ok c.in_ok-append_events.ensures.ok)
