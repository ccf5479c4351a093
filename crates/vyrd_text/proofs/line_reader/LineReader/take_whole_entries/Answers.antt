use Rattle.vyrd_text.proofs.Prelude.{arith, sym, refl, state_of, fault_of}
use Rattle.vyrd_text.proofs.EntrySteps.{nothing_fed, entries_fed, none_mapped}
use Rattle.vyrd_text.proofs.line_reader.LineReader.take_whole_entries.Goals as goal

pub returns-then-not-is_empty-clause-fed : goal.returns-then-not-is_empty-clause-fed
returns-then-not-is_empty-clause-fed c = search (nothing_fed, arith)

pub returns-in_default-clause-fed : goal.returns-in_default-clause-fed
returns-in_default-clause-fed c = nothing_fed c.args.self.now c.args.text.now c.args.out.now.items

pub returns-clause-fed : goal.returns-clause-fed
returns-clause-fed c =
    rw (← c.self.view_is)
    (entries_fed c.in-Some.header (state_of c.self.inside) c.args.text.now
    c.take_entries-count.result.0.now c.args.out.now.items
    c.take_entries-count.new.out.items c.take_entries-count.result.1 c.in-Some.is
    (none_mapped fault_of c.self.inside.fault (sym c.if-is_some.ensures)) c.if-self.false
    c.if-self-2.false (c.if-not-is_empty.ensures.0 refl)
    c.self.invariant.low (omega (arith, c.take_entries-count.ensures.few, c.self.invariant.counted))
    (rw (← c.subject.ensures)
    c.take_entries-count.ensures.read))
