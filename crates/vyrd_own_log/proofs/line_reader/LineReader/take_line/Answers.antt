use Rattle.vyrd_own_log.proofs.Prelude.{sym, subst, arith, Found, LineState, IsSteady, state_of}
use Rattle.vyrd_own_log.proofs.SteadyLaws.{entry_is, starts_is}
use Rattle.vyrd_own_log.proofs.line_reader.LineReader.take_line.Goals as goal

pub returns-in-Starts-clause-steady : goal.returns-in-Starts-clause-steady
returns-in-Starts-clause-steady c =
    subst (λ (s : LineState × Found). IsSteady s.0) (sym c.take_start.ensures.step)
    (starts_is (state_of c.args.self.now) c.args.line.now c.requires
    (omega arith) c.in-Starts.header c.in-Starts.last).steady

pub returns-in-Entries-clause-steady : goal.returns-in-Entries-clause-steady
returns-in-Entries-clause-steady c =
    subst (λ (s : LineState × Found). IsSteady s.0) (sym c.take_entry.ensures.step)
    (entry_is (state_of c.args.self.now) c.args.line.now c.requires
    (omega arith) c.in-Entries.header).steady
