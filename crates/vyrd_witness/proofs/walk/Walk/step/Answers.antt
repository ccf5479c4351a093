use Rattle.vyrd_witness.proofs.Prelude.{arith, slice_get-is}
use Rattle.vyrd_witness.proofs.PhaseLaws.{caller_low, caller_inside, phase_kept, phases_next}
use Rattle.vyrd_witness.proofs.walk.Walk.step.Goals as goal

pub index-phase-requires : goal.index-phase-requires
index-phase-requires c =
    let within = caller_inside c.args.header c.args.front.now c.args.at c.entry_at-entry.result
    c.args.self.now.phases.items c.entry_at-entry.ensures c.requires.kept c.requires.here in
    omega (arith, within, c.args.self.now.phases.ok.0)

pub effects_by-requires-clause-phase : goal.effects_by-requires-clause-phase
effects_by-requires-clause-phase c =
    let h = c.args.header in
    let front = c.args.front.now in
    let e = c.entry_at-entry.result in
    let here = c.entry_at-entry.ensures in
    let phases = c.args.self.now.phases.items in
    let within = caller_inside h front c.args.at e phases here c.requires.kept c.requires.here in
    phase_kept h e.caller phases c.index-phase.result.now _ c.requires.here
    (caller_low h front c.args.at e here c.requires.kept)
    (slice_get-is phases e.caller c.index-phase.result.now within c.index-phase.ensures)

pub index_mut-requires : goal.index_mut-requires
index_mut-requires c =
    let within = caller_inside c.args.header c.args.front.now c.args.at c.entry_at-entry.result
    c.args.self.now.phases.items c.entry_at-entry.ensures c.requires.kept c.requires.here in
    omega (arith, within, c.args.self.now.phases.ok.0)

pub returns-clause-next : goal.returns-clause-next
returns-clause-next c =
    let h = c.args.header in
    let front = c.args.front.now in
    let e = c.entry_at-entry.result in
    let here = c.entry_at-entry.ensures in
    let phases = c.args.self.now.phases.items in
    let within = caller_inside h front c.args.at e phases here c.requires.kept c.requires.here in
    phases_next h front c.args.at e phases c.index-phase.result.now c.phase_after.result here
    c.requires.here (caller_low h front c.args.at e here c.requires.kept)
    (slice_get-is phases e.caller c.index-phase.result.now within c.index-phase.ensures)
    c.phase_after.ensures
