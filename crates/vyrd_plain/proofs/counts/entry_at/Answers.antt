use Rattle.vyrd_plain.proofs.Prelude.{take, newest_first, caller_kept, kept_at}
use Rattle.vyrd_plain.proofs.counts.entry_at.Goals as goal

pub returns-clause-caller : goal.returns-clause-caller
returns-clause-caller c = λ h kept.
    caller_kept h (newest_first (take c.args.at c.args.entries.now)) _
    (kept_at h c.args.entries.now c.args.at _ c.requires kept)
