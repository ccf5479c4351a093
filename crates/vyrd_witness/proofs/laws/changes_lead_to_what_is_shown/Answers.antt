use Rattle.vyrd_witness.proofs.ChangeLaws.{leads}
use Rattle.vyrd_witness.proofs.laws.changes_lead_to_what_is_shown.Goals as goal

pub returns : goal.returns
returns c = leads
