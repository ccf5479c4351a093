use Rattle.std.proofs.Common.{◌∙◌, sym}
use Rattle.vyrd_run_tests.proofs.relay.go_as_two_parcels.Goals as goal

-- the rest is of the sender's caller, which is still 0
pub pushed-requires-then-pushed-eq32-clause-caller :
    goal.pushed-requires-then-pushed-eq32-clause-caller
pushed-requires-then-pushed-eq32-clause-caller g c k d within =
    c.requires.rest k d within ∙ sym (c.pushed.ensures.same.1 ∙ c.requires.sender.1)
