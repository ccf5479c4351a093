use Rattle.vyrd_own_states.proofs.Prelude.{ap, ◌∙◌, amount_of}
use Rattle.vyrd_own_states.proofs.OwnShownLaws.{are_whole, whole_seen}
use Rattle.vyrd_own_states.proofs.own_shown.OwnShownShown.amount.Goals as goal

pub returns : goal.returns
returns c =
    let known = are_whole c.self.view_is c.self.invariant.0 c.requires.count
    c.self.inside.parts.width_is c.self.invariant.2 c.parts.ensures c.width.ensures in
    c.amount_by.ensures ∙ ap (λ view. amount_of view c.args.key) (whole_seen known)
