use Rattle.vyrd_own_states.proofs.Prelude.{◌≡◌, ◌++◌, subst, OnOk}
use Rattle.vyrd_own_states.proofs.OwnGivenLaws.{own_parts_told}
use Rattle.vyrd_own_states.proofs.own_shown.OwnShownShown.put_parts.Goals as goal

pub returns : goal.returns
returns c =
    let parts = c.self.inside.parts in
    subst (λ given. OnOk c.put_given.result
    (c.put_given.new.parts.items ≡ c.args.parts.now.items ++ given))
    (own_parts_told c.args.words.now c.self.view_is c.self.invariant.0 c.requires.count
    parts.width_is parts.few c.self.invariant.2 c.parts.ensures c.width.ensures c.args.key)
    c.put_given.ensures
