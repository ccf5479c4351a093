use Rattle.vyrd_witness.proofs.Prelude.{ap, ◌∙◌, ◌++◌, ◌∷◌, [], map, option_map_or, given_items}
use Rattle.vyrd_witness.specs.declared.item.Item.TheVariants.{Shown, Changed}
use Rattle.vyrd_witness.specs.Items.{agreed_item, witness_items, execution_items, execution_at}
use Rattle.vyrd_witness.proofs.items.view_items.Goals as goal

pub returns : goal.returns
returns g c =
    let at = c.args.at in
    let w = c.in_ok-witness.ensures in
    c.in_ok-push_witness.ensures
    ∙ ap (λ xs. xs ++ witness_items at c.in_ok-witness.witness) c.in_ok-items.ensures
    ∙ (λ i. option_map_or execution_items (execution_at c.args.front.now at) []
    ++ (agreed_item (w.key_is i) (w.since i) (w.agreed i) ∷ Shown at (w.key_is i) (w.shown i)
    ∷ (given_items at (w.key_is i) (w.parts i) ++ map (Changed (w.key_is i)) (w.changes i))))
