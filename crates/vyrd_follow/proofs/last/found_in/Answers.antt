use Rattle.vyrd_follow.proofs.Prelude.{[], ◌∷◌, ◌++◌, None, take, filter_map, ap, ◌∙◌, sym}
use Rattle.vyrd_follow.proofs.Prelude.{append-nil, cons_option, filter_map_more}
use Rattle.vyrd_follow.proofs.last.found_in.Goals as goal
use Rattle.vyrd_follow.proofs.last.found_in.Goals.{in-Some+in_ok-push, in_default}

pub loop-item-preserved : goal.loop-item-preserved
loop-item-preserved c =
    let i = c.loop-item.item-index in
    let before = filter_map (λ o. o) (take i c.args.last.now) in
    let more = filter_map_more (λ o. o) c.args.last.now i None c.loop-item-test.true in
    elim c.match-item.branch [
      | in-Some+in_ok-push w ↦
          ap (λ v. v.items) w.found-is ∙ w.in_ok-push.ensures.items
          ∙ ap (λ xs. xs ++ w.in-Some.item ∷ []) c.loop-item.invariant
          ∙ ap (λ o. before ++ cons_option o []) (sym w.in-Some.is) ∙ sym more
      | in_default w ↦
          ap (λ v. v.items) w.found-is ∙ c.loop-item.invariant ∙ sym (append-nil before)
          ∙ ap (λ o. before ++ cons_option o []) (sym w.in_default.is) ∙ sym more
    ]
