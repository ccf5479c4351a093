use Rattle.vyrd_shadow.proofs.Prelude.{[], ◌∙◌, sym, subst, IfOk-weaker, HasFollowed}
use Rattle.vyrd_shadow.proofs.FollowLaws.{followed_start}
use Rattle.vyrd_shadow.proofs.shadow.Shadow.start_from.Goals as goal

pub returns-clause-followed : goal.returns-clause-followed
returns-clause-followed c = λ starting at_start.
    let words = c.in_ok-to_vec.ensures.items_if_clones_equal (λ x y e. e) in
    IfOk-weaker c.of_words.result _ _ (λ s is. subst (λ kept. HasFollowed kept starting []) (sym is)
    (followed_start c.args.header starting c.in_ok-to_vec.field-0.items [] (words ∙ at_start)))
    c.of_words.ensures
