use Rattle.vyrd_shadow.proofs.Prelude.{[], ◌∙◌, ap, sym, subst, IfOk-weaker, replicate, HasFollowed}
use Rattle.vyrd_shadow.proofs.FollowLaws.{followed_start, zeros_at_start}
use Rattle.vyrd_shadow.proofs.shadow.Shadow.new.Goals as goal

pub returns-clause-followed : goal.returns-clause-followed
returns-clause-followed c =
    let words = c.in_ok-words.ensures.items_if_clones_equal (λ y e. e) in
    IfOk-weaker c.of_words.result _ _ (λ s is. subst (λ kept. HasFollowed kept [] []) (sym is)
    (followed_start c.args.header [] c.in_ok-words.words.items []
    (words ∙ ap (λ n. replicate n 0) c.plain_words.ensures ∙ zeros_at_start c.args.header)))
    c.of_words.ensures
