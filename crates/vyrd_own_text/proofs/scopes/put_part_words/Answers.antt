use Rattle.vyrd_own_text.proofs.Prelude.{◌≡◌, ◌++◌, take, subst, IfOk, texts}
use Rattle.vyrd_base.specs.Own.Names.{words_of_parts}
use Rattle.vyrd_own_text.proofs.scopes.put_part_words.Goals as goal

pub returns : goal.returns
unfolding words_of_parts
returns c =
    subst (λ n. IfOk c.put_first_words.result (λ x. texts c.put_first_words.new.all.items
    ≡ texts c.args.all.now.items ++ take n words_of_parts))
    c.min.ensures c.put_first_words.ensures
