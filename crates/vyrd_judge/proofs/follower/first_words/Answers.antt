use Rattle.vyrd_judge.proofs.Prelude.{◌<◌, ◌^◌, length, ap, sym, subst, ◌∙◌, All, replicate}
use Rattle.vyrd_judge.proofs.Prelude.{plain_words, length-words_at_start, small_at_start}
use Rattle.vyrd_view.specs.Comparing.{AgreeElsewhere}
use Rattle.vyrd_words.proofs.StartWords.{start_within, zero_elsewhere}
use Rattle.vyrd_judge.proofs.follower.first_words.Goals as goal

pub new-requires-clause-all : goal.new-requires-clause-all
new-requires-clause-all g c = ap length c.requires.words
    ∙ length-words_at_start c.args.header c.args.start.now

pub new-requires-clause-values : goal.new-requires-clause-values
new-requires-clause-values g c =
    subst (All (λ value. value < 2 ^ 63)) (sym c.requires.words)
    (small_at_start c.args.header c.args.start.now c.requires.follows)

pub new-requires-clause-changed : goal.new-requires-clause-changed
new-requires-clause-changed g c =
    subst (All (λ w. w < plain_words c.args.header)) (sym c.in_ok-changed.ensures)
    (start_within c.args.header c.args.start.now c.requires.follows)

pub new-requires-clause-elsewhere : goal.new-requires-clause-elsewhere
new-requires-clause-elsewhere g c =
    subst (AgreeElsewhere (replicate (plain_words c.args.header) 0) c.args.words.now)
    (sym c.in_ok-changed.ensures)
    (rw c.requires.words
    (zero_elsewhere c.args.header c.args.start.now))

pub new-requires-clause-compared : goal.new-requires-clause-compared
new-requires-clause-compared g c =
    rw (← c.requires.spec_header) c.in_ok-compared.ensures.new
