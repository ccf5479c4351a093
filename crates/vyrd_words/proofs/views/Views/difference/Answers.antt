use Rattle.std.proofs.Common.{◌∙◌}
use Rattle.vyrd_words.proofs.views.Views.difference.Goals as goal

pub returns-clause-first : goal.returns-clause-first
returns-clause-first g c = λ part rest waits.
    c.specify.ensures.first ∙ c.compare_words.ensures.first
    ∙ c.in_ok-advance.ensures.first part rest waits

pub returns-clause-begun : goal.returns-clause-begun
returns-clause-begun g c = λ part rest waits.
    c.specify.ensures.begun ∙ c.compare_words.ensures.begun
    ∙ c.in_ok-advance.ensures.begun part rest waits
