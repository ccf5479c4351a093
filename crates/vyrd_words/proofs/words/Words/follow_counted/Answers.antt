use Rattle.std.proofs.Common.{◌+◌}
use Rattle.vyrd_shadow.specs.Costs.{owed}
use Rattle.vyrd_words.proofs.PriceLaws.{owed_priced, priced_at_most}
use Rattle.vyrd_words.proofs.words.Words.follow_counted.Goals as goal

pub returns-clause-steps : goal.returns-clause-steps
returns-clause-steps g c = λ starting earlier has keeps counted.
    let before = c.args.self.now in
    let after = c.follow_kind.new.self in
    owed_priced c.follow_kind.result (g.C.Compare.price before.views.shows) before.shadow starting
    before.inner earlier c.args.entry
    (c.args.steps.now + owed before.shadow + before.views.pending)
    (c.follow_kind.new.steps + owed after.shadow + after.views.pending) has keeps
    (c.follow_kind.ensures.steps starting earlier has keeps counted)

pub returns-clause-most : goal.returns-clause-most
returns-clause-most g c = λ starting earlier has keeps counted.
    let before = c.args.self.now in
    priced_at_most (g.C.Compare.price before.views.shows) before.shadow starting before.inner
    earlier c.args.entry
    (c.args.steps.now + owed before.shadow + before.views.pending) c.follow_kind.new.steps has keeps
    (c.follow_kind.ensures.most starting earlier has keeps counted)
