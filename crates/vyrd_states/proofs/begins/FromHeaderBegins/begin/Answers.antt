use Rattle.vyrd_states.proofs.Prelude.{ap, subst, sym, ◌∙◌, length, ◌<◌, ◌^◌, All}
use Rattle.std.proofs.lemmas.Result.{IfOk-weaker}
use Rattle.vyrd_witness.proofs.StartWords.{length_start}
use Rattle.vyrd_states.proofs.StartLaws.{begins_so, words_small}
use Rattle.vyrd_states.proofs.begins.FromHeaderBegins.begin.Goals as goal

pub start_from-requires-clause-count : goal.start_from-requires-clause-count
start_from-requires-clause-count c =
    ap length (c.deref.ensures.value ∙ c.in_ok-words.ensures)
    ∙ length_start c.args.self.now.header c.args.starting.now

pub start_from-requires-clause-small : goal.start_from-requires-clause-small
start_from-requires-clause-small c =
    subst (All (λ value. value < 2 ^ 63)) (sym (c.deref.ensures.value ∙ c.in_ok-words.ensures))
    (words_small c.args.self.now.header c.args.starting.now
    (c.requires.may_start c.args.self.now.built_in))

pub returns-clause-state : goal.returns-clause-state
returns-clause-state c =
    IfOk-weaker c.start_from.result _ _ (λ found is. is
    ∙ begins_so c.args.self.now.header c.args.starting.now c.deref.result.now
    (c.deref.ensures.value ∙ c.in_ok-words.ensures)) c.start_from.ensures.state
