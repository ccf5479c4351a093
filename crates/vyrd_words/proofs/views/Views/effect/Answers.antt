use Rattle.vyrd_words.proofs.Prelude.{◌<◌, sym, subst, arith, plain_words, Cuts}
use Rattle.vyrd_words.proofs.CutLaws.{one_waits, first_more, since_more, none_since, some_wait}
use Rattle.vyrd_words.proofs.CutLaws.{first_at_once, since_at_once}
use Rattle.vyrd_words.proofs.FewLaws.{begun_none, begun_more, begun_grows}
use Rattle.vyrd_words.proofs.views.Views.effect.Goals as goal

pub take_effect-requires-clause-none_waits : goal.take_effect-requires-clause-none_waits
take_effect-requires-clause-none_waits = grind (arith, none_since)

pub returns-then-is_empty-clause-first : goal.returns-then-is_empty-clause-first
returns-then-is_empty-clause-first = grind (arith, none_since, first_at_once)

pub returns-then-is_empty-clause-since : goal.returns-then-is_empty-clause-since
returns-then-is_empty-clause-since = grind (arith, none_since, since_at_once)

pub invariant_of-self-else-is_empty : goal.invariant_of-self-else-is_empty
invariant_of-self-else-is_empty g c =
    let i = c.self.inside in
    rw (c.in_ok-push_back.ensures.items, c.new.ensures) (
      (one_waits i.header i.words.items i.counts i.writes.items i.tail c.args.word c.args.value
          (subst (λ (v : Cuts). c.args.word < plain_words v.header) (sym c.self.view_is)
          c.requires.word) c.requires.value c.self.invariant.0),
      c.self.invariant.1,
    )

pub returns-in_ok-push_back-clause-first : goal.returns-in_ok-push_back-clause-first
returns-in_ok-push_back-clause-first = grind (arith, first_more, some_wait)

pub returns-in_ok-push_back-clause-since : goal.returns-in_ok-push_back-clause-since
returns-in_ok-push_back-clause-since = grind (arith, since_more, some_wait)

pub returns-then-is_empty-clause-begun : goal.returns-then-is_empty-clause-begun
returns-then-is_empty-clause-begun = grind (arith, begun_none)

pub returns-in_ok-push_back-clause-begun : goal.returns-in_ok-push_back-clause-begun
returns-in_ok-push_back-clause-begun = grind (arith, begun_more, some_wait, begun_grows)
