use Rattle.vyrd_own_states.proofs.Prelude.{ℕ, List, ◌≡◌, length, ap, subst, ◌∙◌, IfOk, option_map}
use Rattle.vyrd_own_states.proofs.Prelude.{arc_value, own, rules_by, state_at_start, OwnSpec}
use Rattle.vyrd_witness.proofs.StartWords.{length_start}
use Rattle.vyrd_own_spec.proofs.StandingLaws.{own_plain}
use Rattle.vyrd_own_states.proofs.BeginLaws.{begins_so}
use Rattle.vyrd_own_states.proofs.begins.FromSpecificationBegins.begin.Goals as goal

pub start-requires-clause-count : goal.start-requires-clause-count
start-requires-clause-count c =
    ap length (c.deref.ensures.value ∙ c.in_ok-words.ensures)
    ∙ length_start c.args.self.now.header c.args.starting.now
    ∙ own_plain c.args.self.now.header c.args.self.now.subject

pub returns-clause-state : goal.returns-clause-state
returns-clause-state c =
    let h = c.args.self.now.header in
    let starting = c.args.starting.now in
    subst (λ (lines : List (List ℕ)). IfOk c.start.result
    (λ o. option_map (λ (s : OwnSpec). s.state) o
    ≡ state_at_start (rules_by (own h lines)) starting)) c.in_ok-specification.ensures
    (begins_so h (arc_value c.in_ok-specification.specification) starting c.deref.result.now
    c.start.result
    (c.deref.ensures.value ∙ c.in_ok-words.ensures) c.start.ensures.none c.start.ensures.state)
