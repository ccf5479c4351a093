use Rattle.vyrd_own_check.proofs.Prelude.{is_none, own, rules_by, state_at_start, State, texts}
use Rattle.std.proofs.Common.{◌*◌, not, ◌≡◌, ℕ, ◌+◌, List, length, Some, ap, sym, ◌∙◌}
use Rattle.vyrd_base.specs.Own.OwnRules.{own_start, own_view, may_stand}
use Rattle.vyrd_base.specs.Own.Reader.{written_in}
use Rattle.vyrd_words.proofs.StartWords.{length-words_at_start}
use Rattle.vyrd_own_spec.proofs.StandingLaws.{own_plain, stands_for_none, stands_for}
use Rattle.vyrd_judge.specs.Costs.{start_cost}
use Rattle.vyrd_own_check.specs.Costs.{word_price, shown_count}
use Rattle.vyrd_own_check.proofs.starting.start_judge.Goals as goal

pub start-requires-clause-count : goal.start-requires-clause-count
start-requires-clause-count c =
    ap length (c.deref.ensures.value ∙ c.in_ok-words.ensures)
    ∙ length-words_at_start c.args.header c.args.start.now
    ∙ own_plain c.args.header c.requires.own

pub returns-in_default : goal.returns-in_default
returns-in_default c =
    let spelled = c.in_ok-shared.ensures.ok ∙ c.in_ok-specification.ensures in
    stands_for_none c.args.header (texts c.args.lines.now) c.args.start.now c.deref.result.now
    (c.deref.ensures.value ∙ c.in_ok-words.ensures)
    (sym (ap is_none c.in_default.is) ∙ c.in_ok-spec.ensures.none
    ∙ ap (λ (lines : List (List ℕ)). not (may_stand (written_in lines) c.deref.result.now)) spelled)

pub begin-requires-clause-state : goal.begin-requires-clause-state
begin-requires-clause-state c =
    let spec = c.in-Some.spec in
    let known = rw c.in-Some.is at c.in_ok-spec.ensures in
    let spelled = c.in_ok-shared.ensures.ok ∙ c.in_ok-specification.ensures in
    (λ i. state_at_start (rules_by (own (known.header i) ((known.lines ∙ spelled) i)))
    c.args.start.now)
    ∙ stands_for c.args.header (texts c.args.lines.now) c.args.start.now c.deref.result.now
    (c.deref.ensures.value ∙ c.in_ok-words.ensures)
    (known.none ∙ ap
    (λ (lines : List (List ℕ)). not (may_stand (written_in lines) c.deref.result.now)) spelled)
    ∙ sym (ap Some (known.state
    ∙ ap (λ (lines : List (List ℕ)). own_start (written_in lines) c.deref.result.now) spelled))

pub returns : goal.returns
returns c =
    let spec = c.in-Some.spec in
    let known = rw c.in-Some.is at c.in_ok-spec.ensures in
    let spelled = c.in_ok-shared.ensures.ok ∙ c.in_ok-specification.ensures in
    let shown : length spec.state.shown
    ≡ shown_count c.args.header (texts c.args.lines.now) c.args.start.now =
    ap (λ (s : State). length s.shown) known.state
    ∙ (λ i. length (own_view (written_in (spelled i))
    ((c.deref.ensures.value ∙ c.in_ok-words.ensures) i))) in
    let begun = c.in_ok-begin.ensures in (
      begun.charter ∙ (λ i. own (known.header i) ((known.lines ∙ spelled) i)),
      begun.followed,
      begun.so_far,
      begun.owed ∙ ap (λ n. start_cost word_price c.args.start.now + 2 * n) shown,
    )
