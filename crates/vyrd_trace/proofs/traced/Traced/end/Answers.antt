use Rattle.vyrd_trace.proofs.Prelude.{◌≡◌, ◌+◌, ◌-◌, sym, ap, ◌∙◌, subst, arith, Plan, HasHistory}
use Rattle.vyrd_trace.specs.Hands.{TracedView}
use Rattle.vyrd_trace.proofs.Closings.{has_history}
use Rattle.vyrd_trace.proofs.traced.Traced.end.Goals as goal

pub returns-clause-history : goal.returns-clause-history
returns-clause-history c =
    let hands = c.args.hands.items in
    let p = c.self.inside.board.table.shared.key in
    let plan = ap (λ (v : TracedView). v.plan) c.self.view_is in
    let z = c.self.inside.board.sized in
    let seat = c.gather_all-seat.ensures in
    let count = c.word_count-cells.ensures in
    let w = c.halve_words.ensures in
    let cells : c.word_count-cells.result - 1 ≡ p.plain + p.locks = omega arith in
    let long = sym c.halve_words.new.words.ok.0 ∙ w.0 ∙ cells in
    subst (λ (x : Plan). HasHistory x hands c.halve_words.new.words.items) plan
    (has_history p _ c.halve_words.new.words.items _ _ _ hands c.close_with-closed.ensures.values.2
    seat.same.1 seat.same.2 seat.lanes
    (c.requires.0 ∙ sym (ap (λ (x : Plan). x.callers) plan)) (λ i d l. (c.requires.1 i d l).1) long
    (λ k l. w.1 k (omega arith)))
