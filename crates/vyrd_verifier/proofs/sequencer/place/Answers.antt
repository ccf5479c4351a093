-- The event's turn has come, or it waits for it.
use Rattle.std.proofs.Common.{◌≡◌, ◌≢◌, ℕ, ◌+◌, ◌<◌, List, [], ◌∷◌, ◌++◌, false, Some, Ok, Err, ap}
use Rattle.std.proofs.Common.{sym, subst, ◌∙◌}
use Rattle.std.specs.Prelude.{◌==◌, Result, if◌then◌else◌}
use Rattle.std.specs.Result.{OnOk, OnErr}
use Rattle.vyrd_base.specs.declared.history.Stamped.{Stamped}
use Rattle.vyrd_base.proofs.TestLaws.{same_of}
use Rattle.vyrd_relay.specs.Numbers.{ReorderKept, held, has}
use Rattle.vyrd_verifier.specs.Taken.{in_order_below, IsTaking}
use Rattle.vyrd_verifier.proofs.TakenLaws.{taking_with, taking_turn, has_with, has_passed}
use Rattle.vyrd_verifier.proofs.sequencer.place.Goals as goal

shown : {S T E : Type 0} (has_taken : S → List Stamped → Type 0) (r : Result T E) (sink sink' : S)
    (k after : ReorderKept) (taken : List Stamped) (e : Stamped)
    → has k e.number ≡ false → e.number ≡ k.next → after.next ≡ k.next + 1
    → ((n : ℕ) → k.next < n → held after n ≡ held k n)
    → OnOk r (has_taken sink' (in_order_below k.next taken ++ e ∷ []))
    → IsTaking has_taken sink k taken → OnOk r (IsTaking has_taken sink' after (taken ++ e ∷ []))
shown has_taken (Ok x) sink sink' k after taken e not_had turn next same now t =
    taking_turn has_taken sink sink' k after taken e not_had turn next same now t
shown has_taken (Err x) sink sink' k after taken e not_had turn next same now t = tt

held_back : {S T E : Type 0} (has_taken : S → List Stamped → Type 0) (r : Result T E) (sink : S)
    (k after : ReorderKept) (taken : List Stamped) (e : Stamped)
    → has k e.number ≡ false → after.next ≡ k.next
    → OnOk r ((n : ℕ) → held after n ≡ (if n == e.number then Some e else held k n))
    → IsTaking has_taken sink k taken → OnOk r (IsTaking has_taken sink after (taken ++ e ∷ []))
held_back has_taken (Ok x) sink k after taken e not_had next put t = taking_with has_taken sink k
    after taken e not_had next put t
held_back has_taken (Err x) sink k after taken e not_had next put t = tt

had_then : {T E : Type 0} (r : Result T E) (k after : ReorderKept) (e : Stamped) → after.next
    ≡ k.next
    → OnOk r ((n : ℕ) → held after n ≡ (if n == e.number then Some e else held k n))
    → OnErr r (after ≡ k)
    → (n : ℕ) → n ≢ e.number → has after n ≡ has k n
had_then (Ok x) k after e next put same n apart = has_with k after e next put n apart
had_then (Err x) k after e next put same n apart = ap (λ (v : ReorderKept). has v n) same

pub returns-then-take_turn-clause-followed : goal.returns-then-take_turn-clause-followed
returns-then-take_turn-clause-followed g c = λ taken t.
    let now = c.if-take_turn.true in
    shown g.S.EventSink.has_taken c.take.result c.args.sink.now c.take.new.self c.args.reorder.now
    c.take_turn.new.self taken c.args.item c.requires.new
    (same_of c.args.item.number c.args.reorder.now.next (sym c.take_turn.ensures.turn ∙ now))
    (c.take_turn.ensures.next now) (c.take_turn.ensures.rest now) (c.take.ensures.taken _ t.shown) t

pub returns-then-take_turn-clause-had : goal.returns-then-take_turn-clause-had
returns-then-take_turn-clause-had g c = λ n apart.
    let now = c.if-take_turn.true in
    has_passed c.args.reorder.now c.take_turn.new.self c.args.item.number
    (same_of c.args.item.number c.args.reorder.now.next (sym c.take_turn.ensures.turn ∙ now))
    (c.take_turn.ensures.next now) (c.take_turn.ensures.rest now) n apart

pub returns-clause-followed : goal.returns-clause-followed
returns-clause-followed g c = λ taken t.
    let same = c.take_turn.ensures.waits c.if-take_turn.false in
    held_back g.S.EventSink.has_taken c.put.result c.args.sink.now c.take_turn.new.self
    c.put.new.self taken c.args.item
    (subst (λ (v : ReorderKept). has v c.args.item.number ≡ false) (sym same) c.requires.new)
    c.put.ensures.next c.put.ensures.held
    (subst (λ (v : ReorderKept). IsTaking g.S.EventSink.has_taken c.args.sink.now v taken)
    (sym same) t)

pub returns-clause-had : goal.returns-clause-had
returns-clause-had g c = λ n apart.
    had_then c.put.result c.take_turn.new.self c.put.new.self c.args.item c.put.ensures.next
    c.put.ensures.held c.put.ensures.refused n apart
    ∙ ap (λ (v : ReorderKept). has v n) (c.take_turn.ensures.waits c.if-take_turn.false)
