use Rattle.vyrd_words.proofs.Prelude.{◌≡◌, ◌≤◌, ℕ, ◌∷◌, ◌++◌, length, take, drop, arith, ap, sym}
use Rattle.vyrd_words.proofs.Prelude.{◌∙◌, subst, map, with_writes, with_writes-append, pending_for}
use Rattle.vyrd_words.proofs.Prelude.{total, late_writes, Cuts, first_of, since_of, AreCuts}
use Rattle.vyrd_words.proofs.Prelude.{AreKnown}
use Rattle.std.specs.Result.{is_ok}
use Rattle.vyrd_words.proofs.PendingLaws.{first_pending}
use Rattle.vyrd_words.proofs.CutLaws.{sum-cons, advanced_both, late_both, first_in_range}
use Rattle.vyrd_words.proofs.CutLaws.{first_taken, first_next, since_next}
use Rattle.vyrd_words.proofs.FewLaws.{begun_next}
use Rattle.vyrd_words.proofs.views.Views.advance.Goals as goal

pub catch_up-requires-clause-count : goal.catch_up-requires-clause-count
catch_up-requires-clause-count = grind (arith, first_taken, sum-cons)

pub invariant_of-self-in_err-take_late : goal.invariant_of-self-in_err-take_late
invariant_of-self-in_err-take_late g c =
    let i = c.self.inside in
    let is : i.counts ≡ (c.in-Some.count, c.deref.result.now) ∷ c.pop-late.new.self =
    first_taken i.counts c.pop-late.new.self c.in-Some.count c.deref.result.now
    (sym c.in-Some.ensures) c.pop-late.ensures.rest
    (c.deref.ensures.value ∙ c.pop-late.ensures.late) in
    let before = subst (λ ks. AreCuts i.header i.words.items ks i.writes.items i.tail
    × AreKnown i.header i.words.items i.changed.items (g.C.Compare.known i.compared))
    is c.self.invariant in
    let fits = first_in_range i.header i.words.items (c.in-Some.count, c.deref.result.now)
    c.pop-late.new.self i.writes.items i.tail before.0 in
    late_both i.header c.catch_up.new.words.items c.pop-late.new.self c.catch_up.new.writes.items
    i.tail c.catch_up.new.changed.items (g.C.Compare.known i.compared)
    c.deref.result.now (is_ok c.take_late.result) c.take_late.new.words.items
    c.take_late.new.changed.items fits c.take_late.ensures.words c.take_late.ensures.changed
    (rw (
      c.catch_up.ensures.words,
      c.catch_up.ensures.writes,
      c.catch_up.ensures.changed,
      c.in_ok-reserve.ensures.items,
    )
    (advanced_both i.header i.words.items (c.in-Some.count, c.deref.result.now) c.pop-late.new.self
    i.writes.items i.tail i.changed.items (g.C.Compare.known i.compared) before))

pub invariant_of-self-2 : goal.invariant_of-self-2
invariant_of-self-2 g c =
    let i = c.self.inside in
    let is : i.counts ≡ (c.in-Some.count, c.deref.result.now) ∷ c.pop-late.new.self =
    first_taken i.counts c.pop-late.new.self c.in-Some.count c.deref.result.now
    (sym c.in-Some.ensures) c.pop-late.ensures.rest
    (c.deref.ensures.value ∙ c.pop-late.ensures.late) in
    let before = subst (λ ks. AreCuts i.header i.words.items ks i.writes.items i.tail
    × AreKnown i.header i.words.items i.changed.items (g.C.Compare.known i.compared))
    is c.self.invariant in
    let fits = first_in_range i.header i.words.items (c.in-Some.count, c.deref.result.now)
    c.pop-late.new.self i.writes.items i.tail before.0 in
    late_both i.header c.catch_up.new.words.items c.pop-late.new.self c.catch_up.new.writes.items
    i.tail c.catch_up.new.changed.items (g.C.Compare.known i.compared)
    c.deref.result.now (is_ok c.take_late.result) c.take_late.new.words.items
    c.take_late.new.changed.items fits c.take_late.ensures.words c.take_late.ensures.changed
    (rw (
      c.catch_up.ensures.words,
      c.catch_up.ensures.writes,
      c.catch_up.ensures.changed,
      c.in_ok-reserve.ensures.items,
    )
    (advanced_both i.header i.words.items (c.in-Some.count, c.deref.result.now) c.pop-late.new.self
    i.writes.items i.tail i.changed.items (g.C.Compare.known i.compared) before))

pub returns-clause-base : goal.returns-clause-base
returns-clause-base g c = λ part rest waits.
    let i = c.self.inside in
    let is : i.counts ≡ (c.in-Some.count, c.deref.result.now) ∷ c.pop-late.new.self =
    first_taken i.counts c.pop-late.new.self c.in-Some.count c.deref.result.now
    (sym c.in-Some.ensures) c.pop-late.ensures.rest
    (c.deref.ensures.value ∙ c.pop-late.ensures.late) in
    c.in_ok-take_late.ensures.words ∙ ap (λ ws. with_writes ws c.deref.result.now)
    c.catch_up.ensures.words
    ∙ sym (with_writes-append i.words.items (take c.in-Some.count i.writes.items)
    c.deref.result.now)
    ∙ ap (λ ks. first_of i.words.items ks i.writes.items) (sym is)
    ∙ ap (λ (v : Cuts). v.first) c.self.view_is

pub returns-clause-first : goal.returns-clause-first
returns-clause-first g c = λ part rest waits.
    let i = c.self.inside in
    let is : i.counts ≡ (c.in-Some.count, c.deref.result.now) ∷ c.pop-late.new.self =
    first_taken i.counts c.pop-late.new.self c.in-Some.count c.deref.result.now
    (sym c.in-Some.ensures) c.pop-late.ensures.rest
    (c.deref.ensures.value ∙ c.pop-late.ensures.late) in
    ap (first_of c.take_late.new.words.items c.pop-late.new.self) c.catch_up.ensures.writes
    ∙ first_next c.take_late.new.words.items c.pop-late.new.self
    (drop c.in-Some.count i.writes.items) part rest
    (ap (λ ks. since_of ks i.writes.items) (sym is) ∙ ap (λ (v : Cuts). v.since) c.self.view_is
    ∙ waits)
    ∙ ap (λ ws. with_writes ws part) (
    c.in_ok-take_late.ensures.words ∙ ap (λ ws. with_writes ws c.deref.result.now)
    c.catch_up.ensures.words
    ∙ sym (with_writes-append i.words.items (take c.in-Some.count i.writes.items)
    c.deref.result.now)
    ∙ ap (λ ks. first_of i.words.items ks i.writes.items) (sym is)
    ∙ ap (λ (v : Cuts). v.first) c.self.view_is)

pub returns-clause-since : goal.returns-clause-since
returns-clause-since g c =
    λ part rest waits. grind (arith, c.catch_up.ensures.writes, waits, first_taken, since_next)

pub returns-clause-steps : goal.returns-clause-steps
returns-clause-steps g c =
    let i = c.self.inside in
    let is : i.counts ≡ (c.in-Some.count, c.deref.result.now) ∷ c.pop-late.new.self =
    first_taken i.counts c.pop-late.new.self c.in-Some.count c.deref.result.now
    (sym c.in-Some.ensures) c.pop-late.ensures.rest
    (c.deref.ensures.value ∙ c.pop-late.ensures.late) in
    let p : ℕ → ℕ = g.C.Compare.price (g.C.Compare.known i.compared).shows in
    let n = c.in-Some.count in
    let late = c.deref.result.now in
    let few : n ≤ length i.writes.items =
    omega (
      arith,
      c.self.invariant.0.counted,
      ap total is,
      sum-cons
          (n, late) c.pop-late.new.self,
    ) in
    let was = ap (λ (v : Cuts). v.pending) c.self.view_is in
    let parts = ap (λ ks. pending_for p i.changed.items (i.writes.items ++ late_writes ks)) is in
    let paid = first_pending p i.changed.items n late c.pop-late.new.self i.writes.items few in
    let words = map (λ write. write.0) (take n i.writes.items) in
    let changed : c.take_late.new.changed.items ≡ (i.changed.items ++ words)
    ++ map (λ write. write.0) late = c.in_ok-take_late.ensures.changed
    ∙ ap (λ xs. xs ++ map (λ write. write.0) late)
    (c.catch_up.ensures.changed ∙ ap (λ xs. xs ++ words) c.in_ok-reserve.ensures.items) in
    let same : pending_for p c.take_late.new.changed.items
    (c.catch_up.new.writes.items ++ late_writes c.pop-late.new.self)
    ≡ pending_for p ((i.changed.items ++ words) ++ map (λ write. write.0) late)
    (drop n i.writes.items ++ late_writes c.pop-late.new.self) =
    (λ j. pending_for p (changed j)
    (c.catch_up.ensures.writes j ++ late_writes c.pop-late.new.self)) in
    omega (arith, was, parts, same, c.catch_up.ensures.steps, c.take_late.ensures.steps, paid)

pub returns-clause-most : goal.returns-clause-most
returns-clause-most g c =
    let i = c.self.inside in
    let is : i.counts ≡ (c.in-Some.count, c.deref.result.now) ∷ c.pop-late.new.self =
    first_taken i.counts c.pop-late.new.self c.in-Some.count c.deref.result.now
    (sym c.in-Some.ensures) c.pop-late.ensures.rest
    (c.deref.ensures.value ∙ c.pop-late.ensures.late) in
    let p : ℕ → ℕ = g.C.Compare.price (g.C.Compare.known i.compared).shows in
    let n = c.in-Some.count in
    let late = c.deref.result.now in
    let few : n ≤ length i.writes.items =
    omega (
      arith,
      c.self.invariant.0.counted,
      ap total is,
      sum-cons
          (n, late) c.pop-late.new.self,
    ) in
    let was = ap (λ (v : Cuts). v.pending) c.self.view_is in
    let parts = ap (λ ks. pending_for p i.changed.items (i.writes.items ++ late_writes ks)) is in
    let paid = first_pending p i.changed.items n late c.pop-late.new.self i.writes.items few in
    omega (arith, was, parts, c.catch_up.ensures.steps, c.take_late.ensures.steps, paid)

pub returns-in_err-take_late-clause-most : goal.returns-in_err-take_late-clause-most
returns-in_err-take_late-clause-most g c =
    let i = c.self.inside in
    let is : i.counts ≡ (c.in-Some.count, c.deref.result.now) ∷ c.pop-late.new.self =
    first_taken i.counts c.pop-late.new.self c.in-Some.count c.deref.result.now
    (sym c.in-Some.ensures) c.pop-late.ensures.rest
    (c.deref.ensures.value ∙ c.pop-late.ensures.late) in
    let p : ℕ → ℕ = g.C.Compare.price (g.C.Compare.known i.compared).shows in
    let n = c.in-Some.count in
    let late = c.deref.result.now in
    let few : n ≤ length i.writes.items =
    omega (
      arith,
      c.self.invariant.0.counted,
      ap total is,
      sum-cons
          (n, late) c.pop-late.new.self,
    ) in
    let was = ap (λ (v : Cuts). v.pending) c.self.view_is in
    let parts = ap (λ ks. pending_for p i.changed.items (i.writes.items ++ late_writes ks)) is in
    let paid = first_pending p i.changed.items n late c.pop-late.new.self i.writes.items few in
    omega (arith, was, parts, c.catch_up.ensures.steps, c.take_late.ensures.steps, paid)

pub returns-clause-begun : goal.returns-clause-begun
returns-clause-begun g c =
    λ part rest waits. grind (arith, c.catch_up.ensures.writes, waits, first_taken, begun_next)
