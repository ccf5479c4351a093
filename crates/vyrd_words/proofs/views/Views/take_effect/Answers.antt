use Rattle.vyrd_words.proofs.Prelude.{◌≡◌, ◌<◌, ◌≤◌, ℕ, [], ◌∷◌, ◌++◌, length, take, drop}
use Rattle.vyrd_words.proofs.Prelude.{length-drop, arith, ap, sym, ◌∙◌, subst, map, plain_words}
use Rattle.vyrd_words.proofs.Prelude.{pending_for, Cuts, begun_of}
use Rattle.vyrd_words.proofs.PendingLaws.{caught_pending, one_pending, none_late}
use Rattle.vyrd_words.proofs.WordsLaws.{ok_two}
use Rattle.vyrd_words.proofs.CutLaws.{at_once_both, now_at_once, none_waits, all_tail, always}
use Rattle.vyrd_words.proofs.views.Views.take_effect.Goals as goal

pub invariant_of-self-then-len-ge-MOST_CHANGED : goal.invariant_of-self-then-len-ge-MOST_CHANGED
invariant_of-self-then-len-ge-MOST_CHANGED g c =
    let i = c.self.inside in
    let none : i.counts ≡ [] = none_waits i.counts i.writes.items
    (ap (λ (v : Cuts). v.since) c.self.view_is ∙ c.requires.none_waits) in
    rw (
      c.note.ensures.items,
      c.catch_up.ensures.words,
      c.catch_up.ensures.writes,
      c.catch_up.ensures.changed,
      c.in_ok-reserve.ensures.items,
      none,
    )
    (at_once_both i.header i.words.items i.writes.items i.tail c.args.word c.args.value
    i.changed.items (g.C.Compare.known i.compared)
    (subst (λ (v : Cuts). c.args.word < plain_words v.header) (sym c.self.view_is) c.requires.word)
    c.requires.value
    (rw (← none)
    c.self.invariant))

pub invariant_of-self-else-len-ge-MOST_CHANGED : goal.invariant_of-self-else-len-ge-MOST_CHANGED
invariant_of-self-else-len-ge-MOST_CHANGED g c =
    let i = c.self.inside in
    let none : i.counts ≡ [] = none_waits i.counts i.writes.items
    (ap (λ (v : Cuts). v.since) c.self.view_is ∙ c.requires.none_waits) in
    rw (
      c.note.ensures.items,
      c.catch_up.ensures.words,
      c.catch_up.ensures.writes,
      c.catch_up.ensures.changed,
      c.in_ok-reserve.ensures.items,
      none,
    )
    (at_once_both i.header i.words.items i.writes.items i.tail c.args.word c.args.value
    i.changed.items (g.C.Compare.known i.compared)
    (subst (λ (v : Cuts). c.args.word < plain_words v.header) (sym c.self.view_is) c.requires.word)
    c.requires.value
    (rw (← none)
    c.self.invariant))

pub returns-clause-first : goal.returns-clause-first
returns-clause-first = grind (arith, none_waits, now_at_once, all_tail)

pub returns-clause-since : goal.returns-clause-since
returns-clause-since = grind (arith, none_waits)

pub returns-then-len-ge-MOST_CHANGED-clause-first :
    goal.returns-then-len-ge-MOST_CHANGED-clause-first
returns-then-len-ge-MOST_CHANGED-clause-first =
    grind (arith, none_waits, always, now_at_once, all_tail)

pub returns-then-len-ge-MOST_CHANGED-clause-since :
    goal.returns-then-len-ge-MOST_CHANGED-clause-since
returns-then-len-ge-MOST_CHANGED-clause-since = grind (arith, none_waits, always)

pub returns-clause-steps : goal.returns-clause-steps
returns-clause-steps g c =
    let i = c.self.inside in
    let p : ℕ → ℕ = g.C.Compare.price (g.C.Compare.known i.compared).shows in
    let none : i.counts ≡ [] = none_waits i.counts i.writes.items
    (ap (λ (v : Cuts). v.since) c.self.view_is ∙ c.requires.none_waits) in
    let few : i.tail ≤ length i.writes.items = omega (arith, c.self.invariant.0.counted) in
    let was = ap (λ (v : Cuts). v.pending) c.self.view_is in
    let price = ap (λ (v : Cuts). g.C.Compare.price v.shows c.args.word) c.self.view_is in
    let words = map (λ write. write.0) (take i.tail i.writes.items) in
    let same : pending_for p c.note.new.changed.items c.catch_up.new.writes.items
    ≡ pending_for p ((i.changed.items ++ words) ++ c.args.word ∷ []) (drop i.tail i.writes.items) =
    (λ j. pending_for p
    ((c.note.ensures.items ∙ ap (λ xs. xs ++ c.args.word ∷ [])
    (c.catch_up.ensures.changed ∙ ap (λ xs. xs ++ words) c.in_ok-reserve.ensures.items)) j)
    (c.catch_up.ensures.writes j)) in
    let before = none_late p i.changed.items i.counts i.writes.items none in
    let after = none_late p c.note.new.changed.items i.counts c.catch_up.new.writes.items none in
    let one = one_pending p (i.changed.items ++ words) c.args.word (drop i.tail i.writes.items) in
    let caught = caught_pending p i.changed.items i.tail i.writes.items few in
    omega (arith, was, price, before, after, same, one, caught, c.catch_up.ensures.steps)

pub returns-then-len-ge-MOST_CHANGED-clause-steps :
    goal.returns-then-len-ge-MOST_CHANGED-clause-steps
returns-then-len-ge-MOST_CHANGED-clause-steps g c =
    let i = c.self.inside in
    let p : ℕ → ℕ = g.C.Compare.price (g.C.Compare.known i.compared).shows in
    let none : i.counts ≡ [] = none_waits i.counts i.writes.items
    (ap (λ (v : Cuts). v.since) c.self.view_is ∙ c.requires.none_waits) in
    let few : i.tail ≤ length i.writes.items = omega (arith, c.self.invariant.0.counted) in
    let was = ap (λ (v : Cuts). v.pending) c.self.view_is in
    let price = ap (λ (v : Cuts). g.C.Compare.price v.shows c.args.word) c.self.view_is in
    let words = map (λ write. write.0) (take i.tail i.writes.items) in
    let same : pending_for p c.note.new.changed.items c.catch_up.new.writes.items
    ≡ pending_for p ((i.changed.items ++ words) ++ c.args.word ∷ []) (drop i.tail i.writes.items) =
    (λ j. pending_for p
    ((c.note.ensures.items ∙ ap (λ xs. xs ++ c.args.word ∷ [])
    (c.catch_up.ensures.changed ∙ ap (λ xs. xs ++ words) c.in_ok-reserve.ensures.items)) j)
    (c.catch_up.ensures.writes j)) in
    let before = none_late p i.changed.items i.counts i.writes.items none in
    let after = none_late p c.note.new.changed.items i.counts c.catch_up.new.writes.items none in
    let one = one_pending p (i.changed.items ++ words) c.args.word (drop i.tail i.writes.items) in
    let caught = caught_pending p i.changed.items i.tail i.writes.items few in
    ok_two c.compare_words.result c.compare_words.ensures.steps c.compare_words.ensures.steps
    (λ paid twice. omega
    (arith, was, price, before, after, same, one, caught, c.catch_up.ensures.steps, paid))

pub returns-clause-most : goal.returns-clause-most
returns-clause-most g c =
    let i = c.self.inside in
    let p : ℕ → ℕ = g.C.Compare.price (g.C.Compare.known i.compared).shows in
    let none : i.counts ≡ [] = none_waits i.counts i.writes.items
    (ap (λ (v : Cuts). v.since) c.self.view_is ∙ c.requires.none_waits) in
    let few : i.tail ≤ length i.writes.items = omega (arith, c.self.invariant.0.counted) in
    let was = ap (λ (v : Cuts). v.pending) c.self.view_is in
    let price = ap (λ (v : Cuts). g.C.Compare.price v.shows c.args.word) c.self.view_is in
    let words = map (λ write. write.0) (take i.tail i.writes.items) in
    let same : pending_for p c.note.new.changed.items c.catch_up.new.writes.items
    ≡ pending_for p ((i.changed.items ++ words) ++ c.args.word ∷ []) (drop i.tail i.writes.items) =
    (λ j. pending_for p
    ((c.note.ensures.items ∙ ap (λ xs. xs ++ c.args.word ∷ [])
    (c.catch_up.ensures.changed ∙ ap (λ xs. xs ++ words) c.in_ok-reserve.ensures.items)) j)
    (c.catch_up.ensures.writes j)) in
    let before = none_late p i.changed.items i.counts i.writes.items none in
    let after = none_late p c.note.new.changed.items i.counts c.catch_up.new.writes.items none in
    let one = one_pending p (i.changed.items ++ words) c.args.word (drop i.tail i.writes.items) in
    let caught = caught_pending p i.changed.items i.tail i.writes.items few in
    omega (arith, was, price, before, after, same, one, caught, c.catch_up.ensures.steps)

pub returns-then-len-ge-MOST_CHANGED-clause-most : goal.returns-then-len-ge-MOST_CHANGED-clause-most
returns-then-len-ge-MOST_CHANGED-clause-most g c =
    let i = c.self.inside in
    let p : ℕ → ℕ = g.C.Compare.price (g.C.Compare.known i.compared).shows in
    let none : i.counts ≡ [] = none_waits i.counts i.writes.items
    (ap (λ (v : Cuts). v.since) c.self.view_is ∙ c.requires.none_waits) in
    let few : i.tail ≤ length i.writes.items = omega (arith, c.self.invariant.0.counted) in
    let was = ap (λ (v : Cuts). v.pending) c.self.view_is in
    let price = ap (λ (v : Cuts). g.C.Compare.price v.shows c.args.word) c.self.view_is in
    let words = map (λ write. write.0) (take i.tail i.writes.items) in
    let same : pending_for p c.note.new.changed.items c.catch_up.new.writes.items
    ≡ pending_for p ((i.changed.items ++ words) ++ c.args.word ∷ []) (drop i.tail i.writes.items) =
    (λ j. pending_for p
    ((c.note.ensures.items ∙ ap (λ xs. xs ++ c.args.word ∷ [])
    (c.catch_up.ensures.changed ∙ ap (λ xs. xs ++ words) c.in_ok-reserve.ensures.items)) j)
    (c.catch_up.ensures.writes j)) in
    let before = none_late p i.changed.items i.counts i.writes.items none in
    let after = none_late p c.note.new.changed.items i.counts c.catch_up.new.writes.items none in
    let one = one_pending p (i.changed.items ++ words) c.args.word (drop i.tail i.writes.items) in
    let caught = caught_pending p i.changed.items i.tail i.writes.items few in
    omega (
      arith,
      was,
      price,
      before,
      after,
      same,
      one,
      caught,
      c.catch_up.ensures.steps,
      c.compare_words.ensures.most,
    )

pub returns-clause-begun : goal.returns-clause-begun
returns-clause-begun g c =
    let i = c.self.inside in
    let none : i.counts ≡ [] = none_waits i.counts i.writes.items
    (ap (λ (v : Cuts). v.since) c.self.view_is ∙ c.requires.none_waits) in
    let all = all_tail i.counts i.tail _ none c.self.invariant.0.counted in
    let left = ap length c.catch_up.ensures.writes in
    ap (λ ks. begun_of ks c.catch_up.new.writes.items) none
    ∙ omega (arith, all, left, length-drop i.tail i.writes.items)

pub returns-then-len-ge-MOST_CHANGED-clause-begun :
    goal.returns-then-len-ge-MOST_CHANGED-clause-begun
returns-then-len-ge-MOST_CHANGED-clause-begun g c =
    let i = c.self.inside in
    let none : i.counts ≡ [] = none_waits i.counts i.writes.items
    (ap (λ (v : Cuts). v.since) c.self.view_is ∙ c.requires.none_waits) in
    let all = all_tail i.counts i.tail _ none c.self.invariant.0.counted in
    let left = ap length c.catch_up.ensures.writes in
    always c.compare_words.result (c.compare_words.ensures.begun
    ∙ ap (λ ks. begun_of ks c.catch_up.new.writes.items) none
    ∙ omega (arith, all, left, length-drop i.tail i.writes.items))
