use Rattle.vyrd_words.proofs.Prelude.{◌≡◌, ◌<◌, ◌-◌, ◌++◌, ℕ, length, ap, sym, ◌∙◌, subst, arith}
use Rattle.vyrd_words.proofs.Prelude.{All, sum_by, plain_words, AreInRange, pending_for}
use Rattle.vyrd_words.proofs.Prelude.{late_writes, Cuts, AreCuts, first_of, since_of, begun_of}
use Rattle.vyrd_words.proofs.Prelude.{first_with, with_part, begun_with, written}
use Rattle.vyrd_words.proofs.PendingLaws.{late_pending}
use Rattle.vyrd_words.proofs.CutLaws.{late_at, first_late, since_late, late_cuts, written_in_range}
use Rattle.vyrd_words.proofs.CutLaws.{length-since_of, first_far, since_far}
use Rattle.vyrd_words.proofs.FewLaws.{begun_far, begun_late}
use Rattle.vyrd_words.proofs.views.Views.late.Goals as goal

pub returns-then-behind-len-clause-first : goal.returns-then-behind-len-clause-first
returns-then-behind-len-clause-first = grind (arith, length-since_of, first_far, written)

pub returns-then-behind-len-clause-since : goal.returns-then-behind-len-clause-since
returns-then-behind-len-clause-since = grind (arith, length-since_of, since_far, written)

pub invariant_of-self-2 : goal.invariant_of-self-2
invariant_of-self-2 g c =
    let i = c.self.inside in
    let index : ℕ = c.len-2.result - c.args.behind in
    let new = written c.args.words.now c.args.changed.now in
    let low : index < length i.counts =
    omega (arith, c.len.ensures, c.len-2.ensures, c.if-behind-len.false, c.requires.some) in
    let counts : c.add_late.new.self ≡ late_at i.counts index new =
    c.in_ok-add_late.ensures.counts in
    let fits : AreInRange (plain_words i.header) new =
    written_in_range (plain_words i.header) c.args.words.now c.args.changed.now
    (subst (λ (v : Cuts). All (λ w. w < plain_words v.header) c.args.changed.now)
    (sym c.self.view_is) c.requires.changed) c.requires.values in (
      subst (λ cs. AreCuts i.header i.words.items cs i.writes.items i.tail) (sym counts)
          (late_cuts i.header i.words.items i.counts index new i.writes.items i.tail low fits
          c.self.invariant.0),
      c.self.invariant.1,
    )

pub returns-clause-first : goal.returns-clause-first
returns-clause-first g c =
    let i = c.self.inside in
    let index : ℕ = c.len-2.result - c.args.behind in
    let new = written c.args.words.now c.args.changed.now in
    let low : index < length i.counts =
    omega (arith, c.len.ensures, c.len-2.ensures, c.if-behind-len.false, c.requires.some) in
    let counts : c.add_late.new.self ≡ late_at i.counts index new =
    c.in_ok-add_late.ensures.counts in
    let behind : length i.counts - index ≡ c.args.behind =
    omega (arith, c.len.ensures, c.len-2.ensures, c.if-behind-len.false) in
    ap (λ cs. first_of i.words.items cs i.writes.items) counts
    ∙ first_late i.words.items i.counts index new i.writes.items low
    ∙ ap (λ n. first_with n new (first_of i.words.items i.counts i.writes.items)
    (since_of i.counts i.writes.items)) behind
    ∙ ap (λ (v : Cuts). first_with c.args.behind new v.first v.since) c.self.view_is

pub returns-clause-since : goal.returns-clause-since
returns-clause-since g c =
    let i = c.self.inside in
    let index : ℕ = c.len-2.result - c.args.behind in
    let new = written c.args.words.now c.args.changed.now in
    let low : index < length i.counts =
    omega (arith, c.len.ensures, c.len-2.ensures, c.if-behind-len.false, c.requires.some) in
    let counts : c.add_late.new.self ≡ late_at i.counts index new =
    c.in_ok-add_late.ensures.counts in
    let behind : length i.counts - index ≡ c.args.behind =
    omega (arith, c.len.ensures, c.len-2.ensures, c.if-behind-len.false) in
    ap (λ cs. since_of cs i.writes.items) counts
    ∙ since_late i.counts index new i.writes.items low
    ∙ ap (λ n. with_part n new (since_of i.counts i.writes.items)) behind
    ∙ ap (λ (v : Cuts). with_part c.args.behind new v.since) c.self.view_is

pub returns-clause-pending : goal.returns-clause-pending
returns-clause-pending g c =
    let i = c.self.inside in
    let p : ℕ → ℕ = g.C.Compare.price (g.C.Compare.known i.compared).shows in
    let index : ℕ = c.len-2.result - c.args.behind in
    let new = written c.args.words.now c.args.changed.now in
    let low : index < length i.counts =
    omega (arith, c.len.ensures, c.len-2.ensures, c.if-behind-len.false, c.requires.some) in
    let counts : c.add_late.new.self ≡ late_at i.counts index new =
    c.in_ok-add_late.ensures.counts in
    let was = ap (λ (v : Cuts). v.pending) c.self.view_is in
    let price = ap (λ (v : Cuts). sum_by (g.C.Compare.price v.shows) c.args.changed.now)
    c.self.view_is in
    let grown = ap (λ cs. pending_for p i.changed.items (i.writes.items ++ late_writes cs)) counts
    ∙ late_pending p i.changed.items i.counts index c.args.words.now c.args.changed.now
    i.writes.items low in
    omega (arith, was, price, grown)

pub returns-then-behind-len-clause-begun : goal.returns-then-behind-len-clause-begun
returns-then-behind-len-clause-begun = grind (arith, length-since_of, begun_far, written)

pub returns-clause-begun : goal.returns-clause-begun
returns-clause-begun g c =
    let i = c.self.inside in
    let index : ℕ = c.len-2.result - c.args.behind in
    let new = written c.args.words.now c.args.changed.now in
    let low : index < length i.counts =
    omega (arith, c.len.ensures, c.len-2.ensures, c.if-behind-len.false, c.requires.some) in
    let counts : c.add_late.new.self ≡ late_at i.counts index new =
    c.in_ok-add_late.ensures.counts in
    let behind : length i.counts - index ≡ c.args.behind =
    omega (arith, c.len.ensures, c.len-2.ensures, c.if-behind-len.false) in
    ap (λ cs. begun_of cs i.writes.items) counts
    ∙ begun_late i.counts index new i.writes.items low
    ∙ ap (λ n. begun_with n new (begun_of i.counts i.writes.items)
    (since_of i.counts i.writes.items)) behind
    ∙ ap (λ (v : Cuts). begun_with c.args.behind new v.begun v.since) c.self.view_is
