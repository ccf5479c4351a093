use Rattle.vyrd_words.proofs.Prelude.{ℕ, ◌++◌, ◌∷◌, [], ap, sym, subst, ◌∙◌, pending_for}
use Rattle.vyrd_words.proofs.Prelude.{late_writes, Cuts, AreCuts, first_of, since_of, begun_of}
use Rattle.vyrd_words.proofs.PendingLaws.{push_pending}
use Rattle.vyrd_words.proofs.CutLaws.{first_push, since_push, pushed_cuts}
use Rattle.vyrd_words.proofs.FewLaws.{begun_push}
use Rattle.vyrd_words.proofs.views.Views.cut.Goals as goal

pub returns-clause-first : goal.returns-clause-first
returns-clause-first g c =
    let i = c.self.inside in
    ap (λ ks. first_of i.words.items ks i.writes.items) c.in_ok-push.ensures
    ∙ first_push i.words.items i.counts i.tail i.writes.items c.self.invariant.0.counted
    ∙ ap (λ (v : Cuts). v.first) c.self.view_is

pub returns-clause-since : goal.returns-clause-since
returns-clause-since g c =
    let i = c.self.inside in
    ap (λ ks. since_of ks i.writes.items) c.in_ok-push.ensures
    ∙ since_push i.counts i.tail i.writes.items c.self.invariant.0.counted
    ∙ ap (λ (v : Cuts). v.since ++ [] ∷ []) c.self.view_is

pub invariant_of-self-2 : goal.invariant_of-self-2
invariant_of-self-2 g c =
    let i = c.self.inside in (
      subst (λ ks. AreCuts i.header i.words.items ks i.writes.items 0) (sym c.in_ok-push.ensures)
          (pushed_cuts i.header i.words.items i.counts i.writes.items i.tail c.self.invariant.0),
      c.self.invariant.1,
    )

pub returns-clause-pending : goal.returns-clause-pending
returns-clause-pending g c =
    let i = c.self.inside in
    let p : ℕ → ℕ = g.C.Compare.price (g.C.Compare.known i.compared).shows in
    ap (λ ks. pending_for p i.changed.items (i.writes.items ++ late_writes ks)) c.in_ok-push.ensures
    ∙ ap (λ xs. pending_for p i.changed.items (i.writes.items ++ xs)) (push_pending i.counts i.tail)
    ∙ ap (λ (v : Cuts). v.pending) c.self.view_is

pub returns-clause-begun : goal.returns-clause-begun
returns-clause-begun g c =
    let i = c.self.inside in
    ap (λ ks. begun_of ks i.writes.items) c.in_ok-push.ensures
    ∙ begun_push i.counts i.tail i.writes.items c.self.invariant.0.counted
    ∙ ap (λ (v : Cuts). v.begun) c.self.view_is
