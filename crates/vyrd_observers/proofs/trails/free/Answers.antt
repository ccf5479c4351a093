use Rattle.std.proofs.Common.{◌∷◌, ◌++◌, [], ⊎_elim, inl, inr, slice_get, subst, ap, sym, ◌∙◌}
use Rattle.vyrd_base.proofs.ListLaws.{slice_get-last}
use Rattle.vyrd_observers.specs.Trails.{AreAsking}
use Rattle.vyrd_observers.proofs.TrailLaws.{before_pushed, pushed_only, asking_pushed}
use Rattle.vyrd_observers.proofs.trails.free.Goals as goal

pub returns-in_err-push-clause-asking : goal.returns-in_err-push-clause-asking
returns-in_err-push-clause-asking g c = λ h all. subst (AreAsking h)
    (sym c.in_err-push.ensures.items) all

pub returns-clause-free : goal.returns-clause-free
returns-clause-free g c = (
  c.new.result,
  ap (λ xs. slice_get xs c.len-i.result) c.in_ok-push.ensures.items
      ∙ ap (slice_get (c.args.trails.now.items ++ c.new.result ∷ []))
      (c.len-i.ensures ∙ c.args.trails.now.ok.0)
      ∙ slice_get-last c.args.trails.now.items c.new.result,
  c.new.ensures.free,
)

pub returns-clause-kept : goal.returns-clause-kept
returns-clause-kept g c = λ i t here is_asked.
    ap (λ xs. slice_get xs i) c.in_ok-push.ensures.items
    ∙ before_pushed c.args.trails.now.items c.new.result i t here

pub returns-clause-asking : goal.returns-clause-asking
returns-clause-asking g c = λ h all.
    subst (AreAsking h) (sym c.in_ok-push.ensures.items)
    (asking_pushed h c.args.trails.now.items c.new.result c.new.ensures.free all)

pub returns-clause-only : goal.returns-clause-only
returns-clause-only g c = λ i t there. ⊎_elim (λ was. inl was)
    (λ last. inr (last ∙ sym (c.len-i.ensures ∙ c.args.trails.now.ok.0)))
    (pushed_only c.args.trails.now.items c.new.result i t
    (ap (λ xs. slice_get xs i) (sym c.in_ok-push.ensures.items) ∙ there))
