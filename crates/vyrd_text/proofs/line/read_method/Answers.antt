use Rattle.vyrd_text.proofs.Prelude.{◌∷◌, ◌++◌, arith, ap, ◌∙◌, sym, slice_get, method_name}
use Rattle.std.proofs.Common.{inl, inr}
use Rattle.std.proofs.Math.Nat.{eq-or-lt_of_le}
use Rattle.std.proofs.lemmas.Option.{get_or_from_slice_get, slice_get_within}
use Rattle.vyrd_base.proofs.StructureLaws.{place_of, method_listed}
use Rattle.vyrd_text.proofs.line.read_method.Goals as goal

pub loop-method-init : goal.loop-method-init
loop-method-init c = λ i method rest low here e. absurd (omega (arith, low))

pub loop-method-preserved : goal.loop-method-preserved
loop-method-preserved c = λ i method rest low here e. elim (eq-or-lt_of_le (omega (arith, low))) [
  | inl last ↦ c.in_default.ensures rest
      (e ∙ ap (λ m. method_name m ++ 32 ∷ rest)
      (sym (get_or_from_slice_get c.methods-method-items.result.now c.loop-method.method-index
      method _
      (ap (slice_get c.methods-method-items.result.now) (sym last) ∙ here)))
      ∙ ap (λ name. name ++ 32 ∷ rest) (sym c.name.ensures.text))
  | inr before ↦ c.loop-method.invariant i method rest before here e
]

pub returns : goal.returns
returns c = λ method rest same e.
    let listed = ap (λ items. slice_get items (place_of method)) c.methods-method-items.ensures
    ∙ method_listed c.args.subject method same in
    c.loop-method.invariant (place_of method) method rest
    (omega (
      arith,
      slice_get_within c.methods-method-items.result.now (place_of method) method
          listed,
      c.loop-method-test.false,
    )) listed e
