use Rattle.vyrd_own_log.proofs.Prelude.{◌≡◌, ◌<◌, ◌+◌, ℕ, List, ◌∷◌, ◌++◌, Some, length, drop}
use Rattle.vyrd_own_log.proofs.Prelude.{get_or, ap, sym, ◌∙◌, arith, map, list_all, drop_more}
use Rattle.vyrd_own_log.proofs.Prelude.{second_true, named_from, method_of, is_callable}
use Rattle.vyrd_own.specs.declared.program.Method.{Method}
use Rattle.vyrd_own_log.proofs.QuickLaws.{name_skipped, name_found}
use Rattle.vyrd_own_log.proofs.quick.front_method.Goals as goal

-- the methods from a place on
from_place : (methods : List Method) (i : ℕ) (m : Method) → i < length methods
    → m ≡ get_or methods i m
    → map method_of (drop i methods) ≡ method_of m ∷ map method_of (drop (i + 1) methods)
from_place methods i m within is =
    ap (map method_of) (drop_more methods i m within)
    ∙ ap (λ x. method_of x ∷ map method_of (drop (i + 1) methods)) (sym is)

pub returns-in-Some : goal.returns-in-Some
returns-in-Some c =
    let i = c.loop-i.i in
    let methods = c.args.methods.now in
    let m = c.index-methods-i.result in
    let here = from_place methods i m (omega arith) c.index-methods-i.is in
    let name = (method_of m).name in
    let rest = c.in-Some.rest.now in
    let parted : c.args.text.now ≡ name ++ rest = c.in-Some.ensures.1
    ∙ ap (λ t. t ++ rest) c.deref.ensures.value in
    record {
      name = name;
      parted = parted;
      found = sym (c.loop-i.invariant.found name rest c.in-Some.ensures.0 parted)
          ∙ ap (λ ms. named_from i ms name) here
          ∙ name_found i (method_of m) (map method_of (drop (i + 1) methods))
          ∙ ap Some (sym c.numbered.ensures);
    }

pub loop-i-preserved : goal.loop-i-preserved
loop-i-preserved c =
    let i = c.loop-i.i in
    let methods = c.args.methods.now in
    let m = c.index-methods-i.result in
    let here = from_place methods i m (omega arith) c.index-methods-i.is in
    record {
      found = λ name rest ends is.
          sym (name_skipped i (method_of m) (map method_of (drop (i + 1) methods)) name
          c.args.text.now rest
          (λ e. c.in_default.ensures rest ends
          (e ∙ ap (λ t. t ++ rest) (sym c.deref.ensures.value))) is)
          ∙ ap (λ ms. named_from i ms name) (sym here) ∙ c.loop-i.invariant.found name rest ends is;
      callable = second_true (is_callable (method_of m)) _
          (sym (ap (λ ms. list_all is_callable ms) here) ∙ c.loop-i.invariant.callable);
    }
