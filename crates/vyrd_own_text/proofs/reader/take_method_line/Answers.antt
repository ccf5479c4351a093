use Rattle.vyrd_own_text.proofs.Prelude.{◌∷◌, [], ap, sym, ◌∙◌, map, map-append, inner, with_line}
use Rattle.vyrd_own_text.proofs.Prelude.{taken_with, within_read, written, method_of, took_as}
use Rattle.vyrd_own_text.proofs.LastLaws.{method_line_is, within_same, line_joined}
use Rattle.vyrd_own_text.proofs.reader.take_method_line.Goals as goal

pub returns-clause-took : goal.returns-clause-took
returns-clause-took c =
    let w = written c.args.program.now in
    let rest = map method_of c.pop.new.self.items in
    let m = method_of c.in-Some.method in
    let new = method_of c.take_within.new.method in
    let line = c.args.line.now in
    let before = ap (map method_of) c.in-Some.ensures.items
    ∙ map-append method_of c.pop.new.self.items (c.in-Some.method ∷ []) in
    let after = ap (map method_of) c.in_ok-put.ensures ∙ map-append method_of c.pop.new.self.items
    (c.take_within.new.method ∷ []) in
    ap (λ methods. took_as (record w { methods = methods }) c.in_ok-took.took) after
    ∙ line_joined w rest m new c.in_ok-took.took (within_read (record w { methods = rest }) m line)
    before c.in_ok-took.ensures.took
    ∙ ap (λ r. taken_with (with_line w) (taken_with inner r)) (within_same w rest m line)
    ∙ ap (taken_with (with_line w)) (sym (method_line_is w rest m line before))
