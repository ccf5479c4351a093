use Rattle.vyrd_own_text.proofs.Prelude.{◌≡◌, ◌++◌, ◌∷◌, [], List, ap, sym, ◌∙◌, map, map-append}
use Rattle.vyrd_own_text.proofs.Prelude.{Change, with_change, case_of, change_of, method_of}
use Rattle.vyrd_own.specs.declared.program.Case.{Case}
use Rattle.vyrd_own_text.proofs.LastLaws.{with_change_last}
use Rattle.vyrd_own_text.proofs.change.put_change.Goals as goal

changed : (c : Change) (old rest new : List Case) (x y : Case) → old ≡ rest ++ x ∷ [] → new ≡ rest
    ++ y ∷ []
    → case_of y ≡ record (case_of x) { changes = (case_of x).changes ++ c ∷ [] }
    → map case_of new ≡ with_change c (map case_of old)
changed c old rest new x y eo en ey =
    ap (map case_of) en ∙ map-append case_of rest (y ∷ [])
    ∙ ap (λ z. map case_of rest ++ z ∷ []) ey
    ∙ sym (with_change_last c (map case_of rest) (case_of x))
    ∙ ap (with_change c) (sym (map-append case_of rest (x ∷ [])) ∙ sym (ap (map case_of) eo))

pub returns-in_ok-put-2 : goal.returns-in_ok-put-2
returns-in_ok-put-2 c =
    let more = ap (map change_of) c.in_ok-put.ensures
    ∙ map-append change_of c.in-Some.case.changes.items (c.args.change ∷ []) in
    ap (λ cs. record (method_of c.args.method.now) { cases = cs })
    (changed (change_of c.args.change) c.args.method.now.cases.items c.pop.new.self.items
    c.put-in-Some.new.items.items c.in-Some.case _
    c.in-Some.ensures.items c.in_ok-put-2.ensures
    (ap (λ cs. record (case_of c.in-Some.case) { changes = cs }) more))
