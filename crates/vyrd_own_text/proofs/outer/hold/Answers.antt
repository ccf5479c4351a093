use Rattle.vyrd_own_text.proofs.Prelude.{◌≡◌, ◌++◌, ◌∷◌, [], ℕ, List, ap, sym, ◌∙◌, map, map-append}
use Rattle.vyrd_own_text.proofs.Prelude.{holding}
use Rattle.std.specs.Global.{Vec}
use Rattle.vyrd_own_text.proofs.LastLaws.{holding_last}
use Rattle.vyrd_own_text.proofs.outer.hold.Goals as goal

held : (n : ℕ) (old rest new : List (Vec ℕ)) (x y : Vec ℕ) → old ≡ rest ++ x ∷ [] → new ≡ rest
    ++ y ∷ [] → y.items ≡ x.items ++ n ∷ []
    → map (λ (v : Vec ℕ). v.items) new ≡ holding n (map (λ (v : Vec ℕ). v.items) old)
held n old rest new x y eo en ey =
    ap (map (λ (v : Vec ℕ). v.items)) en ∙ map-append (λ (v : Vec ℕ). v.items) rest (y ∷ [])
    ∙ ap (λ z. map (λ (v : Vec ℕ). v.items) rest ++ z ∷ []) ey
    ∙ sym (holding_last n (map (λ (v : Vec ℕ). v.items) rest) x.items)
    ∙ ap (holding n) (sym (map-append (λ (v : Vec ℕ). v.items) rest (x ∷ []))
    ∙ sym (ap (map (λ (v : Vec ℕ). v.items)) eo))

pub returns-in_ok-put : goal.returns-in_ok-put
returns-in_ok-put c =
    held c.args.number c.args.lists.now.items c.pop.new.self.items c.put.new.items.items
    c.in-Some.list c.push.new.self
    c.in-Some.ensures.items c.in_ok-put.ensures c.in_ok-push.ensures.items
