-- A walk comes to a node.
use Rattle.vyrd_tree.proofs.Prelude.{◌≡◌, ◌≢◌, ℕ, zero, suc, ◌-◌, ◌<◌, ◌≤◌, refl, ap, ◌∙◌, sym}
use Rattle.vyrd_tree.proofs.Prelude.{arith, cond, Header, is_below, isnt_below, Script, Task, Visit}
use Rattle.vyrd_tree.proofs.Prelude.{Errand, visit_node, visiting_rest}
use Rattle.vyrd_tree.specs.declared.visit.Visiting.TheVariants.{Lock}
use Rattle.vyrd_tree.specs.Rests.Errands.{arrived_for, walk_on, key_for, toward, lost_for}

-- the visit of a node, with this errand and this many visits left after it
abbrev visit_of : Header → Task → Errand → ℕ → ℕ → Script
visit_of h task e left number = visit_node h task.variant (key_for task e) (toward e) number
    (lost_for task e)
    (walk_on h task e left) (arrived_for h task e)

pub comes_in : (h : Header) (task : Task) (e : Errand) (left number : ℕ) (v : Visit) → v.errand ≡ e
    → v.left ≡ left - 1 → v.node.number ≡ number
    → number < h.size → left ≢ 0 → visiting_rest h task v Lock ≡ walk_on h task e left number
comes_in h task e zero number v is_errand is_left is_number low some = absurd (some refl)
comes_in h task e (suc l) number v is_errand is_left is_number low some =
    let fewer : v.left ≡ l = omega (arith, is_left) in
    ap (λ x. visit_of h task x v.left v.node.number) is_errand
    ∙ ap (λ n. visit_of h task e n v.node.number) fewer ∙ ap (visit_of h task e l) is_number
    ∙ ap (λ b. cond b (visit_of h task e l number) (lost_for task e)) (sym (is_below _ _ low))

-- there is no such node, or no visit is left
pub is_lost : (h : Header) (task : Task) (e : Errand) (left number : ℕ) → h.size ≤ number
    → walk_on h task e left number ≡ lost_for task e
is_lost h task e left number high = grind (arith, isnt_below)
