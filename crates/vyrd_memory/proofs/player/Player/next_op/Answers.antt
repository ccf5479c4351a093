use Rattle.vyrd_memory.proofs.Prelude
use Prelude.{◌≡◌, ℕ, ◌+◌, true, List, [], ◌∷◌, length, drop, Option, Some, None, ap, sym, ◌∙◌, Bor}
use Prelude.{get_or, is_some, nat_lt, MatchOption, IfSome, list_all, option_copied}
use Prelude.{drop_of_length-le, Header, below_of, not_below_of, first_true, Op}
use Rattle.std.proofs.lemmas.List.{drop_more}
use Rattle.vyrd_memory.specs.Players.{are_callable, is_callable}
use Rattle.vyrd_memory.proofs.player.Player.next_op.Goals as goal

-- what stands at a place of the operations, if something does
at_place : (h : Header) (ops : List Op) (n : ℕ) (r : Option (Bor Op)) → is_some r
    ≡ nat_lt n (length ops)
    → IfSome r (λ x. x.now ≡ get_or ops n x.now) → are_callable h (drop n ops) ≡ true
    → MatchOption (option_copied r) (drop n ops ≡ [])
    (λ op. (drop n ops ≡ op ∷ drop (n + 1) ops) × (is_callable h op ≡ true))
at_place h ops n None some is all = drop_of_length-le ops (not_below_of n (length ops) (sym some))
at_place h ops n (Some x) some is all =
    let rest = drop_more ops n x.now (below_of n (length ops) (sym some))
    ∙ ap (λ op. op ∷ drop (n + 1) ops) (sym is) in
    (rest, first_true (is_callable h x.now) _ (ap (list_all (is_callable h)) (sym rest) ∙ all))

pub returns : goal.returns
returns g c =
    rw (c.copied.ensures)
    (at_place c.args.self.now.underway.header c.args.self.now.ops.items c.args.self.now.begun
    c.get.result
    (cc (c.get.ensures.lookup.0, c.deref.ensures.value))
    (rw (← c.deref.ensures.value) c.get.ensures.lookup.1)
    c.args.self.now.callable)
