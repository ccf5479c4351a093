use Rattle.std.proofs.Common.{◌≡◌, ℕ, length, take, List, ◌++◌, min, ap, ◌∙◌, arith}
use Rattle.std.proofs.lemmas.List.{take_all, take_min, length-take, take-append-le}
use Rattle.vyrd_base.specs.declared.history.Stamped.{Stamped}
use Rattle.vyrd_relay.proofs.parcel.put_first.Goals as goal

-- what was copied to the front
front_is : (front rest events : List Stamped) (n count : ℕ) → front ≡ take count events
    → count ≡ min n (length events)
    → take count (front ++ rest) ≡ take n events
front_is front rest events n count is counted =
    take-append-le count front rest (omega (arith, ap length is, length-take count events, counted))
    ∙ take_all count front (omega (arith, ap length is, length-take count events)) ∙ is
    ∙ ap (λ (m : ℕ). take m events) counted ∙ take_min n events

pub returns-clause-first : goal.returns-clause-first
returns-clause-first c = front_is _ _ c.args.events.now 32 _ c.copy_from_slice.ensures.after
    (omega arith)
