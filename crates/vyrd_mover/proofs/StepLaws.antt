-- The code of a step says the step.
use Rattle.vyrd_mover.proofs.Prelude.{◌≡◌, ℕ, ◌^◌, ◌<◌, List, [], ◌∷◌, ◌++◌, map, length, get_or}
use Rattle.vyrd_mover.proofs.Prelude.{ap, sym, ◌∙◌, arith, Did, Stamped, Role, Step, IsInRange}
use Rattle.vyrd_mover.proofs.Prelude.{role_of, step_of, code_of, step_coded, IsShort, IsWithin}
use Rattle.std.proofs.lemmas.List.{map-append, get_or-map, length-map}
use Rattle.vyrd_mover.specs.Steps.{role_number, numbered_role}

role_back : (role : Role) → numbered_role (role_number role) ≡ role
role_back role = grind arith

pub step_back : (step : Step) → step.caller < 256 → step_coded (code_of step) ≡ step
step_back step low = grind (arith, step, role_back)

-- an event whose cell is in range has a short step
pub short_role : (plain all : ℕ) (did : Did) → IsInRange plain all did → plain < 2 ^ 22
    → IsShort (role_of did)
short_role plain all did is low = grind (arith, plain)

-- and the cell that it accesses is plain
pub role_within : (plain all : ℕ) (did : Did) → IsInRange plain all did
    → IsWithin plain (role_of did)
role_within plain all did is = grind (arith, plain)

-- the steps of codes, one more
pub steps_more : (codes : List ℕ) (history : List Stamped) (e : Stamped) → map step_coded codes
    ≡ map step_of history → e.caller < 256
    → map step_coded (codes ++ code_of (step_of e) ∷ []) ≡ map step_of (history ++ e ∷ [])
steps_more codes history e same low = grind (arith, map-append, step_back)

-- there are as many codes as events
pub codes_count : (codes : List ℕ) (history : List Stamped) → map step_coded codes
    ≡ map step_of history → length codes ≡ length history
codes_count codes history same = cc (length-map codes step_coded, length-map history step_of)

-- a code says the event at its place
pub code_at : (codes : List ℕ) (history : List Stamped) (i : ℕ) (d : Stamped) → map step_coded codes
    ≡ map step_of history → i < length codes
    → step_coded (get_or codes i 0) ≡ step_of (get_or history i d)
code_at codes history i d same low =
    let count = codes_count codes history same in
    let low_too : i < length history = omega (arith, count) in
    sym (get_or-map step_coded codes i 0 (step_of d) low)
    ∙ ap (λ steps. get_or steps i (step_of d)) same
    ∙ get_or-map step_of history i d (step_of d) low_too
