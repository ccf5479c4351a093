-- Single acts of a script that comes to its return in time.
use Rattle.vyrd_memory.proofs.Prelude.{◌≡◌, ℕ, ◌+◌, ◌-◌, ◌≤◌, Bool, true, false, cond, refl, arith}
use Rattle.vyrd_memory.proofs.Prelude.{Commit, Act, Load, Mark, Script, stop, step, perform}
use Rattle.vyrd_memory.specs.Scripts.{returns, gives_up}
use Rattle.vyrd_memory.specs.Bounds.{is_return, EndsByReturn}

-- there may be more time
pub in_more : (n m : ℕ) (script : Script) → n ≤ m → EndsByReturn n script → EndsByReturn m script
in_more n m stop le ends = ends
in_more n m (step act rest) le ends = (
  omega (arith, ends.0),
  ends.1,
  λ on answer is. in_more (n - 1) (m - 1) (rest answer)
      (omega (arith, le)) (ends.2 on answer is),
)

not_both : (b : Bool) → b ≡ false → b ≡ true → ⊥
not_both b e f = cc

-- one more act
pub loads_in : (n cell : ℕ) (rest : ℕ → Script) → ((answer : ℕ) → EndsByReturn n (rest answer))
    → EndsByReturn (n + 1) (step (Load cell) rest)
loads_in n cell rest ends = grind (arith, ends, in_more)

pub acts_in : (n : ℕ) (act : Act) (later : Script) → is_return act ≡ false → EndsByReturn n later
    → EndsByReturn (n + 1) (perform act later)
acts_in n act later on ends = grind (arith, ends, not_both, in_more)

-- one way or the other
pub either_in : (n : ℕ) (b : Bool) (x y : Script) → EndsByReturn n x → EndsByReturn n y
    → EndsByReturn n (cond b x y)
either_in n b x y e f = search arith

-- the return itself, and a commit before it
pub returns_in : (reply : ℕ) → EndsByReturn 1 (returns reply)
returns_in reply = (omega arith, λ e. refl, λ on. cc)

pub gives_up_in : EndsByReturn 2 gives_up
gives_up_in = acts_in 1 (Mark Commit) (returns 0) refl (returns_in 0)
