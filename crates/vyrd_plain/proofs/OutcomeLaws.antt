-- What a commit leads to, by what its steps answered.
use Rattle.vyrd_plain.proofs.Prelude.{◌≡◌, ℕ, Option, Some, None, subst, Reply, View, Amounts}
use Rattle.vyrd_plain.proofs.Prelude.{first_difference, State, Execution, CommitFaults, Rules}

-- what is known of the execution at a place holds for every execution there
pub for_execution : (P : Execution → Type 0) (o : Option (Option Execution)) (x y : Execution)
    → o ≡ Some (Some x) → o ≡ Some (Some y) → P x → P y
for_execution P o x y is_x is_y p = let same : x ≡ y = cc in subst P same p

pub refused : (r : Rules) (shown : Amounts) (x : Execution) (reply : ℕ) (before : State)
    → x.reply ≡ Some reply → r.next x.method x.args reply before ≡ None
    → CommitFaults r shown x before (Reply reply)
refused r shown x reply before replied none =
    record { reply = reply; returned = replied; fault = cc }

pub differs : (r : Rules) (shown : Amounts) (x : Execution) (reply : ℕ) (before after : State)
    (key : ℕ) → x.reply ≡ Some reply
    → r.next x.method x.args reply before ≡ Some after → first_difference shown (r.shown after)
    ≡ Some key → CommitFaults r shown x before (View key)
differs r shown x reply before after key replied next first =
    record { reply = reply; returned = replied; fault = cc }
