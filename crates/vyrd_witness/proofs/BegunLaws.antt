-- A caller's open call, entry by entry back from a position.
use Rattle.vyrd_witness.proofs.Prelude
use Prelude.{◌≡◌, ℕ, ◌+◌, ◌-◌, ◌<◌, Bool, true, ◌&&◌, List, length, take, Option, Some, None}
use Prelude.{slice_get, ap, ◌∙◌, arith, length-take-le, option_or, Kind, Call, Return, Entry}
use Prelude.{by_caller, newest_first, first_answer, length-newest_first, is_same, isnt_same}
use Rattle.std.specs.Prelude.{if◌then◌else◌, ◌==◌, ◌≢◌, option_map}
use Rattle.std.specs.Option.{option_flatten}
use Rattle.vyrd_base.specs.declared.subject.Method.{Method}
use Rattle.vyrd_base.specs.declared.subject.Args.{Args}
use Rattle.vyrd_base.specs.Callers.{call_or_return, is_call, entries_before_call}
use Rattle.vyrd_witness.specs.declared.execution.Begun.{Begun}
use Rattle.vyrd_witness.specs.Executions.{begun_in}
use Rattle.vyrd_witness.proofs.PhaseLaws.{newest_at}

-- the call that the entries before a position leave open
abbrev pub begun_before : ℕ → List Entry → ℕ → Option Begun
begun_before c log n = begun_in c (newest_first (take n log))

-- it is that of the whole log
abbrev pub LeavesBegun : ℕ → List Entry → ℕ → Type 0
LeavesBegun c log n = begun_before c log n ≡ begun_in c (newest_first log)

-- with one more entry, by whether it is the caller's
abbrev begun_with : Bool → Kind → ℕ → List Entry → Option Begun
begun_with own kind c earlier = option_map
    (λ called. record {
      at = length (if own && is_call kind then earlier else entries_before_call c earlier);
      method = called.method;
      args = called.args;
    })
    (option_flatten (option_or (if own then call_or_return kind else None)
    (first_answer (by_caller c call_or_return) earlier)))

begun_next : (c : ℕ) (log : List Entry) (n : ℕ) (e : Entry) → slice_get log n ≡ Some e
    → begun_before c log (n + 1)
    ≡ begun_with (e.caller == c) e.kind c (newest_first (take n log))
begun_next c log n e here = ap (begun_in c) (newest_at log n e here)

-- an entry of another caller
other_before : (c : ℕ) (log : List Entry) (n : ℕ) (e : Entry) → slice_get log n ≡ Some e
    → e.caller ≢ c → begun_before c log (n + 1) ≡ begun_before c log n
other_before c log n e here other = cc (begun_next c log n e here, isnt_same e.caller c other)

-- an entry of the caller
own_before : (c : ℕ) (log : List Entry) (n : ℕ) (e : Entry) → slice_get log n ≡ Some e
    → e.caller ≡ c
    → begun_before c log (n + 1) ≡ begun_with true e.kind c (newest_first (take n log))
own_before c log n e here same = cc (begun_next c log n e here, is_same e.caller c same)

quiet_with : (kind : Kind) (c : ℕ) (earlier : List Entry)
    → ((method : Method) (args : Args) → kind ≡ Call method args → ⊥)
    → ((reply : ℕ) → kind ≡ Return reply → ⊥)
    → begun_with true kind c earlier ≡ begun_in c earlier
quiet_with kind c earlier calls returns = grind arith

-- an entry further back
goes_back : (c : ℕ) (log : List Entry) (i n : ℕ) → i < length log → n ≡ length log - 1 - i
    → begun_before c log (n + 1) ≡ begun_before c log n → LeavesBegun c log (length log - i)
    → LeavesBegun c log (length log - (i + 1))
goes_back c log i n low place step so = grind arith

pub back_other : (c : ℕ) (log : List Entry) (i n : ℕ) (e : Entry) → i < length log
    → n ≡ length log - 1 - i → slice_get log n ≡ Some e → e.caller ≢ c
    → LeavesBegun c log (length log - i) → LeavesBegun c log (length log - (i + 1))
back_other c log i n e low place here other = search (goes_back, other_before, here, arith)

pub back_quiet : (c : ℕ) (log : List Entry) (i n : ℕ) (e : Entry) → i < length log
    → n ≡ length log - 1 - i → slice_get log n ≡ Some e → e.caller ≡ c
    → ((method : Method) (args : Args) → e.kind ≡ Call method args → ⊥)
    → ((reply : ℕ) → e.kind ≡ Return reply → ⊥)
    → LeavesBegun c log (length log - i) → LeavesBegun c log (length log - (i + 1))
back_quiet c log i n e low place here same calls returns =
    goes_back c _ i n low place (own_before c _ n e here same ∙ quiet_with _ c _ calls returns)

-- at the call, at a return, and with no entry left
found_back : (c : ℕ) (log : List Entry) (i n : ℕ) (e : Entry) → i < length log
    → n ≡ length log - 1 - i → slice_get log n ≡ Some e → e.caller ≡ c
    → LeavesBegun c log (length log - i)
    → begun_with true e.kind c (newest_first (take n log)) ≡ begun_in c (newest_first log)
found_back c log i n e low place here same so = grind (arith, here, own_before)

pub back_call : (c : ℕ) (log : List Entry) (i n : ℕ) (e : Entry) (method : Method) (args : Args)
    → i < length log → n ≡ length log - 1 - i → slice_get log n ≡ Some e → e.caller ≡ c
    → e.kind ≡ Call method args → LeavesBegun c log (length log - i)
    → Some (record { at = n; method = method; args = args }) ≡ begun_in c (newest_first log)
back_call c log i n e method args low place here same is so =
    cc (
      length-newest_first (take n log),
      length-take-le n log (omega (arith, low, place)),
      found_back c log i n e low place here same so,
    )

pub back_return : (c : ℕ) (log : List Entry) (i n : ℕ) (e : Entry) (reply : ℕ) → i < length log
    → n ≡ length log - 1 - i → slice_get log n ≡ Some e → e.caller ≡ c → e.kind ≡ Return reply
    → LeavesBegun c log (length log - i) → None ≡ begun_in c (newest_first log)
back_return c log i n e reply low place here same is so =
    cc (found_back c log i n e low place here same so)

pub ruleset begun_back = (back_other, back_quiet, back_call, back_return)
