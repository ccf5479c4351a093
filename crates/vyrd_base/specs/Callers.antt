-- What a caller is in the middle of at a place of a log: an open execution, an open block, an
-- execution that has committed, a commit inside the open block, and the words that the block has
-- written. The entries before the place are given the nearest first, so each is the answer of the
-- first entry that has one.
use Rattle.std.specs.Prelude.{ℕ, Bool, true, false, ◌&&◌, ◌==◌, List, [], ◌∷◌, Option, Some, None}
use Rattle.std.specs.Prelude.{unwrap_or, if◌then◌else◌}
use Rattle.std.specs.Option.{option_flatten}
use Rattle.vyrd_base.specs.declared.subject.Method.{Method}
use Rattle.vyrd_base.specs.declared.subject.Args.{Args}
use Rattle.vyrd_base.specs.declared.log.Kind.{Kind}
use Rattle.vyrd_base.specs.declared.log.Kind.TheVariants.{Call, Return, Write, Commit, BlockOpen}
use Rattle.vyrd_base.specs.declared.log.Kind.TheVariants.{BlockClose, BlockCommit}
use Rattle.vyrd_base.specs.declared.log.Entry.{Entry}
use Rattle.vyrd_base.specs.Places.{first_answer}

-- an answer that only this caller's entries give
abbrev pub by_caller : {A : Type 0} → ℕ → (Kind → Option A) → Entry → Option A
by_caller c answer e = if e.caller == c then answer e.kind else None

-- a method that was called, and with what
pub record Called : Type 0 where
  pub method : Method
  pub args : Args

-- a call begins an execution, and a return ends it
abbrev pub call_or_return : Kind → Option (Option Called)
call_or_return (Call method args) = Some (Some (record { method = method; args = args }))
call_or_return (Return reply) = Some None
call_or_return _ = None

-- the caller's last call, provided that no return of the caller stands after it
abbrev pub open_call : ℕ → List Entry → Option Called
open_call c earlier = option_flatten (first_answer (by_caller c call_or_return) earlier)

-- an open begins a block, and both kinds of close end it
abbrev pub open_or_close : Kind → Option Bool
open_or_close BlockOpen = Some true
open_or_close BlockClose = Some false
open_or_close BlockCommit = Some false
open_or_close _ = None

-- whether the caller's last open has no close after it
abbrev pub has_block : ℕ → List Entry → Bool
has_block c earlier = unwrap_or (first_answer (by_caller c open_or_close) earlier) false

-- the two kinds of commit, back to the call
abbrev pub commit_or_call : Kind → Option Bool
commit_or_call Commit = Some true
commit_or_call BlockCommit = Some true
commit_or_call (Call method args) = Some false
commit_or_call (Return reply) = Some false
commit_or_call _ = None

-- whether a commit of the caller stands between its call and here
abbrev pub has_committed : ℕ → List Entry → Bool
has_committed c earlier = unwrap_or (first_answer (by_caller c commit_or_call) earlier) false

-- a lone commit, back to the open
abbrev pub commit_or_open : Kind → Option Bool
commit_or_open Commit = Some true
commit_or_open BlockOpen = Some false
commit_or_open _ = None

-- whether the caller has an open block with a lone commit in it
abbrev pub has_inner_commit : ℕ → List Entry → Bool
has_inner_commit c earlier =
    has_block c earlier && unwrap_or (first_answer (by_caller c commit_or_open) earlier) false

-- a write to the word, back to the open
abbrev pub write_or_open : ℕ → Kind → Option Bool
write_or_open w (Write word value) = if word == w then Some true else None
write_or_open w BlockOpen = Some false
write_or_open w _ = None

-- whether the caller has an open block in which it wrote the word
abbrev pub holds_word : ℕ → ℕ → List Entry → Bool
holds_word c w earlier =
    has_block c earlier && unwrap_or (first_answer (by_caller c (write_or_open w)) earlier) false

-- whether an entry begins an execution
abbrev pub is_call : Kind → Bool
is_call (Call method args) = true
is_call _ = false

-- the entries before the caller's last call
abbrev pub entries_before_call : ℕ → List Entry → List Entry
entries_before_call c [] = []
entries_before_call c (e ∷ earlier) =
    if e.caller == c && is_call e.kind then earlier else entries_before_call c earlier
