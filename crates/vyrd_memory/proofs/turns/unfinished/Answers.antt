use Rattle.vyrd_memory.proofs.Prelude.{◌≡◌, ◌∙◌, ℕ, not, Some, [], ◌∷◌, ◌++◌, slice_get, arith, ap}
use Rattle.vyrd_memory.proofs.Prelude.{sym, filter, numbers_below, slice_get-is, is_unfinished}
use Rattle.vyrd_memory.proofs.UnfinishedLaws.{unfinished_are, one_more_kept, one_more_left}
use Rattle.vyrd_memory.proofs.turns.unfinished.Goals as goal
use Rattle.vyrd_memory.proofs.turns.unfinished.Goals.{then-not-is_done+in_ok-push, else-not-is_done}

pub loop-caller-preserved : goal.loop-caller-preserved
loop-caller-preserved g c =
    let machines = c.args.machines.now in
    let caller = c.loop-caller.caller in
    let keep = λ (x : ℕ). is_unfinished g.M.Machine.script (slice_get machines x) in
    let here : slice_get machines caller ≡ Some c.index-machines-caller.result =
    slice_get-is machines caller c.index-machines-caller.result c.loop-caller-test.true
    c.index-machines-caller.is in
    let kept : keep caller ≡ not c.is_done.result = ap (is_unfinished g.M.Machine.script) here
    ∙ ap not (sym c.is_done.ensures) in
    let before : c.loop-caller.callers.items ≡ filter keep (numbers_below caller) =
    c.loop-caller.invariant in
    elim c.if-not-is_done.branch [
      | then-not-is_done+in_ok-push w ↦
          ap (λ v. v.items) w.callers-is ∙ w.in_ok-push.ensures.items
          ∙ ap (λ cs. cs ++ caller ∷ []) before
          ∙ sym (one_more_kept keep caller (kept ∙ ap not w.if-not-is_done.true))
      | else-not-is_done w ↦
          ap (λ v. v.items) w.callers-is ∙ before
          ∙ sym (one_more_left keep caller (kept ∙ ap not w.if-not-is_done.false))
    ]

pub returns : goal.returns
returns = search (unfinished_are, arith)
