use Rattle.vyrd_follow.proofs.Prelude.{◌≡◌, ◌++◌, ap, cond, Some, ◌∙◌, sym, take, get_or, map}
use Rattle.vyrd_follow.proofs.Prelude.{take_more, take_all, LastStepped, does_set, last_of}
use Rattle.vyrd_follow.proofs.Prelude.{placed_at}
use Rattle.vyrd_base.specs.declared.own.effect.Effect.TheVariants.{SetShown}
use Rattle.vyrd_follow.proofs.LastLaws.{noted_next}
use Rattle.vyrd_follow.proofs.last.noted.Goals as goal
use Rattle.vyrd_follow.proofs.last.noted.Goals.{then-is_set_by, else-is_set_by}

pub loop-effect-preserved : goal.loop-effect-preserved
loop-effect-preserved c = λ before is.
    let i = c.loop-effect.effect-index in
    let told = c.args.told in
    let at = c.args.at in
    let done = c.args.done.now in
    let doing = get_or done i (SetShown 0 0) in
    let found = c.loop-effect.found in
    let next : c.if-is_set_by.found
    ≡ cond (does_set told doing) (Some (LastStepped at doing)) found =
    elim c.if-is_set_by.branch [
      | then-is_set_by w ↦
          w.found-is ∙ ap (λ b. cond b (Some (LastStepped at doing)) found)
          (sym w.if-is_set_by.true ∙ c.is_set_by.ensures)
      | else-is_set_by w ↦
          w.found-is ∙ ap (λ b. cond b (Some (LastStepped at doing)) found)
          (sym w.if-is_set_by.false ∙ c.is_set_by.ensures)
    ] in
    noted_next told before at (take i done) doing found c.if-is_set_by.found
    (c.loop-effect.invariant before is) next
    ∙ ap (λ xs. last_of (before ++ map (placed_at at) xs) told)
    (sym (take_more done i (SetShown 0 0) c.loop-effect-test.true))

pub returns : goal.returns
returns c = λ before is.
    c.loop-effect.invariant before is
    ∙ ap (λ xs. last_of (before ++ map (placed_at c.args.at) xs) c.args.told)
    (take_all c.loop-effect.effect-index c.args.done.now c.loop-effect-test.false)
