-- One ending more.
use Rattle.vyrd_live.proofs.Prelude.{◌≡◌, ℕ, List, ◌+◌, ◌<◌, map, length, ap, ◌∙◌, sym, subst}
use Rattle.vyrd_live.proofs.Prelude.{get_or-map, Stopped, Ending, Finished, Spent, IsFirstSpent}
use Rattle.std.specs.Prelude.{get_or}
use Rattle.vyrd_live.proofs.EndingLaws.{first_finished, first_spent}
use Rattle.vyrd_live.proofs.workers.first_spent.Goals as goal
use Rattle.vyrd_live.proofs.workers.first_spent.Goals.{in-Finished, in-Spent}

-- the endings, as far as they are known
abbrev endings : List Stopped → List Ending
endings stopped = map (λ (s : Stopped). s.ending) stopped

ending_here : (stopped : List Stopped) (i : ℕ) (one : Stopped) (ending : Ending)
    → i < length stopped → one ≡ get_or stopped i one
    → one.ending ≡ ending
    → get_or (endings stopped) i Finished ≡ ending
ending_here stopped i one ending low is e = get_or-map (λ (s : Stopped). s.ending) stopped i one
    Finished low
    ∙ ap (λ (s : Stopped). s.ending) (sym is) ∙ e

pub loop-caller-preserved : goal.loop-caller-preserved
loop-caller-preserved c =
    let all = endings c.args.stopped.now in
    let n = c.loop-caller.caller in
    let one = c.index-stopped-caller.result in
    elim c.match-one.branch [
      | in-Finished w ↦ subst (IsFirstSpent all (n + 1)) (sym w.first-is)
          (first_finished all n c.loop-caller.first
          (ending_here c.args.stopped.now n one Finished c.loop-caller-test.true
          c.index-stopped-caller.is
          w.in-Finished.is) c.loop-caller.invariant)
      | in-Spent w ↦ subst (IsFirstSpent all (n + 1)) (sym (w.first-is ∙ w.or-first.ensures))
          (first_spent all n c.loop-caller.first
          (ending_here c.args.stopped.now n one Spent c.loop-caller-test.true
          c.index-stopped-caller.is w.in-Spent.is)
          c.loop-caller.invariant)
    ]
