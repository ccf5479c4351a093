use Rattle.vyrd_live.proofs.Prelude.{◌≡◌, ◌+◌, ◌++◌, [], ◌∷◌, length, map, ap, ◌∙◌, sym, subst}
use Rattle.vyrd_live.proofs.Prelude.{length-append, map-append, numbers_below, workload_of}
use Rattle.vyrd_live.proofs.Prelude.{work_script}
use Rattle.std.specs.Prelude.{All}
use Rattle.std.proofs.lemmas.List.Elements.{All-append, All-cons, All-nil}
use Rattle.vyrd_base.proofs.PlaceLaws.{numbers_below-push}
use Rattle.vyrd_live.proofs.by_turns.machines_of.Goals as goal

pub loop-caller-preserved : goal.loop-caller-preserved
loop-caller-preserved g c =
    let before = c.loop-caller.machines.items in
    let m = c.in_ok-of_caller.field-0 in
    let w = workload_of c.args.work.now in
    record {
      count = ap length c.in_ok-push.ensures.items ∙ length-append before (m ∷ [])
          ∙ ap (λ n. n + 1) c.loop-caller.invariant.count;
      made = subst (All (λ m. g.M.Machine.header_of m ≡ c.args.work.now.header))
          (sym c.in_ok-push.ensures.items)
          (All-append (λ m. g.M.Machine.header_of m ≡ c.args.work.now.header) before
          (m ∷ []) c.loop-caller.invariant.made
          (All-cons (λ m. g.M.Machine.header_of m ≡ c.args.work.now.header) m
          [] c.in_ok-of_caller.ensures.header
          (All-nil (λ m. g.M.Machine.header_of m ≡ c.args.work.now.header))));
      scripts = ap (map g.M.Machine.script) c.in_ok-push.ensures.items
          ∙ map-append g.M.Machine.script before (m ∷ [])
          ∙ ap (λ xs. xs ++ g.M.Machine.script m ∷ []) c.loop-caller.invariant.scripts
          ∙ ap (λ s. map (work_script w) (numbers_below c.loop-caller.caller) ++ s ∷ [])
          c.in_ok-of_caller.ensures.script
          ∙ sym (ap (map (work_script w)) (numbers_below-push c.loop-caller.caller)
          ∙ map-append (work_script w) (numbers_below c.loop-caller.caller)
          (c.loop-caller.caller ∷ []));
    }
