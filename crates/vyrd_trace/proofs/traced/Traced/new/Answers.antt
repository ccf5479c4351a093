use Rattle.vyrd_trace.proofs.Prelude.{ℕ, List, [], sym, ◌∙◌, subst, opening, Plan, first_record}
use Rattle.vyrd_trace.proofs.Prelude.{TraceKept}
use Rattle.vyrd_trace.proofs.Dealing.{opens}
use Rattle.vyrd_trace.proofs.traced.Traced.new.Goals as goal

pub of_words-requires : goal.of_words-requires
of_words-requires c =
    let p : Plan = record {
      plain = c.args.plain;
      locks = c.args.locks;
      callers = c.args.callers;
      limit = c.args.limit;
    } in
    let zeros = c.in_ok-words.ensures.items_if_clones_equal (λ y h. h) in
    subst (λ (ws : List ℕ). TraceKept p (opening {S = Unit {0}} ws [] first_record))
    (sym (c.as_slice.ensures.value ∙ zeros))
    (opens p c.requires.callers.0)
