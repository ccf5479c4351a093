use Rattle.vyrd_judge.proofs.Prelude.{◌≡◌, Some, [], ap, subst, sym, ◌∙◌, IfOk, rules_by}
use Rattle.vyrd_judge.proofs.Prelude.{state_at_start}
use Rattle.vyrd_base.proofs.NoStart.{state_at_start-none}
use Rattle.vyrd_judge.proofs.online.Judge.new.Goals as goal

pub begin-requires-clause-spec_header : goal.begin-requires-clause-spec_header
begin-requires-clause-spec_header g c = ap (λ l. (rules_by l).header) c.in_ok-spec.ensures.charter

pub begin-requires-clause-state : goal.begin-requires-clause-state
begin-requires-clause-state g c =
    ap (λ l. state_at_start (rules_by l) []) c.in_ok-spec.ensures.charter
    ∙ state_at_start-none c.args.header ∙ ap Some (sym c.in_ok-spec.ensures.state)

pub returns-clause-charter : goal.returns-clause-charter
returns-clause-charter g c =
    subst (λ l. IfOk c.begin.result (λ j. j.kept.charter ≡ l)) c.in_ok-spec.ensures.charter
    c.begin.ensures.charter
