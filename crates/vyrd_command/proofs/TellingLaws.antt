-- What an account tells of a run that ended is the answer.
use Rattle.vyrd_command.proofs.Prelude
use Prelude.{◌≡◌, ℕ, List, [], ◌++◌, length, Option, Some, None, refl, IfSome, log_of, built_in}
use Prelude.{rules_of, rules_by, verdict, verdict_text, HasRun, most_events, Workload, KeepsLimits}
use Prelude.{work_scripts, LeavesRun, status_of, Show, AccountView, HasTaken, run_text, TellsRun}
use Prelude.{TellsLive, generated_line, CountsRun}
use Rattle.vyrd_command.proofs.StepLaws.{is_turned, is_live}

pub of_some : {A : Type 0} (P : Type 0) (o : Option A) (x : A) → o ≡ Some x → IfSome o (λ _. P) → P
of_some P None x e p = cc
of_some P (Some y) x e p = p

pub tells_run : (show : Show) (w : Workload) (a : AccountView) (words : List ℕ) (status : ℕ)
    (text : List ℕ) → KeepsLimits w
    → (run : HasRun (work_scripts w) w.turns w.header HasTaken a words) → a.judge.kept.charter
    ≡ built_in w.header → a.show ≡ show
    → status ≡ status_of (verdict (rules_by a.judge.kept.charter) [] (log_of run.history))
    → text ≡ run_text a.show (rules_by a.judge.kept.charter).header run.history
    (verdict (rules_by a.judge.kept.charter) [] (log_of run.history))
    → TellsRun show w status text
tells_run show w a words status text limits run charter shows status_is text_is = record {
  history = run.history;
  verdict = verdict _ [] _;
  turned = is_turned w _ limits run.runs;
  status_is = cc;
  text_is = cc;
}

pub counts_run : (n : ℕ) (w : Workload) (a : AccountView) (words : List ℕ) (status : ℕ)
    (text : List ℕ) → KeepsLimits w
    → (run : HasRun (work_scripts w) w.turns w.header HasTaken a words) → a.judge.kept.charter
    ≡ built_in w.header
    → status ≡ status_of (verdict (rules_by a.judge.kept.charter) [] (log_of run.history))
    → text ≡ generated_line n (length run.history)
    ++ verdict_text (verdict (rules_by a.judge.kept.charter) [] (log_of run.history))
    → CountsRun n w status text
counts_run n w a words status text limits run charter status_is text_is = record {
  history = run.history;
  verdict = verdict _ [] _;
  turned = is_turned w _ limits run.runs;
  status_is = cc;
  text_is = cc;
}

pub tells_live : (show : Show) (w : Workload) (a : AccountView) (words : List ℕ) (status : ℕ)
    (text : List ℕ) → KeepsLimits w
    → (run : LeavesRun w.header most_events (work_scripts w) HasTaken a words None)
    → a.judge.kept.charter ≡ built_in w.header → a.show ≡ show
    → status ≡ status_of (verdict (rules_by a.judge.kept.charter) [] (log_of run.history))
    → text ≡ run_text a.show (rules_by a.judge.kept.charter).header run.history
    (verdict (rules_by a.judge.kept.charter) [] (log_of run.history))
    → TellsLive show w status text
tells_live show w a words status text limits run charter shows status_is text_is = record {
  history = run.history;
  verdict = verdict (rules_of _) [] (log_of _);
  live = is_live w _ _ limits
      run.legal run.played.0 run.played.1 refl;
  status_is = cc;
  text_is = cc;
}
