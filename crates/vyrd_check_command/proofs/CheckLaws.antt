-- The verdict that was reached is that of the whole input.
use Rattle.std.proofs.Common.{◌≡◌, ℕ, List, [], ◌++◌, Option, Some, None, ap, ◌∙◌, inl, inr, subst}
use Rattle.std.specs.Prelude.{◌⊎◌, IfSome}
use Rattle.vyrd_base.specs.declared.verdict.Verdict.{Verdict}
use Rattle.vyrd_base.specs.declared.verdict.Verdict.TheVariants.{Accepted, Violation, Malformed}
use Rattle.vyrd_base.specs.Devices.{SourceKnown, IsAtEnd}
use Rattle.vyrd_base.specs.LogVerdicts.{log_verdict, log_verdict_so_far}
use Rattle.vyrd_base.specs.Limits.{IsLimit}
use Rattle.vyrd_log_check.proofs.LogLasts.{log_verdict_stands}
use Rattle.vyrd_log_check.proofs.SoFarLaws.{IsBad, so_far_bad}
use Rattle.vyrd_check_command.specs.Inputs.{IsTaken, IsVerdictOf}
use Rattle.vyrd_check_command.specs.Outputs.{status_of}
use Rattle.vyrd_check_command.specs.Checks.{IsSettled}
use Rattle.vyrd_check_command.specs.Inside.Progress.{IsReached}
use Rattle.vyrd_check_command.proofs.TakenLaws.{no_more_bytes}

same_bytes : (xs ys : List ℕ) → ◌≡◌ {A = Option (List ℕ)} (Some xs) (Some ys) → xs ≡ ys
same_bytes xs ys e = cc

module _ (max : ℕ) (within : IsLimit max) where
  -- the verdict that was reached, of an input whose bytes are told
  verdict_of_told : (input taken left : List ℕ) (v : Verdict) → input ≡ taken ++ left
      → ((left ≡ []) × (v ≡ log_verdict max taken)) ⊎ (log_verdict_so_far max taken ≡ Some v)
      → v ≡ log_verdict max input
  verdict_of_told input taken left v whole (inl ended) = cc (ended.1, ended.0, no_more_bytes taken)
  verdict_of_told input taken left v whole (inr there) =
      cc (log_verdict_stands max taken left v within.low within.high there)

  -- the same, if they are told
  verdict_of_rest : (before after : Option (List ℕ)) (taken : List ℕ) (v : Verdict)
      → IsTaken before taken after
      → (IfSome after (λ left. left ≡ []) × (v ≡ log_verdict max taken))
      ⊎ (log_verdict_so_far max taken ≡ Some v)
      → IsVerdictOf max before v
  verdict_of_rest None after taken v told reached = tt
  verdict_of_rest (Some input) None taken v told reached = absurd (never told)
    where
      never : ◌≡◌ {A = Option (List ℕ)} (Some input) None → ⊥
      never e = cc
  verdict_of_rest (Some input) (Some left) taken v told reached =
      verdict_of_told input taken left v (same_bytes input (taken ++ left) told) reached

  module _ (before after : SourceKnown) (v : Verdict) (r : IsReached max before after v) where
    pub reached_judged : IsVerdictOf max before.rest v
    reached_judged = verdict_of_rest before.rest after.rest r.taken v r.told (by_end r.reached)
      where
        by_end : (IsAtEnd after × (v ≡ log_verdict max r.taken))
            ⊎ (log_verdict_so_far max r.taken ≡ Some v)
            → (IfSome after.rest (λ left. left ≡ []) × (v ≡ log_verdict max r.taken))
            ⊎ (log_verdict_so_far max r.taken ≡ Some v)
        by_end (inl ended) = inl (ended.0.none, ended.1)
        by_end (inr there) = inr there

    pub reached_settled : IsSettled max before after
    reached_settled = record { taken = r.taken; told = r.told; enough = by_end r.reached }
      where
        of_whole : (o : Option (List ℕ)) → IsVerdictOf max o v
            → log_verdict_so_far max r.taken ≡ Some v
            → IfSome o (λ input. log_verdict_so_far max r.taken ≡ Some (log_verdict max input))
        of_whole None is there = tt
        of_whole (Some input) is there = there ∙ ap Some is

        by_end : (IsAtEnd after × (v ≡ log_verdict max r.taken))
            ⊎ (log_verdict_so_far max r.taken ≡ Some v)
            → IsAtEnd after ⊎ IfSome before.rest
            (λ input. log_verdict_so_far max r.taken ≡ Some (log_verdict max input))
        by_end (inl ended) = inl ended.0
        by_end (inr there) = inr (of_whole before.rest reached_judged there)

-- acceptance is reached at the source's end alone
pub reached_accepted : (max : ℕ) (before after : SourceKnown) (v : Verdict) → status_of v ≡ 0
    → IsReached max before after v → IsAtEnd after
reached_accepted max before after v accepted r = by_end r.reached
  where
    by_verdict : (v : Verdict) → IsBad (Some v) → status_of v ≡ 0 → ⊥
    by_verdict (Accepted entries commits observers) bad e = bad
    by_verdict (Violation line why) bad e = cc
    by_verdict (Malformed line rule) bad e = cc

    by_end : (IsAtEnd after × (v ≡ log_verdict max r.taken))
        ⊎ (log_verdict_so_far max r.taken ≡ Some v) → IsAtEnd after
    by_end (inl ended) = ended.0
    by_end (inr there) = absurd (by_verdict v (subst IsBad there (so_far_bad max r.taken)) accepted)
