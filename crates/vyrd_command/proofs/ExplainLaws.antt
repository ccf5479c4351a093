-- What was taken of an input, and what is explained of it.
use Rattle.vyrd_command.proofs.Prelude
use Prelude.{◌≡◌, ℕ, List, [], ◌+◌, ◌-◌, ◌≤◌, ◌++◌, length, length-append, Bool, true, false, ap}
use Prelude.{◌∙◌, sym, subst, arith, inr, ◌⊎◌, IfSome, Verdict, SourceKnown, IsTaken, longest_read}
use Prelude.{status_of, taken_more, taken_nothing, IsMoreRead, longest_explained}
use Rattle.vyrd_base.specs.Devices.{IsAtEnd}
use Rattle.vyrd_base.specs.LogVerdicts.{log_verdict}
use Rattle.vyrd_base.specs.Limits.{IsLimit}
use Rattle.vyrd_explain.specs.declared.about.About.{About}
use Rattle.vyrd_explain.specs.Explained.{explained, is_settled}
use Rattle.vyrd_explain.specs.Explaining.{ExplainerState, HasTaken, limit_of}
use Rattle.vyrd_explain.proofs.SettledLaws.{settled_stays, nothing_settled, verdict_lasts}
use Rattle.vyrd_explain.proofs.SettledLaws.{text_lasts, unsettled_is_short}
use Rattle.vyrd_check_command.proofs.TakenLaws.{no_more_bytes, begins_later}
use Rattle.vyrd_command.specs.Explains.{SaysWhole, AnswersExplain, IsExplainNoFurther, IsLogTaken}

-- So many bytes were taken of an input, by what explains it, and the answer may still change.
pub record TakenSoFar (max : ℕ) (before now : SourceKnown) (explainer : ExplainerState)
    (count : ℕ) : Type 0 where
  pub bytes : List ℕ
  pub told : IsTaken before.rest bytes now.rest
  pub many : length bytes ≡ count
  pub limit : limit_of explainer ≡ max
  pub taken : HasTaken explainer bytes
  pub unsettled : is_settled max bytes ≡ false

pub nothing_taken : (max : ℕ) (before : SourceKnown) (explainer : ExplainerState)
    → limit_of explainer ≡ max → HasTaken explainer []
    → TakenSoFar max before before explainer 0
nothing_taken max before explainer limit taken = search (taken_nothing, nothing_settled, arith)

-- one read more is no further than it may be
no_further_by : (max : ℕ) (before after : SourceKnown) (bytes piece : List ℕ) → IsLimit max
    → is_settled max bytes ≡ false
    → IsTaken before.rest (bytes ++ piece) after.rest → length piece ≤ longest_read
    → length (bytes ++ piece) ≤ longest_explained max
    → IsExplainNoFurther max before after
no_further_by max before after bytes piece within unsettled told short few = record {
  taken = bytes ++ piece;
  told = told;
  no_more = λ first more same there.
      let later = begins_later (is_settled max)
      (λ bytes more. settled_stays max bytes more within.low within.high) bytes piece first more
      unsettled same there in
      omega (arith, later, length-append bytes piece, short);
  few = few;
}

module _ (max : ℕ) (before now after : SourceKnown) (explainer : ExplainerState) (count : ℕ)
    (within : IsLimit max)
    (so_far : TakenSoFar max before now explainer count) (few : count ≤ longest_explained max) where
  -- nothing more was taken
  pub same_no_further : after.rest ≡ now.rest → IsExplainNoFurther max before after
  same_no_further kept =
      let whole : so_far.bytes ++ [] ≡ so_far.bytes = no_more_bytes _ in
      no_further_by _ _ _ so_far.bytes [] within so_far.unsettled
      (rw whole (subst (IsTaken _ _) (sym kept) so_far.told)) (omega arith)
      (omega (arith, length-append so_far.bytes [], so_far.many, few))

  module _ (most n : ℕ) (cleared piece : List ℕ) (is_most : most ≡ longest_explained max)
      (empty : cleared ≡ [])
      (more : IsMoreRead (most - count) now after cleared piece n) where
    -- one piece more was read
    same_piece : piece ≡ more.piece
    same_piece = more.grown ∙ ap (λ old. old ++ more.piece) empty

    told_more : IsTaken before.rest (so_far.bytes ++ piece) after.rest
    told_more = taken_more before.rest now.rest after.rest so_far.bytes piece so_far.told
        (subst (λ xs. IsTaken now.rest xs after.rest) (sym same_piece) more.told)

    length_more : length piece ≡ n
    length_more = ap length same_piece ∙ more.many

    many_more : length (so_far.bytes ++ piece) ≡ count + n
    many_more = omega (arith, length-append so_far.bytes piece, so_far.many, length_more)

    pub few_more : count + n ≤ longest_explained max
    few_more = omega (arith, more.few, is_most, few)

    pub read_no_further : IsExplainNoFurther max before after
    read_no_further = no_further_by max before after so_far.bytes piece within so_far.unsettled
        told_more
        (omega (arith, length_more, more.short)) (omega (arith, many_more, few_more))

    module _ (new : ExplainerState) (fed : List ℕ) (settled : Bool) (all : fed ≡ piece)
        (limit : limit_of new ≡ limit_of explainer)
        (taken : (bytes : List ℕ) → HasTaken explainer bytes → HasTaken new (bytes ++ fed))
        (is : (bytes : List ℕ) → HasTaken explainer bytes
        → settled ≡ is_settled (limit_of explainer) (bytes ++ fed)) where
      taken_all : HasTaken new (so_far.bytes ++ piece)
      taken_all = subst (λ piece. HasTaken new (so_far.bytes ++ piece)) all
          (taken so_far.bytes so_far.taken)

      is_all : settled ≡ is_settled max (so_far.bytes ++ piece)
      is_all = is so_far.bytes so_far.taken ∙ ap (λ max. is_settled max (so_far.bytes ++ fed))
          so_far.limit
          ∙ ap (λ piece. is_settled max (so_far.bytes ++ piece)) all

      -- It was fed, and the answer may still change.
      pub piece_taken : settled ≡ false → TakenSoFar max before after new (count + n)
      piece_taken goes_on = record {
        bytes = so_far.bytes ++ piece;
        told = told_more;
        many = many_more;
        limit = limit ∙ so_far.limit;
        taken = taken_all;
        unsettled = sym is_all ∙ goes_on;
      }

      -- It was fed, and nothing further changes the answer.
      pub piece_settles : settled ≡ true → IsLogTaken max before after new
      piece_settles stands = record {
        bytes = so_far.bytes ++ piece;
        told = told_more;
        enough = inr (sym is_all ∙ stands);
        limit = limit ∙ so_far.limit;
        taken = taken_all;
      }

-- The answer doesn't change any more once as much was taken as is read at most.
pub longest_settled : {P : Type 0} (max : ℕ) (before now : SourceKnown) (explainer : ExplainerState)
    (count : ℕ) → 1 ≤ max
    → TakenSoFar max before now explainer count → longest_explained max ≤ count → P
longest_settled max before now explainer count low so_far longest =
    grind (arith, unsettled_is_short max so_far.bytes low so_far.unsettled, so_far.many)

-- What is said of what was taken is what is said of the whole input.
says_whole : (about : About) (max : ℕ) (before after : SourceKnown) (bytes : List ℕ) → IsLimit max
    → IsTaken before.rest bytes after.rest
    → IsAtEnd after ⊎ (is_settled max bytes ≡ true) → IfSome before.rest (SaysWhole about max bytes)
says_whole about max before after bytes within told enough = search
    (is_settled, no_more_bytes, verdict_lasts, text_lasts, arith)

-- the answer, of what was taken
pub explain_answered : (about : About) (max : ℕ) (before after : SourceKnown)
    (explainer : ExplainerState) (status : ℕ) (v : Verdict) (text : List ℕ) → IsLimit max
    → (t : IsLogTaken max before after explainer) → status ≡ status_of v
    → v ≡ log_verdict (limit_of explainer) t.bytes
    → text ≡ explained about (limit_of explainer) t.bytes
    → AnswersExplain about max before.rest status text
explain_answered about max before after explainer status v text e8 t e10 e11 e12 = search
    (says_whole, arith)
