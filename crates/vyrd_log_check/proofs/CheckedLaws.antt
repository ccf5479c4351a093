-- What a checker answers, and what it has followed, by what it keeps.
use Rattle.vyrd_log_check.proofs.Prelude
use Prelude.{◌≡◌, ℕ, ◌-◌, true, List, ◌++◌, drop, Option, Some, None, Result, refl, ap, subst, ◌∙◌}
use Prelude.{sym, IfOk, OnOk, IfSome, IfOk-weaker, on_ok_weaker, Verdict, text_verdict}
use Prelude.{text_verdict_so_far, own_text_verdict, own_text_verdict_so_far, own_beginning}
use Prelude.{is_own_text, log_verdict, log_verdict_so_far, OwnChecker, checker_in, Matches}
use Prelude.{matched_with, LogCheckerState, FollowsBy, HasChecked, IsSound}
use Rattle.vyrd_check.specs.Checking as first_checking
use Rattle.vyrd_own_check.specs.Checking as own_checking
use Rattle.vyrd_log_check.proofs.BeginningLaws.{begins_longer, whole_comes, matches_isnt}
use Rattle.vyrd_log_check.proofs.LogLasts.{own_so_far, first_so_far, own_whole, first_whole}

-- the checker that is fed has followed the bytes
pub by_own : (c : LogCheckerState) (o : OwnChecker) (bytes : List ℕ) → c.own ≡ Some o
    → HasChecked c bytes
    → own_checking.HasChecked (checker_in o) bytes × (is_own_text bytes ≡ true)
by_own c o bytes is h = subst (FollowsBy c.matched c.first bytes) is h.follows

pub by_first : (c : LogCheckerState) (bytes : List ℕ) → c.own ≡ None → HasChecked c bytes
    → first_checking.HasChecked c.first bytes × Matches c.matched bytes
by_first c bytes is h = subst (FollowsBy c.matched c.first bytes) is h.follows

-- a log with a specification in front
module _ (c : LogCheckerState) (o : OwnChecker) (bytes : List ℕ) (sound : IsSound c)
    (is : c.own ≡ Some o) (h : HasChecked c bytes) where
  pub limit : own_checking.limit_of (checker_in o).kept ≡ c.max_lines
  limit = subst
      (λ (x : Option OwnChecker). IfSome x (λ y. own_checking.limit_of (checker_in y).kept
      ≡ c.max_lines)) is sound.own

  pub own_ends : {E : Type 0} (r : Result Verdict E)
      → ((xs : List ℕ) → own_checking.HasChecked (checker_in o) xs
      → IfOk r (λ v. v ≡ own_text_verdict (own_checking.limit_of (checker_in o).kept) xs))
      → IfOk r (λ v. v ≡ log_verdict c.max_lines bytes)
  own_ends r told =
      let f = by_own c o bytes is h in
      IfOk-weaker r (λ v. v ≡ own_text_verdict (own_checking.limit_of (checker_in o).kept) bytes)
      (λ v. v ≡ log_verdict c.max_lines bytes)
      (λ v e. e ∙ ap (λ m. own_text_verdict m bytes) limit ∙ sym (own_whole c.max_lines bytes f.1))
      (told bytes f.0)

  module _ {E : Type 0} (r : Result (Option Verdict) E) (piece : List ℕ) where
    pub own_answers : ((xs : List ℕ) → own_checking.HasChecked (checker_in o) xs
        → IfOk r (λ v. v ≡ own_text_verdict_so_far (own_checking.limit_of (checker_in o).kept)
        (xs ++ piece)))
        → IfOk r (λ v. v ≡ log_verdict_so_far c.max_lines (bytes ++ piece))
    own_answers told =
        let f = by_own c o bytes is h in
        IfOk-weaker r (λ v. v ≡ own_text_verdict_so_far (own_checking.limit_of (checker_in o).kept)
        (bytes ++ piece))
        (λ v. v ≡ log_verdict_so_far c.max_lines (bytes ++ piece))
        (λ v e. e ∙ ap (λ m. own_text_verdict_so_far m (bytes ++ piece)) limit
        ∙ sym (own_so_far c.max_lines (bytes ++ piece) (begins_longer bytes piece f.1)))
        (told bytes f.0)

    pub own_follows : (new : OwnChecker)
        → ((xs : List ℕ) → own_checking.HasChecked (checker_in o) xs
        → OnOk r (own_checking.HasChecked (checker_in new) (xs ++ piece)))
        → OnOk r (own_checking.HasChecked (checker_in new) (bytes ++ piece)
        × (is_own_text (bytes ++ piece) ≡ true))
    own_follows new told =
        let f = by_own c o bytes is h in
        on_ok_weaker r (λ (x : own_checking.HasChecked (checker_in new) (bytes ++ piece)).
        (x, begins_longer bytes piece f.1)) (told bytes f.0)

-- every other log
module _ (c : LogCheckerState) (bytes : List ℕ) (sound : IsSound c) (is : c.own ≡ None)
    (h : HasChecked c bytes) where
  pub first_ends : {E : Type 0} (r : Result Verdict E)
      → ((xs : List ℕ) → first_checking.HasChecked c.first xs
      → IfOk r (λ v. v ≡ text_verdict c.first.kept.reader.max_lines xs))
      → IfOk r (λ v. v ≡ log_verdict c.max_lines bytes)
  first_ends r told =
      let f = by_first c bytes is h in
      IfOk-weaker r (λ v. v ≡ text_verdict c.first.kept.reader.max_lines bytes)
      (λ v. v ≡ log_verdict c.max_lines bytes)
      (λ v e. cc (sound.first, first_whole c.max_lines bytes (matches_isnt c.matched bytes f.1)))
      (told bytes f.0)

  module _ {E : Type 0} (r : Result (Option Verdict) E) (piece : List ℕ) (now : Option ℕ)
      (m : Matches now (bytes ++ piece)) where
    pub first_answers : ((xs : List ℕ) → first_checking.HasChecked c.first xs
        → IfOk r (λ v. v ≡ text_verdict_so_far c.first.kept.reader.max_lines (xs ++ piece)))
        → IfOk r (λ v. v ≡ log_verdict_so_far c.max_lines (bytes ++ piece))
    first_answers told =
        let f = by_first c bytes is h in
        IfOk-weaker r (λ v. v ≡ text_verdict_so_far c.first.kept.reader.max_lines (bytes ++ piece))
        (λ v. v ≡ log_verdict_so_far c.max_lines (bytes ++ piece))
        (λ v e. e ∙ ap (λ k. text_verdict_so_far k (bytes ++ piece)) sound.first
        ∙ sym (first_so_far c.max_lines (bytes ++ piece) (matches_isnt now (bytes ++ piece) m)))
        (told bytes f.0)

    pub first_follows : (new : first_checking.CheckerState)
        → ((xs : List ℕ) → first_checking.HasChecked c.first xs
        → OnOk r (first_checking.HasChecked new (xs ++ piece)))
        → OnOk r (FollowsBy now new (bytes ++ piece) c.own)
    first_follows new told =
        let f = by_first c bytes is h in
        on_ok_weaker r (λ (x : first_checking.HasChecked new (bytes ++ piece)). subst
        (FollowsBy now new (bytes ++ piece)) (sym is) (x, m)) (told bytes f.0)

  pub matched_is : (n : ℕ) → c.matched ≡ Some n → Matches (Some n) bytes
  matched_is n e = subst (λ x. Matches x bytes) e (by_first c bytes is h).1

  pub never_is : c.matched ≡ None → Matches None bytes
  never_is e = subst (λ x. Matches x bytes) e (by_first c bytes is h).1

  -- the beginning has come as a whole, and the rest of the piece behind it
  module _ (n : ℕ) (piece rest : List ℕ) (place : c.matched ≡ Some n)
      (found : matched_with n piece ≡ Some 11) (left : rest ≡ drop (11 - n) piece) where
    pub begins_all : own_beginning ++ rest ≡ bytes ++ piece
    begins_all =
        let m = matched_is n place in
        ap (λ xs. own_beginning ++ xs) left ∙ sym (whole_comes n bytes piece m.0 m.1 found)

    pub started_answers : (v : Option Verdict) → v ≡ own_text_verdict_so_far c.max_lines
        (own_beginning ++ rest)
        → v ≡ log_verdict_so_far c.max_lines (bytes ++ piece)
    started_answers v e =
        e ∙ sym (own_so_far c.max_lines (own_beginning ++ rest)
        (begins_longer own_beginning rest refl))
        ∙ ap (log_verdict_so_far c.max_lines) begins_all

    pub started_follows : (o : OwnChecker) → own_checking.HasChecked (checker_in o)
        (own_beginning ++ rest)
        → own_checking.HasChecked (checker_in o) (bytes ++ piece)
        × (is_own_text (bytes ++ piece) ≡ true)
    started_follows o f =
        subst (λ xs. own_checking.HasChecked (checker_in o) xs × (is_own_text xs ≡ true)) begins_all
        (f, begins_longer own_beginning rest refl)
