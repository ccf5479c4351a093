-- What an entry that keeps the rules of shape tells.
use Rattle.vyrd_base.proofs.Prelude
use Prelude.{◌≡◌, ℕ, ◌<◌, ◌^◌, true, false, ◌&&◌, List, ◌∷◌, length, take, drop, get_or, Option}
use Prelude.{Some, None, slice_get, refl, ap, subst, ◌∙◌, sym, suc, slice_get_within}
use Prelude.{get_or_from_slice_get, is_none, option_or, option_map_or, not-false, Header, Method}
use Prelude.{Args, Call, Return, Write, Commit, BlockCommit, Entry, newest_first, subject_of}
use Prelude.{is_observer, are_args, Called, open_call, plain_words, broken_rule, checks_at}
use Prelude.{first_break, above_of, first_true, second_true, has_method}
use Rattle.vyrd_base.proofs.BlockLaws.{entry}
use Rattle.vyrd_base.proofs.VerdictLaws.{first_break-append}
use Rattle.vyrd_base.proofs.ShadowLaws.{all_kept}
use Rattle.vyrd_base.proofs.SubjectLaws.{same_subjects}
use Rattle.vyrd_base.proofs.FrontLaws.{split_at_next}

-- the entry at each place of a log that keeps all rules
pub kept_at : (h : Header) (front : List Entry) (at : ℕ) (d : Entry) → at < length front
    → first_break h front ≡ None
    → broken_rule h (newest_first (take at front)) (get_or front at d) ≡ None
kept_at h front at d within kept =
    by_parts (first_break h (take at front))
    (broken_rule h (newest_first (take at front)) (get_or front at d)) _
    (sym (first_break-append h (take at front) (get_or front at d ∷ drop (suc at) front))
    ∙ sym (ap (first_break h) (split_at_next front at d within)) ∙ kept)
  where
    by_parts : {A : Type 0} (a b c : Option A) → option_or a (option_or b c) ≡ None → b ≡ None
    by_parts None None c e = refl
    by_parts None (Some b) c e = cc
    by_parts (Some a) b c e = cc

-- the same of an entry that was read there
pub rules_at : (h : Header) (front : List Entry) (at : ℕ) (e : Entry) → slice_get front at ≡ Some e
    → first_break h front ≡ None
    → broken_rule h (newest_first (take at front)) e ≡ None
rules_at h front at e here kept =
    subst (λ x. broken_rule h (newest_first (take at front)) x ≡ None)
    (get_or_from_slice_get front at e e here)
    (kept_at h front at e (slice_get_within front at e here) kept)

pub call_kept : (h : Header) (c : ℕ) (method : Method) (args : Args) (earlier : List Entry)
    → broken_rule h earlier (entry c (Call method args)) ≡ None
    → has_method h method args ≡ true
call_kept h c method args earlier kept =
    let checks = all_kept (checks_at h earlier (entry c (Call method args))) kept in
    ap (λ b. b && are_args h.size method args) (not-false _ checks.1.0) ∙ not-false _ checks.1.1.0

pub record WriteFits (h : Header) (word value : ℕ) : Type 0 where
  pub word_fits : word < plain_words h
  pub value_fits : value < 2 ^ 63

pub write_kept : (h : Header) (c word value : ℕ) (earlier : List Entry)
    → broken_rule h earlier (entry c (Write word value)) ≡ None → WriteFits h word value
write_kept h c word value earlier kept =
    let checks = all_kept (checks_at h earlier (entry c (Write word value))) kept in
    record {
      word_fits = above_of _ word checks.1.1.0;
      value_fits = above_of _ value checks.1.1.1.0;
    }

-- a commit stands in a mutator's execution
is_running : (o : Option Called) → is_none o ≡ false
    → option_map_or (λ called. is_observer called.method) o false ≡ false
    → (called : Called) × (o ≡ Some called) × (is_observer called.method ≡ false)
is_running None some mutates = cc
is_running (Some called) some mutates = (called, refl, mutates)

pub commit_kept : (h : Header) (c : ℕ) (earlier : List Entry)
    → broken_rule h earlier (entry c Commit) ≡ None
    → (called : Called) × (open_call c earlier ≡ Some called) × (is_observer called.method ≡ false)
commit_kept h c earlier kept =
    let checks = all_kept (checks_at h earlier (entry c Commit)) kept in is_running
    (open_call c earlier) checks.1.0 checks.1.1.0

pub block_commit_runs : (h : Header) (c : ℕ) (earlier : List Entry)
    → broken_rule h earlier (entry c BlockCommit) ≡ None
    → (called : Called) × (open_call c earlier ≡ Some called) × (is_observer called.method ≡ false)
block_commit_runs h c earlier kept =
    let checks = all_kept (checks_at h earlier (entry c BlockCommit)) kept in is_running
    (open_call c earlier) checks.1.0 checks.1.1.1.0

pub return_kept : (h : Header) (c reply : ℕ) (earlier : List Entry)
    → broken_rule h earlier (entry c (Return reply)) ≡ None
    → (called : Called) × (open_call c earlier ≡ Some called)
return_kept h c reply earlier kept = running (open_call c earlier)
    (all_kept (checks_at h earlier (entry c (Return reply))) kept).1.0
  where
    running : (o : Option Called) → is_none o ≡ false → (called : Called) × (o ≡ Some called)
    running None some = cc
    running (Some called) some = (called, refl)

pub method_subject : (h : Header) (method : Method) (args : Args) → has_method h method args ≡ true
    → subject_of method ≡ h.subject
method_subject h method args e = same_subjects (subject_of method) h.subject (first_true _ _ e)

pub method_args : (h : Header) (method : Method) (args : Args) → has_method h method args ≡ true
    → are_args h.size method args ≡ true
method_args h method args e = second_true _ _ e
