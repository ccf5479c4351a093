-- The names that the proofs of this crate share, passed on from one place. Declares nothing.
pub use Rattle.std.specs.Bool.{then_some}
pub use Rattle.std.specs.List.{onto_first, slice_split}
pub use Rattle.std.specs.Prelude.{◌==◌, IfOk, IfSome, nat_le, nat_lt, not, OnOk}
pub use Rattle.std.specs.Str.{bytes_eq}
pub use Rattle.std.proofs.Common.{[], ℕ, ◌&&◌, ◌*◌, ◌++◌, ◌+◌, ◌-◌, ◌<◌, ◌∙◌, ◌∷◌, ◌≡◌, ◌≤◌, ap}
pub use Rattle.std.proofs.Common.{arith, Bool, cond, drop, false, length, List, None, Option, refl}
pub use Rattle.std.proofs.Common.{Result, Some, subst, suc, sym, take, true}
pub use Rattle.std.proofs.Math.Nat.{mul-suc}
pub use Rattle.std.proofs.lemmas.Bool.Decides.{nat_tests}
pub use Rattle.std.proofs.lemmas.Result.{IfOk-weaker, on_ok_weaker}
pub use Rattle.vyrd_base.specs.Lines.{start_in}
pub use Rattle.vyrd_base.specs.LogVerdicts.{is_own_text, own_beginning}
unfoldable pub use Rattle.vyrd_base.specs.LogVerdicts.{log_verdict, log_verdict_so_far}
unfoldable pub use Rattle.vyrd_base.specs.Own.Entries.{own_entry_in}
unfoldable pub use Rattle.vyrd_base.specs.Own.LogVerdicts.{own_text_verdict}
unfoldable pub use Rattle.vyrd_base.specs.Own.LogVerdicts.{own_text_verdict_so_far}
pub use Rattle.vyrd_base.specs.Reading.{after_end_rule, has_any, Reading}
unfoldable pub use Rattle.vyrd_base.specs.Reading.{reading}
pub use Rattle.vyrd_base.specs.Shape.{◌breaks◌, first_broken}
pub use Rattle.vyrd_base.specs.Spelling.{end_line}
pub use Rattle.vyrd_base.specs.Starts.{start_rule}
pub use Rattle.vyrd_base.specs.TextVerdicts.{text_verdict}
unfoldable pub use Rattle.vyrd_base.specs.TextVerdicts.{text_verdict_so_far}
pub use Rattle.vyrd_base.specs.declared.header.Header.{Header}
pub use Rattle.vyrd_base.specs.declared.log.Entry.{Entry}
pub use Rattle.vyrd_base.specs.declared.log.StartWord.{StartWord}
pub use Rattle.vyrd_base.specs.declared.verdict.Rule.{Rule}
pub use Rattle.vyrd_base.specs.declared.verdict.Rule.TheVariants.{BadEntry, BadHeader, NoEnd}
pub use Rattle.vyrd_base.specs.declared.verdict.Rule.TheVariants.{NoLineFeed, TooManyLines}
pub use Rattle.vyrd_base.specs.declared.verdict.Verdict.{Verdict}
pub use Rattle.vyrd_base.proofs.ReadingGrows.{so_far, some_parts}
pub use Rattle.vyrd_base.proofs.SplitLaws.{lacks, split_whole}
pub use Rattle.vyrd_base.proofs.TestLaws.{below_of, first_true, not_below_of, second_true}
pub use Rattle.vyrd_text.proofs.ReadLaws.{no_fault}
pub use Rattle.vyrd_own_check.specs.CheckerView.{checker_in}
pub use Rattle.vyrd_own_check.specs.LogReadings.{read_so_far}
pub use Rattle.vyrd_own_check.specs.declared.checker.OwnChecker.{OwnChecker}
pub use Rattle.vyrd_log_check.specs.Beginnings.{matched_with, Matches}
pub use Rattle.vyrd_log_check.specs.CheckerView.{log_checker_in}
pub use Rattle.vyrd_log_check.specs.Checking.{FollowsBy, HasChecked, IsSound, LogCheckerState}
pub use Rattle.vyrd_log_check.specs.Costs.{bytes_cost, finish_cost}
pub use Rattle.vyrd_log_check.specs.Owed.{checker_debt, debt_by}
