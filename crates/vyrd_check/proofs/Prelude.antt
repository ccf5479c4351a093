-- The names that the proofs of this crate share, passed on from one place. Declares nothing.
pub use Rattle.std.specs.Bool.{then_some}
pub use Rattle.std.specs.List.{slice_split, sum_by}
pub use Rattle.std.specs.Option.{option_or}
pub use Rattle.std.specs.Prelude.{◌==◌, IfSome, is_none, is_some, nat_lt, ok_or, option_and_then}
pub use Rattle.std.specs.Str.{bytes_eq}
pub use Rattle.std.proofs.Common.{[], ℕ, ◌&&◌, ◌++◌, ◌+◌, ◌^◌, ◌||◌, ◌∙◌, ◌∷◌, ◌≡◌, ◌≤◌, ap}
pub use Rattle.std.proofs.Common.{append-nil, append_assoc, arith, Bool, cond, Err, false, length}
pub use Rattle.std.proofs.Common.{length-append, List, map, None, Ok, Option, option_map, refl}
pub use Rattle.std.proofs.Common.{Result, Some, subst, sym, true}
pub use Rattle.std.proofs.Math.Logic.{∥∥₁_elim}
pub use Rattle.std.proofs.lemmas.List.{map-append}
pub use Rattle.std.proofs.lemmas.List.Sums.{sum_by-append}
pub use Rattle.vyrd_base.specs.Front.{front}
pub use Rattle.vyrd_base.specs.Limits.{is_sized, IsLimit, most_lines}
pub use Rattle.vyrd_base.specs.Lines.{entry_in, fields_of, header_from, header_if, header_of}
pub use Rattle.vyrd_base.specs.Lines.{header_spelled, number_of, start_in, subject_called}
unfoldable pub use Rattle.vyrd_base.specs.Lines.{header_in}
pub use Rattle.vyrd_base.specs.Reading.{after_end_rule, body_read, ended, entry_before, has_any}
pub use Rattle.vyrd_base.specs.Reading.{header_before, Input, lines_read, Reading, start_before}
pub use Rattle.vyrd_base.specs.Reading.{starts_read, stopped, text_read}
unfoldable pub use Rattle.vyrd_base.specs.Reading.{reading}
pub use Rattle.vyrd_base.specs.Rules.{built_in, Charter, rules_by, rules_of}
pub use Rattle.vyrd_base.specs.Spelling.{end_line, header_line}
pub use Rattle.vyrd_base.specs.Starts.{start_rule, state_at_start}
pub use Rattle.vyrd_base.specs.Subjects.{is_built_in, limits_of}
unfoldable pub use Rattle.vyrd_base.specs.TextVerdicts.{text_verdict, text_verdict_so_far}
unfoldable pub use Rattle.vyrd_base.specs.Verdicts.{end_verdict, verdict, verdict_so_far}
pub use Rattle.vyrd_base.specs.declared.header.Header.{Header}
pub use Rattle.vyrd_base.specs.declared.log.Entry.{Entry}
pub use Rattle.vyrd_base.specs.declared.log.StartWord.{StartWord}
pub use Rattle.vyrd_base.specs.declared.subject.Subject.{Subject}
pub use Rattle.vyrd_base.specs.declared.verdict.Rule.{Rule}
pub use Rattle.vyrd_base.specs.declared.verdict.Rule.TheVariants.{BadHeader, StartState}
pub use Rattle.vyrd_base.specs.declared.verdict.Rule.TheVariants.{TooManyLines, UnknownVersion}
pub use Rattle.vyrd_base.specs.declared.verdict.Verdict.{Verdict}
pub use Rattle.vyrd_base.specs.declared.verdict.Verdict.TheVariants.{Malformed}
pub use Rattle.vyrd_base.proofs.ReadingGrows.{input_of, reading_grows, so_far, TextGrown}
pub use Rattle.vyrd_base.proofs.TextLasts.{nothing_so_far}
pub use Rattle.vyrd_text.specs.Readers.{HasRead, ReaderState}
pub use Rattle.vyrd_view.specs.Comparing.{price_by, word_price}
pub use Rattle.vyrd_view.specs.Known.{by_rules}
pub use Rattle.vyrd_judge.specs.Costs.{callers_of, judge_debt, log_cost, start_cost}
pub use Rattle.vyrd_judge.specs.Following.{HasFollowed, JudgeView}
pub use Rattle.vyrd_judge.proofs.EndFacts.{open_at_end, unless_accepted, where_same}
pub use Rattle.vyrd_judge.proofs.OnlineLaws.{faultless_of}
pub use Rattle.vyrd_check.specs.Checking.{CheckerKept, CheckerState, FollowsBy, has_begun}
pub use Rattle.vyrd_check.specs.Checking.{HasChecked, HasRoom, IsAt, IsBefore, IsBegun, IsJudging}
pub use Rattle.vyrd_check.specs.Checking.{IsMade, IsReady, IsSomewhere, IsUndecided, wrong_in}
pub use Rattle.vyrd_check.specs.Costs.{bytes_cost, end_cost, entries_cost, entry_cost, finish_cost}
pub use Rattle.vyrd_check.specs.Costs.{reading_cost, starting_cost}
pub use Rattle.vyrd_check.specs.LogReadings.{read_so_far, read_whole}
pub use Rattle.vyrd_check.specs.Owed.{checker_debt, debt_after, following_cost, judge_owes}
pub use Rattle.vyrd_check.specs.Owed.{kept_debt}
