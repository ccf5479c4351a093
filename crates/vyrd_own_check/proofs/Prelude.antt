-- The names that the proofs of this crate share, passed on from one place. Declares nothing.
pub use Rattle.std.specs.Bool.{then_some}
pub use Rattle.std.specs.Global.{Vec}
pub use Rattle.std.specs.Option.{option_or}
pub use Rattle.std.specs.Prelude.{◌==◌, if◌then◌else◌, is_none, is_some, option_and_then, unwrap_or}
pub use Rattle.std.proofs.Common.{[], ℕ, ◌++◌, ◌+◌, ◌-◌, ◌<◌, ◌^◌, ◌||◌, ◌∙◌, ◌∷◌, ◌≡◌, ◌≤◌, ap}
pub use Rattle.std.proofs.Common.{append-nil, append_assoc, arith, Bool, cond, drop, false, get_or}
pub use Rattle.std.proofs.Common.{length, length-append, List, None, Option, option_map, refl, Some}
pub use Rattle.std.proofs.Common.{subst, suc, sym, take, true, zero}
pub use Rattle.std.proofs.Math.Bool.{Bool-set}
pub use Rattle.std.proofs.Math.Logic.{∥∥₁_elim}
pub use Rattle.std.proofs.lemmas.Bool.Decides.{nat_tests}
unfoldable pub use Rattle.vyrd_base.specs.Front.{front}
pub use Rattle.vyrd_base.specs.Limits.{IsLimit, most_lines}
pub use Rattle.vyrd_base.specs.Own.Log.{OwnReading}
unfoldable pub use Rattle.vyrd_base.specs.Own.Log.{own_reading}
pub use Rattle.vyrd_base.specs.Own.LogVerdicts.{known_own_verdict, own_entries_verdict}
pub use Rattle.vyrd_base.specs.Own.LogVerdicts.{told_in_text}
unfoldable pub use Rattle.vyrd_base.specs.Own.LogVerdicts.{own_text_verdict}
unfoldable pub use Rattle.vyrd_base.specs.Own.LogVerdicts.{own_text_verdict_so_far}
pub use Rattle.vyrd_base.specs.Own.Reader.{nothing_read, read_lines, read_next}
pub use Rattle.vyrd_base.specs.Reading.{has_any, TextFault}
pub use Rattle.vyrd_base.specs.Rules.{Charter, own, Rules, rules_by}
pub use Rattle.vyrd_base.specs.Starts.{do_follow, state_at_start}
pub use Rattle.vyrd_base.specs.States.{State}
pub use Rattle.vyrd_base.specs.Subjects.{is_built_in}
pub use Rattle.vyrd_base.specs.Verdicts.{accepted}
unfoldable pub use Rattle.vyrd_base.specs.Verdicts.{end_verdict, verdict, verdict_so_far}
pub use Rattle.vyrd_base.specs.declared.header.Header.{Header}
pub use Rattle.vyrd_base.specs.declared.log.Entry.{Entry}
pub use Rattle.vyrd_base.specs.declared.log.StartWord.{StartWord}
pub use Rattle.vyrd_base.specs.declared.subject.Subject.{Subject}
pub use Rattle.vyrd_base.specs.declared.subject.Subject.TheVariants.{Own}
pub use Rattle.vyrd_base.specs.declared.verdict.Rule.{Rule}
pub use Rattle.vyrd_base.specs.declared.verdict.Rule.TheVariants.{StartState}
pub use Rattle.vyrd_base.specs.declared.verdict.Verdict.{Verdict}
pub use Rattle.vyrd_base.specs.declared.verdict.Verdict.TheVariants.{Malformed}
pub use Rattle.vyrd_base.proofs.TestLaws.{at_most_of, is_at_most}
pub use Rattle.vyrd_own.specs.Layout.{texts}
pub use Rattle.vyrd_own_log.specs.Grown.{ends, has_begun, input_of, IsFormed, IsGrown, to_go_on}
pub use Rattle.vyrd_own_log.specs.ReaderView.{state_in}
pub use Rattle.vyrd_own_log.specs.Readers.{HasRead, IsGrownBy, ReaderState}
pub use Rattle.vyrd_own_log.specs.States.{has_ended, header_at}
pub use Rattle.vyrd_own_log.proofs.GrownLaws.{reading_formed, reading_grown}
pub use Rattle.vyrd_words.proofs.CutLaws.{always}
pub use Rattle.vyrd_judge.specs.Following.{HasFollowed, JudgeView}
pub use Rattle.vyrd_judge.proofs.EndFacts.{open_at_end, unless_accepted, where_none, where_same}
pub use Rattle.vyrd_judge.proofs.OnlineLaws.{faultless_of}
pub use Rattle.vyrd_own_check.specs.CheckerView.{checker_in}
pub use Rattle.vyrd_own_check.specs.Checking.{charter_in, CheckerState, FollowsBy, HasChecked}
pub use Rattle.vyrd_own_check.specs.Checking.{HasRoom, IsBefore, IsBegun, IsJudging, IsMade}
pub use Rattle.vyrd_own_check.specs.Checking.{IsReady, IsSomewhere, IsUndecided, limit_of}
pub use Rattle.vyrd_own_check.specs.Checking.{OwnCheckerKept, untold_by, untold_in}
pub use Rattle.vyrd_own_check.specs.Costs.{bytes_cost}
pub use Rattle.vyrd_own_check.specs.KeptView.{kept_in}
pub use Rattle.vyrd_own_check.specs.LogReadings.{read_so_far, read_whole}
pub use Rattle.vyrd_own_check.specs.Numbers.{number_from, number_in}
pub use Rattle.vyrd_own_check.specs.Owed.{checker_debt, following_cost, judge_owes, kept_debt}
pub use Rattle.vyrd_own_check.specs.declared.run.Run.{Run}
