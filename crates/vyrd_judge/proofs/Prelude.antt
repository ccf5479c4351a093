-- The names that the proofs of this crate share, passed on from one place. Declares nothing.
pub use Rattle.std.specs.Bool.{then_some}
pub use Rattle.std.specs.List.{cons_option, list_any, sum_by}
pub use Rattle.std.specs.Option.{option_or}
pub use Rattle.std.specs.Prelude.{◌==◌, ◌≢◌, All, if◌then◌else◌, is_none, is_some, not, OnErr, OnOk}
pub use Rattle.std.specs.Prelude.{option_and_then, option_map, replicate, unwrap_or}
pub use Rattle.std.proofs.Common.{[], ℕ, ◌&&◌, ◌*◌, ◌++◌, ◌+◌, ◌-◌, ◌<◌, ◌^◌, ◌||◌, ◌∙◌, ◌∷◌, ◌≡◌}
pub use Rattle.std.proofs.Common.{◌≤◌, ap, append-nil, append_assoc, arith, Bool, cond, drop, Err}
pub use Rattle.std.proofs.Common.{false, filter_map, get_or, IfOk, length, length-append}
pub use Rattle.std.proofs.Common.{length-set, List, map, None, Ok, Option, refl, Result, set}
pub use Rattle.std.proofs.Common.{slice_get, Some, subst, suc, sym, take, true, zero}
pub use Rattle.std.proofs.Math.Bool.{Bool-set, or-false, or-true}
pub use Rattle.std.proofs.Math.Logic.{∥∥₁_elim, ∥∥₁_map}
pub use Rattle.std.proofs.lemmas.Bool.{not-false}
pub use Rattle.std.proofs.lemmas.List.{take-append-drop, take_all, take_more}
pub use Rattle.std.proofs.lemmas.List.Folds.{list_any-append}
pub use Rattle.std.proofs.lemmas.List.Sums.{sum_by-cons}
pub use Rattle.std.proofs.lemmas.Option.{none-some, same_Some, slice_get_within}
pub use Rattle.std.proofs.lemmas.Result.{IfOk-weaker}
pub use Rattle.vyrd_base.specs.Amounts.{Amounts, first_difference, IsAmounts}
pub use Rattle.vyrd_base.specs.BlockEnds.{ended_effects_at}
pub use Rattle.vyrd_base.specs.Callers.{by_caller, call_or_return, Called, commit_or_call}
pub use Rattle.vyrd_base.specs.Callers.{has_committed, has_inner_commit, is_call, open_call}
pub use Rattle.vyrd_base.specs.Commits.{commit_count, commits_after, Committed, committed_at}
pub use Rattle.vyrd_base.specs.Commits.{is_commit, next_reply, returned, state_after, states_from}
pub use Rattle.vyrd_base.specs.Entries.{has_method, place_of}
pub use Rattle.vyrd_base.specs.Faults.{observer_fault, states_since_call, step_fault}
unfoldable pub use Rattle.vyrd_base.specs.Faults.{fault_at}
pub use Rattle.vyrd_base.specs.Front.{WellFormed}
pub use Rattle.vyrd_base.specs.Histories.{logged}
unfoldable pub use Rattle.vyrd_base.specs.Histories.{log_of}
pub use Rattle.vyrd_base.specs.Layout.{plain_words}
pub use Rattle.vyrd_base.specs.Places.{first_answer, newest_first, newest_first_onto, numbers_from}
pub use Rattle.vyrd_base.specs.Places.{Place, places_after}
pub use Rattle.vyrd_base.specs.Rules.{Charter, Rules, rules_by, rules_of}
pub use Rattle.vyrd_base.specs.Shape.{broken_rule, checks_at}
pub use Rattle.vyrd_base.specs.Starts.{words_at_start}
unfoldable pub use Rattle.vyrd_base.specs.Starts.{state_at_start}
pub use Rattle.vyrd_base.specs.States.{State}
pub use Rattle.vyrd_base.specs.Subjects.{is_observer, must_commit}
pub use Rattle.vyrd_base.specs.Verdicts.{is_call_open, is_return, line_of, states_along}
pub use Rattle.vyrd_base.specs.Verdicts.{verdict_so_far, violation_at}
unfoldable pub use Rattle.vyrd_base.specs.Verdicts.{accepted, end_verdict, first_fault, verdict}
unfoldable pub use Rattle.vyrd_base.specs.Verdicts.{verdict_at}
pub use Rattle.vyrd_base.specs.Words.{effects, effects_at, words_with}
unfoldable pub use Rattle.vyrd_base.specs.Words.{words_at}
pub use Rattle.vyrd_base.specs.declared.header.Header.{Header}
pub use Rattle.vyrd_base.specs.declared.log.Entry.{Entry}
pub use Rattle.vyrd_base.specs.declared.log.Kind.{Kind}
pub use Rattle.vyrd_base.specs.declared.log.Kind.TheVariants.{BlockClose, BlockCommit, BlockOpen}
pub use Rattle.vyrd_base.specs.declared.log.Kind.TheVariants.{Call, Commit, Return, Write}
pub use Rattle.vyrd_base.specs.declared.log.StartWord.{StartWord}
pub use Rattle.vyrd_base.specs.declared.subject.Args.{Args}
pub use Rattle.vyrd_base.specs.declared.subject.Method.{Method}
pub use Rattle.vyrd_base.specs.declared.verdict.Rule.TheVariants.{CallOpen, StartState}
pub use Rattle.vyrd_base.specs.declared.verdict.Stop.TheVariants.{End}
pub use Rattle.vyrd_base.specs.declared.verdict.Verdict.{Verdict}
pub use Rattle.vyrd_base.specs.declared.verdict.Verdict.TheVariants.{Accepted, Malformed, Violation}
pub use Rattle.vyrd_base.specs.declared.verdict.Why.{Why}
pub use Rattle.vyrd_base.specs.declared.verdict.Why.TheVariants.{Observer, Reply, View}
pub use Rattle.vyrd_base.proofs.AmountLaws.{same_amounts}
pub use Rattle.vyrd_base.proofs.BlockLaws.{by_same, entry, open_call-quiet, own_answer}
pub use Rattle.vyrd_base.proofs.CommittedLaws.{committed-other, committed-own, committed-quiet}
pub use Rattle.vyrd_base.proofs.CommittedLaws.{return_free}
pub use Rattle.vyrd_base.proofs.DifferenceLaws.{first_difference_none}
pub use Rattle.vyrd_base.proofs.EffectLaws.{has_block_of, never, other_inner, own_inner}
pub use Rattle.vyrd_base.proofs.FrontLaws.{take_past}
pub use Rattle.vyrd_base.proofs.Fronts.{break_after, break_after-append}
pub use Rattle.vyrd_base.proofs.Growing.{next_reply_stays}
pub use Rattle.vyrd_base.proofs.KeptLaws.{block_commit_runs, call_kept, commit_kept, return_kept}
pub use Rattle.vyrd_base.proofs.Lasting.{commit_count-cons, no_fault_beyond}
pub use Rattle.vyrd_base.proofs.ListLaws.{both_none, filter_map_more, or_none, slice_get-last}
pub use Rattle.vyrd_base.proofs.ListLaws.{slice_get-set_other, slice_get-set_same}
pub use Rattle.vyrd_base.proofs.PlaceLaws.{first_answer-append, length-mapped}
pub use Rattle.vyrd_base.proofs.PlaceLaws.{length-newest_first_onto, newest_first-push}
pub use Rattle.vyrd_base.proofs.PlaceLaws.{newest_first_onto-append}
pub use Rattle.vyrd_base.proofs.Settled.{IsReturned, Settled, settled_next, words_at_stay}
pub use Rattle.vyrd_base.proofs.ShadowLaws.{all_kept, caller_kept}
pub use Rattle.vyrd_base.proofs.TestLaws.{apart_of, below_of, is_below, is_same, isnt_same}
pub use Rattle.vyrd_base.proofs.TestLaws.{same_number, same_of, then_some_false}
pub use Rattle.vyrd_base.proofs.VerdictLaws.{verdict_lasts}
pub use Rattle.vyrd_base.proofs.VerdictParts.{no_first_fault, so_far_kept, verdict_standing}
pub use Rattle.vyrd_spec.specs.Shown.{most_shown}
pub use Rattle.vyrd_spec.proofs.ShownLaws.{AreFormed, few_view, formed_rules, starts_few, StartsFew}
pub use Rattle.vyrd_shadow.specs.Blocks.{with_writes}
pub use Rattle.vyrd_words.specs.Cuts.{first_with, with_part}
pub use Rattle.vyrd_words.specs.Effects.{ActAlike, AllActAlike, AreFew, cut_if, effect_parts}
pub use Rattle.vyrd_words.specs.Effects.{ends_block, HasParts, is_ended, parts_behind, with_effects}
pub use Rattle.vyrd_words.specs.HasWords.{HasWords, Keeps}
pub use Rattle.vyrd_words.proofs.StartWords.{length-words_at_start, may_follow, small_at_start}
pub use Rattle.vyrd_words.proofs.WordsLaws.{keeps_as, low_caller}
pub use Rattle.vyrd_observers.specs.Watching.{AllSee, answer_count, AreCurrent, has_answer, Seen}
pub use Rattle.vyrd_observers.specs.Watching.{SeesAnswer, unwatched}
pub use Rattle.vyrd_judge.specs.Answers.{answers_left, answers_of}
pub use Rattle.vyrd_judge.specs.Costs.{callers_of, debt, debt_after, debt_by, entry_cost}
pub use Rattle.vyrd_judge.specs.Costs.{judge_debt, log_cost}
pub use Rattle.vyrd_judge.specs.Following.{AdvanceGives, FollowerKept, FollowsBy, HasFollowed}
pub use Rattle.vyrd_judge.specs.Following.{HasTakenIn, IsCatchingUp, IsFaultless, IsSomewhere}
pub use Rattle.vyrd_judge.specs.Following.{JudgeView, MayCatchUp, with_first}
pub use Rattle.vyrd_judge.specs.Judged.{AllReturned, AreSeenFew, HeadGives, Judged, MayJudge}
pub use Rattle.vyrd_judge.specs.Keeping.{from_open_commit, is_left_open}
pub use Rattle.vyrd_judge.specs.Queued.{AwaitsReturn, CanLeave, HasQueued, HasTakenUp, IsCaller}
pub use Rattle.vyrd_judge.specs.Queued.{IsPending, IsUnreturned, MayQueue}
pub use Rattle.vyrd_judge.specs.Reached.{IsWatched, Reached}
pub use Rattle.vyrd_judge.specs.Shown.{ShowsFew}
pub use Rattle.vyrd_judge.specs.Waiting.{commit_of, replied, waiting_after, waiting_at, waiting_of}
pub use Rattle.vyrd_judge.specs.declared.caller.Caller.{Caller}
pub use Rattle.vyrd_judge.specs.declared.waiting.Event.{Event}
pub use Rattle.vyrd_judge.specs.declared.waiting.Event.TheVariants.{Begins, Commits, Returns}
pub use Rattle.vyrd_judge.specs.declared.waiting.Waiting.{Waiting}
