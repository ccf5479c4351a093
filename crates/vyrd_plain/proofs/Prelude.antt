-- The names that the proofs of this crate share, passed on from one place. Declares nothing.
pub use Rattle.std.specs.List.{list_any}
pub use Rattle.std.specs.Option.{option_map_or, option_or}
pub use Rattle.std.specs.Prelude.{◌==◌, ◌≢◌, count_by, option_and_then, option_map}
pub use Rattle.std.specs.Result.{IfOk, is_err, MatchResult}
pub use Rattle.std.proofs.Common.{[], ℕ, ◌&&◌, ◌++◌, ◌+◌, ◌<◌, ◌||◌, ◌∙◌, ◌∷◌, ◌≡◌, ◌≤◌, ◌⊎◌, ap}
pub use Rattle.std.proofs.Common.{append-nil, append_assoc, arith, Bool, cond, drop, drop-cons, Err}
pub use Rattle.std.proofs.Common.{false, get_or, inl, inr, length, List, map, None, not, Ok, Option}
pub use Rattle.std.proofs.Common.{refl, replicate, Result, set, slice_get, slice_set, Some, subst}
pub use Rattle.std.proofs.Common.{suc, sym, take, true, zero}
pub use Rattle.std.proofs.Math.Bool.{or-false}
pub use Rattle.std.proofs.Math.Seq.{take-add, take-length}
pub use Rattle.std.proofs.lemmas.List.{drop-append-le, length-take}
pub use Rattle.std.proofs.lemmas.List.Sums.{sum_by-cons}
pub use Rattle.std.proofs.lemmas.Option.{get_or_from_slice_get, same_Some, slice_get-get_or}
pub use Rattle.std.proofs.lemmas.Option.{slice_get_within}
pub use Rattle.std.proofs.lemmas.Result.{IfOk-weaker}
pub use Rattle.vyrd_base.specs.Amounts.{Amounts, first_difference}
pub use Rattle.vyrd_base.specs.Callers.{Called, commit_or_call, has_block, has_committed, open_call}
pub use Rattle.vyrd_base.specs.Commits.{commit_count, commits_after, committed_at, next_reply}
pub use Rattle.vyrd_base.specs.Commits.{once_returned, returned, state_after}
unfoldable pub use Rattle.vyrd_base.specs.Commits.{commits}
pub use Rattle.vyrd_base.specs.Entries.{has_method, place_of}
pub use Rattle.vyrd_base.specs.Faults.{commit_fault, fault_of_commit, observer_fault}
pub use Rattle.vyrd_base.specs.Faults.{states_since_call, step_fault}
unfoldable pub use Rattle.vyrd_base.specs.Faults.{fault_at}
pub use Rattle.vyrd_base.specs.Front.{first_break}
pub use Rattle.vyrd_base.specs.Layout.{plain_words}
pub use Rattle.vyrd_base.specs.Places.{first_answer, newest_first, Place, places_after}
pub use Rattle.vyrd_base.specs.Rules.{built_in, Rules, rules_by, rules_of}
pub use Rattle.vyrd_base.specs.Shape.{broken_rule}
pub use Rattle.vyrd_base.specs.Starts.{state_at_start}
pub use Rattle.vyrd_base.specs.States.{State}
pub use Rattle.vyrd_base.specs.Subjects.{is_observer, must_commit}
pub use Rattle.vyrd_base.specs.Verdicts.{is_call_open, is_return, line_of, observer_count}
pub use Rattle.vyrd_base.specs.Verdicts.{observer_returns, states_along, violation_at}
unfoldable pub use Rattle.vyrd_base.specs.Verdicts.{accepted, first_fault}
pub use Rattle.vyrd_base.specs.Words.{ahead_at, block_writes, effects_at, words_with, writes_ahead}
unfoldable pub use Rattle.vyrd_base.specs.Words.{words_at}
pub use Rattle.vyrd_base.specs.declared.header.Header.{Header}
pub use Rattle.vyrd_base.specs.declared.log.Entry.{Entry}
pub use Rattle.vyrd_base.specs.declared.log.Kind.{Kind}
pub use Rattle.vyrd_base.specs.declared.log.Kind.TheVariants.{BlockClose, BlockCommit, BlockOpen}
pub use Rattle.vyrd_base.specs.declared.log.Kind.TheVariants.{Call, Commit, Return, Write}
pub use Rattle.vyrd_base.specs.declared.log.StartWord.{StartWord}
pub use Rattle.vyrd_base.specs.declared.subject.Args.{Args}
pub use Rattle.vyrd_base.specs.declared.subject.Method.{Method}
pub use Rattle.vyrd_base.specs.declared.verdict.Verdict.{Verdict}
pub use Rattle.vyrd_base.specs.declared.verdict.Verdict.TheVariants.{Accepted, Malformed, Violation}
pub use Rattle.vyrd_base.specs.declared.verdict.Why.{Why}
pub use Rattle.vyrd_base.specs.declared.verdict.Why.TheVariants.{Observer, Reply, View}
pub use Rattle.vyrd_base.proofs.BlockLaws.{by_same, entry, own_answer}
pub use Rattle.vyrd_base.proofs.CommittedLaws.{committed-other, committed-own, committed-quiet}
pub use Rattle.vyrd_base.proofs.CommittedLaws.{return_free}
pub use Rattle.vyrd_base.proofs.EffectWords.{one_write}
pub use Rattle.vyrd_base.proofs.FrontLaws.{break_at, front_at, front_of_all, kept_all, kept_next}
pub use Rattle.vyrd_base.proofs.FrontLaws.{newest_next, nothing_broken, take_past}
pub use Rattle.vyrd_base.proofs.KeptLaws.{block_commit_runs, call_kept, commit_kept, kept_at}
pub use Rattle.vyrd_base.proofs.KeptLaws.{return_kept, rules_at, write_kept}
pub use Rattle.vyrd_base.proofs.Lasting.{no_fault_beyond}
pub use Rattle.vyrd_base.proofs.ListLaws.{slice_get-set_other, slice_get-set_same, take_one_more}
pub use Rattle.vyrd_base.proofs.NoStart.{start_verdict-none, zeros_from}
pub use Rattle.vyrd_base.proofs.PlaceLaws.{length-newest_first}
pub use Rattle.vyrd_base.proofs.ShadowLaws.{block_commit_kept, caller_kept, close_kept}
pub use Rattle.vyrd_base.proofs.StateLaws.{ending-commit, next_reply-quiet, state_here}
pub use Rattle.vyrd_base.proofs.TestLaws.{apart_of, is_same, isnt_same, same_number, same_of}
pub use Rattle.vyrd_base.proofs.VerdictParts.{line_without}
pub use Rattle.vyrd_shape.specs.Following.{HasFollowed}
pub use Rattle.vyrd_plain.specs.Committed.{AreCommitted, committed_after}
pub use Rattle.vyrd_plain.specs.Executions.{answers, AreAllowed, begun, IsExecution, IsOpen, seeing}
pub use Rattle.vyrd_plain.specs.Executions.{with_commit}
pub use Rattle.vyrd_plain.specs.OpenBlocks.{HasEffects, IsBlockOf, IsOpenBlock, writes_in}
pub use Rattle.vyrd_plain.specs.OpenBlocks.{written_by}
pub use Rattle.vyrd_plain.specs.Outcomes.{CommitFaults, CommitGives, PlaceGives, return_outcome}
pub use Rattle.vyrd_plain.specs.Tracking.{Tracks}
pub use Rattle.vyrd_plain.specs.declared.effects.Block.{Block}
pub use Rattle.vyrd_plain.specs.declared.execution.Execution.{Execution}
pub use Rattle.vyrd_plain.specs.declared.outcome.Outcome.{Outcome}
pub use Rattle.vyrd_plain.specs.declared.outcome.Outcome.TheVariants.{Ends, Faults, Goes}
