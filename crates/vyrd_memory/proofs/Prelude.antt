-- The names that the proofs of this crate share, passed on from one place. Declares nothing.
pub use Rattle.std.specs.List.{AllByRecursion, cons_option, filter, list_all, list_any}
pub use Rattle.std.specs.Option.{option_copied, option_flatten, option_map_or, option_or}
pub use Rattle.std.specs.Prelude.{◌==◌, filter_map, flat_map, IfSome, is_none, is_some, IsSome}
pub use Rattle.std.specs.Prelude.{MatchOption, nat_lt, set, slice_index, unwrap_or}
pub use Rattle.std.proofs.Common.{[], ℕ, ◌&&◌, ◌*◌, ◌++◌, ◌+◌, ◌-◌, ◌<◌, ◌^◌, ◌||◌, ◌∙◌, ◌∷◌, ◌≡◌}
pub use Rattle.std.proofs.Common.{◌≢◌, ◌≤◌, ap, append-nil, arith, Bool, Bor, cond, drop, false}
pub use Rattle.std.proofs.Common.{get_or, length, List, map, None, not, Ok, Option, option_map}
pub use Rattle.std.proofs.Common.{refl, replicate, rules, slice_get, Some, subst, suc, sym, take}
pub use Rattle.std.proofs.Common.{true, vec_len, zero}
pub use Rattle.std.proofs.Math.Bool.{Bool-set}
pub use Rattle.std.proofs.Math.ListN.{drop_of_length-le}
pub use Rattle.std.proofs.Math.Logic.{∥∥₁_elim}
pub use Rattle.std.proofs.lemmas.Bool.Decides.{nat_tests}
pub use Rattle.std.proofs.lemmas.Option.{same_Some, slice_get_within}
pub use Rattle.vyrd_base.specs.Amounts.{amount_of, Amounts, collected, given, is_present, IsAmounts}
pub use Rattle.vyrd_base.specs.Callers.{by_caller, call_or_return, Called, has_block, has_committed}
pub use Rattle.vyrd_base.specs.Callers.{open_call}
pub use Rattle.vyrd_base.specs.Histories.{Cells, cells_of, is_legal_at, is_lock, is_plain, is_write}
pub use Rattle.vyrd_base.specs.Histories.{logged, made_of, may_do, value_in}
unfoldable pub use Rattle.vyrd_base.specs.Histories.{is_legal, log_of}
pub use Rattle.vyrd_base.specs.Layout.{lock_words, plain_words}
pub use Rattle.vyrd_base.specs.Places.{first_answer, newest_first, newest_first_onto, numbers_below}
pub use Rattle.vyrd_base.specs.Places.{numbers_from, places_after}
pub use Rattle.vyrd_base.specs.Shape.{broken_rule}
pub use Rattle.vyrd_base.specs.Subjects.{are_args, is_observer, same_subject, subject_of}
pub use Rattle.vyrd_base.specs.declared.header.Header.{Header}
pub use Rattle.vyrd_base.specs.declared.history.Did.{Did}
pub use Rattle.vyrd_base.specs.declared.history.Did.TheVariants.{Gave, Marked, Read, Took, Wrote}
pub use Rattle.vyrd_base.specs.declared.history.Stamped.{Stamped}
pub use Rattle.vyrd_base.specs.declared.log.Entry.{Entry}
pub use Rattle.vyrd_base.specs.declared.log.Kind.{Kind}
pub use Rattle.vyrd_base.specs.declared.log.Kind.TheVariants.{BlockClose, BlockCommit, BlockOpen}
pub use Rattle.vyrd_base.specs.declared.log.Kind.TheVariants.{Call, Commit, Return, Write}
pub use Rattle.vyrd_base.specs.declared.subject.Args.{Args}
pub use Rattle.vyrd_base.specs.declared.subject.Method.{Method}
pub use Rattle.vyrd_base.specs.declared.verdict.Rule.{Rule}
pub use Rattle.vyrd_base.proofs.AmountLaws.{same_amounts}
pub use Rattle.vyrd_base.proofs.BlockLaws.{entry, other_answer, own_answer, own_block}
pub use Rattle.vyrd_base.proofs.CellLaws.{plain_isnt}
pub use Rattle.vyrd_base.proofs.EffectLaws.{own_committed}
pub use Rattle.vyrd_base.proofs.HistoryLaws.{log_entry}
pub use Rattle.vyrd_base.proofs.ListLaws.{slice_get-is, slice_get-set_other}
pub use Rattle.vyrd_base.proofs.PlaceLaws.{length-newest_first, map_alike_from, newest_first-push}
pub use Rattle.vyrd_base.proofs.SumLaws.{amount_of-collected, given-append, IsAmounts-collected}
pub use Rattle.vyrd_base.proofs.TestLaws.{apart_of, below_of, both_true, first_true, is_below}
pub use Rattle.vyrd_base.proofs.TestLaws.{isnt_same, not_below_of, same_number, same_of}
pub use Rattle.vyrd_base.proofs.TestLaws.{second_true}
pub use Rattle.vyrd_memory.specs.Bounds.{bound_of, bounds_of, most_ahead, most_op_events}
pub use Rattle.vyrd_memory.specs.Laws.Underway.{of_some, underway_sound}
pub use Rattle.vyrd_memory.specs.Playing.{event_in, HasPlayed, HaveComeToRest, IsPlaying, IsReady}
pub use Rattle.vyrd_memory.specs.Playing.{IsWithin, memory_after, rounds_over, Scene, scene, total}
pub use Rattle.vyrd_memory.specs.Playing.{words_after_event, words_with}
pub use Rattle.vyrd_memory.specs.Runs.{AreSoundScripts, is_call_of, PlayToTheEnd}
pub use Rattle.vyrd_memory.specs.Scripts.{after_answer, answer_of, event_of, IsAnswer, left_after}
pub use Rattle.vyrd_memory.specs.Scripts.{next_act, perform, Plays, Script, step, stop}
pub use Rattle.vyrd_memory.specs.Showing.{HasShown, Stage, stage}
pub use Rattle.vyrd_memory.specs.Soundness.{after_act, after_mark, at_rest, holds, holds_none}
pub use Rattle.vyrd_memory.specs.Soundness.{is_at_rest, is_nil, IsSound, IsSoundSomewhere, may_act}
pub use Rattle.vyrd_memory.specs.Soundness.{may_mark, observes, Situation}
pub use Rattle.vyrd_memory.specs.StuckThere.{AreStuckThere}
pub use Rattle.vyrd_memory.specs.Turns.{act_of, after_rounds, after_turn, after_turns, are_done}
pub use Rattle.vyrd_memory.specs.Turns.{are_stuck, event_now, GetsStuck, is_done, is_held_up}
pub use Rattle.vyrd_memory.specs.Turns.{part_of, run_for, RunsTo, script_of, turns_of, with_event}
pub use Rattle.vyrd_memory.specs.Underway.{IsUnderway}
pub use Rattle.vyrd_memory.specs.Unfinished.{is_unfinished, LeavesOut}
pub use Rattle.vyrd_memory.specs.declared.act.Act.{Act}
pub use Rattle.vyrd_memory.specs.declared.act.Act.TheVariants.{Done, Give, Load, Mark, Store, Take}
pub use Rattle.vyrd_memory.specs.declared.op.Op.{Op}
pub use Rattle.vyrd_memory.specs.declared.op.Turn.{Turn}
