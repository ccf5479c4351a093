-- The names that the proofs of this crate share, passed on from one place. Declares nothing.
pub use Rattle.std.specs.Bool.{then_some}
pub use Rattle.std.specs.List.{AllByRecursion, cons_option, list_all, list_any}
pub use Rattle.std.specs.Option.{option_and, option_or}
pub use Rattle.std.specs.Prelude.{◌==◌, drop, filter, filter_map, flat_map, is_some, nat_le, nat_lt}
pub use Rattle.std.specs.Prelude.{option_and_then, remove, slice_get, slice_index, take, unwrap_or}
pub use Rattle.std.proofs.Common.{[], ℕ, ◌%◌, ◌&&◌, ◌*◌, ◌++◌, ◌+◌, ◌-◌, ◌/◌, ◌<◌, ◌^◌, ◌||◌, ◌∙◌}
pub use Rattle.std.proofs.Common.{◌∷◌, ◌≡◌, ◌≢◌, ◌≤◌, ◌⊎◌, add-one, ap, append-nil, append_assoc}
pub use Rattle.std.proofs.Common.{arith, Bool, cond, false, inl, inr, length, List, map, max, min}
pub use Rattle.std.proofs.Common.{None, not, Option, refl, rules, Some, subst, suc, sym, true, zero}
pub use Rattle.std.proofs.Math.Seq.{take-append-add}
pub use Rattle.std.proofs.lemmas.Bool.{not-false, not-true, or_right}
pub use Rattle.std.proofs.lemmas.Bool.Decides.{nat_tests}
pub use Rattle.std.proofs.lemmas.Option.{same_Some}
pub use Rattle.vyrd_base.specs.Amounts.{amount_of, Amounts, collected, first_difference, given}
pub use Rattle.vyrd_base.specs.Amounts.{IsAmounts, least, plus_amount, with_amount}
pub use Rattle.vyrd_base.specs.BlockEnds.{ended_effects, ended_value}
unfoldable pub use Rattle.vyrd_base.specs.BlockEnds.{ended_words}
pub use Rattle.vyrd_base.specs.Cache.{Chunk, chunk_at, chunk_parts, is_sound_chunk}
pub use Rattle.vyrd_base.specs.Callers.{by_caller, Called, entries_before_call, has_block}
pub use Rattle.vyrd_base.specs.Callers.{has_committed, holds_word, is_call, open_call}
pub use Rattle.vyrd_base.specs.Callers.{write_or_open}
pub use Rattle.vyrd_base.specs.Commits.{commit_count, commits_after, Committed, committed_at}
pub use Rattle.vyrd_base.specs.Commits.{is_commit, next_reply, returned, state_after, states_from}
unfoldable pub use Rattle.vyrd_base.specs.Commits.{commits}
pub use Rattle.vyrd_base.specs.Faults.{fault_of_commit, fault_of_kind, observer_fault, return_fault}
pub use Rattle.vyrd_base.specs.Faults.{states_since_call}
unfoldable pub use Rattle.vyrd_base.specs.Faults.{fault_at}
pub use Rattle.vyrd_base.specs.Front.{WellFormed}
unfoldable pub use Rattle.vyrd_base.specs.Front.{first_break, front}
pub use Rattle.vyrd_base.specs.Histories.{Cells, cells_of, is_legal, is_lock, is_plain, logged}
pub use Rattle.vyrd_base.specs.Histories.{may_do, value_in}
unfoldable pub use Rattle.vyrd_base.specs.Histories.{log_of}
pub use Rattle.vyrd_base.specs.Layout.{plain_words, plain_words_of}
pub use Rattle.vyrd_base.specs.Places.{first_answer, newest_first, newest_first_onto, numbers_below}
pub use Rattle.vyrd_base.specs.Places.{numbers_from, Place, places, places_after}
pub use Rattle.vyrd_base.specs.Represented.{is_sound}
pub use Rattle.vyrd_base.specs.Rules.{rules_of}
pub use Rattle.vyrd_base.specs.Specification.{answer_in, next_state, start}
pub use Rattle.vyrd_base.specs.States.{showing, State}
pub use Rattle.vyrd_base.specs.Subjects.{is_built_in, is_observer, subject_of}
pub use Rattle.vyrd_base.specs.Tree.{chain_parts, chain_parts_from, damage, node_parts, right_of}
pub use Rattle.vyrd_base.specs.Verdicts.{accepted, is_call_open, states_along, violation_at}
unfoldable pub use Rattle.vyrd_base.specs.Verdicts.{first_fault, shape_verdict, verdict}
pub use Rattle.vyrd_base.specs.Views.{parts_of}
unfoldable pub use Rattle.vyrd_base.specs.Views.{view_of_words}
pub use Rattle.vyrd_base.specs.Words.{block_writes, given_to}
pub use Rattle.vyrd_base.specs.declared.buffers.BuffersMethod.TheVariants.{AppendFrom}
pub use Rattle.vyrd_base.specs.declared.header.Header.{Header}
pub use Rattle.vyrd_base.specs.declared.history.Did.{Did}
pub use Rattle.vyrd_base.specs.declared.history.Did.TheVariants.{Gave, Marked, Read, Took, Wrote}
pub use Rattle.vyrd_base.specs.declared.history.Stamped.{Stamped}
pub use Rattle.vyrd_base.specs.declared.log.Entry.{Entry}
pub use Rattle.vyrd_base.specs.declared.log.Kind.{Kind}
pub use Rattle.vyrd_base.specs.declared.log.Kind.TheVariants.{BlockClose, BlockCommit, BlockOpen}
pub use Rattle.vyrd_base.specs.declared.log.Kind.TheVariants.{Call, Commit, Return, Write}
pub use Rattle.vyrd_base.specs.declared.multiset.MultisetMethod.TheVariants.{InsertPair}
pub use Rattle.vyrd_base.specs.declared.subject.Args.{Args}
pub use Rattle.vyrd_base.specs.declared.subject.Method.{Method}
pub use Rattle.vyrd_base.specs.declared.subject.Method.TheVariants.{OwnAtMostOnce, OwnNever}
pub use Rattle.vyrd_base.specs.declared.subject.Method.TheVariants.{OwnOnce}
pub use Rattle.vyrd_base.specs.declared.subject.Subject.TheVariants.{Buffers, Cache, Multiset, Tree}
pub use Rattle.vyrd_base.specs.declared.tree.TreeMethod.TheVariants.{Delete, Insert, Lookup}
pub use Rattle.vyrd_base.specs.declared.verdict.Rule.TheVariants.{BlockRaced}
pub use Rattle.vyrd_base.specs.declared.verdict.Why.TheVariants.{Observer}
pub use Rattle.vyrd_base.proofs.BlockLaws.{by_same, entry, other_answer, other_writes, own_answer}
pub use Rattle.vyrd_base.proofs.BlockLaws.{own_block, own_writes, own_wrote, wrote, wrote_is}
pub use Rattle.vyrd_base.proofs.CellLaws.{plain_isnt}
pub use Rattle.vyrd_base.proofs.CommittedLaws.{returns_committed}
pub use Rattle.vyrd_base.proofs.HeaderLaws.{first_version_built_in}
pub use Rattle.vyrd_base.proofs.HistoryLaws.{last_is_value, Legal, log_entry}
pub use Rattle.vyrd_base.proofs.Lasting.{commit_count-cons, slice_get_seam}
pub use Rattle.vyrd_base.proofs.PlaceLaws.{map_alike_from, pass_all}
pub use Rattle.vyrd_base.proofs.ShadowLaws.{holds_other, well_formed_sound}
pub use Rattle.vyrd_base.proofs.StateLaws.{commits_before_call}
pub use Rattle.vyrd_base.proofs.SumLaws.{given_nothing}
pub use Rattle.vyrd_base.proofs.TestLaws.{above_of, apart_of, at_most_of, below_of, both_of}
pub use Rattle.vyrd_base.proofs.TestLaws.{first_true, is_at_most, is_below, is_same, isnt_at_most}
pub use Rattle.vyrd_base.proofs.TestLaws.{isnt_below, isnt_same, same_number, same_of, second_true}
pub use Rattle.vyrd_base.proofs.TextLaws.{text_same}
pub use Rattle.vyrd_base.proofs.VersionWords.{first_words_at, no_inner_commit}
pub use Rattle.vyrd_memory.specs.Alone.{Memory, with_cell, words_in}
pub use Rattle.vyrd_memory.specs.Laws.Player.{callable_method}
pub use Rattle.vyrd_memory.specs.Players.{are_callable, is_callable}
pub use Rattle.vyrd_memory.specs.Runs.{AreSoundScripts, PlayToTheEnd}
pub use Rattle.vyrd_memory.specs.Scripts.{after_answer, answer_of, event_of, followed_by, gives_up}
pub use Rattle.vyrd_memory.specs.Scripts.{IsAnswer, left_after, next_act, operations, perform}
pub use Rattle.vyrd_memory.specs.Scripts.{Plays, returns, Script, step, stop}
pub use Rattle.vyrd_memory.specs.Soundness.{after_act, at_rest, holds, IsSound, just_called}
pub use Rattle.vyrd_memory.specs.Soundness.{may_act, observes, Situation}
pub use Rattle.vyrd_memory.specs.Turns.{act_of, after_turns, are_done, are_stuck, GetsStuck}
pub use Rattle.vyrd_memory.specs.Turns.{is_done, is_held_up, part_of, RunsTo, script_of}
pub use Rattle.vyrd_memory.specs.declared.act.Act.{Act}
pub use Rattle.vyrd_memory.specs.declared.act.Act.TheVariants.{Done, Give, Load, Mark, Store, Take}
pub use Rattle.vyrd_memory.specs.declared.op.Op.{Op}
pub use Rattle.vyrd_memory.specs.declared.op.Turn.{Turn}
pub use Rattle.vyrd_memory.specs.declared.op.Variant.TheVariants.{Correct}
pub use Rattle.vyrd_memory.proofs.Agreements.{Agrees, agrees, four_true}
pub use Rattle.vyrd_memory.proofs.AloneLaws.{is_there, isnt_there}
pub use Rattle.vyrd_memory.proofs.HeldLocks.{held_is}
pub use Rattle.vyrd_memory.proofs.KeptRules.{mark_kept, OnlyRaced, write_kept}
pub use Rattle.vyrd_memory.proofs.LegalEvents.{are_answers, AreLegal, caller_low, does}
pub use Rattle.vyrd_memory.proofs.LegalEvents.{legal_events, value_with}
pub use Rattle.vyrd_memory.proofs.LegalRuns.{IsRun, rounds_run, run_is_legal, run_keeps, run_plays}
pub use Rattle.vyrd_memory.proofs.LegalRuns.{run_sound, turns_run}
pub use Rattle.vyrd_memory.proofs.Memories.{changed_cell, other_cell, Represents}
pub use Rattle.vyrd_memory.proofs.NumberLists.{all_pass, element_below, flat_map_alike}
pub use Rattle.vyrd_memory.proofs.PartSums.{collected-is}
pub use Rattle.vyrd_memory.proofs.RaceLaws.{all_keep, all_rest, newest_log, none_any, none_open}
pub use Rattle.vyrd_memory.proofs.Situations.{act_of_event, AreAnswers, event_act, KeepsTo}
pub use Rattle.vyrd_memory.proofs.Situations.{situation_after, sound_keeps}
pub use Rattle.vyrd_memory.proofs.SoundActs.{gone}
pub use Rattle.vyrd_multiset.specs.Contents.{IsMultiset}
pub use Rattle.vyrd_multiset.specs.Laws.Alone.Changes.{left_invalid, made_valid}
pub use Rattle.vyrd_multiset.specs.Procedures.{compare, find, find_from, multiset_procedure}
pub use Rattle.vyrd_multiset.specs.Procedures.{reserve, search_from, validate_both}
pub use Rattle.vyrd_cache.specs.Contents.{chunk_of}
pub use Rattle.vyrd_cache.specs.Laws.Alone.Changes.{chunk_in, same_chunk}
pub use Rattle.vyrd_cache.specs.Laws.Alone.Stores.{with_cached, with_state, with_stored}
pub use Rattle.vyrd_cache.specs.Procedures.{cache_procedure}
pub use Rattle.vyrd_tree.specs.Cells.{bound_cell, count_cell, level_cell, lock_of, right_cell}
pub use Rattle.vyrd_tree.specs.Cells.{root_cell, root_lock, unlock_node, unlock_root, used_cell}
pub use Rattle.vyrd_tree.specs.Cells.{used_lock, value_cell}
pub use Rattle.vyrd_tree.specs.Contents.{AreEntries, Below, bound_at, count_at, Covers, Entries}
pub use Rattle.vyrd_tree.specs.Contents.{entries_at, entries_from, gives, InRange, IsChild}
pub use Rattle.vyrd_tree.specs.Contents.{IsLeafEntry, key_at, last_in, level_at, right_at, Rising}
pub use Rattle.vyrd_tree.specs.Contents.{root_in, value_at}
pub use Rattle.vyrd_tree.specs.Laws.Alone.Changes.{apart_or, entries_alike, off_node, Rewritten}
pub use Rattle.vyrd_tree.specs.Laws.Alone.Counts.{le_or, passing, passing_less, passing_most}
pub use Rattle.vyrd_tree.specs.Laws.Alone.Counts.{zero_or}
pub use Rattle.vyrd_tree.specs.Laws.Alone.Done.{changed_inside, value_is}
pub use Rattle.vyrd_tree.specs.Laws.Alone.Entries.{between, drop_front, each_back, each_front}
pub use Rattle.vyrd_tree.specs.Laws.Alone.Entries.{each_more, entry_gives_it, entry_gives_none}
pub use Rattle.vyrd_tree.specs.Laws.Alone.Entries.{found_around, gives-append, gives_none}
pub use Rattle.vyrd_tree.specs.Laws.Alone.Entries.{gives_one, IsAround, IsBetween, not_found}
pub use Rattle.vyrd_tree.specs.Laws.Alone.Entries.{take_front}
pub use Rattle.vyrd_tree.specs.Laws.Alone.EntriesStaySound.{AreHalves, entries_added}
pub use Rattle.vyrd_tree.specs.Laws.Alone.EntriesStaySound.{entries_removed, gives_around, halves}
pub use Rattle.vyrd_tree.specs.Laws.Alone.EntriesStaySound.{length_join, place_below_is}
pub use Rattle.vyrd_tree.specs.Laws.Alone.EntriesStaySound.{with_entry_is}
pub use Rattle.vyrd_tree.specs.Laws.Alone.Order.{after_falls, after_few, after_of, IsAfter}
pub use Rattle.vyrd_tree.specs.Laws.Alone.Played.{any_from, begins_at, child_is, each_number}
pub use Rattle.vyrd_tree.specs.Laws.Alone.Played.{front_stands, Written}
pub use Rattle.vyrd_tree.specs.Laws.Alone.SplitKeepsTree.{new_low, off_words, old_low}
pub use Rattle.vyrd_tree.specs.Laws.Alone.SplitWrites.{NodeWritten}
pub use Rattle.vyrd_tree.specs.Laws.Alone.Tested.{length-entries}
pub use Rattle.vyrd_tree.specs.Laws.Alone.View.{step_ends, step_on}
pub use Rattle.vyrd_tree.specs.Laws.Alone.WalkArrives.{loaded_at, not_past, passed, past}
pub use Rattle.vyrd_tree.specs.Laws.Sound.Acts.{holding}
pub use Rattle.vyrd_tree.specs.Procedures.{changes_nothing, delete, delete_in, insert_entry}
pub use Rattle.vyrd_tree.specs.Procedures.{look_in, lookup, place_of, reply_of, walk_down}
pub use Rattle.vyrd_tree.specs.Procedures.Ascent.{add_child, ascend, ascend_once, grow_root}
pub use Rattle.vyrd_tree.specs.Procedures.Split.{add_entry, first_key, lower_half, place_below}
pub use Rattle.vyrd_tree.specs.Procedures.Split.{rewrite, split, split_entry, split_key, upper_half}
pub use Rattle.vyrd_tree.specs.Procedures.Split.{with_entry, with_unused, write_entries, write_node}
pub use Rattle.vyrd_tree.specs.Procedures.Walk.{Arrived, child_place, is_past, load_keys, load_rest}
pub use Rattle.vyrd_tree.specs.Procedures.Walk.{load_values, pass_on, to_child, walk_from}
pub use Rattle.vyrd_buffers.specs.Contents.{buffer_of, shown}
pub use Rattle.vyrd_buffers.specs.Laws.Alone.Changes.{shown_at, sound_at}
pub use Rattle.vyrd_buffers.specs.Procedures.{buffers_procedure, load_from, read_from, store_from}
pub use Rattle.vyrd_buffers.specs.Procedures.{unlock_both}
pub use Rattle.vyrd_work.specs.WorkLimits.{KeepsLimits}
pub use Rattle.vyrd_work.specs.WorkScripts.{ops_of, procedure_in, work_script, work_scripts}
pub use Rattle.vyrd_work.specs.Workloads.{Workload}
pub use Rattle.vyrd_work.proofs.ScriptLaws.{ops_are_callable}
pub use Rattle.vyrd_work.proofs.SoundScripts.{script_at, scripts_sound}
pub use Rattle.vyrd_every.specs.Between.{has_answer, Invariant, log_in, OfCaller}
pub use Rattle.vyrd_every.specs.Guarded.{buffers, cache, multiset, zero_one}
pub use Rattle.vyrd_every.specs.Locals.{Access, answer_at, called_after, empty_locals, Locals}
pub use Rattle.vyrd_every.specs.Locals.{pending_after, Rests, shown_after, written}
pub use Rattle.vyrd_every.specs.Others.{Guarantee, Rely}
pub use Rattle.vyrd_every.specs.RightScripts.{ActsRight, AreRight, Commits, DoesRight, IsRight}
pub use Rattle.vyrd_every.specs.RightScripts.{Leads, Reaches, WillReturn}
pub use Rattle.vyrd_every.specs.Schedules.{IsCorrect, IsSchedule}
pub use Rattle.vyrd_every.specs.Structures.{Fits, shown_by, Structure}
pub use Rattle.vyrd_every.specs.Trees.Between.{MayHold, NoneOut, OfTreeCaller, OneOut}
pub use Rattle.vyrd_every.specs.Trees.Between.{TreeInvariant}
pub use Rattle.vyrd_every.specs.Trees.Locals.{AreApart, empty_tree_locals, InNode, IsWordOf}
pub use Rattle.vyrd_every.specs.Trees.Locals.{MayLoad, MayStore, Owns, TreeLocals}
pub use Rattle.vyrd_every.specs.Trees.Others.{Grows, TreeLeaves, TreeRely}
pub use Rattle.vyrd_every.specs.Trees.RightScripts.{TreeCommits, TreeDoes, TreeReaches, TreeRight}
pub use Rattle.vyrd_every.specs.Trees.Seen.{out_after, seen_after}
pub use Rattle.vyrd_every.specs.Trees.Shapes.{Hangs, HasEntries, HasNeighbour, IsInner, IsLinked}
pub use Rattle.vyrd_every.specs.Trees.Shapes.{LeadsDown, LeadsRight, Shape, Unnamed}
pub use Rattle.vyrd_every.specs.Trees.Starts.{first_shape, IsCorrectTree}
pub use Rattle.vyrd_every.specs.Trees.States.{ShowsState}
pub use Rattle.vyrd_every.proofs.Acts.{answer_right, at, block_store_right, commit_right}
pub use Rattle.vyrd_every.proofs.Acts.{give_right, holds_first, load_right, lone_commit_right}
pub use Rattle.vyrd_every.proofs.Acts.{mutates, never, open_right, quiet, returns_right, take_right}
pub use Rattle.vyrd_every.proofs.Acts.{without_slots, writing}
