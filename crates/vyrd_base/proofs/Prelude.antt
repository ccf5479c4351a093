-- The names that the proofs of this crate share, passed on from one place. Declares nothing.
pub use Rattle.std.specs.Bool.{then_some}
pub use Rattle.std.specs.Cmp.{unsigned_tied}
pub use Rattle.std.specs.Io.KnownBytes.{Keeps}
pub use Rattle.std.specs.List.{AllByRecursion, cons_option, filter_map, join_with_byte, list_all}
pub use Rattle.std.specs.List.{list_any, onto_first, slice_split}
pub use Rattle.std.specs.Option.{option_and, option_and_then, option_map_or, option_or}
pub use Rattle.std.specs.Ordering.{eq_by_cmp, is_lt, nat_cmp}
pub use Rattle.std.specs.Prelude.{◌==◌, ◌⊎◌, All, codes, decimal, filter, find, flat_map, is_none}
pub use Rattle.std.specs.Prelude.{is_some, nat_le, nat_lt, ok_or, option_map, replicate}
pub use Rattle.std.specs.Prelude.{slice_index, unwrap_or}
pub use Rattle.std.specs.Str.{bytes_eq}
pub use Rattle.std.proofs.Common.{[], ℕ, ◌&&◌, ◌*◌, ◌++◌, ◌+◌, ◌<◌, ◌^◌, ◌||◌, ◌∙◌, ◌∷◌, ◌≡◌, ◌≢◌}
pub use Rattle.std.proofs.Common.{◌≤◌, ap, append-nil, append_assoc, arith, Bool, cond, drop, Err}
pub use Rattle.std.proofs.Common.{false, get_or, inl, inr, length, length-append, List, map, min}
pub use Rattle.std.proofs.Common.{ne_eqb, None, not, Ok, Option, refl, Result, set, slice_get, Some}
pub use Rattle.std.proofs.Common.{subst, suc, sym, T, take, true, zero}
pub use Rattle.std.proofs.Math.Bool.{and-false, Bool-set}
pub use Rattle.std.proofs.Math.Seq.{take-length}
pub use Rattle.std.proofs.lemmas.Bool.{not-false, or_right}
pub use Rattle.std.proofs.lemmas.Bool.Decides.{nat_tests}
pub use Rattle.std.proofs.lemmas.List.{drop-drop, length-take, replicate-append-replicate}
pub use Rattle.std.proofs.lemmas.List.{take-append-drop, take-append-le, take_more}
pub use Rattle.std.proofs.lemmas.Option.{get_or_from_slice_get, option_and_then_some}
pub use Rattle.std.proofs.lemmas.Option.{slice_get-get_or, slice_get-map, slice_get_within}
pub use Rattle.std.proofs.lemmas.Slice.Eq.{bytes_eq-Decides}
pub use Rattle.vyrd_base.specs.Added.{added}
pub use Rattle.vyrd_base.specs.Amounts.{amount_of, Amounts, collected, given, IsAmounts, part_given}
pub use Rattle.vyrd_base.specs.Amounts.{plus_amount, with_amount}
pub use Rattle.vyrd_base.specs.BlockEnds.{ended_effects, ended_effects_at, ended_value}
pub use Rattle.vyrd_base.specs.Buffers.{are_characters, buffer_at, buffers, is_buffer, text_of}
unfoldable pub use Rattle.vyrd_base.specs.Buffers.{text_length}
pub use Rattle.vyrd_base.specs.Cache.{cache}
pub use Rattle.vyrd_base.specs.Callers.{by_caller, call_or_return, Called, commit_or_call}
pub use Rattle.vyrd_base.specs.Callers.{entries_before_call, has_block, has_committed}
pub use Rattle.vyrd_base.specs.Callers.{has_inner_commit, holds_word, is_call, open_call}
pub use Rattle.vyrd_base.specs.Callers.{open_or_close, write_or_open}
pub use Rattle.vyrd_base.specs.Commits.{commit_count, commits_after, Committed, committed_at}
pub use Rattle.vyrd_base.specs.Commits.{is_commit, next_reply, returned, state_after, states_from}
pub use Rattle.vyrd_base.specs.Commits.{states_of}
unfoldable pub use Rattle.vyrd_base.specs.Commits.{commits}
pub use Rattle.vyrd_base.specs.Entries.{has_method, place_of}
pub use Rattle.vyrd_base.specs.Faults.{commit_fault, fault_of_commit, fault_of_kind, observer_fault}
pub use Rattle.vyrd_base.specs.Faults.{return_fault, states_since_call, step_fault}
unfoldable pub use Rattle.vyrd_base.specs.Faults.{fault_at}
pub use Rattle.vyrd_base.specs.FirstVersion.{old_broken_rule}
pub use Rattle.vyrd_base.specs.Front.{front_after, unless_broken, WellFormed}
unfoldable pub use Rattle.vyrd_base.specs.Front.{first_break, front}
pub use Rattle.vyrd_base.specs.Layout.{lock_words, lock_words_of, plain_words, plain_words_of}
pub use Rattle.vyrd_base.specs.Limits.{is_known_version, is_sized, longest_method, longest_subject}
pub use Rattle.vyrd_base.specs.Lines.{fields_of, guessed_entry, header_from, header_if, header_of}
pub use Rattle.vyrd_base.specs.Lines.{header_spelled, method_called, number_of, subject_called}
unfoldable pub use Rattle.vyrd_base.specs.Lines.{entry_in, header_in, start_in}
pub use Rattle.vyrd_base.specs.Multiset.{multiset, slot_parts}
pub use Rattle.vyrd_base.specs.Places.{first_answer, newest_first, newest_first_onto, numbers_below}
pub use Rattle.vyrd_base.specs.Places.{numbers_from, Place, places, places_after, position_of}
pub use Rattle.vyrd_base.specs.Reading.{after_end_rule, body_read, ended, entry_before, fault_on}
pub use Rattle.vyrd_base.specs.Reading.{has_any, header_before, Input, lines_read, Reading}
pub use Rattle.vyrd_base.specs.Reading.{start_before, starts_read, stopped, text_read, TextFault}
pub use Rattle.vyrd_base.specs.Reading.{unfinished_rule}
unfoldable pub use Rattle.vyrd_base.specs.Reading.{reading}
unfoldable pub use Rattle.vyrd_base.specs.Represented.{state_of_words}
pub use Rattle.vyrd_base.specs.Rules.{Rules, rules_of}
pub use Rattle.vyrd_base.specs.Shape.{broken_rule, Check, checks_at, first_broken, is_held_by_other}
pub use Rattle.vyrd_base.specs.Specification.{start}
pub use Rattle.vyrd_base.specs.Spelling.{end_line, ended_line, entry_line, header_line, is_entry_of}
pub use Rattle.vyrd_base.specs.Spelling.{is_kind_of, kind_fields, method_name, start_line}
pub use Rattle.vyrd_base.specs.Spelling.{subject_name}
unfoldable pub use Rattle.vyrd_base.specs.Spelling.{log_text}
pub use Rattle.vyrd_base.specs.Starts.{do_follow, is_out_of_order, is_out_of_range, may_start}
pub use Rattle.vyrd_base.specs.Starts.{start_rule, words_at_start}
unfoldable pub use Rattle.vyrd_base.specs.Starts.{state_at_start}
pub use Rattle.vyrd_base.specs.States.{showing, State}
pub use Rattle.vyrd_base.specs.Subjects.{always_commits, are_args, arity_of, is_built_in, is_named}
pub use Rattle.vyrd_base.specs.Subjects.{is_observer, limits_of, methods_of, must_commit}
pub use Rattle.vyrd_base.specs.Subjects.{never_commits, subject_of}
pub use Rattle.vyrd_base.specs.TextVerdicts.{entries_verdict, known_verdict, stop_of}
unfoldable pub use Rattle.vyrd_base.specs.TextVerdicts.{text_verdict, text_verdict_so_far}
pub use Rattle.vyrd_base.specs.Tree.{chain_parts_from, entry_parts, node_parts, tree}
pub use Rattle.vyrd_base.specs.Verdicts.{begun_verdict, is_call_open, line_of, start_verdict}
pub use Rattle.vyrd_base.specs.Verdicts.{states_along, violation_at}
unfoldable pub use Rattle.vyrd_base.specs.Verdicts.{accepted, end_verdict, first_fault}
unfoldable pub use Rattle.vyrd_base.specs.Verdicts.{shape_verdict, verdict, verdict_at}
unfoldable pub use Rattle.vyrd_base.specs.Verdicts.{verdict_so_far}
unfoldable pub use Rattle.vyrd_base.specs.Views.{view_of_words}
pub use Rattle.vyrd_base.specs.Words.{ahead_at, block_writes, effects, effects_at}
pub use Rattle.vyrd_base.specs.Words.{effects_of_others, given_to, is_lone_commit, is_passed}
pub use Rattle.vyrd_base.specs.Words.{value_after, with_write, words_with, writes_ahead}
unfoldable pub use Rattle.vyrd_base.specs.Words.{words_after, words_at}
pub use Rattle.vyrd_base.specs.declared.header.Header.{Header}
pub use Rattle.vyrd_base.specs.declared.history.Did.{Did}
pub use Rattle.vyrd_base.specs.declared.history.Stamped.{Stamped}
pub use Rattle.vyrd_base.specs.declared.log.Entry.{Entry}
pub use Rattle.vyrd_base.specs.declared.log.Kind.{Kind}
pub use Rattle.vyrd_base.specs.declared.log.Kind.TheVariants.{BlockClose, BlockCommit, BlockOpen}
pub use Rattle.vyrd_base.specs.declared.log.Kind.TheVariants.{Call, Commit, Return, Write}
pub use Rattle.vyrd_base.specs.declared.log.StartWord.{StartWord}
pub use Rattle.vyrd_base.specs.declared.subject.Args.{Args}
pub use Rattle.vyrd_base.specs.declared.subject.Method.{Method}
pub use Rattle.vyrd_base.specs.declared.subject.Subject.{Subject}
pub use Rattle.vyrd_base.specs.declared.subject.Subject.TheVariants.{Buffers, Cache, Multiset, Own}
pub use Rattle.vyrd_base.specs.declared.subject.Subject.TheVariants.{Tree}
pub use Rattle.vyrd_base.specs.declared.verdict.Rule.{Rule}
pub use Rattle.vyrd_base.specs.declared.verdict.Rule.TheVariants.{BadEntry, BadHeader, CallOpen}
pub use Rattle.vyrd_base.specs.declared.verdict.Rule.TheVariants.{TooManyLines, UnknownVersion}
pub use Rattle.vyrd_base.specs.declared.verdict.Stop.TheVariants.{End, Text}
pub use Rattle.vyrd_base.specs.declared.verdict.Verdict.{Verdict}
pub use Rattle.vyrd_base.specs.declared.verdict.Verdict.TheVariants.{Malformed, Violation}
pub use Rattle.vyrd_base.specs.declared.verdict.Why.{Why}
pub use Rattle.vyrd_base.proofs.SplitLaws.{bytes_same, is_plain_field, lacks, lacks-join}
pub use Rattle.vyrd_base.proofs.SplitLaws.{number_of_decimal, split-join, split_at}
pub use Rattle.vyrd_base.proofs.TestLaws.{above_of, apart_of, at_most_of, below_of, both_true}
pub use Rattle.vyrd_base.proofs.TestLaws.{first_true, flipped, is_at_most, is_below, is_same}
pub use Rattle.vyrd_base.proofs.TestLaws.{isnt_same, lower_isnt, neither_true, same_number, same_of}
pub use Rattle.vyrd_base.proofs.TestLaws.{second_true}
