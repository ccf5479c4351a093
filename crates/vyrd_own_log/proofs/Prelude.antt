-- The names that the proofs of this crate share, passed on from one place. Declares nothing.
pub use Rattle.std.specs.Char.{digit_value}
pub use Rattle.std.specs.Global.{Vec}
pub use Rattle.std.specs.List.{list_all, onto_first, slice_split}
pub use Rattle.std.specs.Option.{option_and_then, option_map_or, option_or}
pub use Rattle.std.specs.Prelude.{◌==◌, ◌↔◌, codes, decimal, Err, IfSome, is_some, IsSome, IsTrue}
pub use Rattle.std.specs.Prelude.{nat_le, nat_lt, Ok, OnOk, option_map, slice_get}
pub use Rattle.std.specs.Result.{is_err}
pub use Rattle.std.specs.Str.{bytes_eq}
pub use Rattle.std.proofs.Common.{[], ℕ, ◌&&◌, ◌++◌, ◌+◌, ◌-◌, ◌<◌, ◌^◌, ◌||◌, ◌∙◌, ◌∷◌, ◌≡◌, ◌≤◌}
pub use Rattle.std.proofs.Common.{ap, append_assoc, arith, Bool, cond, drop, false, get_or, length}
pub use Rattle.std.proofs.Common.{length-append, List, map, None, not, Option, refl, Result, rules}
pub use Rattle.std.proofs.Common.{Some, subst, suc, sym, take, true, zero, zero-add}
pub use Rattle.std.proofs.Math.Bool.{and-false}
pub use Rattle.std.proofs.lemmas.Bool.{not-true}
pub use Rattle.std.proofs.lemmas.List.{append-nil, append_cancel_left, drop_more, take-append-drop}
pub use Rattle.std.proofs.lemmas.List.{take_all, take_at, take_rest}
pub use Rattle.std.proofs.lemmas.Slice.Eq.{bytes_eq-Decides}
pub use Rattle.vyrd_base.specs.Limits.{is_own_sized, most_lines}
pub use Rattle.vyrd_base.specs.Lines.{args_from, fields_of, header_if, header_of, number_of}
pub use Rattle.vyrd_base.specs.Lines.{start_in}
pub use Rattle.vyrd_base.specs.Own.Entries.{guessed_own_entry, guessed_own_kind, is_own_entry}
pub use Rattle.vyrd_base.specs.Own.Entries.{is_own_kind, named_from, own_entry_line, own_fields}
pub use Rattle.vyrd_base.specs.Own.Entries.{own_method, own_name}
unfoldable pub use Rattle.vyrd_base.specs.Own.Entries.{own_entry_in}
pub use Rattle.vyrd_base.specs.Own.Expressions.{most}
pub use Rattle.vyrd_base.specs.Own.Lines.{Line}
pub use Rattle.vyrd_base.specs.Own.Log.{entries_read, is_note, line_before, own_ended}
pub use Rattle.vyrd_base.specs.Own.Log.{own_entry_before, own_header_from, own_header_spelled}
pub use Rattle.vyrd_base.specs.Own.Log.{own_start_before, own_starts_read, own_stopped}
pub use Rattle.vyrd_base.specs.Own.Log.{own_text_read, OwnReading, specification_read}
unfoldable pub use Rattle.vyrd_base.specs.Own.Log.{own_header_in, own_reading}
pub use Rattle.vyrd_base.specs.Own.OwnRules.{own_arity}
pub use Rattle.vyrd_base.specs.Own.Programs.{Method, Written}
pub use Rattle.vyrd_base.specs.Own.Reader.{ended_with, nothing_read, read_lines, SoFar, unfinished}
pub use Rattle.vyrd_base.specs.Own.Reader.{written_in}
unfoldable pub use Rattle.vyrd_base.specs.Own.Reader.{line_read, read_next}
pub use Rattle.vyrd_base.specs.Own.Reading.{Taken}
pub use Rattle.vyrd_base.specs.Reading.{after_end_rule, fault_on, has_any, Input, TextFault}
pub use Rattle.vyrd_base.specs.Shape.{◌breaks◌, first_broken}
pub use Rattle.vyrd_base.specs.Spelling.{end_line, header_line, spaced}
pub use Rattle.vyrd_base.specs.Starts.{do_follow, is_out_of_order, is_out_of_range, start_rule}
pub use Rattle.vyrd_base.specs.Subjects.{are_padded, limits_of, own_call, own_number, own_numbered}
pub use Rattle.vyrd_base.specs.declared.header.Header.{Header}
pub use Rattle.vyrd_base.specs.declared.log.Entry.{Entry}
pub use Rattle.vyrd_base.specs.declared.log.Kind.{Kind}
pub use Rattle.vyrd_base.specs.declared.log.Kind.TheVariants.{BlockClose, BlockCommit, BlockOpen}
pub use Rattle.vyrd_base.specs.declared.log.Kind.TheVariants.{Call, Commit, Return, Write}
pub use Rattle.vyrd_base.specs.declared.log.StartWord.{StartWord}
pub use Rattle.vyrd_base.specs.declared.own.line.SpecificationLine.{SpecificationLine}
pub use Rattle.vyrd_base.specs.declared.own.method.OwnMethod.{OwnMethod}
pub use Rattle.vyrd_base.specs.declared.own.rule.SpecificationRule.{SpecificationRule}
pub use Rattle.vyrd_base.specs.declared.subject.Args.{Args}
pub use Rattle.vyrd_base.specs.declared.subject.Commits.{Commits}
pub use Rattle.vyrd_base.specs.declared.subject.Subject.TheVariants.{Own}
pub use Rattle.vyrd_base.specs.declared.verdict.Rule.{Rule}
pub use Rattle.vyrd_base.specs.declared.verdict.Rule.TheVariants.{BadHeader, Specification}
pub use Rattle.vyrd_base.specs.declared.verdict.Rule.TheVariants.{StartOrder, StartRange}
pub use Rattle.vyrd_base.specs.declared.verdict.Rule.TheVariants.{TooManyLines}
pub use Rattle.vyrd_base.proofs.SplitLaws.{all_lack, bytes_same, cut, decimal_lacks, lacks}
pub use Rattle.vyrd_base.proofs.SplitLaws.{lacks-append, lacks-join, no_line_feed, no_space}
pub use Rattle.vyrd_base.proofs.SplitLaws.{number_of_decimal, split-join, split_at, split_whole}
pub use Rattle.vyrd_base.proofs.TestLaws.{at_most_of, below_of, both_true, first_true, is_below}
pub use Rattle.vyrd_base.proofs.TestLaws.{isnt_below, not_below_of, same_of, second_true}
pub use Rattle.vyrd_text.specs.Answered.{IsAnswer, UnlessMemory}
pub use Rattle.vyrd_text.specs.Fields.{after_field}
pub use Rattle.vyrd_text.proofs.AheadLaws.{parts_of}
pub use Rattle.vyrd_text.proofs.HeaderLaws.{made}
pub use Rattle.vyrd_text.proofs.PartLaws.{one_before_space}
pub use Rattle.vyrd_own.specs.Layout.{method_of, texts, written}
pub use Rattle.vyrd_own_log.specs.Callable.{are_callable, is_callable}
pub use Rattle.vyrd_own_log.specs.Grown.{ends, has_begun, input_of, IsFormed, IsGrown, to_go_on}
pub use Rattle.vyrd_own_log.specs.KeptView.{kept_of}
pub use Rattle.vyrd_own_log.specs.Quick.{ends_name, IsOwnEntryAtFront}
pub use Rattle.vyrd_own_log.specs.ReaderView.{state_in}
pub use Rattle.vyrd_own_log.specs.Readers.{brought_in, fresh_kept, goes_on, HasReached, HasRead}
pub use Rattle.vyrd_own_log.specs.Readers.{is_one_line, IsFed, IsFedFront, IsGrownBy, IsSafe}
pub use Rattle.vyrd_own_log.specs.Readers.{IsSound, IsTaken, OwnReaderKept, ReaderState, so_far}
pub use Rattle.vyrd_own_log.specs.Readers.{whole}
pub use Rattle.vyrd_own_log.specs.Rests.{end_fault, fault_at_end, rest_if, rest_rule}
pub use Rattle.vyrd_own_log.specs.Spelled.{AreOwnArgsRead, HasNoOther, IsCalled, IsOf}
pub use Rattle.vyrd_own_log.specs.Spelled.{IsOwnKindRead, own_args, own_kind_text}
pub use Rattle.vyrd_own_log.specs.StateView.{fault_of, state_of}
pub use Rattle.vyrd_own_log.specs.States.{has_ended, headed, header_at, input_to, IsFirst, IsSteady}
pub use Rattle.vyrd_own_log.specs.States.{known, lines_on, LineState, reads_on, unless_faulty}
pub use Rattle.vyrd_own_log.specs.Steps.{broken, Brought, brought_by, brought_then, entries_of}
pub use Rattle.vyrd_own_log.specs.Steps.{entry_step, header_step, lines_of, next, nothing_brought}
pub use Rattle.vyrd_own_log.specs.Steps.{numbers_of, own_step, specification_step, spelled_step}
pub use Rattle.vyrd_own_log.specs.Steps.{stage_step, start_step, starts_of, starts_step, with_read}
pub use Rattle.vyrd_own_log.specs.Steps.{word_step}
pub use Rattle.vyrd_own_log.specs.declared.stage.Found.{Found}
pub use Rattle.vyrd_own_log.specs.declared.stage.Stage.{Stage}
