-- The names that the proofs of this crate share, passed on from one place. Declares nothing.
pub use Rattle.std.specs.List.{AllByRecursion, cons_option, join_with_byte, list_all, onto_first}
pub use Rattle.std.specs.Option.{option_and_then, option_map}
pub use Rattle.std.specs.Prelude.{◌==◌, ◌≢◌, decimal, flat_map, nat_le, nat_lt}
pub use Rattle.std.specs.Str.{bytes_eq}
pub use Rattle.std.proofs.Common.{[], ℕ, ◌&&◌, ◌++◌, ◌+◌, ◌-◌, ◌<◌, ◌^◌, ◌∙◌, ◌∷◌, ◌≡◌, ◌≤◌, ap}
pub use Rattle.std.proofs.Common.{append-nil, append_assoc, arith, Bool, codes, cond, Err, false}
pub use Rattle.std.proofs.Common.{get_or, length, length-append, List, map, None, Ok, Option, refl}
pub use Rattle.std.proofs.Common.{Result, Some, subst, suc, sym, take, true, zero}
pub use Rattle.std.proofs.lemmas.Bool.Decides.{nat_tests}
pub use Rattle.std.proofs.lemmas.Fmt.{decimal_injective}
pub use Rattle.std.proofs.lemmas.List.{append_cancel_left}
pub use Rattle.std.proofs.lemmas.List.Splits.{join_with_byte-slice_split}
pub use Rattle.std.proofs.lemmas.Result.{err_from_is_err_and, IfOk-weaker}
pub use Rattle.std.proofs.lemmas.Slice.Eq.{bytes_eq-Decides}
pub use Rattle.vyrd_base.specs.Lines.{args_from, fields_of, method_called}
pub use Rattle.vyrd_base.specs.Spelling.{arg_fields, end_line, ended_line, is_kind_of, method_name}
pub use Rattle.vyrd_base.specs.Subjects.{are_args, are_padded, arity_of, is_built_in, is_named}
pub use Rattle.vyrd_base.specs.Subjects.{same_subject, subject_of}
pub use Rattle.vyrd_base.specs.declared.header.Header.{Header}
pub use Rattle.vyrd_base.specs.declared.log.Entry.{Entry}
pub use Rattle.vyrd_base.specs.declared.log.Kind.TheVariants.{Call}
pub use Rattle.vyrd_base.specs.declared.multiset.MultisetMethod.TheVariants.{Insert}
pub use Rattle.vyrd_base.specs.declared.subject.Args.{Args}
pub use Rattle.vyrd_base.specs.declared.subject.Method.{Method}
pub use Rattle.vyrd_base.specs.declared.subject.Subject.{Subject}
pub use Rattle.vyrd_base.proofs.HeaderLaws.{callers_in_32_bits, first_version_built_in}
pub use Rattle.vyrd_base.proofs.HeaderLaws.{size_in_32_bits}
pub use Rattle.vyrd_base.proofs.LineLaws.{below_32, call_guess, plain_entry, plain_line_feeds}
pub use Rattle.vyrd_base.proofs.LineLaws.{plain_number, plain_spaces}
pub use Rattle.vyrd_base.proofs.ListLaws.{filter_map_more}
pub use Rattle.vyrd_base.proofs.SplitLaws.{bytes_same, cut, is_plain_field, lacks, lacks-join}
pub use Rattle.vyrd_base.proofs.SplitLaws.{number_of_decimal, split-join, split_at, split_whole}
pub use Rattle.vyrd_base.proofs.TestLaws.{below_of, both_true, first_true, is_below, second_true}
pub use Rattle.vyrd_text.specs.Spelled.{call_text, IsCallRead}
pub use Rattle.vyrd_text.proofs.AheadLaws.{parts_of}
pub use Rattle.vyrd_text.proofs.PartLaws.{one_before_space}
pub use Rattle.vyrd_memory.specs.Arguments.{are_small}
pub use Rattle.vyrd_memory.specs.Bounds.{most_ops}
pub use Rattle.vyrd_memory.specs.Players.{are_callable, is_callable}
pub use Rattle.vyrd_memory.specs.declared.op.Op.{Op}
pub use Rattle.vyrd_memory.specs.declared.op.Turn.{Turn}
pub use Rattle.vyrd_memory.specs.declared.op.Variant.{Variant}
pub use Rattle.vyrd_work.specs.Generated.{ops_from}
unfoldable pub use Rattle.vyrd_work.specs.Generated.{generated}
pub use Rattle.vyrd_work.specs.Refusals.{IsRefusal, IsRefusedAt}
pub use Rattle.vyrd_work.specs.Spelled.{IsItemRead}
pub use Rattle.vyrd_work.specs.WorkLimits.{is_op_of, is_turn_of, KeepsLimits}
pub use Rattle.vyrd_work.specs.WorkLines.{begun, guessed_item, is_item_of}
unfoldable pub use Rattle.vyrd_work.specs.WorkLines.{begun_in, item_in}
pub use Rattle.vyrd_work.specs.WorkReading.{begun_or_bad, broken_by, ended, first_read, item_read}
pub use Rattle.vyrd_work.specs.WorkReading.{line_read, lines_read, Refusal, refused, text_read}
pub use Rattle.vyrd_work.specs.WorkReading.{turns_in, unfinished_rule, unless_broken, with_item}
unfoldable pub use Rattle.vyrd_work.specs.WorkReading.{work_reading}
pub use Rattle.vyrd_work.specs.WorkScripts.{op_by, ops_of}
pub use Rattle.vyrd_work.specs.Workloads.{item_fields, item_line, items_of, lines_of}
pub use Rattle.vyrd_work.specs.Workloads.{most_turn_lines, most_turns, variant_name}
pub use Rattle.vyrd_work.specs.Workloads.{work_header_line, Workload, workload_of}
unfoldable pub use Rattle.vyrd_work.specs.Workloads.{work_text}
pub use Rattle.vyrd_work.specs.declared.fault.WorkFault.{WorkFault}
pub use Rattle.vyrd_work.specs.declared.fault.WorkFault.TheVariants.{Memory, Refused}
pub use Rattle.vyrd_work.specs.declared.fault.WorkRule.{WorkRule}
pub use Rattle.vyrd_work.specs.declared.fault.WorkRule.TheVariants.{AfterEnd, BadHeader, BadLine}
pub use Rattle.vyrd_work.specs.declared.line.Item.{Item}
pub use Rattle.vyrd_work.specs.declared.work.WorkOp.{WorkOp}
