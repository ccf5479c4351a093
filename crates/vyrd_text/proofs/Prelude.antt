-- The names that the proofs of this crate share, passed on from one place. Declares nothing.
pub use Rattle.core.proofs.dec2flt.Rows.{AllDigits-digits_len}
pub use Rattle.std.specs.Char.{digit_value}
pub use Rattle.std.specs.Float.Numeral.{digits_len}
pub use Rattle.std.specs.List.{AllByRecursion, list_all, slice_split}
pub use Rattle.std.specs.Prelude.{◌==◌, count_by, flat_map, is_some, IsSome, map, nat_lt, ok_or}
pub use Rattle.std.specs.Prelude.{OnOk, option_map, slice_get, slice_range, vec_capacity}
pub use Rattle.std.specs.Result.{is_ok}
pub use Rattle.std.specs.Str.{bytes_eq}
pub use Rattle.std.specs.Str.Parse.{AllDigits, digits_value}
pub use Rattle.std.proofs.Common.{[], ℕ, ◌%◌, ◌&&◌, ◌*◌, ◌++◌, ◌+◌, ◌-◌, ◌<◌, ◌^◌, ◌||◌, ◌∙◌, ◌∷◌}
pub use Rattle.std.proofs.Common.{◌≡◌, ◌≢◌, ◌≤◌, ap, append-nil, append_assoc, arith, Bool, codes}
pub use Rattle.std.proofs.Common.{cond, decimal, drop, Err, false, get_or, length, length-append}
pub use Rattle.std.proofs.Common.{List, None, not, Ok, Option, refl, Result, rules, Some, subst}
pub use Rattle.std.proofs.Common.{suc, sym, take, true, vec_len, zero}
pub use Rattle.std.proofs.Math.Bool.{or-true}
pub use Rattle.std.proofs.Math.Nat.{mod-eq_of_lt, pow-le-pow_right}
pub use Rattle.std.proofs.lemmas.Bool.Decides.{nat_tests}
pub use Rattle.std.proofs.lemmas.Fmt.{decimal_digit, decimal_injective}
pub use Rattle.std.proofs.lemmas.Int.Digits.{digits_more, digits_value-lt, digits_value_more}
pub use Rattle.std.proofs.lemmas.List.{append_cancel_left, drop_more, get_or-take, length-take}
pub use Rattle.std.proofs.lemmas.List.{length-take-le, take-append-drop, take-take, take_all}
pub use Rattle.std.proofs.lemmas.List.{take_at, take_rest}
pub use Rattle.std.proofs.lemmas.Slice.Eq.{bytes_eq-Decides}
pub use Rattle.std.proofs.lemmas.Str.Parse.{digit_from_value}
pub use Rattle.vyrd_base.specs.Lines.{entry_in, start_in}
unfoldable pub use Rattle.vyrd_base.specs.Lines.{header_in}
pub use Rattle.vyrd_base.specs.Reading.{body_read, ended, entry_before, fault_on, has_any}
pub use Rattle.vyrd_base.specs.Reading.{header_before, Input, lines_read, Reading, start_before}
pub use Rattle.vyrd_base.specs.Reading.{starts_read, stopped, text_read, TextFault}
unfoldable pub use Rattle.vyrd_base.specs.Reading.{reading}
pub use Rattle.vyrd_base.specs.Shape.{◌breaks◌, first_broken}
pub use Rattle.vyrd_base.specs.Spelling.{end_line, ended_line, entry_line, header_line, is_entry_of}
pub use Rattle.vyrd_base.specs.Spelling.{method_name, spaced, start_line}
unfoldable pub use Rattle.vyrd_base.specs.Spelling.{log_text}
pub use Rattle.vyrd_base.specs.Starts.{start_rule}
pub use Rattle.vyrd_base.specs.Subjects.{arity_of}
pub use Rattle.vyrd_base.specs.declared.header.Header.{Header}
pub use Rattle.vyrd_base.specs.declared.log.Entry.{Entry}
pub use Rattle.vyrd_base.specs.declared.log.StartWord.{StartWord}
pub use Rattle.vyrd_base.specs.declared.subject.Args.{Args}
pub use Rattle.vyrd_base.specs.declared.subject.Method.{Method}
pub use Rattle.vyrd_base.specs.declared.subject.Subject.{Subject}
pub use Rattle.vyrd_base.specs.declared.verdict.Rule.{Rule}
pub use Rattle.vyrd_base.specs.declared.verdict.Rule.TheVariants.{AfterEnd, BadEntry, BadHeader}
pub use Rattle.vyrd_base.specs.declared.verdict.Rule.TheVariants.{NoEnd, NoLineFeed, TooManyLines}
pub use Rattle.vyrd_base.specs.declared.verdict.Rule.TheVariants.{UnknownVersion}
pub use Rattle.vyrd_base.proofs.LineLaws.{entry_in-entry_line, start_in_sound}
pub use Rattle.vyrd_base.proofs.ReadingGrows.{input_of, Longer, reading_grows, split_longer}
pub use Rattle.vyrd_base.proofs.ReadingGrows.{TextGrown}
pub use Rattle.vyrd_base.proofs.SplitLaws.{bytes_same, cut, lacks, no_space, split_at, split_whole}
pub use Rattle.vyrd_base.proofs.TestLaws.{below_of, both_true, first_true, is_below, isnt_below}
pub use Rattle.vyrd_base.proofs.TestLaws.{second_true}
pub use Rattle.vyrd_text.specs.Ahead.{after_first, front_starts, starts_ahead, starts_in_lines}
pub use Rattle.vyrd_text.specs.Fields.{IsDigitField}
pub use Rattle.vyrd_text.specs.ReaderView.{fault_of, state_of}
pub use Rattle.vyrd_text.specs.Readers.{after_end, Follows, fresh, goes_on, HasRead, input_to}
pub use Rattle.vyrd_text.specs.Readers.{known, lines_of, lines_on, LineState, ReaderState, so_far}
pub use Rattle.vyrd_text.specs.Readers.{unless_faulty, whole, with_read}
pub use Rattle.vyrd_text.specs.Spelled.{call_text}
pub use Rattle.vyrd_text.specs.Steps.{entries_of, IsFed, IsLineTaken, IsNoticed, IsRuleOfRest}
pub use Rattle.vyrd_text.specs.Steps.{IsSteady, IsTaken, starts_of, with_line}
pub use Rattle.vyrd_text.specs.Written.{is_writable}
pub use Rattle.vyrd_text.specs.declared.fault.LineFault.{LineFault}
