-- The names that the proofs of this crate share, passed on from one place. Declares nothing.
pub use Rattle.std.specs.List.{AllByRecursion, cons_option, list_all, list_any, onto_first}
pub use Rattle.std.specs.Option.{is_none, option_and_then, option_map, option_or}
pub use Rattle.std.specs.Prelude.{◌==◌, decimal, flat_map, is_some, nat_le, nat_lt, OnOk, unwrap_or}
pub use Rattle.std.specs.Str.{bytes_eq}
pub use Rattle.std.proofs.Common.{[], ℕ, ◌&&◌, ◌*◌, ◌++◌, ◌+◌, ◌-◌, ◌/◌, ◌<◌, ◌^◌, ◌||◌, ◌∙◌, ◌∷◌}
pub use Rattle.std.proofs.Common.{◌≡◌, ◌≢◌, ◌≤◌, ◌⊎◌, add-one, ap, append-nil, append_assoc, arith}
pub use Rattle.std.proofs.Common.{Bool, codes, cond, drop, drop-cons, Err, false, get_or, inl, inr}
pub use Rattle.std.proofs.Common.{length, length-append, List, map, None, not, Ok, Option, refl}
pub use Rattle.std.proofs.Common.{replicate, Result, set, Some, subst, suc, sym, take, true, zero}
pub use Rattle.std.proofs.Math.Bool.{and-false, or-false}
pub use Rattle.std.proofs.lemmas.Bool.{not-true, or_left, or_right}
pub use Rattle.std.proofs.lemmas.List.{get_or-replicate, get_or-set_other, get_or-set_same}
pub use Rattle.std.proofs.lemmas.List.{length-map, length-replicate, length-set, take_all}
pub use Rattle.std.proofs.lemmas.List.Folds.{list_all-append, list_all-map}
pub use Rattle.std.proofs.lemmas.Result.{err_from_is_err_and}
pub use Rattle.std.proofs.lemmas.Slice.Eq.{bytes_eq-Decides}
pub use Rattle.vyrd_base.specs.Histories.{Cells, cells_of, is_legal_at, is_lock, is_plain, is_write}
pub use Rattle.vyrd_base.specs.Histories.{made_of, may_do, value_in}
unfoldable pub use Rattle.vyrd_base.specs.Histories.{is_legal}
pub use Rattle.vyrd_base.specs.Layout.{lock_words, plain_words}
pub use Rattle.vyrd_base.specs.Lines.{fields_of}
unfoldable pub use Rattle.vyrd_base.specs.Lines.{entry_in}
pub use Rattle.vyrd_base.specs.Places.{first_answer, newest_first, newest_first_onto, numbers_below}
pub use Rattle.vyrd_base.specs.Places.{numbers_from, Place, places, places_after}
pub use Rattle.vyrd_base.specs.Spelling.{end_line, ended_line, is_kind_of}
pub use Rattle.vyrd_base.specs.declared.header.Header.{Header}
pub use Rattle.vyrd_base.specs.declared.history.Did.{Did}
pub use Rattle.vyrd_base.specs.declared.history.Did.TheVariants.{Gave, Marked, Read, Took, Wrote}
pub use Rattle.vyrd_base.specs.declared.history.Stamped.{Stamped}
pub use Rattle.vyrd_base.specs.declared.log.Kind.{Kind}
pub use Rattle.vyrd_base.specs.declared.subject.Subject.{Subject}
pub use Rattle.vyrd_base.proofs.HeaderLaws.{callers_in_32_bits, size_in_32_bits}
pub use Rattle.vyrd_base.proofs.ListLaws.{isnt_some}
pub use Rattle.vyrd_base.proofs.PlaceLaws.{length-newest_first, places_after-append, with_later}
pub use Rattle.vyrd_base.proofs.SplitLaws.{bytes_same, cut, is_plain_field, lacks, lacks-append}
pub use Rattle.vyrd_base.proofs.SplitLaws.{lacks-join, number_of_decimal, split-join, split_at}
pub use Rattle.vyrd_base.proofs.SplitLaws.{split_whole}
pub use Rattle.vyrd_base.proofs.TestLaws.{apart_of, at_most_of, below_of, both_true, first_true}
pub use Rattle.vyrd_base.proofs.TestLaws.{is_below, is_same, isnt_below, not_below_of, same_number}
pub use Rattle.vyrd_base.proofs.TestLaws.{same_of, second_true}
pub use Rattle.vyrd_text.proofs.AheadLaws.{parts_of}
pub use Rattle.vyrd_text.proofs.PartLaws.{entry_line_is, one_before_space}
pub use Rattle.vyrd_mover.specs.Ahead.{break_line, first_not_left, HasSurveyed, preceded_by}
pub use Rattle.vyrd_mover.specs.Ahead.{Surveyed}
pub use Rattle.vyrd_mover.specs.Blocks.{broken_lines, events_of, is_block_open, is_mark, line_of}
unfoldable pub use Rattle.vyrd_mover.specs.Blocks.{blocks_of}
pub use Rattle.vyrd_mover.specs.EventsRead.{AreBlocksOf, HaveRead, HaveReadOn}
pub use Rattle.vyrd_mover.specs.Exchanges.{is_movable, numbered, numbered_from}
pub use Rattle.vyrd_mover.specs.Gathering.{done_by, EachIsGathered}
pub use Rattle.vyrd_mover.specs.HistoryLimits.{KeepsLimits}
pub use Rattle.vyrd_mover.specs.HistoryLines.{act_from, is_did_of, is_event_of, mark_or}
unfoldable pub use Rattle.vyrd_mover.specs.HistoryLines.{event_in, history_header_in}
pub use Rattle.vyrd_mover.specs.HistoryReaders.{Follows, GoesTo, HasRead, IsAt, IsFedTo}
pub use Rattle.vyrd_mover.specs.HistoryReaders.{ReaderState, rest_read}
pub use Rattle.vyrd_mover.specs.HistoryReading.{begun_or_bad, broken_by, ended, event_read}
pub use Rattle.vyrd_mover.specs.HistoryReading.{first_read, line_read, lines_read, Refusal, refused}
pub use Rattle.vyrd_mover.specs.HistoryReading.{text_read, unfinished_rule, unless_broken}
pub use Rattle.vyrd_mover.specs.HistoryReading.{unless_too_many, with_event}
unfoldable pub use Rattle.vyrd_mover.specs.HistoryReading.{history_reading}
pub use Rattle.vyrd_mover.specs.HistoryText.{did_line, event_line, history_header_line}
pub use Rattle.vyrd_mover.specs.HistoryText.{history_lines, Recorded}
unfoldable pub use Rattle.vyrd_mover.specs.HistoryText.{history_text}
pub use Rattle.vyrd_mover.specs.LockSets.{words_for}
unfoldable pub use Rattle.vyrd_mover.specs.LockSets.{has_lock, in_both, with_lock, without_lock}
pub use Rattle.vyrd_mover.specs.Movers.{break_of, is_left_mover, is_right_mover, uncut_at}
unfoldable pub use Rattle.vyrd_mover.specs.Movers.{has_cut}
pub use Rattle.vyrd_mover.specs.RaceFree.{is_access_of, is_guarded_at, is_guarded_by, is_unwritten}
pub use Rattle.vyrd_mover.specs.RaceFree.{is_used_by_alone, is_write_to}
unfoldable pub use Rattle.vyrd_mover.specs.RaceFree.{is_race_free}
pub use Rattle.vyrd_mover.specs.Refusals.{IsRefusal, IsRefusedAt}
pub use Rattle.vyrd_mover.specs.Steps.{code_of, IsShort, IsWithin, role_of, step_coded, step_of}
pub use Rattle.vyrd_mover.specs.Taking.{HasTaken, IsNext, Taken}
pub use Rattle.vyrd_mover.specs.Usage.{HasPlaceIn, HaveSeen, held_by, is_shared, is_used, IsBehind}
pub use Rattle.vyrd_mover.specs.Usage.{IsInRange, IsUse, joined, kept_after, unused, UsageKept, Use}
pub use Rattle.vyrd_mover.specs.declared.blocks.Blocks.TheVariants.{Reducible}
pub use Rattle.vyrd_mover.specs.declared.events.Events.{Events}
pub use Rattle.vyrd_mover.specs.declared.fault.HistoryFault.{HistoryFault}
pub use Rattle.vyrd_mover.specs.declared.fault.HistoryFault.TheVariants.{Memory, Refused}
pub use Rattle.vyrd_mover.specs.declared.fault.HistoryRule.{HistoryRule}
pub use Rattle.vyrd_mover.specs.declared.fault.HistoryRule.TheVariants.{AfterEnd, BadHeader}
pub use Rattle.vyrd_mover.specs.declared.fault.HistoryRule.TheVariants.{BadLine, TooManyLines}
pub use Rattle.vyrd_mover.specs.declared.lines.Lines.{Lines}
pub use Rattle.vyrd_mover.specs.declared.step.Role.{Role}
pub use Rattle.vyrd_mover.specs.declared.step.Step.{Step}
pub use Rattle.vyrd_mover.specs.declared.usage.Users.{Users}
pub use Rattle.vyrd_mover.specs.declared.usage.Users.TheVariants.{Many, Nobody, One}
