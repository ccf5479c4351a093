-- The names that the proofs of this crate share, passed on from one place. Declares nothing.
pub use Rattle.std.specs.List.{AllByRecursion, AllZip}
pub use Rattle.std.specs.Prelude.{◌==◌, ◌⊎◌, codes, Contains, decimal, flat_map, get_or, is_some}
pub use Rattle.std.specs.Prelude.{MatchResult, nat_le, OnErr, option_map}
pub use Rattle.std.specs.Str.{bytes_eq}
pub use Rattle.std.proofs.Common.{[], ℕ, ◌&&◌, ◌*◌, ◌++◌, ◌+◌, ◌-◌, ◌<◌, ◌^◌, ◌∙◌, ◌∷◌, ◌≡◌, ◌≤◌}
pub use Rattle.std.proofs.Common.{add-one, ap, append-nil, append_assoc, arith, Bool, Bor, cond}
pub use Rattle.std.proofs.Common.{drop, Err, false, Global, IfOk, inl, inr, length, length-append}
pub use Rattle.std.proofs.Common.{length-drop, length-take, List, map, None, not, Ok, Option, refl}
pub use Rattle.std.proofs.Common.{Result, Some, subst, suc, sym, take, true, Vec, zero}
pub use Rattle.std.proofs.Math.Seq.{drop-append-add, drop-append_seam, take-append_seam, take-suc}
pub use Rattle.std.proofs.lemmas.Bool.{not-true}
pub use Rattle.std.proofs.lemmas.Fmt.{decimal_nonempty, length-decimal-le}
pub use Rattle.std.proofs.lemmas.Grind.{flat_map-append}
pub use Rattle.std.proofs.lemmas.List.{drop-drop, length-map, map-append, take-append-drop}
pub use Rattle.std.proofs.lemmas.Option.{same_Some}
pub use Rattle.std.proofs.lemmas.Slice.Eq.{bytes_eq-Decides}
pub use Rattle.vyrd_base.specs.Lines.{number_of}
pub use Rattle.vyrd_base.specs.LogVerdicts.{log_verdict}
pub use Rattle.vyrd_base.specs.Spelling.{ended_line}
pub use Rattle.vyrd_base.specs.declared.verdict.Verdict.{Verdict}
pub use Rattle.vyrd_base.proofs.SplitLaws.{bytes_same, number_of_decimal}
pub use Rattle.vyrd_base.proofs.TestLaws.{above_of, at_most_of, both_true, first_true, is_at_most}
pub use Rattle.vyrd_base.proofs.TestLaws.{isnt_at_most, same_number, second_true}
pub use Rattle.vyrd_text.specs.Steps.{is_one_line}
pub use Rattle.vyrd_batch.specs.BatchAnswers.{lines_from, log_line, verdicts_of}
pub use Rattle.vyrd_batch.specs.Batches.{batch_logs, bytes_of, Cut, first_line, first_word}
pub use Rattle.vyrd_batch.specs.Batches.{last_line, LiesWithin, log_at, log_text, log_word}
pub use Rattle.vyrd_batch.specs.Batches.{logs_behind, logs_end_within, logs_of, longer, most_bytes}
pub use Rattle.vyrd_batch.specs.Batches.{most_logs, size_in, span_before, span_of}
unfoldable pub use Rattle.vyrd_batch.specs.Batches.{batch_reading, logs_from}
pub use Rattle.vyrd_batch.specs.Costs.{IsBegun, IsLeft, line_look, logs_cost, moved, rest_look}
pub use Rattle.vyrd_batch.specs.Rounds.{AreJudged, AreJudgedTo, BatchView, IsCut, IsNoLog}
pub use Rattle.vyrd_batch.specs.Rounds.{IsNothingEver, IsNothingMore, IsSpentBy, longest_line}
pub use Rattle.vyrd_batch.specs.Rounds.{most_left}
pub use Rattle.vyrd_batch.specs.declared.span.Span.{Span}
