-- The names that the proofs of this crate share, passed on from one place. Declares nothing.
pub use Rattle.std.specs.Prelude.{◌==◌, ◌≢◌, codes, decimal, Err, flat_map, IfOk, IfSome}
pub use Rattle.std.specs.Prelude.{if◌then◌else◌, MatchOption}
pub use Rattle.std.proofs.Common.{[], ℕ, ◌*◌, ◌++◌, ◌+◌, ◌-◌, ◌<◌, ◌∙◌, ◌∷◌, ◌≡◌, ◌≤◌, ◌⊎◌, ap}
pub use Rattle.std.proofs.Common.{append-nil, append_assoc, arith, Bool, drop, false, inl, inr}
pub use Rattle.std.proofs.Common.{length, length-append, length-drop, length-take, List, None, Ok}
pub use Rattle.std.proofs.Common.{Option, refl, Result, Some, subst, sym, take, true}
pub use Rattle.std.proofs.Math.Seq.{take-add, take-append_seam}
pub use Rattle.std.proofs.lemmas.Bool.Decides.{nat_tests}
pub use Rattle.std.proofs.lemmas.Grind.{flat_map-append}
pub use Rattle.std.proofs.lemmas.List.{take_all}
pub use Rattle.std.proofs.lemmas.Result.{on_ok_weaker}
pub use Rattle.vyrd_base.specs.Devices.{AfterReads, Gives, next_count, SourceKnown}
pub use Rattle.vyrd_base.specs.Histories.{cells_of, is_legal, log_of, logged}
pub use Rattle.vyrd_base.specs.Limits.{most_lines}
pub use Rattle.vyrd_base.specs.Rules.{built_in, rules_by, rules_of}
pub use Rattle.vyrd_base.specs.Spelling.{ended_line, entry_line, header_line}
pub use Rattle.vyrd_base.specs.VerdictText.{verdict_text}
pub use Rattle.vyrd_base.specs.Verdicts.{verdict}
pub use Rattle.vyrd_base.specs.declared.header.Header.{Header}
pub use Rattle.vyrd_base.specs.declared.history.Stamped.{Stamped}
pub use Rattle.vyrd_base.specs.declared.log.Entry.{Entry}
pub use Rattle.vyrd_base.specs.declared.verdict.Verdict.{Verdict}
pub use Rattle.vyrd_base.proofs.DeviceLaws.{no_read, reads_in_row}
pub use Rattle.vyrd_text.proofs.WrittenLaws.{whole_log}
pub use Rattle.vyrd_judge.specs.Following.{HasFollowed}
pub use Rattle.vyrd_check_command.specs.Checks.{HasRoomForAnswer, IsAnswered, IsAnsweredInPart}
pub use Rattle.vyrd_check_command.specs.Checks.{IsSettled}
pub use Rattle.vyrd_check_command.specs.Inputs.{IsTaken, longest_read}
pub use Rattle.vyrd_check_command.specs.Outputs.{Appends, AppendsFront, status_of}
pub use Rattle.vyrd_check_command.specs.declared.answer.Answer.{Answer}
pub use Rattle.vyrd_check_command.proofs.StatusLaws.{none_failed, reads_told, verdict_low}
pub use Rattle.vyrd_check_command.proofs.StatusLaws.{writes_within}
pub use Rattle.vyrd_check_command.proofs.TakenLaws.{taken_more, taken_nothing}
pub use Rattle.vyrd_batch.specs.BatchAnswers.{batch_status, batch_text, verdicts_of}
pub use Rattle.vyrd_batch.specs.Batches.{batch_logs, batch_of}
pub use Rattle.vyrd_batch.specs.Costs.{round_cost}
pub use Rattle.vyrd_batch.specs.LongBatches.{longest_batch_input}
pub use Rattle.vyrd_batch.specs.Rounds.{BatchView, IsJudged, IsSpent}
pub use Rattle.vyrd_batch.proofs.RoundLaws.{judged_longer}
pub use Rattle.vyrd_batch.proofs.SettledLaws.{logs_are_settled}
pub use Rattle.vyrd_batch.proofs.TextLaws.{read_batch_is_text}
pub use Rattle.vyrd_mover.specs.HistoryReaders.{HasRead}
pub use Rattle.vyrd_mover.specs.HistoryReading.{history_reading}
pub use Rattle.vyrd_mover.specs.HistoryText.{event_line, history_header_line, Recorded}
pub use Rattle.vyrd_mover.specs.LongHistories.{longest_history}
pub use Rattle.vyrd_mover.specs.declared.blocks.Blocks.{Blocks}
pub use Rattle.vyrd_mover.proofs.WrittenLaws.{whole_history}
pub use Rattle.vyrd_memory.specs.Bounds.{bounds_of, most_ops}
pub use Rattle.vyrd_memory.specs.Showing.{HasRun}
pub use Rattle.vyrd_memory.specs.Turns.{GetsStuck, RunsTo}
pub use Rattle.vyrd_memory.proofs.LegalRuns.{run_is_legal, run_plays}
pub use Rattle.vyrd_memory.proofs.RaceLaws.{only_races}
pub use Rattle.vyrd_trace.specs.Hands.{most_events}
pub use Rattle.vyrd_work.specs.LongInputs.{longest_input}
pub use Rattle.vyrd_work.specs.WorkLimits.{KeepsLimits}
pub use Rattle.vyrd_work.specs.WorkReading.{Refusal, work_reading}
pub use Rattle.vyrd_work.specs.WorkScripts.{ops_of, work_scripts}
pub use Rattle.vyrd_work.specs.Workloads.{work_text, Workload, workload_of}
pub use Rattle.vyrd_work.proofs.BuiltIn.{work_built_in}
pub use Rattle.vyrd_work.proofs.SoundScripts.{scripts_sound}
pub use Rattle.vyrd_work.proofs.TextLaws.{reading_sound}
pub use Rattle.vyrd_verifier.proofs.JudgeLaws.{log_with, log_without, no_log}
pub use Rattle.vyrd_live.specs.LiveRuns.{AllHadRoom, LeavesRun}
pub use Rattle.vyrd_live.proofs.FreshWorkers.{both_ok}
pub use Rattle.vyrd_command.specs.Batches.{IsBatchAnswer, IsBatchStatus, IsReading}
pub use Rattle.vyrd_command.specs.Commands.{HasAnswered, HasAnsweredInPart, HasRoom, IsAnswer}
pub use Rattle.vyrd_command.specs.Commands.{IsAnswerStatus, IsEnough, IsNoFurther, IsStatus, reads}
pub use Rattle.vyrd_command.specs.CorrectInputs.{SaysCorrect, SaysFewEvents}
pub use Rattle.vyrd_command.specs.Explains.{longest_explained}
pub use Rattle.vyrd_command.specs.Forms.{form_said, usage_line}
pub use Rattle.vyrd_command.specs.Generated.{CountsRun, generated_line, IsGenStatus}
pub use Rattle.vyrd_command.specs.Inputs.{IsFewTaken, IsInputRead, IsMoreRead}
pub use Rattle.vyrd_command.specs.Inside.Accounts.{AccountView, HasTaken, text_so_far}
pub use Rattle.vyrd_command.specs.Inside.BatchCosts.{IsPaidRound, IsReadFor, IsSinceRound}
pub use Rattle.vyrd_command.specs.Inside.BatchCosts.{IsTakenFor, round_bytes}
pub use Rattle.vyrd_command.specs.Inside.Counts.{HasRisen}
pub use Rattle.vyrd_command.specs.Moved.{IsMoversAnswer, status_of_blocks}
pub use Rattle.vyrd_command.specs.Runs.{IsLiveRun, IsRunAnswer, IsRunStatus, TellsLive}
pub use Rattle.vyrd_command.specs.Steps.{IsStepAnswer, IsStepStatus, IsTurnedTo, NamesOnlyRaces}
pub use Rattle.vyrd_command.specs.Steps.{run_text, TellsRun}
pub use Rattle.vyrd_command.specs.declared.form.Form.{Form}
pub use Rattle.vyrd_command.specs.declared.show.Show.{Show}
pub use Rattle.vyrd_command.proofs.InputLaws.{input_taken, long_refused, whole_input}
