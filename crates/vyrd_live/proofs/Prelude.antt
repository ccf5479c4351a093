-- The names that the proofs of this crate share, passed on from one place. Declares nothing.
pub use Rattle.std.specs.List.{All, cons_option, list_any}
pub use Rattle.std.specs.Prelude.{◌==◌, filter, IfOk, IfSome, is_none, is_some, nat_le, nat_lt}
pub use Rattle.std.specs.Prelude.{Result, slice_get, slice_index, slice_index_or}
pub use Rattle.std.proofs.Common.{[], ℕ, ◌&&◌, ◌++◌, ◌+◌, ◌-◌, ◌<◌, ◌^◌, ◌||◌, ◌∙◌, ◌∷◌, ◌≡◌, ◌≢◌}
pub use Rattle.std.proofs.Common.{◌≤◌, ap, arith, Bool, cond, drop, Err, false, length}
pub use Rattle.std.proofs.Common.{length-append, List, map, max, ne_eqb, None, not, Option, refl}
pub use Rattle.std.proofs.Common.{rules, Some, subst, suc, sym, take, true, zero}
pub use Rattle.std.proofs.Math.Bool.{Bool-set}
pub use Rattle.std.proofs.Math.Logic.{∥∥₁_elim, ∥∥₁_map}
pub use Rattle.std.proofs.Math.Seq.{take-add, take-suc}
pub use Rattle.std.proofs.lemmas.List.{drop-drop, get_or-map, get_or_past, length-drop, length-map}
pub use Rattle.std.proofs.lemmas.List.{length-take, map-append, take-append-le, take_all}
pub use Rattle.std.proofs.lemmas.List.Elements.{All-drop, All-map, All-push, All-rest, All-take}
pub use Rattle.vyrd_base.specs.Histories.{Cells, cells_of, is_legal, is_lock, is_plain, is_write}
pub use Rattle.vyrd_base.specs.Histories.{log_of, made_of}
pub use Rattle.vyrd_base.specs.Layout.{lock_words, plain_words}
pub use Rattle.vyrd_base.specs.Parts.{part}
pub use Rattle.vyrd_base.specs.Places.{newest_first, newest_first_onto, numbers_below, numbers_from}
pub use Rattle.vyrd_base.specs.Rules.{built_in, rules_by}
pub use Rattle.vyrd_base.specs.Verdicts.{accepted, verdict}
pub use Rattle.vyrd_base.specs.declared.header.Header.{Header}
pub use Rattle.vyrd_base.specs.declared.history.Did.{Did}
pub use Rattle.vyrd_base.specs.declared.history.Did.TheVariants.{Gave, Marked, Read, Took, Wrote}
pub use Rattle.vyrd_base.specs.declared.history.Stamped.{Stamped}
pub use Rattle.vyrd_base.specs.declared.log.Kind.TheVariants.{BlockClose, BlockCommit, BlockOpen}
pub use Rattle.vyrd_base.specs.declared.log.Kind.TheVariants.{Call, Commit, Return, Write}
pub use Rattle.vyrd_base.proofs.TestLaws.{at_most_of, below_of, both_true, first_true, same_of}
pub use Rattle.vyrd_base.proofs.TestLaws.{second_true}
pub use Rattle.vyrd_memory.specs.Bounds.{bounds_of, EndsWithin, is_return}
pub use Rattle.vyrd_memory.specs.Laws.Underway.{stop_of}
pub use Rattle.vyrd_memory.specs.Scripts.{after_answer, event_of, is_between, is_stop, IsAnswer}
pub use Rattle.vyrd_memory.specs.Scripts.{next_act, PlaysToTheEnd, Script, step, stop}
pub use Rattle.vyrd_memory.specs.Showing.{HasRun}
pub use Rattle.vyrd_memory.specs.Soundness.{after_act, at_rest, holds, is_nil, IsSound}
pub use Rattle.vyrd_memory.specs.Soundness.{IsSoundSomewhere, may_act, Situation}
pub use Rattle.vyrd_memory.specs.Turns.{GetsStuck, part_of, RunsTo, script_of}
pub use Rattle.vyrd_memory.specs.declared.act.Act.{Act}
pub use Rattle.vyrd_memory.specs.declared.act.Act.TheVariants.{Done, Give, Load, Mark, Store, Take}
pub use Rattle.vyrd_memory.proofs.LegalRuns.{run_is_legal, run_plays}
pub use Rattle.vyrd_memory.proofs.NumberLists.{element_below}
pub use Rattle.vyrd_trace.specs.Hands.{AreAll, AreNew, HandView, Holds, IsOf, TracedView}
pub use Rattle.vyrd_trace.specs.Hands.{with_forgotten, with_look, with_one_more, with_spare}
pub use Rattle.vyrd_trace.specs.Lanes.{cells_in, last_value, last_values, stamp}
pub use Rattle.vyrd_trace.specs.declared.look.Look.{Look}
pub use Rattle.vyrd_trace.specs.declared.plan.Plan.{Plan}
pub use Rattle.vyrd_trace.proofs.Holding.{holds-beside, holds-still, holds-taken}
pub use Rattle.vyrd_work.specs.WorkLimits.{KeepsLimits}
pub use Rattle.vyrd_work.specs.WorkScripts.{ops_of, work_script, work_scripts}
pub use Rattle.vyrd_work.specs.Workloads.{Workload, workload_of}
pub use Rattle.vyrd_work.proofs.BuiltIn.{work_built_in}
pub use Rattle.vyrd_work.proofs.SoundScripts.{scripts_sound}
pub use Rattle.vyrd_every.specs.Schedules.{IsCorrect, IsCorrectWithFewEvents, most_few_events}
pub use Rattle.vyrd_every.proofs.Workloads.{few_events, not_stuck, schedule_accepted}
pub use Rattle.vyrd_relay.specs.Ends.{HasAll, lane_sent, ReceiverView, RelayView, SenderView}
pub use Rattle.vyrd_relay.specs.Ends.{with_popped, with_pushed}
pub use Rattle.vyrd_relay.specs.declared.known.Lane.{Lane}
pub use Rattle.vyrd_live.specs.Acts.{HasActed, MayAct}
pub use Rattle.vyrd_live.specs.Beside.{GoesOn, HasTakenAll, lanes_made, lanes_sent, TakesIn}
pub use Rattle.vyrd_live.specs.Endings.{HasEnded, IsFirstSpent}
pub use Rattle.vyrd_live.specs.LiveRuns.{done_by, HavePlayed}
pub use Rattle.vyrd_live.specs.Recorded.{HasRecorded}
pub use Rattle.vyrd_live.specs.Rooms.{BeginsWithRoom, HadRoom, HasNoRoom, StopsForRoom}
pub use Rattle.vyrd_live.specs.Sending.{HasSent}
pub use Rattle.vyrd_live.specs.TurnRuns.{IsRunByTurns}
pub use Rattle.vyrd_live.specs.Workers.{AreMadeFor, HasWorked, IsFresh, IsWorkerOf, work_bounds}
pub use Rattle.vyrd_live.specs.Working.{dids_of, FitsHand, HasRoomAhead, IsMemoryOf, IsWorking}
pub use Rattle.vyrd_live.specs.declared.outbox.Outbox.{Outbox}
pub use Rattle.vyrd_live.specs.declared.recording.Recording.{Recording}
pub use Rattle.vyrd_live.specs.declared.run.Run.{Run}
pub use Rattle.vyrd_live.specs.declared.worker.Ending.{Ending}
pub use Rattle.vyrd_live.specs.declared.worker.Ending.TheVariants.{Finished, Spent}
pub use Rattle.vyrd_live.specs.declared.worker.Stopped.{Stopped}
pub use Rattle.vyrd_live.specs.declared.worker.Worker.{Worker}
pub use Rattle.vyrd_live.proofs.BesideLaws.{goes_on_same, goes_on_then, goes_on_with, none_taken}
pub use Rattle.vyrd_live.proofs.BesideLaws.{one_more, takes_in_then}
