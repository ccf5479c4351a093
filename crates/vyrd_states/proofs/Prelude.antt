-- The names that the proofs of this crate share, passed on from one place. Declares nothing.
pub use Rattle.std.specs.Option.{option_map, option_map_or, option_or}
pub use Rattle.std.specs.Prelude.{◌&&◌, ◌==◌, All, filter, IfOk, IfSome, is_some, option_and_then}
pub use Rattle.std.proofs.Common.{[], ℕ, ◌++◌, ◌+◌, ◌-◌, ◌<◌, ◌^◌, ◌∙◌, ◌∷◌, ◌≡◌, ◌≤◌, ap}
pub use Rattle.std.proofs.Common.{append-nil, append_assoc, arith, Bool, cond, drop, false, length}
pub use Rattle.std.proofs.Common.{List, map, None, Option, refl, slice_get, Some, subst, suc, sym}
pub use Rattle.std.proofs.Common.{take, true, zero}
pub use Rattle.std.proofs.lemmas.List.{length-take}
pub use Rattle.vyrd_base.specs.Callers.{Called, entries_before_call, is_call}
pub use Rattle.vyrd_base.specs.Entries.{place_of}
pub use Rattle.vyrd_base.specs.Places.{first_answer, newest_first, numbers_below, numbers_from}
pub use Rattle.vyrd_base.specs.Rules.{Charter, Rules, rules_by, rules_of}
unfoldable pub use Rattle.vyrd_base.specs.Starts.{state_at_start}
pub use Rattle.vyrd_base.specs.States.{State}
pub use Rattle.vyrd_base.specs.declared.header.Header.{Header}
pub use Rattle.vyrd_base.specs.declared.log.Entry.{Entry}
pub use Rattle.vyrd_base.specs.declared.log.StartWord.{StartWord}
pub use Rattle.vyrd_base.specs.declared.subject.Method.{Method}
pub use Rattle.vyrd_base.proofs.CommitLaws.{commits_by}
pub use Rattle.vyrd_base.proofs.PlaceLaws.{length-newest_first, numbers_below-push}
pub use Rattle.vyrd_witness.specs.Executions.{execution_in}
pub use Rattle.vyrd_witness.specs.declared.execution.Execution.{Execution}
pub use Rattle.vyrd_witness.specs.declared.item.Item.{Item}
pub use Rattle.vyrd_witness.specs.declared.item.Item.TheVariants.{Allowed, Before}
pub use Rattle.vyrd_states.specs.Known.{amount_in, state_then}
pub use Rattle.vyrd_states.specs.Replies.{before_items, call_items, called_at, reply_items}
pub use Rattle.vyrd_states.specs.Running.{called_by, IsKnown, LeadsTo, Run, run_by, state_by}
pub use Rattle.vyrd_states.specs.Running.{state_past}
pub use Rattle.vyrd_states.specs.Windows.{answer_after, answer_items, answers_along, call_of}
