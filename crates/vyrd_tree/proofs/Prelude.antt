-- The names that the proofs of this crate share, passed on from one place. Declares nothing.
pub use Rattle.std.specs.Prelude.{⊤, ◌==◌, insert, min, nat_le, nat_lt}
pub use Rattle.std.proofs.Common.{[], ℕ, ◌*◌, ◌+◌, ◌-◌, ◌<◌, ◌^◌, ◌∙◌, ◌∷◌, ◌≡◌, ◌≢◌, ◌≤◌, ◌⊎◌, ap}
pub use Rattle.std.proofs.Common.{arith, Bool, cond, drop, false, inl, inr, length, List, map, None}
pub use Rattle.std.proofs.Common.{Option, refl, rules, Some, subst, suc, sym, take, true, zero}
pub use Rattle.std.proofs.lemmas.List.{get_or-take, length-take-le}
pub use Rattle.vyrd_base.specs.Places.{numbers_from}
pub use Rattle.vyrd_base.specs.declared.header.Header.{Header}
pub use Rattle.vyrd_base.specs.declared.log.Kind.{Kind}
pub use Rattle.vyrd_base.specs.declared.log.Kind.TheVariants.{BlockClose, BlockCommit, BlockOpen}
pub use Rattle.vyrd_base.specs.declared.subject.Args.{Args}
pub use Rattle.vyrd_base.specs.declared.subject.Subject.TheVariants.{Tree}
pub use Rattle.vyrd_base.proofs.TestLaws.{is_below, is_same, isnt_at_most, isnt_below, same_of}
pub use Rattle.vyrd_memory.specs.Alone.{alone, GivesUpWhere, Memory, Outcome, state_in, with_cell}
pub use Rattle.vyrd_memory.specs.Scripts.{after_answer, perform, returns, Script, step}
pub use Rattle.vyrd_memory.specs.declared.act.Act.TheVariants.{Load, Mark, Store, Take}
pub use Rattle.vyrd_memory.specs.declared.op.Variant.TheVariants.{Correct}
pub use Rattle.vyrd_memory.proofs.AloneLaws.{EndsSo, gives_up}
pub use Rattle.vyrd_tree.specs.Cells.{bound_cell, count_cell, level_cell, lock_of, right_cell}
pub use Rattle.vyrd_tree.specs.Cells.{root_cell, root_lock, unlock_node, unlock_root, unlock_used}
pub use Rattle.vyrd_tree.specs.Cells.{used_cell, used_lock, value_cell}
pub use Rattle.vyrd_tree.specs.Contents.{Below, bound_at, count_at, Entries, entries_at}
pub use Rattle.vyrd_tree.specs.Contents.{entries_from, IsTree, key_at, last_in, level_at, right_at}
pub use Rattle.vyrd_tree.specs.Contents.{ShowsBy, TreeRepresents}
pub use Rattle.vyrd_tree.specs.Hanging.{is_hanging}
pub use Rattle.vyrd_tree.specs.Laws.Alone.AscentKeepsState.{GoesOnAt, round_played, Stops}
pub use Rattle.vyrd_tree.specs.Laws.Alone.BlocksPlayed.{FreeAll, GoesOn, is_at, IsAt, unused_played}
pub use Rattle.vyrd_tree.specs.Laws.Alone.Changes.{tree_represented, tree_represents}
pub use Rattle.vyrd_tree.specs.Laws.Alone.Counts.{le_or, zero_or}
pub use Rattle.vyrd_tree.specs.Laws.Alone.Done.{present}
pub use Rattle.vyrd_tree.specs.Laws.Alone.Entries.{found_around, not_found}
pub use Rattle.vyrd_tree.specs.Laws.Alone.Inserted.{insert_alone, InsertDone, LeafOf}
pub use Rattle.vyrd_tree.specs.Laws.Alone.NewKey.{leaf_is_split}
pub use Rattle.vyrd_tree.specs.Laws.Alone.Order.{after_falls, after_few, after_of, next_of}
pub use Rattle.vyrd_tree.specs.Laws.Alone.Order.{one_cover, zero_low}
pub use Rattle.vyrd_tree.specs.Laws.Alone.Played.{keys_loaded, values_loaded}
pub use Rattle.vyrd_tree.specs.Laws.Alone.Tested.{length-entries}
pub use Rattle.vyrd_tree.specs.Laws.Alone.WalkArrives.{loaded_at, locked_words, not_past, past}
pub use Rattle.vyrd_tree.specs.Laws.Alone.WalkArrives.{walk_down_arrives, with_lock}
pub use Rattle.vyrd_tree.specs.Laws.Sound.Fits.{length_insert}
pub use Rattle.vyrd_tree.specs.Passes.{KeepsState, SplitsLeaf}
pub use Rattle.vyrd_tree.specs.Procedures.{changes_nothing, insert_entry, insert_in, insert_in_then}
pub use Rattle.vyrd_tree.specs.Procedures.{insert_then, place_of, reply_of}
pub use Rattle.vyrd_tree.specs.Procedures.Ascent.{add_child, ascend_once, grow_root}
pub use Rattle.vyrd_tree.specs.Procedures.Split.{add_entry, first_key, lower_half, place_below}
pub use Rattle.vyrd_tree.specs.Procedures.Split.{split, split_entry, split_key, upper_half}
pub use Rattle.vyrd_tree.specs.Procedures.Split.{with_entry, with_unused, write_entries, write_node}
pub use Rattle.vyrd_tree.specs.Procedures.Walk.{arrive, Arrived, child_place, descend, is_past}
pub use Rattle.vyrd_tree.specs.Procedures.Walk.{load_rest, moves_right, pass_on, to_child}
pub use Rattle.vyrd_tree.specs.Procedures.Walk.{visit_node, walk_from}
pub use Rattle.vyrd_tree.specs.Rests.Visits.{arrived_at, loading, visiting_rest}
pub use Rattle.vyrd_tree.specs.Room.{HasNoRoom, leaf_from, leaf_of}
pub use Rattle.vyrd_tree.specs.declared.slot.Slot.{Slot}
pub use Rattle.vyrd_tree.specs.declared.task.Task.{Task}
pub use Rattle.vyrd_tree.specs.declared.visit.Ascent.{Ascent}
pub use Rattle.vyrd_tree.specs.declared.visit.Errand.{Errand}
pub use Rattle.vyrd_tree.specs.declared.visit.Visit.{Visit}
