-- The names that the proofs of this crate share, passed on from one place. Declares nothing.
pub use Rattle.std.specs.List.{list_any}
pub use Rattle.std.specs.Prelude.{◌==◌, option_map, replicate, sum, sum_by, unwrap_or}
pub use Rattle.std.proofs.Common.{[], ℕ, ⊎_elim, ◌&&◌, ◌*◌, ◌++◌, ◌+◌, ◌-◌, ◌<◌, ◌^◌, ◌||◌, ◌∙◌}
pub use Rattle.std.proofs.Common.{◌∷◌, ◌≡◌, ◌≢◌, ◌≤◌, ◌⊎◌, ap, arith, Bool, cond, drop, false}
pub use Rattle.std.proofs.Common.{get_or, inl, inr, length, length-append, length-drop, List, map}
pub use Rattle.std.proofs.Common.{None, Option, refl, set, slice_get, Some, subst, suc, sym, true}
pub use Rattle.std.proofs.Common.{zero}
pub use Rattle.std.proofs.lemmas.List.{drop-append-le, length-map, length-set, map-set, set-get_or}
pub use Rattle.std.proofs.lemmas.List.Folds.{list_any-append}
pub use Rattle.std.proofs.lemmas.List.Sums.{count_by-le-length, sum-map, sum_by-cons, sum_by-set}
pub use Rattle.std.proofs.lemmas.Option.{none-some, same_Some, slice_get-get_or, slice_get-map}
pub use Rattle.std.proofs.lemmas.Option.{slice_get_past, slice_get_within, unwrap_or-slice_get}
pub use Rattle.vyrd_base.specs.Entries.{has_method}
pub use Rattle.vyrd_base.specs.Rules.{rules_by}
pub use Rattle.vyrd_base.specs.Subjects.{must_commit}
pub use Rattle.vyrd_base.specs.declared.header.Header.{Header}
pub use Rattle.vyrd_base.specs.declared.subject.Args.{Args}
pub use Rattle.vyrd_base.specs.declared.subject.Method.{Method}
pub use Rattle.vyrd_base.proofs.BlockLaws.{by_same}
pub use Rattle.vyrd_base.proofs.ChangedLists.{changed_below, changed_next, written_back}
pub use Rattle.vyrd_base.proofs.HeaderLaws.{few_callers}
pub use Rattle.vyrd_base.proofs.ListLaws.{slice_get-is, slice_get-set_other, slice_get-set_same}
pub use Rattle.vyrd_base.proofs.TestLaws.{apart_of, is_same, isnt_same, same_number, same_of}
pub use Rattle.vyrd_observers.specs.Costs.{owed}
pub use Rattle.vyrd_observers.specs.Order.{AreCounted, AreCountedBefore, AreFreeFrom, AreInOrder}
pub use Rattle.vyrd_observers.specs.Order.{askers_of, asks, Closes, SomeAsks}
pub use Rattle.vyrd_observers.specs.Trails.{after_state, AreAsking, AreOldExcept, AreOn, AreUsed}
pub use Rattle.vyrd_observers.specs.Trails.{Asked, asked_count, IsOn, IsTrailOf, IsUsed, KeepsAsked}
pub use Rattle.vyrd_observers.specs.Trails.{kept_by, kept_count, moved, OthersAreUsed, seen_by}
pub use Rattle.vyrd_observers.specs.Trails.{seen_from, StayOrEnd, with_answer, with_asker}
pub use Rattle.vyrd_observers.specs.Trails.{without_asker}
pub use Rattle.vyrd_observers.specs.Watching.{AllSee, answer_count, AreCurrent, has_answer}
pub use Rattle.vyrd_observers.specs.Watching.{KeepsFew, open_count, Seen, SeesAnswer, SeesState}
pub use Rattle.vyrd_observers.specs.Watching.{unwatched, Watched}
pub use Rattle.vyrd_observers.specs.declared.watch.Watch.{Watch}
