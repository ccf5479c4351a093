-- The names that the proofs of this crate share, passed on from one place. Declares nothing.
pub use Rattle.atomic_table.specs.Table.{Allows, Final, keeps, opening, Seen, State, step, stepped}
pub use Rattle.atomic_table.proofs.Lists.{at_set}
pub use Rattle.std.specs.List.{All, sum_by}
pub use Rattle.std.specs.Prelude.{ltb, slice_get, slice_index, slice_index_or}
pub use Rattle.std.specs.Slots.{slots_items}
pub use Rattle.std.proofs.Common.{[], ℕ, ⊎_elim, ◌%◌, ◌*◌, ◌++◌, ◌+◌, ◌-◌, ◌/◌, ◌<◌, ◌^◌, ◌∙◌, ◌∷◌}
pub use Rattle.std.proofs.Common.{◌≡◌, ◌≢◌, ◌≤◌, ap, append-nil, arith, Bool, cond, drop, eq-eqb}
pub use Rattle.std.proofs.Common.{eqb, false, get_or, get_or-set_same, length, length-append}
pub use Rattle.std.proofs.Common.{length-set, List, map, mul-le-mul, ne_eqb, None, Option, refl}
pub use Rattle.std.proofs.Common.{set, Some, subst, suc, suc-mul, sym, take, true, vec_capacity}
pub use Rattle.std.proofs.Common.{vec_len, zero}
pub use Rattle.std.proofs.lemmas.Bool.Decides.{nat_tests}
pub use Rattle.std.proofs.lemmas.List.{drop_all, get_or-set_other, length-map, set-get_or, take_all}
pub use Rattle.std.proofs.lemmas.List.Elements.{All-filter, All-more, All-take, filter-append}
pub use Rattle.std.proofs.lemmas.List.Sums.{sum_by_more}
pub use Rattle.std.proofs.lemmas.Option.{same_Some, slice_get_within}
pub use Rattle.vyrd_base.specs.Histories.{Cells, is_write, made_of, may_do}
unfoldable pub use Rattle.vyrd_base.specs.Histories.{is_legal}
pub use Rattle.vyrd_base.specs.Parts.{part}
pub use Rattle.vyrd_base.specs.Places.{newest_first, numbers_from}
pub use Rattle.vyrd_base.specs.declared.history.Did.{Did}
pub use Rattle.vyrd_base.specs.declared.history.Did.TheVariants.{Gave, Marked, Read, Took, Wrote}
pub use Rattle.vyrd_base.specs.declared.history.Stamped.{Stamped}
pub use Rattle.vyrd_base.specs.declared.log.Kind.{Kind}
pub use Rattle.vyrd_base.proofs.UpdateLaws.{upd, upd_else, upd_here}
pub use Rattle.vyrd_trace.specs.Closing.{AreTwice, HasHistory, IsMerge, lanes_of, own_lane_of}
pub use Rattle.vyrd_trace.specs.Closing.{own_lanes}
pub use Rattle.vyrd_trace.specs.Hands.{AreNew, HandView, Holds, most_events, sharing, with_one_more}
pub use Rattle.vyrd_trace.specs.Lanes.{AreBelow, cells_in, HoldsBy, last_value, last_values, stamp}
pub use Rattle.vyrd_trace.specs.Records.{acting, before_of, drawn, first_record, look_again}
pub use Rattle.vyrd_trace.specs.Records.{look_first, own_lane, record_of, with_event}
pub use Rattle.vyrd_trace.specs.Rule.{FitsCell, Ghost, HasLane, InHand, IsAt, Knows, TraceKept}
pub use Rattle.vyrd_trace.specs.Steps.{drew, Ends, IsSame, looked, MayDraw, published, Sitting}
pub use Rattle.vyrd_trace.specs.Steps.{tried}
pub use Rattle.vyrd_trace.specs.declared.look.Look.{Look}
pub use Rattle.vyrd_trace.specs.declared.plan.Plan.{Plan}
pub use Rattle.vyrd_trace.specs.declared.record.Lane.{Lane}
pub use Rattle.vyrd_trace.specs.declared.record.Record.{Record}
pub use Rattle.vyrd_trace.specs.declared.record.Stage.{Stage}
pub use Rattle.vyrd_trace.specs.declared.record.Stage.TheVariants.{Claimed, Drawn, Giving, Rest}
