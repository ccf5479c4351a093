-- The names that the proofs of this crate share, passed on from one place. Declares nothing.
pub use Rattle.std.specs.Bool.{then_some}
pub use Rattle.std.specs.List.{list_any, sum_by}
pub use Rattle.std.specs.Option.{option_or}
pub use Rattle.std.specs.Prelude.{◌==◌, is_none, is_some, nat_le, nat_lt, option_map, replicate}
pub use Rattle.std.proofs.Common.{[], ℕ, ◌&&◌, ◌*◌, ◌++◌, ◌+◌, ◌-◌, ◌<◌, ◌^◌, ◌||◌, ◌∙◌, ◌∷◌, ◌≡◌}
pub use Rattle.std.proofs.Common.{◌≢◌, ◌≤◌, ap, arith, Bool, cond, false, get_or, get_or-set_other}
pub use Rattle.std.proofs.Common.{get_or-set_same, length, length-set, List, map, max, None, not}
pub use Rattle.std.proofs.Common.{Option, refl, set, slice_get, Some, subst, suc, sym, true, zero}
pub use Rattle.std.proofs.lemmas.Bool.Decides.{nat_tests}
pub use Rattle.std.proofs.lemmas.List.{get_or_read, length-map, length-replicate, map-set}
pub use Rattle.std.proofs.lemmas.List.{set-get_or}
pub use Rattle.std.proofs.lemmas.List.Sums.{sum_by-set}
pub use Rattle.std.proofs.lemmas.Option.{get_or_from_slice_get}
pub use Rattle.vyrd_base.specs.Callers.{by_caller, Called, has_block, has_inner_commit, holds_word}
pub use Rattle.vyrd_base.specs.Callers.{open_call, open_or_close, write_or_open}
pub use Rattle.vyrd_base.specs.Front.{WellFormed}
pub use Rattle.vyrd_base.specs.Layout.{plain_words}
pub use Rattle.vyrd_base.specs.Places.{numbers_below, numbers_from}
pub use Rattle.vyrd_base.specs.Shape.{broken_rule, checks_at, checks_of, first_broken}
pub use Rattle.vyrd_base.specs.Shape.{is_held_by_other, is_raced}
pub use Rattle.vyrd_base.specs.Verdicts.{is_call_open}
pub use Rattle.vyrd_base.specs.Words.{is_lone_commit, is_passed}
pub use Rattle.vyrd_base.specs.declared.header.Header.{Header}
pub use Rattle.vyrd_base.specs.declared.log.Entry.{Entry}
pub use Rattle.vyrd_base.specs.declared.log.Kind.{Kind}
pub use Rattle.vyrd_base.specs.declared.log.Kind.TheVariants.{BlockClose, BlockCommit, BlockOpen}
pub use Rattle.vyrd_base.specs.declared.log.Kind.TheVariants.{Call, Commit, Return, Write}
pub use Rattle.vyrd_base.specs.declared.verdict.Rule.{Rule}
pub use Rattle.vyrd_base.specs.declared.verdict.Rule.TheVariants.{BlockRaced, CallerRange}
pub use Rattle.vyrd_base.proofs.BlockLaws.{by_same, entry, no_answer, other_answer}
pub use Rattle.vyrd_base.proofs.EffectLaws.{never, other_inner, own_inner}
pub use Rattle.vyrd_base.proofs.ListLaws.{slice_get-set_same, zeros}
pub use Rattle.vyrd_base.proofs.SettledWords.{own_holds}
pub use Rattle.vyrd_base.proofs.ShadowLaws.{all_kept, held_false, holds_other, open_kept}
pub use Rattle.vyrd_base.proofs.TestLaws.{apart_of, flipped, is_below, isnt_below, neither_true}
pub use Rattle.vyrd_base.proofs.TestLaws.{same_of}
pub use Rattle.vyrd_base.proofs.VersionWords.{no_inner_commit}
pub use Rattle.vyrd_shape.specs.Costs.{held_count}
pub use Rattle.vyrd_shape.specs.Following.{HasFollowed, ShapeKept}
pub use Rattle.vyrd_shape.specs.Holding.{AreLinked, holders_after, Holding, is_held_by_another}
pub use Rattle.vyrd_shape.specs.Holding.{IsChain, IsLinked, released}
pub use Rattle.vyrd_shape.specs.Phases.{phase_of}
pub use Rattle.vyrd_shape.specs.Stamps.{AreGiven, AreOrdered, AreRaised, CommitStamps, effect_stamp}
pub use Rattle.vyrd_shape.specs.Stamps.{last_commit, last_effect, rank, SameOrder, takes_effect}
pub use Rattle.vyrd_shape.specs.declared.phase.Phase.{Phase}
