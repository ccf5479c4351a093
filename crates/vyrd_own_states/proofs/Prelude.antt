-- The names that the proofs of this crate share, passed on from one place. Declares nothing.
pub use Rattle.std.specs.Arc.{arc_value}
pub use Rattle.std.specs.List.{list_all, list_any}
pub use Rattle.std.specs.Prelude.{◌==◌, filter, filter_map, find, flat_map, IfOk, IfSome, is_none}
pub use Rattle.std.specs.Prelude.{OnOk, option_map, slice_index_or, slice_range}
pub use Rattle.std.proofs.Common.{[], ℕ, ◌&&◌, ◌*◌, ◌++◌, ◌+◌, ◌-◌, ◌/◌, ◌<◌, ◌^◌, ◌∙◌, ◌∷◌, ◌≡◌}
pub use Rattle.std.proofs.Common.{◌≢◌, ◌≤◌, ap, append_assoc, arith, Bool, cond, drop, Err, false}
pub use Rattle.std.proofs.Common.{get_or, length, length-set, List, map, None, not, Ok, Option}
pub use Rattle.std.proofs.Common.{refl, Result, set, slice_index, Some, subst, suc, sym, take, true}
pub use Rattle.std.proofs.Common.{zero}
pub use Rattle.std.proofs.Math.Nat.{div-add-mod, mod-add-div', mod-lt}
pub use Rattle.std.proofs.Math.Seq.{take-set-lt}
pub use Rattle.std.proofs.lemmas.List.{drop-set-add, drop-set-lt, drop-take, length-take}
pub use Rattle.std.proofs.lemmas.List.{map-append, take-set-le, take-take}
pub use Rattle.std.proofs.lemmas.Nat.{div-mul-add}
pub use Rattle.std.proofs.lemmas.Result.{on_ok_weaker}
pub use Rattle.vyrd_base.specs.Amounts.{amount_of, Amounts, collected, given}
pub use Rattle.vyrd_base.specs.Layout.{plain_words}
pub use Rattle.vyrd_base.specs.Own.Expressions.{holds, list_at, value}
pub use Rattle.vyrd_base.specs.Own.OwnRules.{may_stand, own_start, own_view}
pub use Rattle.vyrd_base.specs.Own.Programs.{Case, Method, Written}
pub use Rattle.vyrd_base.specs.Own.Reader.{written_in}
pub use Rattle.vyrd_base.specs.Own.Steps.{at_hand, part_gives, part_words, with_effects}
unfoldable pub use Rattle.vyrd_base.specs.Own.Steps.{next_of, view_of}
pub use Rattle.vyrd_base.specs.Places.{numbers_below, numbers_from}
pub use Rattle.vyrd_base.specs.Rules.{Charter, own, rules_by}
pub use Rattle.vyrd_base.specs.Starts.{state_at_start, words_at_start}
pub use Rattle.vyrd_base.specs.States.{State}
pub use Rattle.vyrd_base.specs.declared.header.Header.{Header}
pub use Rattle.vyrd_base.specs.declared.log.StartWord.{StartWord}
pub use Rattle.vyrd_base.specs.declared.own.effect.Effect.{Effect}
pub use Rattle.vyrd_base.specs.declared.subject.Subject.TheVariants.{Own}
pub use Rattle.vyrd_base.proofs.PlaceLaws.{map_alike, numbers_below-push}
pub use Rattle.vyrd_base.proofs.TestLaws.{apart_of, below_of, not_below_of}
pub use Rattle.vyrd_view.proofs.DecodedLaws.{part_of_within, part_within}
pub use Rattle.vyrd_own_spec.specs.Laws.Parts.{all_given, few_gives, none_given}
pub use Rattle.vyrd_own_spec.specs.Parts.{AreFew, own_gives, width_of}
pub use Rattle.vyrd_own_spec.specs.declared.own_spec.OwnSpec.{OwnSpec}
pub use Rattle.vyrd_own_spec.proofs.StandingLaws.{stands_so}
pub use Rattle.vyrd_witness.specs.Given.{given_parts, numbered, parts_by_number, told}
pub use Rattle.vyrd_witness.specs.declared.item.Item.{Item}
pub use Rattle.vyrd_witness.specs.declared.item.Item.TheVariants.{Allowed, Before, Hidden, Register}
pub use Rattle.vyrd_witness.proofs.GivenLaws.{given_numbered}
pub use Rattle.vyrd_witness.proofs.PartLaws.{one_apart}
pub use Rattle.vyrd_states.specs.Running.{called_by}
pub use Rattle.vyrd_own_states.specs.OwnReplies.{each_once, elements_of, hidden_keys, is_allowed}
pub use Rattle.vyrd_own_states.specs.OwnReplies.{own_refused_items, shown_keys}
pub use Rattle.vyrd_own_states.specs.PartPairs.{own_pairs, pairs_in, part_pairs}
