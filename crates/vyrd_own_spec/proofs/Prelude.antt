-- The names that the proofs of this crate share, passed on from one place. Declares nothing.
pub use Rattle.std.specs.Arc.{arc_value}
pub use Rattle.std.specs.Cmp.{unsigned_tied}
pub use Rattle.std.specs.FinMap.{put}
pub use Rattle.std.specs.FinMap.Entries.{by_order}
pub use Rattle.std.specs.List.{list_any}
pub use Rattle.std.specs.Option.{is_some}
pub use Rattle.std.specs.Ordering.{nat_cmp}
pub use Rattle.std.specs.Prelude.{◌==◌, ◌||◌, filter, find, if◌then◌else◌, max, option_and_then}
pub use Rattle.std.specs.Prelude.{option_map, slice_get, slice_index_or, unwrap_or}
pub use Rattle.std.specs.declared.cmp.Ordering.{Ordering}
pub use Rattle.std.specs.declared.cmp.Ordering.TheVariants.{Equal, Greater, Less}
pub use Rattle.std.proofs.Common.{[], ℕ, ◌*◌, ◌++◌, ◌+◌, ◌/◌, ◌<◌, ◌∙◌, ◌∷◌, ◌≡◌, ◌≤◌, ap, arith}
pub use Rattle.std.proofs.Common.{Bool, cond, drop, false, length, length-append, List, map, None}
pub use Rattle.std.proofs.Common.{not, Ok, Option, refl, Some, subst, suc, sym, take, true, zero}
pub use Rattle.std.proofs.Math.Nat.{le-max_left, le-max_right}
pub use Rattle.std.proofs.lemmas.List.{length-map, length-set, length-take}
pub use Rattle.std.proofs.lemmas.List.Folds.{list_any-append}
pub use Rattle.std.proofs.lemmas.Option.{none-some, same_Some}
pub use Rattle.vyrd_base.specs.Amounts.{amount_of, Amounts, IsAmounts, keys_of, with_amount}
pub use Rattle.vyrd_base.specs.Own.Expressions.{holds, value}
pub use Rattle.vyrd_base.specs.Own.OwnRules.{is_whole, own_method, own_next, own_view}
pub use Rattle.vyrd_base.specs.Own.Programs.{Case, Method, Written}
pub use Rattle.vyrd_base.specs.Own.Reader.{written_in}
pub use Rattle.vyrd_base.specs.Own.Steps.{allowed_effects, answer_of, effect_of, effects_of}
pub use Rattle.vyrd_base.specs.Own.Steps.{is_clearing, shown_keys, with_effect, with_effects}
unfoldable pub use Rattle.vyrd_base.specs.Own.Steps.{next_of}
pub use Rattle.vyrd_base.specs.Rules.{given}
pub use Rattle.vyrd_base.specs.States.{State}
pub use Rattle.vyrd_base.specs.Subjects.{own_number}
pub use Rattle.vyrd_base.specs.declared.header.Header.{Header}
pub use Rattle.vyrd_base.specs.declared.own.effect.Effect.{Effect}
pub use Rattle.vyrd_base.specs.declared.subject.Args.{Args}
pub use Rattle.vyrd_base.proofs.AmountLaws.{amount_of-with_amount, same_amounts}
pub use Rattle.vyrd_base.proofs.HeaderLaws.{most_size}
pub use Rattle.vyrd_base.proofs.TestLaws.{flipped, second_true}
pub use Rattle.vyrd_own.specs.Layout.{expr_in, method_of, show_of, texts, written}
pub use Rattle.vyrd_view.specs.Decoded.{pair_at}
pub use Rattle.vyrd_spec.specs.Touching.{is_touched, with_touched}
pub use Rattle.vyrd_spec.proofs.FormedLaws.{formed_after}
pub use Rattle.vyrd_spec.proofs.StepMeets.{with_amounts, with_formed}
pub use Rattle.vyrd_own_spec.specs.Effects.{line_count, most_effects, most_of}
pub use Rattle.vyrd_own_spec.specs.Parts.{AreFew, own_gives, width_of}
pub use Rattle.vyrd_own_spec.specs.Small.{IsSmall}
pub use Rattle.vyrd_own_spec.specs.Sums.{are_low, HasSums}
pub use Rattle.vyrd_own_spec.specs.Touched.{answer_by, effects_by, next_by, own_effects, touched_by}
