-- The names that the proofs of this crate share, passed on from one place. Declares nothing.
pub use Rattle.std.specs.FinMap.Entries.{below_all, find, is_sorted}
pub use Rattle.std.specs.List.{flat_map, list_all, list_any}
pub use Rattle.std.specs.Option.{option_map_or}
pub use Rattle.std.specs.Ordering.{eq_by_cmp, is_le, is_lt, nat_cmp}
pub use Rattle.std.specs.Prelude.{◌==◌, ◌||◌, filter, if◌then◌else◌, max, min, nat_le, option_map}
pub use Rattle.std.specs.Prelude.{reverse, slice_index_or, slice_set, unwrap_or}
pub use Rattle.std.proofs.Common.{[], ℕ, ◌&&◌, ◌*◌, ◌++◌, ◌+◌, ◌-◌, ◌<◌, ◌∙◌, ◌∷◌, ◌≡◌, ◌≢◌, ◌≤◌}
pub use Rattle.std.proofs.Common.{◌⊎◌, add-one, ap, arith, Bool, cond, drop, drop-cons, false}
pub use Rattle.std.proofs.Common.{get_or, inl, inr, length, length-append, List, map, None, not}
pub use Rattle.std.proofs.Common.{refl, Some, subst, suc, sym, take, true, zero}
pub use Rattle.std.proofs.Math.ListN.{drop_of_length-le}
pub use Rattle.std.proofs.lemmas.Bool.Decides.{nat_tests}
pub use Rattle.std.proofs.lemmas.List.{append_assoc, length-map, length-take-le, map-append}
pub use Rattle.std.proofs.lemmas.List.{reverse-append, take-append-drop}
pub use Rattle.std.proofs.lemmas.Nat.{mul-le}
pub use Rattle.vyrd_base.specs.Amounts.{amount_of, Amounts, IsAmounts, keys_of, with_amount}
pub use Rattle.vyrd_base.specs.Own.Expressions.{choice, Expr, greatest, greatest_to, hidden, holds}
pub use Rattle.vyrd_base.specs.Own.Expressions.{infix_of, least, least_from, most, negation, number}
pub use Rattle.vyrd_base.specs.Own.Expressions.{shown, value}
pub use Rattle.vyrd_base.specs.Own.Programs.{Case, Method, Written}
pub use Rattle.vyrd_base.specs.Own.Steps.{allowed_effects, at_hand, effect_of, effects_of, given_by}
pub use Rattle.vyrd_base.specs.Own.Steps.{hidden_with, is_clearing, with_effect, with_effects}
pub use Rattle.vyrd_base.specs.Own.Steps.{with_lets}
pub use Rattle.vyrd_base.specs.States.{State}
pub use Rattle.vyrd_base.specs.declared.own.effect.Effect.{Effect}
pub use Rattle.vyrd_base.specs.declared.own.effect.Effect.TheVariants.{Empty, EmptyShown, PutFirst}
pub use Rattle.vyrd_base.specs.declared.own.effect.Effect.TheVariants.{PutLast, SetHidden}
pub use Rattle.vyrd_base.specs.declared.own.effect.Effect.TheVariants.{SetRegister, SetShown}
pub use Rattle.vyrd_base.specs.declared.own.effect.Effect.TheVariants.{TakeFirst, TakeLast}
pub use Rattle.vyrd_base.specs.declared.own.op.Op.{Op}
pub use Rattle.vyrd_base.proofs.AmountLaws.{AllSome, amount_of-with_amount, amounts_are}
pub use Rattle.vyrd_base.proofs.AmountLaws.{IsAmounts-with_amount, no_amounts, same_amount}
pub use Rattle.vyrd_own.specs.Apart.{listed, lists_after, lists_with, registers_after}
pub use Rattle.vyrd_own.specs.Apart.{registers_with}
pub use Rattle.vyrd_own.specs.Layout.{case_of, expr_in, method_of, show_of, written}
pub use Rattle.vyrd_own.specs.Marks.{marked}
pub use Rattle.vyrd_own.specs.Nodes.{earlier, expr_at, exprs_from}
unfoldable pub use Rattle.vyrd_own.specs.Nodes.{expr_of, exprs_of}
pub use Rattle.vyrd_own.specs.Prices.{lets_price, longest_case, looked_at, put_price, sets_price}
pub use Rattle.vyrd_own.specs.Queues.{HaveRoom, queue_at, Queued}
pub use Rattle.vyrd_own.specs.Reads.{counted, reads_of, worth_of, worths_in}
pub use Rattle.vyrd_own.specs.Sets.{amount_after, AreAdded, HasKeys, hidden_after, shown_after}
pub use Rattle.vyrd_own.specs.declared.node.Node.{Node}
pub use Rattle.vyrd_own.specs.declared.reads.Worth.{Worth}
