-- The names that the proofs of this crate share, passed on from one place. Declares nothing.
pub use Rattle.std.specs.List.{list_any}
pub use Rattle.std.specs.Option.{option_map_or, option_or}
pub use Rattle.std.specs.Prelude.{◌==◌, IfSome, nat_lt, option_map, slice_index, sum_by, unwrap_or}
pub use Rattle.std.proofs.Common.{[], ℕ, ◌%◌, ◌&&◌, ◌*◌, ◌++◌, ◌+◌, ◌-◌, ◌/◌, ◌<◌, ◌^◌, ◌||◌, ◌↔◌}
pub use Rattle.std.proofs.Common.{◌∙◌, ◌∷◌, ◌≡◌, ◌≢◌, ◌≤◌, ◌⊎◌, ap, append-nil, append_assoc, arith}
pub use Rattle.std.proofs.Common.{Bool, cond, drop, false, filter, flat_map, get_or}
pub use Rattle.std.proofs.Common.{get_or-set_other, inl, inr, is_some, length, length-set, List}
pub use Rattle.std.proofs.Common.{map, None, not, Option, refl, replicate, reverse, set, slice_get}
pub use Rattle.std.proofs.Common.{Some, subst, suc, sym, take, true, vec_len, zero}
pub use Rattle.std.proofs.Math.Nat.{div-add-mod, mod-lt}
pub use Rattle.std.proofs.lemmas.List.{drop-drop, drop-map, drop_all, drop_more, flat_map_more}
pub use Rattle.std.proofs.lemmas.List.{length-take-le, map-append, set-get_or, set_past, take-map}
pub use Rattle.std.proofs.lemmas.List.Folds.{flat_map-map}
pub use Rattle.std.proofs.lemmas.List.Sums.{sum_by-append}
pub use Rattle.std.proofs.lemmas.Option.{get_or_from_slice_get, slice_get-get_or, slice_get_within}
pub use Rattle.vyrd_base.specs.Amounts.{amount_of, collected, given}
pub use Rattle.vyrd_base.specs.Buffers.{buffer_at, buffer_parts}
pub use Rattle.vyrd_base.specs.Cache.{chunk_at, chunk_parts}
pub use Rattle.vyrd_base.specs.Callers.{by_caller, commit_or_open, has_block, has_inner_commit}
pub use Rattle.vyrd_base.specs.Callers.{holds_word, open_or_close, write_or_open}
pub use Rattle.vyrd_base.specs.Commits.{is_commit}
pub use Rattle.vyrd_base.specs.Front.{first_break}
pub use Rattle.vyrd_base.specs.Layout.{plain_words, plain_words_of}
pub use Rattle.vyrd_base.specs.Multiset.{slot_parts}
pub use Rattle.vyrd_base.specs.Own.OwnRules.{own_view}
pub use Rattle.vyrd_base.specs.Own.Programs.{Written}
unfoldable pub use Rattle.vyrd_base.specs.Own.Steps.{view_of}
pub use Rattle.vyrd_base.specs.Places.{first_answer, newest_first, newest_first_onto, numbers_below}
pub use Rattle.vyrd_base.specs.Places.{numbers_from}
pub use Rattle.vyrd_base.specs.Rules.{built_in, Charter, own, Rules, rules_by, rules_of}
pub use Rattle.vyrd_base.specs.Starts.{words_at_start}
pub use Rattle.vyrd_base.specs.Tree.{right_of}
pub use Rattle.vyrd_base.specs.Views.{parts_of}
unfoldable pub use Rattle.vyrd_base.specs.Views.{view_of_words}
pub use Rattle.vyrd_base.specs.Words.{ahead_at, block_writes, effects_at, effects_of_commit}
pub use Rattle.vyrd_base.specs.Words.{effects_of_end, is_lone_commit, value_after, with_write}
pub use Rattle.vyrd_base.specs.Words.{words_with, writes_ahead}
pub use Rattle.vyrd_base.specs.declared.header.Header.{Header}
pub use Rattle.vyrd_base.specs.declared.log.Entry.{Entry}
pub use Rattle.vyrd_base.specs.declared.log.Kind.{Kind}
pub use Rattle.vyrd_base.specs.declared.log.Kind.TheVariants.{BlockClose, BlockCommit, BlockOpen}
pub use Rattle.vyrd_base.specs.declared.log.Kind.TheVariants.{Call, Commit, Return, Write}
pub use Rattle.vyrd_base.specs.declared.log.StartWord.{StartWord}
pub use Rattle.vyrd_base.specs.declared.subject.Subject.{Subject}
pub use Rattle.vyrd_base.specs.declared.subject.Subject.TheVariants.{Buffers, Cache, Multiset, Own}
pub use Rattle.vyrd_base.specs.declared.subject.Subject.TheVariants.{Tree}
pub use Rattle.vyrd_base.proofs.AddedLaws.{parts-push}
pub use Rattle.vyrd_base.proofs.BlockLaws.{by_same, entry, other_writes, own_block, wrote}
pub use Rattle.vyrd_base.proofs.EffectLaws.{committed_since_open, own_inner}
pub use Rattle.vyrd_base.proofs.EffectWords.{one_write}
pub use Rattle.vyrd_base.proofs.HeaderLaws.{size_in_32_bits}
pub use Rattle.vyrd_base.proofs.KeptLaws.{rules_at}
pub use Rattle.vyrd_base.proofs.ListLaws.{slice_get-drop, slice_get-is, slice_get-set_other}
pub use Rattle.vyrd_base.proofs.ListLaws.{slice_get-set_same, take_one_more}
pub use Rattle.vyrd_base.proofs.NoStart.{words_at_start-none}
pub use Rattle.vyrd_base.proofs.PartLaws.{node_parts-places, place_parts, slots_at_most}
pub use Rattle.vyrd_base.proofs.PlaceLaws.{length-newest_first, length_below, map_alike}
pub use Rattle.vyrd_base.proofs.PlaceLaws.{newest_first-push, newest_first_onto-append}
pub use Rattle.vyrd_base.proofs.PlaceLaws.{numbers_from-push}
pub use Rattle.vyrd_base.proofs.ShadowLaws.{caller_kept}
pub use Rattle.vyrd_base.proofs.TestLaws.{apart_of, is_same, isnt_same, neither_true, same_of}
pub use Rattle.vyrd_view.specs.Comparing.{AgreeElsewhere}
pub use Rattle.vyrd_view.specs.Decoded.{Gives, pairs_by, words_of}
pub use Rattle.vyrd_view.specs.Laws.Buffers.{buffers_fit, buffers_show}
pub use Rattle.vyrd_view.specs.Laws.Chunks.{chunks_fit, chunks_show}
pub use Rattle.vyrd_view.specs.Laws.Sums.{given_flat_push, places_give}
pub use Rattle.vyrd_view.specs.Pairs.{buffer_gives, chunk_gives}
pub use Rattle.vyrd_view.proofs.DecodedLaws.{own_untouched, pairs_given}
pub use Rattle.vyrd_witness.specs.Changes.{amount_shown, changes_in, words_through}
pub use Rattle.vyrd_witness.specs.Effects.{effect_of, effects_along, effects_by, effects_there}
pub use Rattle.vyrd_witness.specs.Effects.{value_at, value_of}
pub use Rattle.vyrd_witness.specs.Given.{given_items, given_parts, numbered, parts_by_number}
pub use Rattle.vyrd_witness.specs.Given.{parts_of_own, parts_of_subject, told}
pub use Rattle.vyrd_witness.specs.Numbered.{numbered_entry, numbered_from, numbered_kind}
pub use Rattle.vyrd_witness.specs.Opens.{open_items_of, opened_in}
pub use Rattle.vyrd_witness.specs.Phases.{ArePhases, phase_after, phase_of}
pub use Rattle.vyrd_witness.specs.Plain.{plain, plain_writes}
pub use Rattle.vyrd_witness.specs.Races.{held_by, held_items, is_of_other, is_write_to, last_of}
pub use Rattle.vyrd_witness.specs.ViewWitnesses.{amount_then, commit_before, up_to, words_then}
pub use Rattle.vyrd_witness.specs.declared.change.Change.{Change}
pub use Rattle.vyrd_witness.specs.declared.effect.Effect.{Effect}
pub use Rattle.vyrd_witness.specs.declared.item.Item.TheVariants.{Changed, Held, Passed}
pub use Rattle.vyrd_witness.specs.declared.phase.Phase.{Phase}
