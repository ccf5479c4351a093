-- The names that the proofs of this crate share, passed on from one place. Declares nothing.
pub use Rattle.std.specs.List.{list_any, sum_by}
pub use Rattle.std.specs.Option.{option_map, option_or}
pub use Rattle.std.specs.Prelude.{◌==◌, All, Err, Ok, OnOk, replicate, unwrap_or, vec_capacity}
pub use Rattle.std.proofs.Common.{[], ℕ, ◌*◌, ◌++◌, ◌+◌, ◌-◌, ◌<◌, ◌^◌, ◌||◌, ◌∙◌, ◌∷◌, ◌≡◌, ◌≢◌}
pub use Rattle.std.proofs.Common.{◌≤◌, ap, append-nil, append_assoc, arith, Bool, cond, drop, false}
pub use Rattle.std.proofs.Common.{get_or, get_or-set_other, length, length-append, length-drop}
pub use Rattle.std.proofs.Common.{List, map, None, not, Option, refl, Result, set, slice_get, Some}
pub use Rattle.std.proofs.Common.{subst, suc, sym, take, true, vec_len, zero}
pub use Rattle.std.proofs.Math.ListN.{length-set}
pub use Rattle.std.proofs.Math.Seq.{drop-length, take-length}
pub use Rattle.std.proofs.lemmas.List.{drop-append-le, take-append-le, take_all, take_more}
pub use Rattle.std.proofs.lemmas.List.Folds.{list_any-append}
pub use Rattle.std.proofs.lemmas.List.Sums.{sum_by-cons, sum_by_push}
pub use Rattle.vyrd_base.specs.Amounts.{amount_of, Amounts, IsAmounts, with_amount}
pub use Rattle.vyrd_base.specs.Callers.{by_caller, has_block, open_or_close}
pub use Rattle.vyrd_base.specs.Commits.{commit_count, is_commit}
pub use Rattle.vyrd_base.specs.Layout.{plain_words}
pub use Rattle.vyrd_base.specs.Places.{first_answer, numbers_below, numbers_from}
pub use Rattle.vyrd_base.specs.Rules.{rules_by}
pub use Rattle.vyrd_base.specs.Starts.{do_follow, words_at_start}
pub use Rattle.vyrd_base.specs.Words.{block_writes, given_to, value_after, with_write, words_with}
pub use Rattle.vyrd_base.specs.declared.header.Header.{Header}
pub use Rattle.vyrd_base.specs.declared.log.Entry.{Entry}
pub use Rattle.vyrd_base.specs.declared.log.Kind.{Kind}
pub use Rattle.vyrd_base.specs.declared.log.Kind.TheVariants.{BlockClose, BlockCommit, BlockOpen}
pub use Rattle.vyrd_base.specs.declared.log.Kind.TheVariants.{Call, Commit, Return, Write}
pub use Rattle.vyrd_base.specs.declared.log.StartWord.{StartWord}
pub use Rattle.vyrd_base.proofs.BlockLaws.{entry}
pub use Rattle.vyrd_base.proofs.Lasting.{commit_count-cons}
pub use Rattle.vyrd_base.proofs.PlaceLaws.{at_map, first_answer-append}
pub use Rattle.vyrd_base.proofs.TestLaws.{above_of, apart_of, first_true, flipped, is_same}
pub use Rattle.vyrd_base.proofs.TestLaws.{isnt_same, lower_isnt, neither_true, same_number, same_of}
pub use Rattle.vyrd_base.proofs.TestLaws.{second_true}
pub use Rattle.vyrd_view.specs.Comparing.{AgreeElsewhere}
pub use Rattle.vyrd_view.specs.Known.{Known, Shows}
pub use Rattle.vyrd_spec.specs.Touching.{with_touched}
pub use Rattle.vyrd_shadow.specs.Blocks.{AreInRange, first_written, with_writes}
pub use Rattle.vyrd_shadow.specs.Following.{HasFollowed, is_open, kept_writes, ShadowKept, words_of}
pub use Rattle.vyrd_shadow.proofs.WriteLaws.{with_writes-append}
pub use Rattle.vyrd_words.specs.Costs.{all_kept_back, each_entry, effect_count, effect_words, held}
pub use Rattle.vyrd_words.specs.Costs.{kept_back, owed, pending_for, work_held}
pub use Rattle.vyrd_words.specs.Counts.{apart_in, counts_of, just, late_writes, total, with_late}
pub use Rattle.vyrd_words.specs.Cuts.{AreCuts, AreKnown, begun_of, begun_with, Cuts, first_of}
pub use Rattle.vyrd_words.specs.Cuts.{first_with, since_of, split_at, with_part, written}
pub use Rattle.vyrd_words.specs.Effects.{ActAlike, AllFew, AreFew, cut_if, given_last, inner_number}
pub use Rattle.vyrd_words.specs.Effects.{number_at, parts_behind, parts_since, with_effects}
pub use Rattle.vyrd_words.specs.HasWords.{HasWords, Keeps, WordsView}
