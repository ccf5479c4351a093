-- The names that the proofs of this crate share, passed on from one place. Declares nothing.
pub use Rattle.std.specs.List.{All, list_any}
pub use Rattle.std.specs.Map.{keys_of}
pub use Rattle.std.specs.Option.{option_or}
pub use Rattle.std.specs.Prelude.{◌==◌, is_some, replicate, unwrap_or}
pub use Rattle.std.proofs.Common.{[], ℕ, ◌++◌, ◌+◌, ◌-◌, ◌<◌, ◌^◌, ◌||◌, ◌∙◌, ◌∷◌, ◌≡◌, ◌≢◌, ◌≤◌}
pub use Rattle.std.proofs.Common.{ap, arith, Bool, cond, drop, false, get_or, get_or-set_other}
pub use Rattle.std.proofs.Common.{get_or-set_same, length, length-append, length-set, List, None}
pub use Rattle.std.proofs.Common.{Option, refl, set, Some, subst, suc, sym, take, true, zero}
pub use Rattle.std.proofs.Math.Seq.{take-append_seam}
pub use Rattle.std.proofs.lemmas.Bool.Decides.{nat_tests}
pub use Rattle.std.proofs.lemmas.List.{get_or_read, length-map}
pub use Rattle.std.proofs.lemmas.List.Elements.{All-append, All-cons, All-nil}
pub use Rattle.std.proofs.lemmas.List.Folds.{list_any-append}
pub use Rattle.std.proofs.lemmas.Result.{IfOk-weaker, on_ok_weaker}
pub use Rattle.vyrd_base.specs.Callers.{has_block}
pub use Rattle.vyrd_base.specs.Layout.{plain_words}
pub use Rattle.vyrd_base.specs.Places.{first_answer}
pub use Rattle.vyrd_base.specs.Shape.{broken_rule}
pub use Rattle.vyrd_base.specs.Words.{block_writes, given_to}
pub use Rattle.vyrd_base.specs.declared.header.Header.{Header}
pub use Rattle.vyrd_base.specs.declared.log.Entry.{Entry}
pub use Rattle.vyrd_base.specs.declared.log.Kind.TheVariants.{BlockClose, BlockCommit, BlockOpen}
pub use Rattle.vyrd_base.specs.declared.log.Kind.TheVariants.{Write}
pub use Rattle.vyrd_base.specs.declared.log.StartWord.{StartWord}
pub use Rattle.vyrd_base.proofs.BlockLaws.{by_same, entry}
pub use Rattle.vyrd_base.proofs.TestLaws.{flipped, neither_true, same_of}
pub use Rattle.vyrd_shadow.specs.Blocks.{AreInRange, first_written, is_at, IsSound, kept_by}
pub use Rattle.vyrd_shadow.specs.Blocks.{kept_count, with_kept, with_word, with_writes}
pub use Rattle.vyrd_shadow.specs.Following.{HasFollowed, is_open, ShadowKept}
