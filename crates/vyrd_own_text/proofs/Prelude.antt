-- The names that the proofs of this crate share, passed on from one place. Declares nothing.
pub use Rattle.std.specs.Prelude.{◌&&◌, ◌==◌, ◌||◌, codes, decimal, Err, IfOk, map, nat_lt, Ok}
pub use Rattle.std.specs.Str.{bytes_eq}
pub use Rattle.std.specs.Str.Parse.{digits_value}
pub use Rattle.std.proofs.Common.{[], ℕ, ◌++◌, ◌+◌, ◌-◌, ◌<◌, ◌∙◌, ◌∷◌, ◌≡◌, ◌≢◌, ap, append_assoc}
pub use Rattle.std.proofs.Common.{arith, Bool, Bor, cond, drop, false, length, length-append, List}
pub use Rattle.std.proofs.Common.{None, Option, refl, Result, Some, subst, suc, sym, take, true}
pub use Rattle.std.proofs.Common.{zero}
pub use Rattle.std.proofs.lemmas.Bool.Decides.{nat_tests}
pub use Rattle.std.proofs.lemmas.List.{append-nil, map-append}
pub use Rattle.std.proofs.lemmas.Slice.Eq.{bytes_eq-Decides}
unfoldable pub use Rattle.vyrd_base.specs.Own.Changes.{change_read, within_read}
pub use Rattle.vyrd_base.specs.Own.Expressions.{Expr, hidden, most, shown}
pub use Rattle.vyrd_base.specs.Own.Lines.{holding, Inner, inner, with_change, with_line}
pub use Rattle.vyrd_base.specs.Own.Methods.{is_method, last_in, named_expr, named_method}
unfoldable pub use Rattle.vyrd_base.specs.Own.Methods.{inner_read}
pub use Rattle.vyrd_base.specs.Own.Names.{is_known, new_name}
pub use Rattle.vyrd_base.specs.Own.Pieces.{ended, last_name, last_number, last_read, named_number}
pub use Rattle.vyrd_base.specs.Own.Pieces.{named_value, taken_with, two_numbers, two_read}
pub use Rattle.vyrd_base.specs.Own.Programs.{Change, Method, Written}
pub use Rattle.vyrd_base.specs.Own.Reading.{after_word, and_then, expr_read, Found, if_after}
pub use Rattle.vyrd_base.specs.Own.Reading.{name_read, of_state, one_read, op_among, place_from}
pub use Rattle.vyrd_base.specs.Own.Reading.{Taken, word_of}
unfoldable pub use Rattle.vyrd_base.specs.Own.Reading.{after, atom_read, number_in, round_read}
unfoldable pub use Rattle.vyrd_base.specs.Own.Reading.{whole_read}
pub use Rattle.vyrd_base.specs.Own.Spelling.{name_at, Scope, spelled}
pub use Rattle.vyrd_base.specs.declared.own.rule.SpecificationRule.{SpecificationRule}
pub use Rattle.vyrd_base.proofs.SplitLaws.{number_of_decimal}
pub use Rattle.vyrd_own.specs.Layout.{case_of, change_of, method_of, texts, written}
pub use Rattle.vyrd_own.specs.Nodes.{earlier}
unfoldable pub use Rattle.vyrd_own.specs.Nodes.{expr_of, exprs_of}
pub use Rattle.vyrd_own_text.specs.Growth.{Adds, read_as, scope_of}
pub use Rattle.vyrd_own_text.specs.LineSpelling.{words_text}
pub use Rattle.vyrd_own_text.specs.Meaning.{change_as, last_as, took_as, two_as}
pub use Rattle.vyrd_own_text.specs.declared.expression.Read.{Read}
