-- No line with more than 200 bytes spells anything.
use Rattle.vyrd_own_log.proofs.Prelude
use Prelude.{◌≡◌, ℕ, suc, zero, ◌<◌, ◌≤◌, ◌^◌, Bool, true, false, cond, ◌&&◌, List, [], ◌∷◌, map}
use Prelude.{take, length, Option, Some, None, refl, ap, sym, ◌∙◌, arith, length-append, nat_lt}
use Prelude.{nat_le, codes, decimal, drop, Err, bytes_eq, bytes_eq-Decides, Header, Kind, Call}
use Prelude.{Return, Write, Commit, BlockOpen, BlockClose, BlockCommit, Entry, SpecificationLine}
use Prelude.{are_padded, Written, own_name, own_fields, is_own_kind, own_entry_in, is_note}
use Prelude.{own_header_in, first_true, second_true, below_of, is_below, isnt_below, IsOf}
use Rattle.std.specs.List.{join_with_byte}
use Rattle.vyrd_base.specs.declared.own.line.SpecificationLine.TheVariants as told
use Rattle.vyrd_base.specs.declared.own.rule.SpecificationRule.TheVariants.{TooMany, TooLong}
use Rattle.vyrd_base.specs.Own.Reader as reader
use Rattle.vyrd_base.specs.Own.Reader.{column, SoFar, line_read, read_next}
use Rattle.vyrd_base.proofs.LongLines.{spaced_length, short_number, short_value}
use Rattle.vyrd_own_log.proofs.NameLaws.{named_is}
use Rattle.vyrd_own_log.proofs.HeaderLaws.{header_sound, few_words, few_callers}
use Rattle.vyrd_own_log.proofs.EntryLaws.{AllCallable, entry_sound, below_most, called_fields}
use Rattle.vyrd_own_log.proofs.EntryLaws.{called_test}

length-join : (c : ℕ) (fields : List (List ℕ)) → length (join_with_byte c fields)
    ≤ spaced_length fields
length-join c [] = omega arith
length-join c (x ∷ []) = omega arith
length-join c (x ∷ y ∷ fields) =
    grind (arith, length-append x (c ∷ join_with_byte c (y ∷ fields)), length-join c (y ∷ fields))

-- fewer arguments are no longer
fewer : (n : ℕ) (numbers : List ℕ) → spaced_length (map decimal (take n numbers))
    ≤ spaced_length (map decimal numbers)
fewer zero numbers = omega arith
fewer (suc n) [] = omega arith
fewer (suc n) (x ∷ numbers) = grind (arith, fewer n numbers)

short_32 : (n : ℕ) → nat_lt n (2 ^ 32) ≡ true → length (decimal n) ≤ 10
short_32 n e = short_number n (below_of n (2 ^ 32) e)

-- the fields after the caller have at most 71 bytes, with their spaces
short_kind : (w : Written) (kind : Kind) → AllCallable w → is_own_kind w kind ≡ true → IsOf w kind
    → spaced_length (own_fields w kind) ≤ 71
short_kind w (Call method args) all e of =
    let m = of.named in
    let n = named_is 0 w.methods (own_name w m.number) m all of.found in
    let ranged = sym (called_test w all method of args) ∙ e in
    let name : length (own_name w m.number) ≤ 32 = n.short in
    let a = short_32 args.a
    (second_true (are_padded m.arity args) _ (first_true _ _ (first_true _ _ ranged))) in
    let b = short_32 args.b (second_true (are_padded m.arity args && nat_lt args.a (2 ^ 32)) _
    (first_true _ _ ranged)) in
    let c = short_32 args.c
    (second_true (are_padded m.arity args && nat_lt args.a (2 ^ 32) && nat_lt args.b (2 ^ 32)) _
    ranged) in
    let few = fewer m.arity (args.a ∷ args.b ∷ args.c ∷ []) in
    let fields = ap spaced_length (called_fields w all method of args) in
    omega (arith, fields, name, few, a, b, c)
short_kind w (Return reply) all e of = omega (arith, short_value reply (below_most reply e))
short_kind w (Write word value) all e of =
    search (short_32, first_true, short_value, below_of, second_true, arith)
short_kind w Commit all e of = omega arith
short_kind w BlockOpen all e of = omega arith
short_kind w BlockClose all e of = omega arith
short_kind w BlockCommit all e of = omega arith

module _ (line : List ℕ) (long : 200 < length line) where
  pub long_entry : (w : Written) → AllCallable w → own_entry_in w line ≡ None
  long_entry w all = by_answer (own_entry_in w line) refl
    where
      by_answer : (o : Option Entry) → own_entry_in w line ≡ o → o ≡ None
      by_answer None e = refl
      by_answer (Some x) e =
          let is = entry_sound w line x all e in
          let caller = short_32 x.caller (first_true _ _ is.ranged) in
          let kind = short_kind w x.kind all (second_true (nat_lt x.caller (2 ^ 32)) _ is.ranged)
          is.of in
          absurd (omega (
            arith,
            ap length is.spelled,
            length-join 32
                (decimal x.caller ∷ own_fields w x.kind),
            caller,
            kind,
          ))

  pub long_header : own_header_in line ≡ None
  long_header = by_answer (own_header_in line) refl
    where
      by_answer : (o : Option Header) → own_header_in line ≡ o → o ≡ None
      by_answer None e = refl
      by_answer (Some h) e =
          let is = header_sound line h e in
          let words = short_number is.words (few_words is.words is.callers is.sized) in
          let callers = short_number is.callers (few_callers is.words is.callers is.sized) in
          absurd (omega (
            arith,
            ap length is.spelled,
            length-append (decimal is.words)
                (32 ∷ decimal is.callers),
            words,
            callers,
          ))

  pub long_isnt : (word : List ℕ) → length word ≤ 200 → bytes_eq line word ≡ false
  long_isnt word short = by_test (bytes_eq line word) refl
    where
      by_test : (b : Bool) → bytes_eq line word ≡ b → b ≡ false
      by_test false e = refl
      by_test true e = absurd (omega (arith, ap length ((bytes_eq-Decides line word).0 e), short))

  -- a longer line of the specification is refused, and leaves what was read
  pub long_next : (s : SoFar)
      → read_next s line
      ≡ (
        told.Refused (cond (nat_le 1000 s.lines) TooMany TooLong)
            (cond (nat_le 1000 s.lines) 1 (column line (drop 200 line))),
        s,
      )
  unfolding read_next line_read
  long_next s = ap (λ b. cond b (reader.ended_with s (reader.unfinished s.specification.methods))
      (cond (nat_le 1000 s.lines) (told.Refused TooMany 1, s)
      (reader.told s line (line_read s.specification s.below line))))
      (long_isnt (codes "log") (omega arith))
      ∙ ap (λ t. cond (nat_le 1000 s.lines) (told.Refused TooMany 1, s) (reader.told s line t))
      too_long ∙ by_many (nat_le 1000 s.lines)
    where
      too_long : line_read s.specification s.below line ≡ Err (TooLong, drop 200 line)
      too_long = cc (is_below 200 (length line) long)

      by_many : (b : Bool) → ◌≡◌ {A = SpecificationLine × SoFar}
          (cond b (told.Refused TooMany 1, s) (reader.told s line (Err (TooLong, drop 200 line))))
          (told.Refused (cond b TooMany TooLong) (cond b 1 (column line (drop 200 line))), s)
      by_many true = refl
      by_many false = refl

pub long_note : (line : List ℕ) → 200 < length line → is_note line ≡ false
long_note line long = grind (arith, long, isnt_below)
