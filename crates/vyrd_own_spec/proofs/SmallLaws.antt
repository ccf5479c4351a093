-- What the lines of a specification spell is within its limits.
use Rattle.vyrd_own_spec.proofs.Prelude
use Prelude.{◌≡◌, ℕ, zero, suc, ◌+◌, ◌<◌, ◌≤◌, Bool, true, false, cond, List, [], ◌∷◌, ◌++◌, Option}
use Prelude.{Some, None, Ok, refl, ◌∙◌, sym, subst, arith, length, length-append, slice_get, ◌||◌}
use Prelude.{second_true, Method, Written, written_in, same_Some, IsSmall}
use Rattle.std.proofs.Common.{Err}
use Rattle.std.specs.Prelude.{nat_le, codes}
use Rattle.std.specs.Str.{bytes_eq}
use Rattle.vyrd_base.proofs.TestLaws.{at_most_of}
use Rattle.vyrd_base.specs.Own.Lines.{Inner, naming, answering, allowing, changing, Line, remark}
use Rattle.vyrd_base.specs.Own.Lines.{constant, register, list, holds, hidden, part, shows, method}
use Rattle.vyrd_base.specs.Own.Lines.{inner, with_inner, change_last, with_line, has_any}
use Rattle.vyrd_base.specs.Own.Reading.{Taken, and_then, after, if_after, word_of}
use Rattle.vyrd_base.specs.Own.Pieces.{taken_with, ended}
use Rattle.vyrd_base.specs.Own.Names.{is_known, is_among, new_name}
use Rattle.vyrd_base.specs.Own.Outer.{constant_read, register_read, list_line_read, holds_read}
use Rattle.vyrd_base.specs.Own.Outer.{hidden_read, part_of, part_read, shows_read, outer_read}
use Rattle.vyrd_base.specs.Own.Methods.{last_in, parameters_read, method_read, naming_read}
use Rattle.vyrd_base.specs.Own.Methods.{answer_read, allow_read, inner_read}
use Rattle.vyrd_base.specs.Own.Changes.{case_line_read, if_line, within_read}
use Rattle.vyrd_base.specs.Own.Reader.{of_method, method_line_read, or_method, line_read, SoFar}
use Rattle.vyrd_base.specs.Own.Reader.{nothing_read, unfinished, ended_with, told, read_next}
use Rattle.vyrd_base.specs.Own.Reader.{read_lines}
use Rattle.vyrd_base.specs.declared.own.last.Last.{Last}
use Rattle.vyrd_base.specs.declared.own.line.SpecificationLine.{SpecificationLine}
use Rattle.vyrd_base.specs.declared.own.rule.SpecificationRule.{SpecificationRule}
use Rattle.std.proofs.lemmas.Bool.Decides.{nat_tests}

-- ---- what keeps a specification within its limits

abbrev MethodFits : Method → Type 0
MethodFits m = (length m.names ≤ 16) × (length m.lets ≤ length m.names)

abbrev MethodsFit : List Method → Type 0
MethodsFit [] = Unit {0}
MethodsFit (m ∷ methods) = MethodFits m × MethodsFit methods

record Within (w : Written) : Type 0 where
  constants : length w.constants ≤ 64
  registers : length w.registers ≤ 16
  words : w.words ≤ 16
  shown : length w.shows ≤ 4
  methods : MethodsFit w.methods

abbrev InnerFits : Method → Inner → Type 0
InnerFits m (naming name e) = length m.names < 16
InnerFits m (answering e) = Unit {0}
InnerFits m (allowing e) = Unit {0}
InnerFits m (changing c) = Unit {0}

abbrev LastFits : List Method → Inner → Type 0
LastFits [] i = Unit {0}
LastFits (m ∷ []) i = InnerFits m i
LastFits (m ∷ next ∷ methods) i = LastFits (next ∷ methods) i

abbrev LineFits : Written → Line → Type 0
LineFits w (remark text) = Unit {0}
LineFits w (constant name n) = length w.constants < 64
LineFits w (register name n) = length w.registers < 16
LineFits w (list name) = Unit {0}
LineFits w (holds n) = Unit {0}
LineFits w (hidden key most) = Unit {0}
LineFits w (part k) = k ≤ 16
LineFits w (shows key most) = length w.shows < 4
LineFits w (method name parameters) = length parameters ≤ 3
LineFits w (inner i) = LastFits w.methods i

inner_kept : (m : Method) (i : Inner) → MethodFits m → InnerFits m i → MethodFits (with_inner m i)
inner_kept m i fits more = grind (arith, fits, more, length-append)

methods_kept : (methods : List Method) (i : Inner) → MethodsFit methods → LastFits methods i
    → MethodsFit (change_last (λ m. with_inner m i) methods)
methods_kept [] i fits more = tt
methods_kept (m ∷ []) i fits more = (inner_kept m i fits.0 more, tt)
methods_kept (m ∷ next ∷ methods) i fits more =
    (fits.0, methods_kept (next ∷ methods) i fits.1 more)

one_more : (methods : List Method) (m : Method) → MethodsFit methods → MethodFits m
    → MethodsFit (methods ++ m ∷ [])
one_more [] m fits here = (here, tt)
one_more (x ∷ methods) m fits here = (fits.0, one_more methods m fits.1 here)

line_kept : (w : Written) (l : Line) → Within w → LineFits w l → Within (with_line w l)
line_kept w (remark text) is fits = is
line_kept w (constant name n) is fits =
    grind (arith, length-append w.constants (n ∷ []), is.registers, is.words, is.shown, is.methods)
line_kept w (register name n) is fits =
    grind (arith, is.constants, length-append w.registers (n ∷ []), is.words, is.shown, is.methods)
line_kept w (list name) is fits = search arith
line_kept w (holds n) is fits = search arith
line_kept w (hidden key most) is fits = search arith
line_kept w (part k) is fits = grind (arith, is.constants, is.registers, is.shown, is.methods)
line_kept w (shows key most) is fits =
    grind (
      arith,
      is.constants,
      is.registers,
      is.words,
      length-append w.shows
          ((key, most) ∷ []),
      is.methods,
    )
line_kept w (method name parameters) is fits = search (one_more, arith)
line_kept w (inner i) is fits = search (methods_kept, arith)

-- ---- what is read fits

abbrev FitsIf : {A : Type 0} → (A → Type 0) → Taken A → Type 0
FitsIf P (Ok x) = P x
FitsIf P (Err stop) = Unit {0}

after_fits : {A : Type 0} (P : A → Type 0) (o : Option (List ℕ)) (there : List ℕ → A)
    (otherwise : A)
    → ((rest : List ℕ) → P (there rest)) → P otherwise → P (if_after o there otherwise)
after_fits P o there otherwise a b = search arith

cond_fits : {A : Type 0} (P : A → Type 0) (b : Bool) (x y : A) → (b ≡ true → P x)
    → (b ≡ false → P y) → P (cond b x y)
cond_fits P true x y a b = a refl
cond_fits P false x y a b = b refl

with_fits : {A B : Type 0} (P : A → Type 0) (Q : B → Type 0) (make : A → B) (r : Taken A)
    → FitsIf P r
    → ((x : A) → P x → Q (make x)) → FitsIf Q (taken_with make r)
with_fits P Q make r is each = search arith

any_fits : {A B : Type 0} (Q : B → Type 0) (make : A → B) (r : Taken A) → ((x : A) → Q (make x))
    → FitsIf Q (taken_with make r)
any_fits Q make r each = search arith

then_fits : {A B : Type 0} (Q : B → Type 0) (next : A → List ℕ → Taken B) (r : Taken (A × List ℕ))
    → ((x : A) (rest : List ℕ) → FitsIf Q (next x rest)) → FitsIf Q (and_then next r)
then_fits Q next r each = search arith

ended_fits : {A : Type 0} (Q : A → Type 0) (x : A) (text : List ℕ) → Q x → FitsIf Q (ended x text)
ended_fits Q x text is = search arith

few : (n most : ℕ) → nat_le most n ≡ false → n < most
few n most e = grind (arith, nat_tests)

abbrev MaybeFits : {A : Type 0} → (A → Type 0) → Option (Taken A) → Type 0
MaybeFits P (Some r) = FitsIf P r
MaybeFits P None = Unit {0}

module _ (w : Written) where
  constant_fits : (text : List ℕ) → FitsIf (LineFits w) (constant_read w text)
  constant_fits text = search (cond_fits, any_fits, word_of, few, arith)

  register_fits : (text : List ℕ) → FitsIf (LineFits w) (register_read w text)
  register_fits text = search (cond_fits, has_any, any_fits, word_of, few, arith)

  list_fits : (text : List ℕ) → FitsIf (LineFits w) (list_line_read w text)
  list_fits text = search (cond_fits, has_any, then_fits, ended, word_of, ended_fits, arith)

  holds_fits : (below : Last) (text : List ℕ) → FitsIf (LineFits w) (holds_read below text)
  holds_fits below text = search (cond_fits, any_fits, arith)

  hidden_fits : (text : List ℕ) → FitsIf (LineFits w) (hidden_read w text)
  hidden_fits text = search (cond_fits, has_any, any_fits, arith)

  part_of_fits : (text : List ℕ) (n : Option ℕ) → FitsIf (LineFits w) (part_of text n)
  part_of_fits text n = search (cond_fits, at_most_of, second_true, arith)

  part_fits : (text : List ℕ) → FitsIf (LineFits w) (part_read w text)
  part_fits text = search (cond_fits, has_any, part_of_fits, arith)

  shows_fits : (below : Last) (text : List ℕ) → FitsIf (LineFits w) (shows_read w below text)
  shows_fits below text = search (cond_fits, any_fits, few, arith)

  outer_fits : (below : Last) (line : List ℕ) → MaybeFits (LineFits w) (outer_read w below line)
  unfolding outer_read
  outer_fits below line = after_fits (MaybeFits _) (after _ _) _ _ constant_fits
      (after_fits (MaybeFits _) (after _ _) _ _ register_fits
      (after_fits (MaybeFits _) (after _ _) _ _ list_fits
      (after_fits (MaybeFits (LineFits w)) (after (codes "  holds ") line) _ _ (holds_fits below)
      (after_fits (MaybeFits (LineFits w)) (after (codes "hidden ") line) _ _ hidden_fits
      (after_fits (MaybeFits (LineFits w)) (after (codes "part ") line) _ _ part_fits
      (after_fits (MaybeFits (LineFits w)) (after (codes "  shows ") line) _ _
      (shows_fits below) tt))))))

  parameters_fit : (left : ℕ) (names : List (List ℕ)) (text : List ℕ)
      → FitsIf (λ found. length found ≤ length names + left) (parameters_read w left names text)
  parameters_fit left names [] = omega arith
  parameters_fit zero names (b ∷ text) = tt
  parameters_fit (suc left) names (b ∷ text) = after_fits (FitsIf _) (after _ _) _ _
      (λ next. then_fits (λ found. length _ ≤ length _ + suc _)
      (λ name rest. parameters_read w _ _ _)
      (new_name (is_known w _ || is_among (word_of next) names) next)
      (λ name rest. weaker name rest (parameters_read w _ _ _)
      (parameters_fit left (names ++ name ∷ []) rest))) tt
    where
      weaker : (name rest : List ℕ) (r : Taken (List (List ℕ)))
          → FitsIf (λ found. length found ≤ length (names ++ name ∷ []) + left) r
          → FitsIf (λ found. length found ≤ length names + suc left) r
      weaker name rest (Ok found) is = omega (arith, is, length-append names (name ∷ []))
      weaker name rest (Err stop) is = tt

  method_fits : (text : List ℕ) → FitsIf (LineFits w) (method_read w text)
  method_fits text = search (cond_fits, with_fits, then_fits, word_of, parameters_fit, arith)

  naming_fits : (m : Method) (text : List ℕ) → FitsIf (InnerFits m) (naming_read w m text)
  naming_fits m text = search (cond_fits, any_fits, few, arith)

  answer_fits : (m : Method) (text : List ℕ) → FitsIf (InnerFits m) (answer_read w m text)
  answer_fits m text = search (cond_fits, any_fits, arith)

  allow_fits : (m : Method) (text : List ℕ) → FitsIf (InnerFits m) (allow_read w m text)
  allow_fits m text = search (cond_fits, any_fits, arith)

  case_fits : (m : Method) (text : List ℕ) → FitsIf (InnerFits m) (case_line_read w m text)
  case_fits m text = search (cond_fits, has_any, last_in, any_fits, arith)

  inner_fits : (m : Method) (line : List ℕ) → MaybeFits (InnerFits m) (inner_read w m line)
  unfolding inner_read
  inner_fits m line = search (after_fits, after, naming_fits, answer_fits, allow_fits, arith)

  if_line_fits : (m : Method) (line : List ℕ) (o : Option (Taken Inner)) → MaybeFits (InnerFits m) o
      → FitsIf (InnerFits m) (if_line line o)
  if_line_fits m line o is = search arith

  within_fits : (m : Method) (line : List ℕ) → FitsIf (InnerFits m) (within_read w m line)
  unfolding within_read
  within_fits m line = search (after_fits, after, case_fits, if_line_fits, inner_fits, arith)

last_of : (methods : List Method) (m : Method) (i : Inner) → last_in methods ≡ Some m
    → InnerFits m i → LastFits methods i
last_of [] m i e fits = tt
last_of (x ∷ []) m i e fits = subst (λ y. InnerFits y i) (same_Some m x (sym e)) fits
last_of (x ∷ next ∷ methods) m i e fits = last_of (next ∷ methods) m i (shorter ∙ e) fits
  where
    shorter : last_in (next ∷ methods) ≡ last_in (x ∷ next ∷ methods)
    shorter = grind arith

module _ (w : Written) where
  method_line_fits : (line : List ℕ) (o : Option Method) → last_in w.methods ≡ o
      → FitsIf (LineFits w) (of_method w line o)
  method_line_fits line o e = search (with_fits, inner, within_fits, last_of, arith)

  last_line_fits : (line : List ℕ) → FitsIf (LineFits w) (method_line_read w line)
  unfolding method_line_read
  last_line_fits line = method_line_fits line (last_in w.methods) refl

  or_fits : (line : List ℕ) (o : Option (Taken Line)) → MaybeFits (LineFits w) o
      → FitsIf (LineFits w) (or_method w line o)
  or_fits line o is = search (after_fits, after, method_fits, last_line_fits, arith)

  line_fits : (below : Last) (line : List ℕ) → FitsIf (LineFits w) (line_read w below line)
  unfolding line_read
  line_fits below line = search (cond_fits, or_fits, outer_fits, arith)

told_kept : (s : SoFar) (line : List ℕ) (r : Taken Line) → Within s.specification
    → FitsIf (LineFits s.specification) r
    → Within (told s line r).1.specification
told_kept s line (Ok says) is fits = line_kept s.specification says is fits
told_kept s line (Err stop) is fits = is

ended_kept : (s : SoFar) (o : Option SpecificationRule) → Within s.specification
    → Within (ended_with s o).1.specification
ended_kept s o is = search arith

next_kept : (s : SoFar) (line : List ℕ) → Within s.specification
    → Within (read_next s line).1.specification
unfolding read_next
next_kept s line is = cond_fits (λ (t : SpecificationLine × SoFar). Within t.1.specification)
    (bytes_eq line (codes "log")) _ _ (λ _. ended_kept s (unfinished s.specification.methods) is)
    (λ _. cond_fits (λ (t : SpecificationLine × SoFar). Within t.1.specification)
    (nat_le 1000 s.lines) _ _ (λ _. is)
    (λ _. told_kept s line (line_read _ _ _) is (line_fits _ _ _)))

lines_kept : (s : SoFar) (lines : List (List ℕ)) → Within s.specification
    → Within (read_lines s lines).specification
lines_kept s [] is = is
lines_kept s (line ∷ lines) is = lines_kept (read_next s line).1 lines (next_kept s line is)

lets_at : (methods : List Method) (i : ℕ) (m : Method) → MethodsFit methods → slice_get methods i
    ≡ Some m → length m.lets ≤ 16
lets_at [] i m fits e = cc
lets_at (x ∷ methods) zero m fits e = grind (arith, same_Some x m e, fits.0.0, fits.0.1)
lets_at (x ∷ methods) (suc i) m fits e = lets_at methods i m fits.1 e

-- the limits of every specification that lines spell
pub small_written : (lines : List (List ℕ)) → IsSmall (written_in lines)
small_written lines =
    let is : Within (written_in lines) = lines_kept nothing_read lines (record {
      constants = omega arith;
      registers = omega arith;
      words = omega arith;
      shown = omega arith;
      methods = tt;
    }) in
    record {
      constants = is.constants;
      registers = is.registers;
      words = is.words;
      shows = is.shown;
      lets = λ i m e. lets_at (written_in lines).methods i m is.methods e;
    }
