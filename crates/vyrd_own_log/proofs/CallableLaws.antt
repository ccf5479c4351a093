-- Entries can call the methods of each specification that is read.
use Rattle.vyrd_own_log.proofs.Prelude
use Prelude.{◌≡◌, ℕ, suc, zero, ◌+◌, ◌<◌, ◌≤◌, Bool, true, false, cond, ◌&&◌, List, [], ◌∷◌, ◌++◌}
use Prelude.{length, Option, Some, None, refl, ap, ◌∙◌, subst, arith, length-append, ◌==◌, ◌||◌}
use Prelude.{not, nat_le, codes, Ok, Err, list_all, Taken, Method, Written, Line, line_read, SoFar}
use Prelude.{unfinished, ended_with, read_next, lacks, is_callable, are_callable}
use Rattle.std.proofs.lemmas.List.Folds.{list_all-append}
use Rattle.std.proofs.lemmas.Bool.Decides.{nat_tests}
use Rattle.vyrd_base.specs.declared.own.last.Last.{Last}
use Rattle.vyrd_base.specs.Own.Expressions.{Expr}
use Rattle.vyrd_base.specs.Own.Reading.{Found, is_word_byte, word_of, after_word, number_in}
use Rattle.vyrd_base.specs.Own.Lines as lines
use Rattle.vyrd_base.specs.Own.Lines.{Inner, has_any, with_inner, change_last, with_line}
use Rattle.vyrd_base.specs.Own.Names.{is_name, is_known, is_among, new_name}
use Rattle.vyrd_base.specs.Own.Pieces.{taken_with, last_number, named_number, two_numbers, two_read}
use Rattle.vyrd_base.specs.Own.Outer.{is_list, is_part, is_past_constants, part_of, part_scope}
use Rattle.vyrd_base.specs.Own.Outer.{outer_read}
use Rattle.vyrd_base.specs.Own.Methods.{last_in, is_unfinished, is_method, parameters_read}
use Rattle.vyrd_base.specs.Own.Methods.{named_method, method_read}
use Rattle.vyrd_base.specs.Own.Reader.{method_line_read}
use Rattle.vyrd_base.specs.declared.own.rule.SpecificationRule.TheVariants as refusals
use Rattle.vyrd_base.proofs.TestLaws.{is_at_most, above_of, both_true, first_true, second_true}
use Rattle.vyrd_own_text.proofs.PieceLaws.{after_or, after_inv, taken_inv, then_inv, past, kept}
use Rattle.vyrd_own_text.proofs.PieceLaws.{ended_is}

some_is : (x t : Taken Line) (r : Line) → ◌≡◌ {A = Option (Taken Line)} (Some x) (Some t) → t ≡ Ok r
    → x ≡ Ok r
some_is x t r k e = cc

not_space : (b : ℕ) → is_word_byte b ≡ true → not (b == 32) ≡ true
not_space b e = grind (arith, nat_tests)

not_line_feed : (b : ℕ) → is_word_byte b ≡ true → not (b == 10) ≡ true
not_line_feed b e = grind (arith, nat_tests)

-- a word has neither
word_lacks : (c : ℕ) → ((b : ℕ) → is_word_byte b ≡ true → not (b == c) ≡ true) → (text : List ℕ)
    → lacks c (word_of text) ≡ true
word_lacks c other [] = refl
word_lacks c other (b ∷ text) = by_test (word_lacks c other text) (is_word_byte b) refl
  where
    by_test : lacks c (word_of text) ≡ true → (t : Bool) → is_word_byte b ≡ t
        → lacks c (cond t (b ∷ word_of text) []) ≡ true
    by_test more true e = both_true _ _ (other b e) more
    by_test more false e = refl

-- a new name
pub record IsShortName (name : List ℕ) : Type 0 where
  pub short : nat_le (length name) 32 ≡ true
  pub one_word : lacks 32 name ≡ true
  pub one_line : lacks 10 name ≡ true

new_name_short : (taken : Bool) (text name rest : List ℕ) → new_name taken text ≡ Ok (name, rest)
    → IsShortName name
unfolding is_name
new_name_short taken text name rest h = by_name (is_name (word_of text)) refl h
  where
    by_taken : is_name (word_of text) ≡ true → (t : Bool)
        → ◌≡◌ {A = Found (List ℕ)}
        (cond t (Err (refusals.NameTaken, text)) (Ok (word_of text, after_word text)))
        (Ok (name, rest)) → IsShortName name
    by_taken e true k = cc
    by_taken e false k =
        search (word_of, second_true, first_true, word_lacks, not_space, not_line_feed, arith)

    by_name : (t : Bool) → is_name (word_of text) ≡ t
        → ◌≡◌ {A = Found (List ℕ)}
        (cond t (cond taken (Err (refusals.NameTaken, text)) (Ok (word_of text, after_word text)))
        (Err (refusals.BadLine, text)))
        (Ok (name, rest))
        → IsShortName name
    by_name true e k = by_taken e taken k
    by_name false e k = cc

-- as many parameters as may come
few_parameters : (w : Written) (left : ℕ) (names : List (List ℕ)) (text : List ℕ)
    (all : List (List ℕ))
    → parameters_read w left names text ≡ Ok all → length all ≤ length names + left
few_parameters w left names [] all h = grind arith
few_parameters w zero names (b ∷ text) all h = cc
few_parameters w (suc left) names (b ∷ text) all h =
    let a = after_inv _ _ _ _ _ h in
    let taken = is_known w (word_of a.0) || is_among (word_of a.0) names in
    let i = then_inv _ (new_name _ a.0) all a.2 in
    let more = few_parameters w left (names ++ i.0 ∷ []) i.1 all i.3 in
    omega (arith, more, length-append names (i.0 ∷ []))

-- what is known of a line that begins a method
pub record IsMethodLine (w : Written) (name : List ℕ) (parameters : List (List ℕ)) : Type 0 where
  pub room : length w.methods < 64
  pub called : IsShortName name
  pub few : length parameters ≤ 3

module _ (w : Written) (name : List ℕ) (parameters : List (List ℕ)) where
  -- other lines begin none
  none_named : (make : List ℕ → ℕ → Line) (t : Taken (List ℕ × ℕ))
      → ((a : List ℕ) (n : ℕ) → make a n ≡ lines.method name parameters → ⊥)
      → taken_with (λ (r : List ℕ × ℕ). make r.0 r.1) t ≡ Ok (lines.method name parameters) → ⊥
  none_named make t none k = search (taken_inv, arith)

  part_none : (text : List ℕ) (o : Option ℕ) → part_of text o ≡ Ok (lines.method name parameters)
      → ⊥
  part_none text o k = search (kept, arith)

  outer_none : (below : Last) (line : List ℕ) (t : Taken Line) → outer_read w below line ≡ Some t
      → t ≡ Ok (lines.method name parameters) → ⊥
  unfolding outer_read
  outer_none below line t h e =
      let l = lines.method name parameters in
      after_or (codes "let ") line _ _ _ _
      (λ rest a k. none_named lines.constant (named_number (is_known w (word_of rest)) rest)
      (λ x n f. cc)
      (past (nat_le 64 (length w.constants)) _ _ l
      (past (is_past_constants w) _ _ l (some_is _ t l k e))))
      (after_or (codes "register ") line _ _ _ _
      (λ rest a k. none_named lines.register (named_number (is_known w (word_of rest)) rest)
      (λ x n f. cc)
      (past (nat_le 16 (length w.registers)) _ _ l
      (past (has_any w.methods) _ _ l (some_is _ t l k e))))
      (after_or (codes "list ") line _ _ _ _ (λ rest a k.
      let i = then_inv _ (new_name (is_known w (word_of rest)) rest) l
      (past (nat_le 16 (length w.lists)) _ _ l
      (past (has_any w.methods) _ _ l (some_is _ t l k e))) in
      let n = ended_is (lines.list i.0) i.1 l i.3 in
      let same : lines.list i.0 ≡ lines.method name parameters = n.1 in
      cc)
      (after_or (codes "  holds ") line _ _ _ _ (λ rest a k.
      let n = taken_inv lines.holds (last_number rest) l
      (kept (is_list below) _ _ l (some_is _ t l k e)) in
      let same : lines.holds n.0 ≡ lines.method name parameters = n.2 in
      cc)
      (after_or (codes "hidden ") line _ _ _ _ (λ rest a k.
      let n = taken_inv (λ (r : ℕ × ℕ). lines.hidden r.0 r.1) (two_numbers rest) l
      (past (has_any w.methods) _ _ l (some_is _ t l k e)) in
      let same : lines.hidden n.0.0 n.0.1 ≡ lines.method name parameters = n.2 in
      cc)
      (after_or (codes "part ") line _ _ _ _
      (λ rest a k. part_none rest (number_in rest)
      (past (not (w.words == 0) || has_any w.methods) _ _ l (some_is _ t l k e)))
      (after_or (codes "  shows ") line _ _ _ _ (λ rest a k.
      let n = taken_inv (λ (r : Expr × Expr). lines.shows r.0 r.1)
      (two_read (part_scope w) (codes " ") rest) l
      (past (nat_le 4 (length w.shows)) _ _ l
      (past (not (is_part below)) _ _ l (some_is _ t l k e))) in
      let same : lines.shows n.0.0 n.0.1 ≡ lines.method name parameters = n.2 in
      cc)
      (λ k. cc))))))) h

  inner_none : (line : List ℕ) → method_line_read w line ≡ Ok (lines.method name parameters) → ⊥
  unfolding method_line_read
  inner_none line h = search (last_in, taken_inv, arith)

  named : (text : List ℕ) → method_read w text ≡ Ok (lines.method name parameters)
      → IsMethodLine w name parameters
  named text h =
      let l = lines.method name parameters in
      let t = past (nat_le 64 (length w.methods)) _ _ l (past (is_unfinished w.methods) _ _ l h) in
      let n = taken_inv (λ (r : List ℕ × List (List ℕ)). lines.method r.0 r.1) (named_method w text)
      l t in
      let first : n.0.0 ≡ name = let same : lines.method n.0.0 n.0.1
      ≡ lines.method name parameters = n.2 in cc in
      let second : n.0.1 ≡ parameters = let same : lines.method n.0.0 n.0.1
      ≡ lines.method name parameters = n.2 in cc in
      let taken = is_method (word_of text) w.methods in
      let i = then_inv _ (new_name taken text) n.0 n.1 in
      let p = taken_inv (λ (names : List (List ℕ)). (i.0, names)) (parameters_read w 3 [] i.1) n.0
      i.3 in
      let few = few_parameters w 3 [] i.1 p.0 p.1 in
      let names : p.0 ≡ n.0.1 = ap (λ (x : List ℕ × List (List ℕ)). x.1) p.2 in
      let called : i.0 ≡ n.0.0 = ap (λ (x : List ℕ × List (List ℕ)). x.0) p.2 in
      record {
        room = room (nat_le 64 (length w.methods)) refl (past (is_unfinished w.methods) _ _ l h);
        called = subst IsShortName (called ∙ first) (new_name_short taken text i.0 i.1 i.2);
        few = let same : length p.0 ≡ length parameters = ap length (names ∙ second) in
            omega (arith, few, same);
      }
    where
      room : (b : Bool) → nat_le 64 (length w.methods) ≡ b
          → cond b (Err (refusals.TooMany, text))
          (taken_with (λ (r : List ℕ × List (List ℕ)). lines.method r.0 r.1) (named_method w text))
          ≡ Ok (lines.method name parameters) → length w.methods < 64
      room true e k = cc
      room false e k = above_of 64 (length w.methods) e

  pub method_line : (below : Last) (line : List ℕ) → line_read w below line
      ≡ Ok (lines.method name parameters) → IsMethodLine w name parameters
  unfolding line_read
  method_line below line h = search (past, outer_none, after_or, named, inner_none, arith)

-- a line of a method changes nothing that a call looks at
inner_callable : (m : Method) (i : Inner) → is_callable (with_inner m i) ≡ is_callable m
inner_callable m i = grind arith

last_length : (change : Method → Method) (methods : List Method)
    → length (change_last change methods) ≡ length methods
last_length change [] = refl
last_length change (m ∷ []) = refl
last_length change (m ∷ next ∷ methods) = ap suc (last_length change (next ∷ methods))

last_callable : (i : Inner) (methods : List Method)
    → list_all is_callable (change_last (λ m. with_inner m i) methods)
    ≡ list_all is_callable methods
last_callable i [] = refl
last_callable i (m ∷ []) = ap (λ b. b && true) (inner_callable m i)
last_callable i (m ∷ next ∷ methods) = cc (last_callable i (next ∷ methods))

-- the methods with one more line
line_callable : (w : Written) (below : Last) (line : List ℕ) (says : Line) → line_read w below line
    ≡ Ok says
    → are_callable w.methods ≡ true → are_callable (with_line w says).methods ≡ true
line_callable w below line (lines.remark text) h all = all
line_callable w below line (lines.constant name n) h all = all
line_callable w below line (lines.register name n) h all = all
line_callable w below line (lines.list name) h all = all
line_callable w below line (lines.holds n) h all = all
line_callable w below line (lines.hidden key much) h all = all
line_callable w below line (lines.part k) h all = all
line_callable w below line (lines.shows key much) h all = all
line_callable w below line (lines.inner i) h all = search (last_length, last_callable, arith)
line_callable w below line (lines.method name parameters) h all =
    let is = method_line w _ _ _ _ h in
    let m : Method = record {
      name = name;
      names = parameters;
      arity = length parameters;
      lets = [];
      answer = None;
      cases = [];
    } in
    both_true _ _
    (is_at_most (length _) 64
    (let room = is.room in omega (arith, room, length-append w.methods (m ∷ []))))
    (list_all-append is_callable w.methods (m ∷ []) ∙ both_true _ _ (second_true (nat_le _ _) _ all)
    (both_true _ _
    (both_true _ _
    (both_true _ _ (both_true _ _ (is_at_most (length parameters) 3 is.few) is.called.short)
    is.called.one_word) is.called.one_line) refl))

-- and so those of what is read next
pub next_callable : (s : SoFar) (line : List ℕ) → are_callable s.specification.methods ≡ true
    → are_callable (read_next s line).1.specification.methods ≡ true
unfolding read_next
next_callable s line all = search (unfinished, ended_with, line_callable, arith)
