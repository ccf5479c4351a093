-- What is read as a line is its one spelling.
use Rattle.vyrd_own_text.proofs.Prelude
use Prelude.{◌≡◌, ℕ, Bool, true, false, cond, List, ◌++◌, length, Option, Some, None, refl, ap, ◌∙◌}
use Prelude.{sym, append_assoc, codes, decimal, Ok, nat_lt, ◌||◌, ◌&&◌, ◌==◌, append-nil, bytes_eq}
use Prelude.{bytes_eq-Decides, Expr, Scope, name_at, spelled, Taken, and_then, word_of, number_in}
use Prelude.{Change, Method, Written, Inner, is_known, new_name, taken_with, last_number}
use Prelude.{named_number, two_numbers, last_read, two_read, last_name, named_value, ended, last_in}
use Prelude.{named_expr, named_method, inner_read, change_read, within_read, words_text}
use Rattle.std.specs.Prelude.{not, nat_le}
use Rattle.vyrd_base.specs.declared.own.last.Last.{Last}
use Rattle.vyrd_base.specs.Own.Programs as programs
use Rattle.vyrd_base.specs.Own.Lines as lines
use Rattle.vyrd_base.specs.Own.Lines.{Line, has_any}
use Rattle.vyrd_base.specs.Own.Outer.{is_list, is_part, is_past_constants, part_of, part_scope}
use Rattle.vyrd_base.specs.Own.Outer.{outer_read}
use Rattle.vyrd_base.specs.Own.Methods.{is_closed, is_unfinished, method_read}
use Rattle.vyrd_base.specs.Own.Changes.{plain_read, case_line_read, changes_in, if_line}
use Rattle.vyrd_base.specs.Own.Reader.{is_remark, of_method, method_line_read, or_method, line_read}
use Rattle.vyrd_own_text.specs.LineSpelling.{change_text, in_case, in_method, inner_text, last_text}
use Rattle.vyrd_own_text.specs.LineSpelling.{line_text}
use Rattle.vyrd_own_text.proofs.PieceLaws.{after_or, taken_inv, then_inv, past, kept, ended_is}
use Rattle.vyrd_own_text.proofs.PieceLaws.{number_decimal, last_number_is, new_name_is}
use Rattle.vyrd_own_text.proofs.PieceLaws.{named_number_is, two_numbers_is, last_read_is}
use Rattle.vyrd_own_text.proofs.PieceLaws.{two_read_is, last_name_is, named_value_is, named_expr_is}
use Rattle.vyrd_own_text.proofs.PieceLaws.{named_method_is}

four : (a b c d : List ℕ) → a ++ ((b ++ c) ++ d) ≡ ((a ++ b) ++ c) ++ d
four a b c d = simp append_assoc

three : (a b c : List ℕ) → a ++ (b ++ c) ≡ (a ++ b) ++ c
three a b c = simp append_assoc

ok_is : {A : Type 0} (x r : A) → ◌≡◌ {A = Taken A} (Ok x) (Ok r) → x ≡ r
ok_is x r k = cc

some_is : {A : Type 0} (x t : Taken A) (r : A) → ◌≡◌ {A = Option (Taken A)} (Some x) (Some t)
    → t ≡ Ok r → x ≡ Ok r
some_is x t r k e = cc

module _ (registers : List (List ℕ)) (s : Scope) where
  -- a change that names a list; two expressions; a name and an expression
  of_name : (word : List ℕ) (make : ℕ → Change) (text rest : List ℕ) (c : Change)
      → ((i : ℕ) → change_text registers s (make i) ≡ word ++ name_at s.lists i)
      → text ≡ word ++ rest → taken_with make (last_name s.lists rest) ≡ Ok c
      → text ≡ change_text registers s c
  of_name word make text rest c spells a k =
      let n = taken_inv make (last_name s.lists rest) c k in
      a ∙ ap (λ x. word ++ x) (last_name_is s.lists rest n.0 n.1) ∙ sym (spells n.0)
      ∙ ap (change_text registers s) n.2

  of_two : (word middle : List ℕ) (make : Expr → Expr → Change) (text rest : List ℕ) (c : Change)
      → ((x y : Expr) → change_text registers s (make x y) ≡ ((word ++ spelled s x) ++ middle)
      ++ spelled s y)
      → text ≡ word ++ rest → taken_with (λ (r : Expr × Expr). make r.0 r.1)
      (two_read s middle rest) ≡ Ok c → text ≡ change_text registers s c
  of_two word middle make text rest c spells a k =
      let n = taken_inv (λ (r : Expr × Expr). make r.0 r.1) (two_read s middle rest) c k in
      a ∙ ap (λ x. word ++ x) (two_read_is s middle rest n.0 n.1)
      ∙ four word (spelled s n.0.0) middle (spelled s n.0.1)
      ∙ sym (spells n.0.0 n.0.1) ∙ ap (change_text registers s) n.2

  of_value : (word : List ℕ) (names : List (List ℕ)) (make : ℕ → Expr → Change) (text rest : List ℕ)
      (c : Change)
      → ((i : ℕ) (x : Expr) → change_text registers s (make i x)
      ≡ ((word ++ name_at names i) ++ codes " ") ++ spelled s x)
      → text ≡ word ++ rest → taken_with (λ (r : ℕ × Expr). make r.0 r.1) (named_value s names rest)
      ≡ Ok c → text ≡ change_text registers s c
  of_value word names make text rest c spells a k =
      let n = taken_inv (λ (r : ℕ × Expr). make r.0 r.1) (named_value s names rest) c k in
      a ∙ ap (λ x. word ++ x) (named_value_is s names rest n.0 n.1)
      ∙ four word (name_at names n.0.0) (codes " ") (spelled s n.0.1)
      ∙ sym (spells n.0.0 n.0.1) ∙ ap (change_text registers s) n.2

  plain_is : (text : List ℕ) (c : Change) → plain_read s.lists text ≡ Ok c
      → text ≡ change_text registers s c
  unfolding plain_read
  plain_is text c h =
      after_or (codes "drop first ") text _ _ _ _
      (λ rest a k. of_name (codes "drop first ") programs.drop_first text rest c (λ i. refl) a k)
      (after_or (codes "drop last ") text _ _ _ _
      (λ rest a k. of_name (codes "drop last ") programs.drop_last text rest c (λ i. refl) a k)
      (after_or (codes "clear ") text _ _ _ _
      (λ rest a k. of_name (codes "clear ") programs.clear text rest c (λ i. refl) a k)
      (λ k. cc))) h

  change_is : (text : List ℕ) (c : Change) → change_read registers s text ≡ Ok c
      → text ≡ change_text registers s c
  unfolding change_read
  change_is text c h =
      after_or (codes "set [") text _ _ _ _
      (λ rest a k. of_two (codes "set [") (codes "] ") programs.of_shown text rest c
      (λ x y. refl) a k)
      (after_or (codes "set {") text _ _ _ _
      (λ rest a k. of_two (codes "set {") (codes "} ") programs.of_hidden text rest c
      (λ x y. refl) a k)
      (after_or (codes "set ") text _ _ _ _
      (λ rest a k. of_value (codes "set ") registers programs.of_register text rest c
      (λ i x. refl) a k)
      (after_or (codes "append ") text _ _ _ _
      (λ rest a k. of_value (codes "append ") s.lists programs.append text rest c (λ i x. refl) a k)
      (after_or (codes "prepend ") text _ _ _ _
      (λ rest a k. of_value (codes "prepend ") s.lists programs.prepend text rest c
      (λ i x. refl) a k)
      (λ k. by_clear (bytes_eq text (codes "clear")) refl k))))) h
    where
      by_clear : (t : Bool) → bytes_eq text (codes "clear") ≡ t
          → ◌≡◌ {A = Taken Change} (cond t (Ok programs.clear_shown) (plain_read s.lists text))
          (Ok c)
          → text ≡ change_text registers s c
      by_clear true is k = let same : programs.clear_shown ≡ c = cc in
          (bytes_eq-Decides text (codes "clear")).0 is ∙ ap (change_text registers s) same
      by_clear false is k = plain_is text c k

-- a line of a method
module _ (w : Written) (m : Method) where
  naming_is : (text : List ℕ) (i : Inner) → taken_with (λ (r : List ℕ × Expr). lines.naming r.0 r.1)
      (named_expr w m text) ≡ Ok i
      → codes "  let " ++ text ≡ inner_text w m i
  naming_is text i k =
      let n = taken_inv (λ (r : List ℕ × Expr). lines.naming r.0 r.1) (named_expr w m text) i k in
      ap (λ x. codes "  let " ++ x) (named_expr_is w m text n.0 n.1) ∙ four (codes "  let ") n.0.0
      (codes " ") (spelled (in_method w m) n.0.1)
      ∙ ap (inner_text w m) n.2

  answering_is : (text : List ℕ) (i : Inner) → taken_with lines.answering
      (last_read (in_method w m) text) ≡ Ok i
      → codes "  answer " ++ text ≡ inner_text w m i
  answering_is text i k =
      let n = taken_inv lines.answering (last_read (in_method w m) text) i k in
      ap (λ x. codes "  answer " ++ x) (last_read_is (in_method w m) text n.0 n.1)
      ∙ ap (inner_text w m) n.2

  allowing_is : (text : List ℕ) (i : Inner) → taken_with lines.allowing
      (last_read (in_case w m) text) ≡ Ok i
      → codes "  allow " ++ text ≡ inner_text w m i
  allowing_is text i k =
      let n = taken_inv lines.allowing (last_read (in_case w m) text) i k in
      ap (λ x. codes "  allow " ++ x) (last_read_is (in_case w m) text n.0 n.1)
      ∙ ap (inner_text w m) n.2

  changing_is : (text : List ℕ) (i : Inner) → case_line_read w m text ≡ Ok i → codes "    " ++ text
      ≡ inner_text w m i
  changing_is text i h =
      let t = past (nat_le 8 (changes_in (last_in m.cases))) _ _ i
      (past (not (has_any m.cases)) _ _ i h) in
      let n = taken_inv lines.changing (change_read w.register_names (in_case w m) text) i t in
      ap (λ x. codes "    " ++ x) (change_is w.register_names (in_case w m) text n.0 n.1)
      ∙ ap (inner_text w m) n.2

  inner_is : (line : List ℕ) (t : Taken Inner) (i : Inner) → inner_read w m line ≡ Some t → t ≡ Ok i
      → line ≡ inner_text w m i
  unfolding inner_read
  inner_is line t i h e =
      after_or (codes "  let ") line _ _ _ _
      (λ rest a k. a
      ∙ naming_is rest i
      (past (nat_le 16 (length m.names)) _ _ i (past (is_closed m) _ _ i (some_is _ t i k e))))
      (after_or (codes "  answer ") line _ _ _ _
      (λ rest a k. a ∙ answering_is rest i (past (is_closed m) _ _ i (some_is _ t i k e)))
      (after_or (codes "  allow ") line _ _ _ _
      (λ rest a k. a
      ∙ allowing_is rest i (past (nat_le 8 (length m.cases)) _ _ i (some_is _ t i k e)))
      (λ k. cc))) h

  within_is : (line : List ℕ) (i : Inner) → within_read w m line ≡ Ok i → line ≡ inner_text w m i
  unfolding within_read
  within_is line i h =
      after_or (codes "    ") line _ _ _ _ (λ rest a k. a ∙ changing_is rest i k)
      (λ k. by_line (inner_read w m line) refl k) h
    where
      by_line : (o : Option (Taken Inner)) → inner_read w m line ≡ o → if_line line o ≡ Ok i
          → line ≡ inner_text w m i
      by_line (Some t) f k = inner_is line t i f k
      by_line None f k = cc

-- a line outside methods
module _ (w : Written) where
  named_is : (word : List ℕ) (make : List ℕ → ℕ → Line) (taken : Bool) (text : List ℕ) (l : Line)
      → ((name : List ℕ) (n : ℕ) → line_text w (make name n) ≡ ((word ++ name) ++ codes " ")
      ++ decimal n)
      → taken_with (λ (r : List ℕ × ℕ). make r.0 r.1) (named_number taken text) ≡ Ok l → word
      ++ text ≡ line_text w l
  named_is word make taken text l spells k =
      let n = taken_inv (λ (r : List ℕ × ℕ). make r.0 r.1) (named_number taken text) l k in
      ap (λ x. word ++ x) (named_number_is taken text n.0 n.1) ∙ four word n.0.0 (codes " ")
      (decimal n.0.1)
      ∙ sym (spells n.0.0 n.0.1) ∙ ap (line_text w) n.2

  list_is : (text : List ℕ) (l : Line) → and_then (λ name rest. ended (lines.list name) rest)
      (new_name (is_known w (word_of text)) text) ≡ Ok l
      → codes "list " ++ text ≡ line_text w l
  list_is text l k =
      let i = then_inv _ (new_name (is_known w (word_of text)) text) l k in
      let n = ended_is (lines.list i.0) i.1 l i.3 in
      ap (λ x. codes "list " ++ x) (new_name_is (is_known w (word_of text)) text i.0 i.1 i.2
      ∙ ap (λ x. i.0 ++ x) n.0 ∙ append-nil i.0)
      ∙ ap (line_text w) n.1

  number_is : (word : List ℕ) (make : ℕ → Line) (text : List ℕ) (l : Line)
      → ((n : ℕ) → line_text w (make n) ≡ word ++ decimal n)
      → taken_with make (last_number text) ≡ Ok l → word ++ text ≡ line_text w l
  number_is word make text l spells k =
      let n = taken_inv make (last_number text) l k in
      ap (λ x. word ++ x) (last_number_is text n.0 n.1) ∙ sym (spells n.0) ∙ ap (line_text w) n.2

  hidden_is : (text : List ℕ) (l : Line) → taken_with (λ (r : ℕ × ℕ). lines.hidden r.0 r.1)
      (two_numbers text) ≡ Ok l
      → codes "hidden " ++ text ≡ line_text w l
  hidden_is text l k =
      let n = taken_inv (λ (r : ℕ × ℕ). lines.hidden r.0 r.1) (two_numbers text) l k in
      ap (λ x. codes "hidden " ++ x) (two_numbers_is text n.0 n.1)
      ∙ four (codes "hidden ") (decimal n.0.0) (codes " ") (decimal n.0.1)
      ∙ ap (line_text w) n.2

  part_is : (text : List ℕ) (l : Line) → part_of text (number_in text) ≡ Ok l → codes "part "
      ++ text ≡ line_text w l
  part_is text l h = by_number (number_in text) refl h
    where
      by_number : (o : Option ℕ) → number_in text ≡ o → part_of text o ≡ Ok l → codes "part "
          ++ text ≡ line_text w l
      by_number None f k = cc
      by_number (Some n) f k =
          let t = kept (nat_le 1 n && nat_le n 16) _ (Ok (lines.part n)) l k in
          let same : lines.part n ≡ l = ok_is (lines.part n) l t in
          ap (λ x. codes "part " ++ x) (number_decimal text n f) ∙ ap (line_text w) same

  shows_is : (text : List ℕ) (l : Line) → taken_with (λ (r : Expr × Expr). lines.shows r.0 r.1)
      (two_read (part_scope w) (codes " ") text) ≡ Ok l
      → codes "  shows " ++ text ≡ line_text w l
  shows_is text l k =
      let n = taken_inv (λ (r : Expr × Expr). lines.shows r.0 r.1)
      (two_read (part_scope w) (codes " ") text) l k in
      ap (λ x. codes "  shows " ++ x) (two_read_is (part_scope w) (codes " ") text n.0 n.1)
      ∙ four (codes "  shows ") (spelled (part_scope w) n.0.0) (codes " ")
      (spelled (part_scope w) n.0.1)
      ∙ ap (line_text w) n.2

  method_is : (text : List ℕ) (l : Line) → method_read w text ≡ Ok l → codes "method " ++ text
      ≡ line_text w l
  method_is text l h =
      let t = past (nat_le 64 (length w.methods)) _ _ l (past (is_unfinished w.methods) _ _ l h) in
      let n = taken_inv (λ (r : List ℕ × List (List ℕ)). lines.method r.0 r.1) (named_method w text)
      l t in
      ap (λ x. codes "method " ++ x) (named_method_is w text n.0 n.1)
      ∙ three (codes "method ") n.0.0 (words_text n.0.1)
      ∙ ap (line_text w) n.2

  outer_is : (below : Last) (line : List ℕ) (t : Taken Line) (l : Line) → outer_read w below line
      ≡ Some t → t ≡ Ok l → line ≡ line_text w l
  unfolding outer_read
  outer_is below line t l h e =
      after_or (codes "let ") line _ _ _ _
      (λ rest a k. a ∙ named_is (codes "let ") lines.constant _ rest l (λ name n. refl)
      (past (nat_le 64 (length w.constants)) _ _ l
      (past (is_past_constants w) _ _ l (some_is _ t l k e))))
      (after_or (codes "register ") line _ _ _ _
      (λ rest a k. a ∙ named_is (codes "register ") lines.register _ rest l (λ name n. refl)
      (past (nat_le 16 (length w.registers)) _ _ l
      (past (has_any w.methods) _ _ l (some_is _ t l k e))))
      (after_or (codes "list ") line _ _ _ _
      (λ rest a k. a
      ∙ list_is rest l
      (past (nat_le 16 (length w.lists)) _ _ l
      (past (has_any w.methods) _ _ l (some_is _ t l k e))))
      (after_or (codes "  holds ") line _ _ _ _
      (λ rest a k. a ∙ number_is (codes "  holds ") lines.holds rest l (λ n. refl)
      (kept (is_list below) _ _ l (some_is _ t l k e)))
      (after_or (codes "hidden ") line _ _ _ _
      (λ rest a k. a ∙ hidden_is rest l (past (has_any w.methods) _ _ l (some_is _ t l k e)))
      (after_or (codes "part ") line _ _ _ _
      (λ rest a k. a
      ∙ part_is rest l (past (not (w.words == 0) || has_any w.methods) _ _ l (some_is _ t l k e)))
      (after_or (codes "  shows ") line _ _ _ _
      (λ rest a k. a
      ∙ shows_is rest l
      (past (nat_le 4 (length w.shows)) _ _ l
      (past (not (is_part below)) _ _ l (some_is _ t l k e))))
      (λ k. cc))))))) h

  method_line : (line : List ℕ) (l : Line) → method_line_read w line ≡ Ok l → line ≡ line_text w l
  unfolding method_line_read
  method_line line l h = by_method (last_in w.methods) refl h
    where
      by_method : (o : Option Method) → last_in w.methods ≡ o → of_method w line o ≡ Ok l
          → line ≡ line_text w l
      by_method None f k = cc
      by_method (Some m) f k =
          let n = taken_inv lines.inner (within_read w m line) l k in
          within_is w m line n.0 n.1 ∙ ap (last_text w n.0) (sym f) ∙ ap (line_text w) n.2

-- what is read as a line is its spelling
pub line_sound : (w : Written) (below : Last) (line : List ℕ) (l : Line) → line_read w below line
    ≡ Ok l → line ≡ line_text w l
unfolding line_read
line_sound w below line l h = by_remark (is_remark line) (past (nat_lt 200 (length line)) _ _ l h)
  where
    by_outer : (o : Option (Taken Line)) → outer_read w below line ≡ o → or_method w line o ≡ Ok l
        → line ≡ line_text w l
    by_outer (Some t) f k = outer_is w below line t l f k
    by_outer None f k =
        after_or (codes "method ") line _ _ _ _ (λ rest a j. a ∙ method_is w rest l j)
        (λ j. method_line w line l j) k

    by_remark : (t : Bool) → cond t (Ok (lines.remark line))
        (or_method w line (outer_read w below line)) ≡ Ok l → line ≡ line_text w l
    by_remark true k = ap (line_text w) (ok_is (lines.remark line) l k)
    by_remark false k = by_outer (outer_read w below line) refl k
