-- What is read as an expression is its spelling.
use Rattle.vyrd_own_text.proofs.Prelude
use Prelude.{◌≡◌, ℕ, Bool, true, false, cond, List, [], ◌∷◌, ◌++◌, Option, Some, None, refl, ap}
use Prelude.{◌∙◌, sym, arith, suc, zero, append_assoc, codes, decimal, Result, Ok, Err, nat_lt}
use Prelude.{◌&&◌, ◌==◌, ◌+◌, bytes_eq, digits_value, nat_tests, bytes_eq-Decides, Expr, shown}
use Prelude.{hidden, most, Scope, name_at, spelled, SpecificationRule, Found, and_then, after}
use Prelude.{word_of, after_word, number_in, place_from, of_state, name_read, atom_read, op_among}
use Prelude.{one_read, if_after, round_read, whole_read, expr_read}
use Rattle.std.specs.Prelude.{slice_index_or}
use Rattle.vyrd_base.specs.declared.own.op.Op.{Op}
use Rattle.vyrd_base.specs.Own.Expressions.{number, at, count, least, greatest, first, last, size}
use Rattle.vyrd_base.specs.Own.Expressions.{negation, infix_of, choice}
use Rattle.vyrd_base.specs.Own.Spelling.{op_word, number_word}
use Rattle.vyrd_base.specs.declared.own.rule.SpecificationRule.TheVariants.{StateIsRead}
use Rattle.vyrd_base.specs.Own.Reading.{made, ended_by, is_word_byte, place_in, unknown, placed}
use Rattle.vyrd_base.specs.Own.Reading.{number_or, all_ops, op_read, list_read, second_read}
use Rattle.vyrd_base.specs.Own.Reading.{infix_read, else_read, then_read, choice_read}

pub after_sound : (word text rest : List ℕ) → after word text ≡ Some rest → text ≡ word ++ rest
unfolding after
after_sound [] text rest e = cc
after_sound (c ∷ word) [] rest e = cc
after_sound (c ∷ word) (b ∷ text) rest e = by_test (λ h. after_sound word text rest h)
    (c == b) refl e
  where
    by_test : (after word text ≡ Some rest → text ≡ word ++ rest) → (t : Bool) → (c == b) ≡ t
        → cond t (after word text) None ≡ Some rest → b ∷ text ≡ c ∷ (word ++ rest)
    by_test more true is h =
        let same : c ≡ b = grind (arith, nat_tests) in
        ap (λ x. x ∷ text) (sym same) ∙ ap (λ xs. c ∷ xs) (more h)
    by_test more false is h = cc

-- the letters at the front, and what follows
pub word_splits : (text : List ℕ) → text ≡ word_of text ++ after_word text
word_splits [] = refl
word_splits (b ∷ text) = by_test (word_splits text) (is_word_byte b)
  where
    by_test : text ≡ word_of text ++ after_word text → (t : Bool) → b ∷ text
        ≡ cond t (b ∷ word_of text) [] ++ cond t (after_word text) (b ∷ text)
    by_test more true = ap (λ xs. b ∷ xs) more
    by_test more false = refl

number_sound : (word : List ℕ) (n : ℕ) → number_in word ≡ Some n → word ≡ number_word n
unfolding number_in
number_sound word n e = by_value (nat_lt v most) (bytes_eq (decimal v) word) refl refl e
  where
    v : ℕ
    v = digits_value 10 word

    by_value : (a b : Bool) → nat_lt v most ≡ a → bytes_eq (decimal v) word ≡ b
        → cond (a && b) (Some v) None ≡ Some n → word ≡ number_word n
    by_value true true ea eb h =
        let is : v ≡ n = cc in
        let less : (v == most) ≡ false = grind (arith, nat_tests) in
        sym ((bytes_eq-Decides (decimal v) word).0 eb)
        ∙ sym (ap (λ t. cond t (codes "none") (decimal v)) less) ∙ ap number_word is
    by_value true false ea eb h = cc
    by_value false b ea eb h = cc

place_sound : (k : ℕ) (names : List (List ℕ)) (word : List ℕ) (i : ℕ) → place_from k names word
    ≡ Some i → (j : ℕ) × (i ≡ k + j) × (word ≡ slice_index_or names j [])
place_sound k [] word i e = cc
place_sound k (name ∷ names) word i e = by_test (λ h. place_sound (k + 1) names word i h)
    (bytes_eq name word) refl e
  where
    by_test : (place_from (k + 1) names word ≡ Some i → (j : ℕ) × (i ≡ (k + 1) + j)
        × (word ≡ slice_index_or names j []))
        → (t : Bool) → bytes_eq name word ≡ t → cond t (Some k) (place_from (k + 1) names word)
        ≡ Some i
        → (j : ℕ) × (i ≡ k + j) × (word ≡ slice_index_or (name ∷ names) j [])
    by_test more true is h = grind (arith, (bytes_eq-Decides name word).0 is)
    by_test more false is h = let m = more h in (suc m.0, omega (arith, m.1), m.2)

first_of_pair : {A B : Type 0} (a c : A) (b d : B)
    → ◌≡◌ {A = Result (A × B) (SpecificationRule × B)} (Ok (a, b)) (Ok (c, d)) → a ≡ c
first_of_pair {A} {B} a c b d e = grind arith

second_of_pair : {A B : Type 0} (a c : A) (b d : B)
    → ◌≡◌ {A = Result (A × B) (SpecificationRule × B)} (Ok (a, b)) (Ok (c, d)) → b ≡ d
second_of_pair {A} {B} a c b d e = grind arith

glue3 : (a b c d s t u : List ℕ) → s ≡ a ++ t → t ≡ b ++ u → u ≡ c ++ d → s ≡ ((a ++ b) ++ c) ++ d
glue3 a b c d s t u e f g = e ∙ ap (λ x. a ++ x) (f ∙ ap (λ x. b ++ x) g) ∙ simp append_assoc

glue5 : (a b c d o z s t u v w : List ℕ) → s ≡ a ++ t → t ≡ b ++ u → u ≡ c ++ v → v ≡ d ++ w → w ≡ o
    ++ z → s ≡ ((((a ++ b) ++ c) ++ d) ++ o) ++ z
glue5 a b c d o z s t u v w e f g h i = grind (arith, append_assoc)

glue7 : (a b c d o p q z s t u v w x y : List ℕ) → s ≡ a ++ t → t ≡ b ++ u → u ≡ c ++ v → v ≡ d ++ w
    → w ≡ o ++ x → x ≡ p ++ y → y ≡ q ++ z
    → s ≡ ((((((a ++ b) ++ c) ++ d) ++ o) ++ p) ++ q) ++ z
glue7 a b c d o p q z s t u v w x y e f g h i j k = search (append_assoc, arith)

ended_inv : {A : Type 0} (word : List ℕ) (found : Found A) (e : A) (next : List ℕ)
    → ended_by word found ≡ Ok (e, next)
    → (rest : List ℕ) × (found ≡ Ok (e, rest)) × (rest ≡ word ++ next)
ended_inv word e1 = grind (arith, after, first_of_pair, after_sound, second_of_pair)

op_inv : (ops : List Op) (text : List ℕ) (op : Op) (rest : List ℕ) → op_among ops text
    ≡ Ok (op, rest) → text ≡ op_word op ++ rest
op_inv [] text op rest h = cc
op_inv (o ∷ ops) text op rest h = by_after (λ k. op_inv ops text op rest k) (after _ _) refl h
  where
    by_after : (op_among ops text ≡ Ok (op, rest) → text ≡ op_word op ++ rest)
        → (f : Option (List ℕ)) → after (op_word o) text ≡ f
        → (elim f as (λ x. Found Op) [ Some t ↦ Ok (o, t) | None ↦ op_among ops text ])
        ≡ Ok (op, rest) → text ≡ op_word op ++ rest
    by_after more None a k = more k
    by_after more (Some t) a k = search (after_sound, first_of_pair, second_of_pair, arith)

unknown_not : {A : Type 0} (text : List ℕ) (x : A) (next : List ℕ) → unknown text ≡ Ok (x, next) → ⊥
unknown_not e0 text = grind arith

pub name_inv : (names : List (List ℕ)) (text : List ℕ) (i : ℕ) (rest : List ℕ)
    → name_read names text ≡ Ok (i, rest) → text ≡ name_at names i ++ rest
name_inv names text i rest h = by_place (place_in names (word_of text)) refl h
  where
    by_place : (o : Option ℕ) → place_in names (word_of text) ≡ o → placed text (after_word text) o
        ≡ Ok (i, rest) → text ≡ name_at names i ++ rest
    by_place None f k = absurd (unknown_not text i rest k)
    by_place (Some j) f k =
        search (place_sound, word_of, first_of_pair, word_splits, second_of_pair, arith)

of_state_inv : {A : Type 0} (s : Scope) (text : List ℕ) (found : Found A) (x : A) (next : List ℕ)
    → of_state s text found ≡ Ok (x, next) → found ≡ Ok (x, next)
of_state_inv {A} s text found x next h = by_reads s.reads h
  where
    by_reads : (t : Bool) → cond t found (Err (StateIsRead, text)) ≡ Ok (x, next)
        → found ≡ Ok (x, next)
    by_reads t k = search arith

module _ (s : Scope) (inner : List ℕ → Found Expr)
    (good : (text : List ℕ) (e : Expr) (rest : List ℕ) → inner text ≡ Ok (e, rest)
    → text ≡ spelled s e ++ rest) where
  -- one part between two words
  one_sound : (make : Expr → Expr) (open_word close text whole : List ℕ) (e : Expr) (next : List ℕ)
      → ((x : Expr) → spelled s (make x) ≡ (open_word ++ spelled s x) ++ close)
      → whole ≡ open_word ++ text → one_read inner make close text ≡ Ok (e, next)
      → whole ≡ spelled s e ++ next
  one_sound make open_word close text whole e next spells w h = by_found
      (ended_by close (inner text)) refl h
    where
      by_found : (o : Found Expr) → ended_by close (inner text) ≡ o → made make o ≡ Ok (e, next)
          → whole ≡ spelled s e ++ next
      by_found (Err z) f k = cc
      by_found (Ok r) f k =
          let i = ended_inv close (inner text) r.0 r.1 f in
          glue3 open_word (spelled s r.0) close r.1 whole text i.0 w (good text r.0 i.0 i.1) i.2
          ∙ ap (λ x. x ++ r.1)
          (sym (spells r.0) ∙ ap (spelled s) (first_of_pair (make r.0) e r.1 next k))
          ∙ ap (λ x. spelled s e ++ x) (second_of_pair (make r.0) e r.1 next k)

  infix_sound : (text whole : List ℕ) (e : Expr) (next : List ℕ)
      → whole ≡ codes "(" ++ text → infix_read inner text ≡ Ok (e, next) → whole ≡ spelled s e
      ++ next
  unfolding op_read
  infix_sound text whole e next w h = by_first (inner text) refl h
    where
      by_second : (a : Expr) (u : List ℕ) (op : Op) (v : List ℕ) → text ≡ spelled s a ++ u
          → u ≡ op_word op ++ v → (o : Found Expr) → ended_by (codes ")") (inner v) ≡ o
          → made (infix_of op a) o ≡ Ok (e, next) → whole ≡ spelled s e ++ next
      by_second a u op v ta uo (Err z) f k = cc
      by_second a u op v ta uo (Ok r) f k =
          let i = ended_inv (codes ")") (inner v) r.0 r.1 f in
          glue5 (codes "(") (spelled s a) (op_word op) (spelled s r.0) (codes ")") r.1 whole text u
          v i.0 w ta uo (good v r.0 i.0 i.1) i.2
          ∙ ap (λ x. spelled s x ++ r.1) (first_of_pair (infix_of op a r.0) e r.1 next k)
          ∙ ap (λ x. spelled s e ++ x) (second_of_pair (infix_of op a r.0) e r.1 next k)

      by_op : (a : Expr) (u : List ℕ) → text ≡ spelled s a ++ u → (o : Found Op) → op_read u ≡ o
          → and_then (second_read inner a) o ≡ Ok (e, next) → whole ≡ spelled s e ++ next
      by_op a u ta (Err z) f k = cc
      by_op a u ta (Ok r) f k = by_second a u r.0 r.1 ta (op_inv all_ops u r.0 r.1 f)
          (ended_by (codes ")") (inner r.1)) refl k

      by_first : (o : Found Expr) → inner text ≡ o
          → and_then (λ a rest. and_then (second_read inner a) (op_read rest)) o ≡ Ok (e, next)
          → whole ≡ spelled s e ++ next
      by_first (Err z) f k = cc
      by_first (Ok r) f k = by_op r.0 r.1 (good text r.0 r.1 f) (op_read r.1) refl k

  choice_sound : (text whole : List ℕ) (e : Expr) (next : List ℕ)
      → whole ≡ codes "(if " ++ text → choice_read inner text ≡ Ok (e, next) → whole ≡ spelled s e
      ++ next
  choice_sound text whole e next w h = by_test (ended_by (codes " then ") (inner text)) refl h
    where
      by_else : (t a : Expr) (u v x y : List ℕ) → text ≡ spelled s t ++ u → u ≡ codes " then " ++ v
          → v ≡ spelled s a ++ x → x ≡ codes " else " ++ y
          → (o : Found Expr) → ended_by (codes ")") (inner y) ≡ o → made (choice t a) o
          ≡ Ok (e, next)
          → whole ≡ spelled s e ++ next
      by_else t a u v x y tu uv vx xy (Err z) f k = cc
      by_else t a u v x y tu uv vx xy (Ok r) f k =
          let i = ended_inv (codes ")") (inner y) r.0 r.1 f in
          seven t a r.0 u v x y i.0 r.1 tu uv vx xy (good y r.0 i.0 i.1) i.2
          ∙ ap (λ z. spelled s z ++ r.1) (first_of_pair (choice t a r.0) e r.1 next k)
          ∙ ap (λ z. spelled s e ++ z) (second_of_pair (choice t a r.0) e r.1 next k)
        where
          seven : (t a b : Expr) (u v x y m z : List ℕ) → text ≡ spelled s t ++ u
              → u ≡ codes " then " ++ v → v ≡ spelled s a ++ x → x ≡ codes " else " ++ y
              → y ≡ spelled s b ++ m → m ≡ codes ")" ++ z → whole ≡ spelled s (choice t a b) ++ z
          seven t a b u v x y m z tu uv vx xy ym mz =
              glue7 (codes "(if ") (spelled s t) (codes " then ") (spelled s a) (codes " else ")
              (spelled s b) (codes ")") z
              whole text u v x y m w tu uv vx xy ym mz

      by_then : (t : Expr) (u v : List ℕ) → text ≡ spelled s t ++ u → u ≡ codes " then " ++ v
          → (o : Found Expr) → ended_by (codes " else ") (inner v) ≡ o
          → and_then (else_read inner t) o ≡ Ok (e, next) → whole ≡ spelled s e ++ next
      by_then t u v tu uv (Err z) f k = cc
      by_then t u v tu uv (Ok r) f k =
          let i = ended_inv (codes " else ") (inner v) r.0 r.1 f in
          by_else t r.0 u v i.0 r.1 tu uv (good v r.0 i.0 i.1) i.2 (ended_by (codes ")")
          (inner r.1)) refl k

      by_test : (o : Found Expr) → ended_by (codes " then ") (inner text) ≡ o
          → and_then (then_read inner) o ≡ Ok (e, next)
          → whole ≡ spelled s e ++ next
      by_test (Err z) f k = cc
      by_test (Ok r) f k =
          let i = ended_inv (codes " then ") (inner text) r.0 r.1 f in
          by_then r.0 i.0 r.1 (good text r.0 i.0 i.1) i.2 (ended_by (codes " else ") (inner r.1))
          refl k

  -- where a word stands, and where it doesn't
  by_word : (word text : List ℕ) (there : List ℕ → Found Expr) (otherwise r : Found Expr)
      (P : Type 0)
      → ((rest : List ℕ) → text ≡ word ++ rest → there rest ≡ r → P) → (otherwise ≡ r → P)
      → if_after (after word text) there otherwise ≡ r → P
  by_word word text there otherwise r P begun no_word h = search (after, after_sound, arith)

  -- a list's name between two words
  list_sound : (make : ℕ → Expr) (open_word text whole : List ℕ) (e : Expr) (next : List ℕ)
      → ((i : ℕ) → spelled s (make i) ≡ (open_word ++ name_at s.lists i) ++ codes ")")
      → whole ≡ open_word ++ text → list_read s.lists make text ≡ Ok (e, next) → whole ≡ spelled s e
      ++ next
  list_sound make open_word text whole e next spells w h = by_found (ended_by (codes ")")
      (name_read s.lists text)) refl h
    where
      by_found : (o : Found ℕ) → ended_by (codes ")") (name_read s.lists text) ≡ o → made make o
          ≡ Ok (e, next) → whole ≡ spelled s e ++ next
      by_found (Err z) f k = cc
      by_found (Ok r) f k =
          let i = ended_inv (codes ")") (name_read s.lists text) r.0 r.1 f in
          glue3 open_word (name_at s.lists r.0) (codes ")") r.1 whole text i.0 w
          (name_inv s.lists text r.0 i.0 i.1) i.2
          ∙ ap (λ x. x ++ r.1)
          (sym (spells r.0) ∙ ap (spelled s) (first_of_pair (make r.0) e r.1 next k))
          ∙ ap (λ x. spelled s e ++ x) (second_of_pair (make r.0) e r.1 next k)

  round_sound : (text whole : List ℕ) (e : Expr) (next : List ℕ)
      → whole ≡ codes "(" ++ text → round_read inner s text ≡ Ok (e, next) → whole ≡ spelled s e
      ++ next
  unfolding round_read
  round_sound text whole e next w h =
      by_word (codes "if ") text _ _ _ _
      (λ rest a k. choice_sound rest whole e next (w ∙ ap (λ x. codes "(" ++ x) a) k)
      (by_word (codes "not ") text _ _ _ _
      (λ rest a k. one_sound negation (codes "(not ") (codes ")") rest whole e next (λ x. refl)
      (w ∙ ap (λ x. codes "(" ++ x) a) k)
      (by_word (codes "least ") text _ _ _ _
      (λ rest a k. one_sound least (codes "(least ") (codes ")") rest whole e next (λ x. refl)
      (w ∙ ap (λ x. codes "(" ++ x) a) (of_state_inv s text _ e next k))
      (by_word (codes "greatest ") text _ _ _ _
      (λ rest a k. one_sound greatest (codes "(greatest ") (codes ")") rest whole e next (λ x. refl)
      (w ∙ ap (λ x. codes "(" ++ x) a) (of_state_inv s text _ e next k))
      (by_word (codes "first ") text _ _ _ _
      (λ rest a k. list_sound first
      (codes "(first ") rest whole e next (λ x. refl)
      (w ∙ ap (λ x. codes "(" ++ x) a) (of_state_inv s text _ e next k))
      (by_word (codes "last ") text _ _ _ _
      (λ rest a k. list_sound last
      (codes "(last ") rest whole e next (λ x. refl)
      (w ∙ ap (λ x. codes "(" ++ x) a) (of_state_inv s text _ e next k))
      (by_word (codes "length ") text _ _ _ _
      (λ rest a k. list_sound size
      (codes "(length ") rest whole e next (λ x. refl)
      (w ∙ ap (λ x. codes "(" ++ x) a) (of_state_inv s text _ e next k))
      (λ k. infix_sound text whole e next w k))))))) h

  -- a word, by its spelling
  word_sound : (text : List ℕ) (x e : Expr) (next : List ℕ) → word_of text ≡ spelled s x
      → ◌≡◌ {A = Found Expr} (Ok (x, after_word text)) (Ok (e, next)) → text ≡ spelled s e ++ next
  word_sound text x e next f k =
      word_splits text
      ∙ ap (λ y. y ++ after_word text) f
      ∙ ap (λ y. spelled s y ++ after_word text) (first_of_pair x e (after_word text) next k)
      ∙ ap (λ y. spelled s e ++ y) (second_of_pair x e (after_word text) next k)

  atom_sound : (text : List ℕ) (e : Expr) (next : List ℕ) → atom_read s text ≡ Ok (e, next)
      → text ≡ spelled s e ++ next
  unfolding atom_read
  atom_sound text e next h = by_none (bytes_eq (word_of text) (codes "none")) refl h
    where
      by_name : (o : Found ℕ) → name_read s.names text ≡ o → made at o ≡ Ok (e, next)
          → text ≡ spelled s e ++ next
      by_name (Err z) f k = cc
      by_name (Ok r) f k =
          name_inv s.names text r.0 r.1 f
          ∙ ap (λ x. spelled s x ++ r.1) (first_of_pair (at r.0) e r.1 next k)
          ∙ ap (λ x. spelled s e ++ x) (second_of_pair (at r.0) e r.1 next k)

      by_number : (o : Option ℕ) → number_in (word_of text) ≡ o → number_or s text o ≡ Ok (e, next)
          → text ≡ spelled s e ++ next
      by_number None f k = by_name (name_read s.names text) refl k
      by_number (Some n) f k = word_sound text (number n) e next (number_sound (word_of text) n f) k

      by_count : (t : Bool) → bytes_eq (word_of text) (codes "count") ≡ t
          → cond t (of_state s text (Ok (count, after_word text)))
          (number_or s text (number_in (word_of text))) ≡ Ok (e, next) → text ≡ spelled s e ++ next
      by_count true is k = word_sound text count e next
          ((bytes_eq-Decides (word_of text) (codes "count")).0 is) (of_state_inv s text _ e next k)
      by_count false is k = by_number (number_in (word_of text)) refl k

      by_none : (t : Bool) → bytes_eq (word_of text) (codes "none") ≡ t
          → cond t (Ok (number most, after_word text))
          (cond (bytes_eq (word_of text) (codes "count"))
          (of_state s text (Ok (count, after_word text)))
          (number_or s text (number_in (word_of text)))) ≡ Ok (e, next)
          → text ≡ spelled s e ++ next
      by_none true is k = word_sound text (number most) e next
          ((bytes_eq-Decides (word_of text) (codes "none")).0 is) k
      by_none false is k = by_count (bytes_eq (word_of text) (codes "count")) refl k

  whole_sound : (text : List ℕ) (e : Expr) (next : List ℕ) → whole_read inner s text ≡ Ok (e, next)
      → text ≡ spelled s e ++ next
  unfolding whole_read
  whole_sound text e next h =
      by_word (codes "(") text _ _ _ _ (λ rest a k. round_sound rest text e next a k)
      (by_word (codes "[") text _ _ _ _
      (λ rest a k. one_sound shown (codes "[") (codes "]") rest text e next (λ x. refl) a
      (of_state_inv s text _ e next k))
      (by_word (codes "{") text _ _ _ _
      (λ rest a k. one_sound hidden (codes "{") (codes "}") rest text e next (λ x. refl) a
      (of_state_inv s text _ e next k))
      (λ k. atom_sound text e next k))) h

-- what is read as an expression is its spelling, and what follows it
pub expr_sound : (s : Scope) (depth : ℕ) (text : List ℕ) (e : Expr) (next : List ℕ)
    → expr_read s depth text ≡ Ok (e, next) → text ≡ spelled s e ++ next
expr_sound s zero text e next h = cc
expr_sound s (suc depth) text e next h = whole_sound s (expr_read s depth)
    (λ t x r k. expr_sound s depth t x r k) text e next h
