-- What is read as a piece of a line is its spelling.
use Rattle.vyrd_own_text.proofs.Prelude
use Prelude.{◌≡◌, ℕ, Bool, true, false, cond, List, [], ◌∷◌, ◌++◌, Option, Some, None, refl, ap}
use Prelude.{◌∙◌, sym, zero, suc, append_assoc, codes, decimal, Ok, Err, nat_lt, ◌&&◌, ◌||◌}
use Prelude.{bytes_eq, digits_value, append-nil, bytes_eq-Decides, Expr, most, SpecificationRule}
use Prelude.{Scope, name_at, spelled, Taken, Found, and_then, after, if_after, word_of, after_word}
use Prelude.{number_in, name_read, expr_read, Method, Written, is_known, new_name, last_number}
use Prelude.{taken_with, named_number, ended, two_numbers, last_read, two_read, last_name}
use Prelude.{named_value, is_method, named_method, named_expr, words_text}
use Rattle.vyrd_base.specs.declared.own.rule.SpecificationRule.TheVariants as rules
use Rattle.vyrd_base.specs.Own.Names.{is_name, is_among}
use Rattle.vyrd_base.specs.Own.Pieces.{number_found}
use Rattle.vyrd_base.specs.Own.Methods.{method_scope, parameters_read}
use Rattle.vyrd_own_text.proofs.SoundLaws.{after_sound, word_splits, name_inv, expr_sound}

-- where a word stands, and where it doesn't
pub after_or : {A : Type 0} (word text : List ℕ) (there : List ℕ → A) (otherwise r : A) (P : Type 0)
    → ((rest : List ℕ) → text ≡ word ++ rest → there rest ≡ r → P)
    → (otherwise ≡ r → P) → if_after (after word text) there otherwise ≡ r → P
after_or {A} word text there otherwise r P begun no_word h = by_after (after word text) refl h
  where
    by_after : (o : Option (List ℕ)) → after word text ≡ o → if_after o there otherwise ≡ r → P
    by_after None a k = no_word k
    by_after (Some rest) a k = begun rest (after_sound word text rest a) k

pub after_inv : {A : Type 0} (word text : List ℕ) (there : List ℕ → Taken A)
    (stop : SpecificationRule × List ℕ) (r : A)
    → if_after (after word text) there (Err stop) ≡ Ok r
    → (rest : List ℕ) × (text ≡ word ++ rest) × (there rest ≡ Ok r)
after_inv {A} word text there stop r h =
    after_or word text there (Err stop) (Ok r) _ (λ rest a k. (rest, a, k)) (λ k. cc) h

-- what was made of what was taken
pub taken_inv : {A B : Type 0} (make : A → B) (t : Taken A) (r : B) → taken_with make t ≡ Ok r
    → (a : A) × (t ≡ Ok a) × (make a ≡ r)
taken_inv make (Ok a) r h = let is : make a ≡ r = cc in (a, refl, is)
taken_inv make (Err stop) r h = cc

pub then_inv : {A B : Type 0} (next : A → List ℕ → Taken B) (found : Found A) (r : B)
    → and_then next found ≡ Ok r
    → (a : A) × (rest : List ℕ) × (found ≡ Ok (a, rest)) × (next a rest ≡ Ok r)
then_inv next (Ok p) r h = (p.0, p.1, refl, h)
then_inv next (Err stop) r h = cc

-- what wasn't refused
pub past : {A : Type 0} (b : Bool) (stop : SpecificationRule × List ℕ) (t : Taken A) (r : A)
    → cond b (Err stop) t ≡ Ok r → t ≡ Ok r
past false stop t r h = h
past true stop t r h = cc

pub kept : {A : Type 0} (b : Bool) (stop : SpecificationRule × List ℕ) (t : Taken A) (r : A)
    → cond b t (Err stop) ≡ Ok r → t ≡ Ok r
kept true stop t r h = h
kept false stop t r h = cc

pub ended_is : {A : Type 0} (x : A) (text : List ℕ) (r : A) → ended x text ≡ Ok r → (text ≡ [])
    × (x ≡ r)
ended_is x [] r h = let is : x ≡ r = cc in (refl, is)
ended_is x (b ∷ text) r h = cc

-- a number
pub number_decimal : (word : List ℕ) (n : ℕ) → number_in word ≡ Some n → word ≡ decimal n
unfolding number_in
number_decimal word n e = by_value (nat_lt v most) (bytes_eq (decimal v) word) refl e
  where
    v : ℕ
    v = digits_value 10 word

    by_value : (a b : Bool) → bytes_eq (decimal v) word ≡ b → cond (a && b) (Some v) None ≡ Some n
        → word ≡ decimal n
    by_value true true eb h =
        let is : v ≡ n = cc in
        sym ((bytes_eq-Decides (decimal v) word).0 eb) ∙ ap decimal is
    by_value true false eb h = cc
    by_value false b eb h = cc

pub last_number_is : (text : List ℕ) (n : ℕ) → last_number text ≡ Ok n → text ≡ decimal n
last_number_is text n h = by_number (number_in text) refl h
  where
    by_number : (o : Option ℕ) → number_in text ≡ o → number_found text o ≡ Ok n → text ≡ decimal n
    by_number (Some m) f k = let is : m ≡ n = cc in number_decimal text m f ∙ ap decimal is
    by_number None f k = cc

-- a name that is new
pub new_name_is : (taken : Bool) (text name rest : List ℕ) → new_name taken text ≡ Ok (name, rest)
    → text ≡ name ++ rest
new_name_is taken text name rest h = by_taken taken (kept (is_name (word_of text)) _ _ _ h)
  where
    by_taken : (t : Bool) → ◌≡◌ {A = Found (List ℕ)}
        (cond t (Err (rules.NameTaken, text)) (Ok (word_of text, after_word text)))
        (Ok (name, rest)) → text ≡ name ++ rest
    by_taken true k = cc
    by_taken false k =
        let p : ◌≡◌ {A = List ℕ × List ℕ} (word_of text, after_word text) (name, rest) = cc in
        word_splits text ∙ ap (λ (x : List ℕ × List ℕ). x.0 ++ x.1) p

-- pieces with a space between them
joined : (a b c text rest more : List ℕ) → text ≡ a ++ rest → rest ≡ b ++ more → more ≡ c
    → text ≡ (a ++ b) ++ c
joined a b c text rest more e f g = e ∙ ap (λ x. a ++ x) (f ∙ ap (λ x. b ++ x) g)
    ∙ simp append_assoc

pub named_number_is : (taken : Bool) (text : List ℕ) (r : List ℕ × ℕ) → named_number taken text
    ≡ Ok r
    → text ≡ (r.0 ++ codes " ") ++ decimal r.1
named_number_is taken text r h =
    let i = then_inv _ (new_name taken text) r h in
    let a = after_inv (codes " ") i.1 _ _ r i.3 in
    let n = taken_inv _ (last_number a.0) r a.2 in
    joined i.0 (codes " ") (decimal n.0) text i.1 a.0 (new_name_is taken text i.0 i.1 i.2) a.1
    (last_number_is a.0 n.0 n.1)
    ∙ ap (λ (x : List ℕ × ℕ). (x.0 ++ codes " ") ++ decimal x.1) n.2

pub two_numbers_is : (text : List ℕ) (r : ℕ × ℕ) → two_numbers text ≡ Ok r
    → text ≡ (decimal r.0 ++ codes " ") ++ decimal r.1
two_numbers_is text r h = by_number (number_in (word_of text)) refl h
  where
    by_number : (o : Option ℕ) → number_in (word_of text) ≡ o
        → (elim o as (λ x. Taken (ℕ × ℕ)) [
          | Some key ↦ if_after (after (codes " ") (after_word text))
              (λ rest. taken_with (λ n. (key, n)) (last_number rest))
              (Err (rules.BadLine, after_word text))
          | None ↦ Err (rules.BadLine, text)
        ]) ≡ Ok r → text ≡ (decimal r.0 ++ codes " ") ++ decimal r.1
    by_number None f k = cc
    by_number (Some key) f k =
        let a = after_inv (codes " ") (after_word text) _ _ r k in
        let n = taken_inv (λ n. (key, n)) (last_number a.0) r a.2 in
        joined (decimal key) (codes " ") (decimal n.0) text (after_word text) a.0
        (word_splits text ∙ ap (λ x. x ++ after_word text) (number_decimal (word_of text) key f))
        a.1 (last_number_is a.0 n.0 n.1)
        ∙ ap (λ (x : ℕ × ℕ). (decimal x.0 ++ codes " ") ++ decimal x.1) n.2

-- expressions
pub last_read_is : (s : Scope) (text : List ℕ) (e : Expr) → last_read s text ≡ Ok e
    → text ≡ spelled s e
last_read_is s text e h =
    let i = then_inv _ (expr_read s 32 text) e h in
    let n = ended_is i.0 i.1 e i.3 in
    expr_sound s 32 text i.0 i.1 i.2 ∙ ap (λ x. spelled s i.0 ++ x) n.0 ∙ append-nil (spelled s i.0)
    ∙ ap (spelled s) n.1

pub two_read_is : (s : Scope) (word text : List ℕ) (r : Expr × Expr) → two_read s word text ≡ Ok r
    → text ≡ (spelled s r.0 ++ word) ++ spelled s r.1
two_read_is s word text r h =
    let i = then_inv _ (expr_read s 32 text) r h in
    let a = after_inv word i.1 _ _ r i.3 in
    let n = taken_inv _ (last_read s a.0) r a.2 in
    joined (spelled s i.0) word (spelled s n.0) text i.1 a.0 (expr_sound s 32 text i.0 i.1 i.2) a.1
    (last_read_is s a.0 n.0 n.1)
    ∙ ap (λ (x : Expr × Expr). (spelled s x.0 ++ word) ++ spelled s x.1) n.2

pub last_name_is : (names : List (List ℕ)) (text : List ℕ) (i : ℕ) → last_name names text ≡ Ok i
    → text ≡ name_at names i
last_name_is names text j h =
    let i = then_inv _ (name_read names text) j h in
    let n = ended_is i.0 i.1 j i.3 in
    name_inv names text i.0 i.1 i.2 ∙ ap (λ x. name_at names i.0 ++ x) n.0
    ∙ append-nil (name_at names i.0) ∙ ap (name_at names) n.1

pub named_value_is : (s : Scope) (names : List (List ℕ)) (text : List ℕ) (r : ℕ × Expr)
    → named_value s names text ≡ Ok r
    → text ≡ (name_at names r.0 ++ codes " ") ++ spelled s r.1
named_value_is s names text r h =
    let i = then_inv _ (name_read names text) r h in
    let a = after_inv (codes " ") i.1 _ _ r i.3 in
    let n = taken_inv _ (last_read s a.0) r a.2 in
    joined (name_at names i.0) (codes " ") (spelled s n.0) text i.1 a.0
    (name_inv names text i.0 i.1 i.2) a.1 (last_read_is s a.0 n.0 n.1)
    ∙ ap (λ (x : ℕ × Expr). (name_at names x.0 ++ codes " ") ++ spelled s x.1) n.2

pub named_expr_is : (w : Written) (m : Method) (text : List ℕ) (r : List ℕ × Expr)
    → named_expr w m text ≡ Ok r
    → text ≡ (r.0 ++ codes " ") ++ spelled (method_scope w m []) r.1
named_expr_is w m text r h =
    let s = method_scope w m [] in
    let taken = is_known w (word_of text) || is_among (word_of text) m.names in
    let i = then_inv _ (new_name taken text) r h in
    let a = after_inv (codes " ") i.1 _ _ r i.3 in
    let n = taken_inv _ (last_read s a.0) r a.2 in
    joined i.0 (codes " ") (spelled s n.0) text i.1 a.0 (new_name_is taken text i.0 i.1 i.2) a.1
    (last_read_is s a.0 n.0 n.1)
    ∙ ap (λ (x : List ℕ × Expr). (x.0 ++ codes " ") ++ spelled s x.1) n.2

-- parameters
parameters_are : (w : Written) (left : ℕ) (names : List (List ℕ)) (text : List ℕ)
    (all : List (List ℕ))
    → parameters_read w left names text ≡ Ok all → (more : List (List ℕ)) × (all ≡ names ++ more)
    × (text ≡ words_text more)
parameters_are w left names [] all h = let is : names ≡ all = cc in
    ([], sym is ∙ sym (append-nil names), refl)
parameters_are w zero names (b ∷ text) all h = cc
parameters_are w (suc left) names (b ∷ text) all h =
    let a = after_inv (codes " ") (b ∷ text) _ _ all h in
    let taken = is_known w (word_of a.0) || is_among (word_of a.0) names in
    let i = then_inv (λ name rest. parameters_read w left (names ++ name ∷ []) rest)
    (new_name taken a.0) all a.2 in
    let m = parameters_are w left (names ++ i.0 ∷ []) i.1 all i.3 in (
      i.0 ∷ m.0,
      m.1 ∙ append_assoc names (i.0 ∷ []) m.0,
      joined (codes " ") i.0 (words_text m.0) (b ∷ text) a.0 i.1 a.1
          (new_name_is taken a.0 i.0 i.1 i.2) m.2,
    )

pub named_method_is : (w : Written) (text : List ℕ) (r : List ℕ × List (List ℕ))
    → named_method w text ≡ Ok r
    → text ≡ r.0 ++ words_text r.1
named_method_is w text r h =
    let taken = is_method (word_of text) w.methods in
    let i = then_inv _ (new_name taken text) r h in
    let n = taken_inv _ (parameters_read w 3 [] i.1) r i.3 in
    let p = parameters_are w 3 [] i.1 n.0 n.1 in
    new_name_is taken text i.0 i.1 i.2 ∙ ap (λ x. i.0 ++ x) (p.2 ∙ ap words_text (sym p.1))
    ∙ ap (λ (x : List ℕ × List (List ℕ)). x.0 ++ words_text x.1) n.2
