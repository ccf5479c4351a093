-- What an expression is read as, by how it begins.
use Rattle.vyrd_own_text.proofs.Prelude
use Prelude.{◌≡◌, ◌≢◌, ℕ, List, Option, Some, None, Result, refl, ap, ◌∙◌, sym, subst, arith, codes}
use Prelude.{◌-◌, IfOk, Expr, shown, hidden, Read, read_as, Scope, Found, after, whole_read}
use Prelude.{expr_read, if_after, of_state, one_read, round_read, atom_read}

pub expr_whole : (s : Scope) (n : ℕ) (text : List ℕ) → n ≢ 0 → expr_read s n text
    ≡ whole_read (expr_read s (n - 1)) s text
expr_whole s n text ne = grind (arith, whole_read)

pub moved : {E : Type 0} (r : Result Read E) (e : Expr) (x y : Found Expr) → x ≡ y
    → IfOk r (λ o. read_as e o ≡ x) → IfOk r (λ o. read_as e o ≡ y)
moved r e x y is = subst (λ z. IfOk r (λ o. read_as e o ≡ z)) is

pub skipped : {A : Type 0} (o : Option (List ℕ)) (there : List ℕ → A) (otherwise result : A)
    → None ≡ o → otherwise ≡ result → if_after o there otherwise ≡ result
skipped o there otherwise result n e = ap (λ p. if_after p there otherwise) (sym n) ∙ e

pub taken : {A : Type 0} (o : Option (List ℕ)) (there : List ℕ → A) (otherwise : A) (rest : List ℕ)
    → Some rest ≡ o → if_after o there otherwise ≡ there rest
taken o there otherwise rest s = ap (λ p. if_after p there otherwise) (sym s)

module _ (inner : List ℕ → Found Expr) (s : Scope) (text rest : List ℕ) where
  pub whole_round : Some rest
      ≡ after (codes "(") text → whole_read inner s text ≡ round_read inner s rest
  unfolding whole_read
  whole_round a = taken _ _ _ rest a

  pub whole_square : None ≡ after (codes "(") text → Some rest ≡ after (codes "[") text
      → whole_read inner s text ≡ of_state s text (one_read inner shown (codes "]") rest)
  unfolding whole_read
  whole_square a b = skipped _ _ _ _ a (taken _ _ _ rest b)

  pub whole_curly : None
      ≡ after (codes "(") text → None ≡ after (codes "[") text → Some rest ≡ after (codes "{") text
      → whole_read inner s text ≡ of_state s text (one_read inner hidden (codes "}") rest)
  unfolding whole_read
  whole_curly a b d = skipped _ _ _ _ a (skipped _ _ _ _ b (taken _ _ _ rest d))

  pub whole_atom : None
      ≡ after (codes "(") text → None ≡ after (codes "[") text → None ≡ after (codes "{") text
      → whole_read inner s text ≡ atom_read s text
  unfolding whole_read
  whole_atom a b d = skipped _ _ _ _ a (skipped _ _ _ _ b (skipped _ _ _ _ d refl))
