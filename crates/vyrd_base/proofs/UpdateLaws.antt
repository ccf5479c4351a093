-- Functions of numbers that are changed at one place.
use Rattle.std.proofs.Common.{◌≡◌, ◌≢◌, ℕ, Bool, cond, eqb, ap, eq-eqb, ne_eqb}

abbrev pub upd : {A : Type 0} → (ℕ → A) → ℕ → A → ℕ → A
upd f at a c = cond (eqb c at) a (f c)

pub upd_here : {A : Type 0} (f : ℕ → A) (at : ℕ) (a : A) (c : ℕ) → c ≡ at → upd f at a c ≡ a
upd_here {A} f at a c is = ap (λ (b : Bool). cond {A = A} b a (f c)) (eq-eqb c at is)

pub upd_else : {A : Type 0} (f : ℕ → A) (at : ℕ) (a : A) (c : ℕ) → c ≢ at → upd f at a c ≡ f c
upd_else {A} f at a c apart = ap (λ (b : Bool). cond {A = A} b a (f c)) (ne_eqb c at apart)
