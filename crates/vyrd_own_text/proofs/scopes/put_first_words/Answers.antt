use Rattle.vyrd_own_text.proofs.Prelude.{◌≡◌, ◌++◌, ℕ, List, [], ◌∷◌, take, Bor, refl, ap, subst}
use Rattle.vyrd_own_text.proofs.Prelude.{suc, zero, IfOk, map, texts}
use Rattle.vyrd_own_text.proofs.scopes.put_first_words.Goals as goal

map-take : (n : ℕ) (ws : List (Bor (List ℕ))) → map (λ (w : Bor (List ℕ)). w.now) (take n ws)
    ≡ take n (map (λ (w : Bor (List ℕ)). w.now) ws)
map-take zero [] = refl
map-take zero (w ∷ ws) = refl
map-take (suc n) [] = refl
map-take (suc n) (w ∷ ws) = ap (λ xs. w.now ∷ xs) (map-take n ws)

pub returns : goal.returns
returns c =
    subst (λ ws. IfOk c.put_words.result
    (λ x. texts c.put_words.new.all.items ≡ texts c.args.all.now.items ++ ws))
    (map-take c.args.count c.args.words.now) c.put_words.ensures
