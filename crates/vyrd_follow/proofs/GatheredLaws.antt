-- Amounts that are put together in the order of their keys.
use Rattle.vyrd_follow.proofs.Prelude.{◌≡◌, ℕ, ◌+◌, ◌<◌, cond, not, [], ◌∷◌, ◌++◌, length, get_or}
use Rattle.vyrd_follow.proofs.Prelude.{take, drop, refl, ap, ◌∙◌, sym, subst, arith, ◌==◌, filter}
use Rattle.vyrd_follow.proofs.Prelude.{nat_cmp, Greater, AllByRecursion, nat_tests, take_more}
use Rattle.vyrd_follow.proofs.Prelude.{slice_get-get_or, Amounts, IsAmounts, with_amount, isnt_same}
use Rattle.std.specs.FinMap.Entries.{put}
use Rattle.std.proofs.lemmas.List.{take-append-drop}
use Rattle.std.proofs.lemmas.List.Elements.{recursion_from_All}
use Rattle.vyrd_base.proofs.KeyLaws.{lesser_keys}
use Rattle.vyrd_follow.proofs.DifferingLaws.{behind_is, formed_behind}

greater_of : (k e : ℕ) → e < k → nat_cmp k e ≡ Greater
greater_of k e low = grind (arith, nat_tests)

-- a key above all others is put at the end
put_last : (k a : ℕ) (s : Amounts) → AllByRecursion (λ p. p.0 < k) s
    → put nat_cmp k a s ≡ s ++ (k, a) ∷ []
put_last k a [] lower = refl
put_last k a (e ∷ s) lower = cc (greater_of k e.0 lower.0, put_last k a s lower.1)

-- so the next of amounts comes to those before it
pub with_next : (s : Amounts) (i : ℕ) (d : ℕ × ℕ) → IsAmounts s → i < length s
    → with_amount (take i s) (get_or s i d).0 (get_or s i d).1 ≡ take (i + 1) s
with_next s i d is within =
    let x = get_or s i d in
    let found = slice_get-get_or s i d within in
    let some = (subst IsAmounts (behind_is s i x found) (formed_behind s i is)).some.0 in
    let whole : take i s ++ get_or s i d ∷ drop (i + 1) s ≡ s =
    ap (λ rest. take i s ++ rest) (sym (behind_is s i x found)) ∙ take-append-drop i s in
    ap (λ b. cond b (filter (λ entry. not (entry.0 == x.0)) (take i s))
    (put nat_cmp x.0 x.1 (take i s))) (isnt_same x.1 0 some)
    ∙ put_last x.0 x.1 (take i s) (recursion_from_All (λ p. p.0 < x.0) (take i s)
    (lesser_keys (take i s) x.0 x.1 (drop (i + 1) s) (subst IsAmounts (sym whole) is)))
    ∙ sym (take_more s i d within)
