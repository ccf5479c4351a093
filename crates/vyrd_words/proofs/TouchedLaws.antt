-- The amounts of touched keys, told key by key.
use Rattle.vyrd_words.proofs.Prelude.{take_more, Amounts, amount_of, with_amount, with_touched}
use Rattle.std.proofs.Common.{◌≡◌, ℕ, List, ◌+◌, ◌<◌, [], ◌∷◌, ◌++◌, length, take, get_or, refl}

-- one key more, at the end
touched_push : (ks : List ℕ) (k : ℕ) (new old : Amounts)
    → with_touched (ks ++ k ∷ []) new old
    ≡ with_amount (with_touched ks new old) k (amount_of new k)
touched_push [] k new old = refl
touched_push (j ∷ ks) k new old = touched_push ks k new (with_amount old j (amount_of new j))

-- the keys up to a place, with the one there
pub touched_more : (ks : List ℕ) (i : ℕ) (new old : Amounts) → i < length ks
    → with_amount (with_touched (take i ks) new old) (get_or ks i 0) (amount_of new (get_or ks i 0))
    ≡ with_touched (take (i + 1) ks) new old
touched_more ks i new old low =
    cc (touched_push (take i ks) (get_or ks i 0) new old, take_more ks i 0 low)
