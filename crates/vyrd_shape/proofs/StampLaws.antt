-- How the stamps of words are raised.
use Rattle.vyrd_shape.proofs.Prelude.{◌≡◌, ◌≢◌, ℕ, ◌<◌, max, Bool, true, false, cond, List, length}
use Rattle.vyrd_shape.proofs.Prelude.{refl, ap, ◌∙◌, sym, subst, arith, get_or, set}
use Rattle.vyrd_shape.proofs.Prelude.{get_or-set_other, get_or-set_same, length-set, ◌==◌}
use Rattle.vyrd_shape.proofs.Prelude.{nat_tests, by_same, apart_of, flipped, AreRaised}

-- a stamp that is raised, or not
abbrev pub raised_if : Bool → ℕ → ℕ → ℕ
raised_if raises stamp old = cond raises (max old stamp) old

-- a word's stamp, once the words of the holder are raised
abbrev pub raised_for : ℕ → ℕ → List ℕ → List ℕ → ℕ → ℕ
raised_for holder stamp held stamps w =
    raised_if (get_or held w 0 == holder) stamp (get_or stamps w 0)

-- Some words of the holder have been let go of and raised: raising those that are left gives what
-- raising all of them would.
pub record IsRaising (holder stamp : ℕ) (held stamps held' stamps' : List ℕ) : Type 0 where
  pub lengths : length stamps' ≡ length stamps
  pub raised : (w : ℕ) → w < length stamps
      → raised_for holder stamp held' stamps' w ≡ raised_for holder stamp held stamps w

pub raising_none : (holder stamp : ℕ) (held stamps : List ℕ)
    → IsRaising holder stamp held stamps held stamps
raising_none holder stamp held stamps = record { lengths = refl; raised = λ w low. refl }

-- one word more
pub raising_more : (holder stamp : ℕ) (held stamps held' stamps' : List ℕ) (w : ℕ)
    → 0 < holder → w < length held' → get_or held' w 0 ≡ holder
    → IsRaising holder stamp held stamps held' stamps'
    → IsRaising holder stamp held stamps
    (set held' w 0) (set stamps' w (max (get_or stamps' w 0) stamp))
raising_more holder stamp held stamps held' stamps' w some low here raising = record {
  lengths = length-set stamps' w more ∙ raising.lengths;
  raised = λ v low_v. by_same w v
      (λ same. subst (λ x. after x ≡ whole x) same (at_word (omega arith)))
      (λ other. elsewhere v low_v other);
}
  where
    more : ℕ
    more = max (get_or stamps' w 0) stamp

    after : ℕ → ℕ
    after v = raised_for holder stamp (set held' w 0) (set stamps' w more) v

    whole : ℕ → ℕ
    whole v = raised_for holder stamp held stamps v

    at_word : w < length stamps → after w ≡ whole w
    at_word low_w =
        let none : (0 == holder) ≡ false = grind (arith, nat_tests) in
        let gone = ap (λ n. n == holder) (get_or-set_same held' w 0 0 low) ∙ none in
        let was : (get_or held' w 0 == holder) ≡ true = grind (arith, nat_tests) in
        ap (λ b. raised_if b stamp (get_or (set stamps' w more) w 0)) gone
        ∙ get_or-set_same stamps' w more 0 (omega (arith, raising.lengths))
        ∙ ap (λ b. raised_if b stamp (get_or stamps' w 0)) (sym was)
        ∙ raising.raised w low_w

    elsewhere : (v : ℕ) → v < length stamps → (w == v) ≡ false → after v ≡ whole v
    elsewhere v low_v other =
        let apart : v ≢ w = apart_of v w (flipped w v other) in
        let holders = get_or-set_other held' w v 0 0 apart in
        let kept = get_or-set_other stamps' w v more 0 apart in
        (λ i. raised_if (holders i == holder) stamp (kept i)) ∙ raising.raised v low_v

-- all words of the holder have been raised
pub raising_all : (holder stamp : ℕ) (held stamps held' stamps' : List ℕ)
    → ((w : ℕ) → get_or held' w 0 ≢ holder) → IsRaising holder stamp held stamps held' stamps'
    → AreRaised (λ w. get_or held w 0 == holder) stamp stamps stamps'
raising_all holder stamp held stamps held' stamps' none raising = grind (arith, raising.lengths)
