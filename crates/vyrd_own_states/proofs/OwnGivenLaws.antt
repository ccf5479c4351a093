-- What the parts of own words give, each by its number.
use Rattle.vyrd_own_states.proofs.Prelude
use Prelude.{◌≡◌, ℕ, ◌*◌, ◌/◌, ◌<◌, Bool, true, false, cond, List, [], ◌∷◌, ◌++◌, length, take}
use Prelude.{refl, ap, ◌∙◌, sym, arith, ◌==◌, flat_map, slice_index_or, Header, Own, given}
use Prelude.{plain_words, Written, written_in, part_gives, part_words, numbers_below, Charter, own}
use Prelude.{rules_by, part_within, width_of, own_gives, AreFew, all_given, none_given, few_gives}
use Prelude.{numbered, given_parts, parts_by_number, told, given_numbered, own_pairs, part_pairs}
use Rattle.vyrd_view.specs.Decoded.{words_of}
use Rattle.vyrd_own_states.proofs.OwnShownLaws.{flat_alike, part_kept}

-- parts that give nothing
none_told : (f : ℕ → List (ℕ × ℕ)) (ns : List ℕ) → ((i : ℕ) → f i ≡ []) → flat_map f ns ≡ []
none_told f [] none = refl
none_told f (n ∷ ns) none = ap (λ xs. xs ++ flat_map f ns) (none n) ∙ none_told f ns none

module _ (w : Written) (words : List ℕ) (width places parts whole q : ℕ)
    (few : AreFew w width places parts) (many : parts ≡ length words / width)
    (all : whole ≡ parts * width) where
  -- a part among the words of all whole parts
  same_words : width ≡ w.words → (i : ℕ) → i < parts
      → words_of width i (take whole words) ≡ part_words w words i
  same_words is i low = search (part_within, part_kept, arith)

  told_as : (b : Bool) → (w.words == 0) ≡ b → width ≡ cond b 1 w.words
      → flat_map (λ i. told i (given q (own_pairs places
      (λ j. cond {A = ℕ × ℕ} b (0, 0)
      (slice_index_or (part_gives w i (words_of width i (take whole words))) j (0, 0))))))
      (numbers_below parts)
      ≡ given_parts q (cond b []
      (numbered (λ n. part_gives w n (part_words w words n)) (length words / w.words)))
  told_as true e is = none_told _ (numbers_below parts) (λ i. ap (told i) (none_given q places))
  told_as false e is = flat_alike _ (λ i. told i (given q _)) 0 parts
      (λ i from low. ap (told i)
      (cc (
        all_given q (part_gives w i (words_of width i (take whole words))) places
            (omega (arith, few_gives w i (words_of width i (take whole words)), few.shows)),
        same_words is i (omega (arith, low)),
      ))) ∙ ap (λ n. flat_map (λ i. told i (given q (part_gives w i (part_words w words i))))
      (numbers_below n)) (cc) ∙ sym (given_numbered q (λ n. part_gives w n _) (length _ / w.words))

module _ {h : Header} {lines : List (List ℕ)} {charter : Charter} (words : List ℕ)
    {width places parts a b : ℕ} (same : own h lines ≡ charter) (subject : h.subject ≡ Own)
    (count : length words ≡ plain_words (rules_by charter).header)
    (wide : width ≡ width_of (written_in lines))
    (few : AreFew (written_in lines) width places parts) (many : parts ≡ h.size / width)
    (first : a ≡ parts) (second : b ≡ width) (q : ℕ) where
  -- the parts that give something to a key, as they are decoded
  pub own_parts_told : given_parts q (numbered
      (part_pairs width places (own_gives (written_in lines)) (take (a * b) words)) parts)
      ≡ given_parts q (parts_by_number charter words)
  own_parts_told =
      let w : Written = written_in lines in
      let all : length words ≡ h.size = cc in
      given_numbered q (part_pairs width _ (own_gives w) (take _ _)) parts
      ∙ told_as w words width places parts (a * b) q few (cc) (cc) (w.words == 0) refl wide
      ∙ ap (λ c. given_parts q (parts_by_number c words)) same
