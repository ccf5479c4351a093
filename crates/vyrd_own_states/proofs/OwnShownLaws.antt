-- The words of all whole parts show what all words show.
use Rattle.vyrd_own_states.proofs.Prelude
use Prelude.{◌≡◌, ℕ, zero, suc, ◌+◌, ◌-◌, ◌*◌, ◌/◌, ◌<◌, ◌≤◌, List, ◌++◌, length, take, drop, refl}
use Prelude.{ap, ◌∙◌, sym, arith, flat_map, drop-take, take-take, length-take, div-mul-add}
use Prelude.{div-add-mod, Header, Own, collected, plain_words, numbers_from, numbers_below}
use Prelude.{own_view, Written, written_in, part_gives, part_words, view_of, Charter, own, rules_by}
use Prelude.{apart_of, width_of}

-- ---- words behind the last whole part

pub flat_alike : (f g : ℕ → List (ℕ × ℕ)) (k n : ℕ) → ((i : ℕ) → k ≤ i → i < k + n → f i ≡ g i)
    → flat_map f (numbers_from k n) ≡ flat_map g (numbers_from k n)
flat_alike f g k zero same = refl
flat_alike f g k (suc n) same =
    ap (λ xs. xs ++ flat_map f (numbers_from (k + 1) n)) (same k (omega arith) (omega arith))
    ∙ ap (λ xs. g k ++ xs)
    (flat_alike f g (k + 1) n (λ i from to. same i (omega arith) (omega arith)))

module _ (w : Written) (words : List ℕ) (whole : ℕ) where
  -- a part that ends among the first words
  pub part_kept : (i : ℕ) → w.words * i + w.words ≤ whole
      → part_words w (take whole words) i ≡ part_words w words i
  part_kept i within =
      let from : ℕ = w.words * i in
      let rest : ℕ = whole - from in
      let all : whole ≡ from + rest = omega arith in
      let own : from + w.words - from ≡ w.words = omega arith in
      cc (drop-take from rest words, take-take w.words rest (drop from words) (omega arith))

  -- the words of all whole parts show what all words show
  view_kept : 1 ≤ w.words → whole ≡ length words / w.words * w.words
      → view_of w (take whole words) ≡ view_of w words
  unfolding view_of
  view_kept some is =
      let parts : ℕ = length words / w.words in
      let before : ℕ → List (ℕ × ℕ) = λ i. part_gives w i (part_words w (take whole words) i) in
      let after : ℕ → List (ℕ × ℕ) = λ i. part_gives w i (part_words w words i) in
      let turned : w.words * parts ≡ parts * w.words = omega arith in
      let within : whole ≤ length words =
      omega (arith, is, turned, div-add-mod (length words) w.words) in
      let count : length (take whole words) ≡ parts * w.words
      + 0 = omega (arith, length-take whole words, within, is) in
      let quotient : length (take whole words) / w.words
      ≡ parts = cc (div-mul-add parts w.words 0 (omega arith)) in
      ap (λ n. collected (flat_map before (numbers_below n))) quotient
      ∙ ap collected
      (flat_alike before after 0 parts (λ i from to. ap (part_gives w i) (part_kept i (ends i to))))
    where
      ends : (i : ℕ) → i < 0 + length words / w.words → w.words * i + w.words ≤ whole
      ends i low = grind arith

  whole_shown : whole ≡ length words / width_of w * width_of w
      → own_view w (take whole words) ≡ own_view w words
  whole_shown is = search (apart_of, view_kept, arith)

-- how many words all whole parts have
whole_count : (h : Header) (w : Written) (n width parts a b : ℕ) → h.subject ≡ Own
    → n ≡ plain_words h → width ≡ width_of w → parts ≡ h.size / width → a ≡ parts → b ≡ width
    → a * b ≡ n / width_of w * width_of w
whole_count h w n width parts a b subject count wide many first second = grind (arith, parts, count)

-- ---- a charter's words

-- so many of the words are those of all whole parts, and this is the view of the charter
pub record AreWhole (w : Written) (charter : Charter) (words : List ℕ) (whole : ℕ) : Type 0 where
  pub is : whole ≡ length words / width_of w * width_of w
  pub seen : (all : List ℕ) → own_view w all ≡ (rules_by charter).view all

module _ {h : Header} {lines : List (List ℕ)} {charter : Charter} {words : List ℕ}
    {width parts a b : ℕ} (same : own h lines ≡ charter) (subject : h.subject ≡ Own)
    (count : length words ≡ plain_words (rules_by charter).header)
    (wide : width ≡ width_of (written_in lines)) (many : parts ≡ h.size / width)
    (first : a ≡ parts) (second : b ≡ width) where
  pub are_whole : AreWhole (written_in lines) charter words (a * b)
  are_whole = record {
    is = whole_count h (written_in lines) (length words) width parts a b subject
        (count ∙ ap (λ c. plain_words (rules_by c).header) (sym same)) wide many first second;
    seen = λ all. ap (λ c. (rules_by c).view all) same;
  }

-- they show what all words show
pub whole_seen : {w : Written} {charter : Charter} {words : List ℕ} {whole : ℕ}
    → AreWhole w charter words whole
    → own_view w (take whole words) ≡ (rules_by charter).view words
whole_seen e0 = search (whole_shown, arith)
