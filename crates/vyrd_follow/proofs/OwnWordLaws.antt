-- What own words show is what the words of all whole parts show.
use Rattle.vyrd_follow.proofs.Prelude
use Prelude.{◌≡◌, ℕ, ◌*◌, ◌/◌, ◌≤◌, List, ◌++◌, length, map, set, take, length-set, refl, ap, ◌∙◌}
use Prelude.{sym, arith, append-nil, take-set-le, div-add-mod, Header, StartWord, Own, Amounts}
use Prelude.{plain_words, plain_words_of, own_view, written_in, own, words_at_start, length_below}
use Prelude.{width_of, are_whole, whole_seen, Item, differences, changed_item}
use Rattle.vyrd_witness.specs.declared.effect.Effect.{Effect}
use Rattle.vyrd_follow.proofs.DifferenceLaws.{no_differences_from_itself}

-- how many words there are
pub own_count : (h : Header) → h.subject ≡ Own → plain_words h ≡ h.size
own_count h subject = ap (λ s. plain_words_of s h.size) subject

pub start_count : (h : Header) (starting : List StartWord) (words : List ℕ) → h.subject ≡ Own
    → words ≡ words_at_start h starting → length words ≡ h.size
start_count h starting words subject is = search (length_below, starting, own_count, arith)

-- ---- all whole parts

-- they have no more words than there are
pub whole_within : (size width parts n : ℕ) → n ≡ size → parts ≡ size / width → parts * width ≤ n
whole_within size width parts n count many = grind (arith, div-add-mod size width)

-- and a word isn't below their number where it isn't below that as it was read
pub past_whole : (a b parts width w : ℕ) → a ≡ parts → b ≡ width → a * b ≤ w → parts * width ≤ w
past_whole a b parts width w first second past = grind arith

module _ (h : Header) (lines : List (List ℕ)) (width parts : ℕ) (subject : h.subject ≡ Own)
    (wide : width ≡ width_of (written_in lines)) (many : parts ≡ h.size / width) where
  -- they show all
  pub whole_shows : (words : List ℕ) → length words ≡ h.size
      → own_view (written_in lines) (take (parts * width) words)
      ≡ own_view (written_in lines) words
  whole_shows words count =
      whole_seen (are_whole {h = h} {lines = lines} {charter = own h lines} refl subject
      (count ∙ sym (own_count h subject)) wide many refl refl)

  -- a word behind them shows nothing
  pub behind_shows : (words : List ℕ) (w v : ℕ) → length words ≡ h.size → parts * width ≤ w
      → own_view (written_in lines) words ≡ own_view (written_in lines) (set words w v)
  behind_shows words w v count past =
      sym (whole_shows words count)
      ∙ ap (own_view (written_in lines)) (sym (take-set-le (parts * width) words w v past))
      ∙ whole_shows (set words w v) (length-set words w v ∙ count)

-- ---- the items

pub same_items : (e : Effect) (was : ℕ) {a c b d : Amounts} → a ≡ c → b ≡ d
    → map (changed_item e was a b) (differences a b)
    ≡ map (changed_item e was c d) (differences c d)
same_items e was first second = search arith

-- none if nothing else is shown
pub no_items : (e : Effect) (was : ℕ) (a b : Amounts) (items : List Item) → a ≡ b
    → items ≡ items ++ map (changed_item e was a b) (differences a b)
no_items e was a b items same =
    cc (append-nil items, no_differences_from_itself a, same_items e was {a = a} refl same)
