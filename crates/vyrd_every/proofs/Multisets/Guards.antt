-- The multiset as a structure: a bucket's lock guards the words of its slots, and a slot with state
-- 1 is reserved.
use Rattle.vyrd_every.proofs.Prelude
use Prelude.{◌≡◌, ◌/◌, ◌<◌, List, [], sym, subst, arith, Header, Multiset, Entry, plain_words_of}
use Prelude.{Amounts, collected, start, ended_words, parts_of, view_of_words, given_nothing}
use Prelude.{element_below, flat_map_alike, collected-is, IsMultiset, Fits, shown_by, multiset}
use Rattle.vyrd_multiset.specs.Laws.Sound.{is_its_lock}

-- the view of the words that the log leaves is the state that they represent
view_is : (h : Header) (log : List Entry) (state : Amounts) → h.subject ≡ Multiset
    → IsMultiset h (shown_by log) state
    → view_of_words h (ended_words h log) ≡ state
unfolding view_of_words ended_words
view_is h log state is m = search
    (collected, parts_of, flat_map_alike, shown_by, collected-is, element_below, arith)

-- nothing was written yet
empty_means : (h : Header) → IsMultiset h (shown_by []) start.shown
empty_means h = search (given_nothing, shown_by, arith)

-- it fits a header of the multiset
pub multiset_fits : (h : Header) → h.version ≡ 1 → h.subject ≡ Multiset → Fits (multiset h)
multiset_fits h one is = record {
  version = one;
  plain = λ cell low. subst (λ s. cell < plain_words_of s h.size) (sym is) low;
  locks = λ cell low. is_its_lock h is (cell / 8) (omega (arith, low));
  begins = empty_means h;
  view = λ log state m. view_is h log state is m;
}
