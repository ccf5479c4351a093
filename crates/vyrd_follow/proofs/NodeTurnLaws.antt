-- The keys that a write to a node turns, from those that the node gives to.
use Rattle.vyrd_follow.proofs.Prelude
use Prelude.{◌≡◌, ◌≢◌, ℕ, ◌+◌, ◌*◌, ◌/◌, ◌%◌, ◌^◌, ◌<◌, ◌≤◌, Bool, true, false, not, length, map}
use Prelude.{get_or, set, take, ap, ◌∙◌, sym, arith, List, [], filter, take_all, Header, Tree}
use Prelude.{Amounts, IsAmounts, amount_of, keys_of, node_word, view_of_words, same_of, apart_of}
use Prelude.{is_same, is_on_chain, differ_at, turned_to, turns}
use Rattle.vyrd_view.proofs.NodeLaws.{marked_within}
use Rattle.vyrd_follow.proofs.DifferenceLaws.{differences_are, differences_of, key_among, keys_rise}
use Rattle.vyrd_follow.proofs.DifferenceLaws.{true_false}
use Rattle.vyrd_follow.proofs.TreeLaws.{node_turned, node_none, word_before}

-- no key turns
pub no_turns : (from to : Amounts) → ((q : ℕ) → amount_of from q ≡ amount_of to q)
    → [] ≡ turns from to
no_turns from to same = ap (map (turned_to to)) (differences_are from to [] tt
    (λ q. sym (ap not (is_same (amount_of from q) (amount_of to q) (same q)))))

-- those of these keys that turn
abbrev pub turns_among : Amounts → Amounts → Amounts → List (ℕ × ℕ)
turns_among from to keys = map (turned_to to) (filter (differ_at from to) (keys_of keys))

-- ---- all keys that a node gives to

module _ (h : Header) (w was : ℕ) (words : List ℕ) (is : h.subject ≡ Tree) (some : 0 < h.size)
    (unlinked : w % 12 ≢ 3) (within : w < length words) (low : w / 12 < h.size)
    (on : is_on_chain h.size words (w / 12) ≡ true) (keys : Amounts) (formed : IsAmounts keys)
    (has_was : amount_of keys was ≢ 0) (has_damage : amount_of keys (2 ^ 33) ≢ 0)
    (has_entries : (j : ℕ) → j < 4 → amount_of keys (node_word words (w / 12) (4 + j)) ≢ 0) where
  others_stay : (q : ℕ) → amount_of keys q ≡ 0
      → amount_of (view_of_words h (set words w was)) q ≡ amount_of (view_of_words h words) q
  others_stay q none =
      let not_was : q ≢ was = λ e. has_was (ap (amount_of keys) (sym e) ∙ none) in
      let sound : q ≢ 2 ^ 33 = λ e. has_damage (ap (amount_of keys) (sym e) ∙ none) in
      let entries = λ (j : ℕ) (few : j < 4) (e : q ≡ node_word words (w / 12) (4 + j)).
      has_entries j few (ap (amount_of keys) (sym e) ∙ none) in
      omega (
        arith,
        node_turned h w was words q is some unlinked low on,
        node_none q words (w / 12) entries sound,
        node_none q (set words w was) (w / 12) (λ j few. word_before words w was
            (12 * (w / 12) + (4 + j)) q within not_was (entries j few)) sound,
      )

  -- the turns among them are all turns
  pub node_turns_all : turns_among (view_of_words h (set words w was)) (view_of_words h words) keys
      ≡ turns (view_of_words h (set words w was)) (view_of_words h words)
  node_turns_all = search
      (differences_of, keys_rise, others_stay, same_of, true_false, key_among, apart_of, arith)

  -- once all of these keys were looked at
  pub all_found : (shown items : Amounts) (found : List (ℕ × ℕ)) (i : ℕ)
      → shown ≡ view_of_words h (set words w was) → items ≡ keys → length items ≤ i
      → found ≡ turns_among shown (view_of_words h words) (take i items)
      → found ≡ turns shown (view_of_words h words)
  all_found shown items found i shows all end is = search (take_all, node_turns_all, arith)

-- ---- marks

module _ (size s : ℕ) (words : List ℕ) (marks seen : List Bool) (n : ℕ) (b : Bool)
    (same : s ≡ size) (is : seen ≡ marks)
    (each : (m : ℕ) → m < s → get_or marks m false ≡ is_on_chain s words m)
    (here : b ≡ get_or seen n false) where
  has_mark : n < size → is_on_chain size words n ≡ b
  has_mark low = search arith

  pub marks_off : b ≡ false → n < size → is_on_chain size words n ≡ false
  marks_off off low = has_mark low ∙ off

  pub marks_low : length marks ≡ s → b ≡ true → n < size
  marks_low count on = search (marked_within, arith)

  pub marks_on : length marks ≡ s → b ≡ true → is_on_chain size words n ≡ true
  marks_on count on = has_mark (marks_low count on) ∙ on
