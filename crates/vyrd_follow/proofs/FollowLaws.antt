-- What is said of a front, one entry further.
use Rattle.vyrd_follow.proofs.Prelude
use Prelude.{◌≡◌, ℕ, ◌+◌, ◌<◌, List, [], ◌++◌, length, Option, Some, None, refl, ap, ◌∙◌, sym}
use Prelude.{arith, append_assoc, option_map_or, Header, Entry, StartWord, plain_words}
use Prelude.{numbers_below, Charter, rules_by, State, length_below, items_text, IsKnown, run_by}
use Prelude.{Item, words_through, effects_there, words_then, agreed_items, start_items}
use Rattle.std.specs.Prelude.{option_map, IfSome, flat_map}
use Rattle.std.proofs.lemmas.Grind.{flat_map-append}
use Rattle.vyrd_base.specs.Starts.{state_at_start}
use Rattle.vyrd_item_text.specs.ItemText.{item_text}
use Rattle.vyrd_states.proofs.RunLaws.{known_first, never_known}
use Rattle.vyrd_witness.proofs.BelowLaws.{below_next}
use Rattle.vyrd_witness.proofs.EffectLaws.{entry_there, words_next}

-- the words
pub words_on : (h : Header) (starting : List StartWord) (front : List Entry) (at : ℕ)
    → at < length front
    → words_through (words_then h starting front at) (effects_there front at)
    ≡ words_then h starting front (at + 1)
words_on h starting front at low =
    let there = entry_there front at low in
    cc (there.1, words_next h starting front at there.0 there.1)

pub length_then : (h : Header) (starting : List StartWord) (front : List Entry) (at : ℕ)
    → length (words_then h starting front at) ≡ plain_words h
length_then h starting front at = grind (arith, starting, length_below)

-- what runs at the start
pub known_start : {S : Type 0} (charter : S → Charter) (state : S → State) (made : S → ℕ)
    (c : Charter) (starting : List StartWord) (front : List Entry) (spec : Option S)
    → option_map state spec ≡ state_at_start (rules_by c) starting
    → IfSome spec (λ s. charter s ≡ c) → IfSome spec (λ s. made s ≡ 0)
    → IsKnown c starting front 0 (option_map (run_by charter state made) spec)
known_start charter state made c starting front None begins same none = search (never_known, arith)
known_start charter state made c starting front (Some s) begins same none = search
    (known_first, arith)

-- and what is said of it
pub start_is : {S : Type 0} (charter : S → Charter) (state : S → State) (c : Charter)
    (starting : List StartWord) (spec : Option S)
    → option_map state spec ≡ state_at_start (rules_by c) starting
    → IfSome spec (λ s. charter s ≡ c)
    → option_map_or (λ s. agreed_items ((rules_by (charter s)).shown (state s))) spec []
    ≡ start_items (rules_by c) starting
start_is charter state c starting spec begins same = search arith

-- the lines
pub text_next : (line : ℕ → ℕ) (first : List ℕ) (start : List Item) (f : ℕ → List Item) (at : ℕ)
    (text next : List ℕ) (items : List Item)
    → text ≡ first ++ items_text line (start ++ flat_map f (numbers_below at)) → items ≡ f at
    → next ≡ text ++ items_text line items
    → next ≡ first ++ items_text line (start ++ flat_map f (numbers_below (at + 1)))
text_next line first start f at text next items so here push =
    let before = start ++ flat_map f (numbers_below at) in
    push ∙ (λ i. so i ++ items_text line (here i))
    ∙ append_assoc first (items_text line before) (items_text line (f at))
    ∙ ap (λ xs. first ++ xs) (sym (flat_map-append (item_text line) before (f at)))
    ∙ ap (λ xs. first ++ items_text line xs)
    (below_next f at start before (before ++ f at) refl refl)
