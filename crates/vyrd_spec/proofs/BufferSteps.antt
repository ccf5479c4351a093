-- The steps of string buffers.
use Rattle.vyrd_spec.proofs.Prelude
use Prelude.{◌≡◌, ◌≢◌, ℕ, ◌+◌, ◌^◌, ◌%◌, ◌<◌, ◌≤◌, Bool, true, false, cond, [], ◌∷◌, Some, refl, ap}
use Prelude.{◌∙◌, sym, arith, ◌==◌, nat_lt, mod-lt, one-le-pow, pow-le-pow_right, BuffersMethod}
use Prelude.{Append, AppendFrom, Cut, Length, Read, Args, Amounts, IsAmounts, amount_of}
use Prelude.{with_amount, buffers, text_length, has_room, joined, cut_to, after_append}
use Prelude.{amount_of-with_amount, IsAmounts-with_amount, no_amounts, same_of, apart_of}
use Prelude.{same_number, below_of, is_below, is_at_most, not_below_of, isnt_below, length_at_most}
use Prelude.{joined_below, cut_below, AreTexts, is_touched, CanChange, touches}
use Rattle.vyrd_spec.proofs.StepLaws.{StepsWell, by_replies, other_key, or_false, same_amount}
use Rattle.vyrd_spec.proofs.StepLaws.{of_first, set_amount, lone, lone_amount, lone_formed}
use Rattle.vyrd_spec.proofs.StepLaws.{AllAmounts-with_amount}

-- what holds of a state, and of the one with a text appended to a buffer, holds after an append
by_append : (Q : Amounts → Type 0) (reply b more : ℕ) (s t : Amounts) → Q s
    → (has_room (amount_of s b) more ≡ true → Q (with_amount s b (joined (amount_of s b) more)))
    → after_append reply s b more ≡ Some t → Q t
by_append Q reply b more s t kept appended = grind arith

-- a cut to 7 characters or more leaves all
long_cut : (n text : ℕ) → nat_lt n 7 ≡ false → cut_to n text ≡ text
long_cut n text long = search (isnt_below, not_below_of, long, length_at_most, arith)

cut_stays : (s : Amounts) (k n q : ℕ) → is_touched (cond (nat_lt n 7) (k ∷ []) []) q ≡ false
    → amount_of (with_amount s k (cut_to n (amount_of s k))) q ≡ amount_of s q
cut_stays s k n q none = grind (arith, other_key, or_false, long_cut, same_amount)

-- a step leaves amounts
formed : (method : BuffersMethod) (args : Args) (reply : ℕ) (s t : Amounts) → IsAmounts s
    → buffers.next method args reply s ≡ Some t → IsAmounts t
formed Append args reply s t is = by_append IsAmounts _ _ _ s t is
    (λ room. IsAmounts-with_amount s _ _ is)
formed AppendFrom args reply s t is = by_append IsAmounts _ _ _ s t is
    (λ room. IsAmounts-with_amount s _ _ is)
formed Cut args reply s t is = by_replies IsAmounts reply _ _ _ t tt
    (IsAmounts-with_amount s _ _ is) tt
formed Length args reply s t is = λ e. cc
formed Read args reply s t is = λ e. cc

-- and the keys that it doesn't touch
untouched : (method : BuffersMethod) (args : Args) (reply key : ℕ) (s t : Amounts)
    → buffers.next method args reply s ≡ Some t → is_touched (touches method args) key ≡ false
    → amount_of t key ≡ amount_of s key
untouched method args reply key s t e none = search
    (by_append, other_key, joined, or_false, by_replies, cut_stays, arith)

-- an answer is by the amount of its key
answers : (s t : Amounts) (method : BuffersMethod) (args : Args) → amount_of t args.a
    ≡ amount_of s args.a
    → buffers.answer t method args ≡ buffers.answer s method args
answers s t method args same = grind arith

-- an empty buffer has room for each text
room_in_empty : (more : ℕ) → has_room 0 more ≡ true
unfolding text_length
room_in_empty more = search (is_at_most, length_at_most, arith)

joined_to_empty : (more : ℕ) → joined 0 more ≡ more
unfolding text_length
joined_to_empty more = omega arith

-- a text of one character twice
twice_one : (has_room 1 1 ≡ true) × (joined 1 1 ≡ 257)
unfolding text_length
twice_one = (refl, refl)

-- two buffers, or one, with one character each
two_texts : ℕ → ℕ → Amounts
two_texts a b = with_amount (lone a) b 1

two_formed : (a b : ℕ) → IsAmounts (two_texts a b)
unfolding two_texts
two_formed a b = IsAmounts-with_amount (lone a) b 1 (lone_formed a)

second_text : (a b : ℕ) → amount_of (two_texts a b) b ≡ 1
unfolding two_texts
second_text a b = set_amount (lone a) b 1 b (same_number b)

first_text : (a b q : ℕ) → (a == q) ≡ true → amount_of (two_texts a b) q ≡ 1
unfolding two_texts
first_text a b q e = amount_of-with_amount (lone a) b 1 q ∙ by_key (q == b)
  where
    by_key : (c : Bool) → cond c 1 (amount_of (lone a) q) ≡ 1
    by_key true = refl
    by_key false = lone_amount a q e

-- a text of 7 characters is cut to fewer
abbrev long_text : ℕ
long_text = 256 ^ 6

cut_shorter : (n : ℕ) → n < 7 → cut_to n long_text ≢ long_text
unfolding text_length
cut_shorter n low = λ same.
    let smaller : long_text % 256 ^ n < 256 ^ n = mod-lt _ (one-le-pow n _ (omega arith)) in
    let most : n ≤ 6 = omega arith in
    let power : 256 ^ n ≤ 256 ^ 6 = pow-le-pow_right {n = 256} (omega arith) most in
    let is_cut : cut_to n long_text ≡ long_text % 256 ^ n = cc (is_below n 7 low) in
    absurd (omega (arith, smaller, power, is_cut, same))

cut_changes : (k n q : ℕ) → is_touched (cond (nat_lt n 7) (k ∷ []) []) q ≡ true
    → (n < 7) × ((k == q) ≡ true)
cut_changes k n q touched = grind (arith, below_of, of_first)

-- each key that a call touches is changed by a step with that call
changes : (method : BuffersMethod) (args : Args) (key : ℕ) → is_touched (touches method args) key
    ≡ true
    → CanChange (buffers.next method args) key
changes Append args key e = record {
  reply = 1;
  before = [];
  after = with_amount [] args.a (joined 0 (args.b + 1));
  formed = no_amounts;
  allowed = cc (room_in_empty (args.b + 1));
  changed = λ same. absurd (omega (
    arith,
    set_amount [] args.a (joined 0 (args.b + 1)) key (of_first _ e),
    joined_to_empty (args.b + 1),
    same,
  ));
}
changes AppendFrom args key e =
    let before : Amounts = two_texts args.a args.b in
    let own = first_text args.a args.b args.a (same_number args.a) in
    let other = second_text args.a args.b in
    let after : Amounts = with_amount before args.a
    (joined (amount_of before args.a) (amount_of before args.b)) in
    record {
      reply = 1;
      before = before;
      after = after;
      formed = two_formed args.a args.b;
      allowed = cc (twice_one.0);
      changed = λ same. absurd (omega (
        arith,
        set_amount before args.a (joined (amount_of before args.a) (amount_of before args.b)) key
            (of_first _ e),
        ap (λ text. joined text (amount_of before args.b)) own ∙ ap (joined 1) other ∙ twice_one.1,
        first_text args.a args.b key (of_first _ e),
        same,
      ));
    }
changes Cut args key e =
    let cut = cut_changes args.a args.b key e in
    let before : Amounts = with_amount [] args.a long_text in
    let text : ℕ = amount_of before args.a in
    let own : text ≡ long_text = set_amount [] args.a long_text args.a (same_number args.a) in
    record {
      reply = 1;
      before = before;
      after = with_amount before args.a (cut_to args.b text);
      formed = IsAmounts-with_amount [] args.a long_text no_amounts;
      allowed = refl;
      changed = λ same. cut_shorter args.b cut.0
          (ap (cut_to args.b) (sym own)
          ∙ sym (set_amount before args.a (cut_to args.b text) key cut.1) ∙ same
          ∙ set_amount [] args.a long_text key cut.1);
    }
changes Length args key e = cc
changes Read args key e = cc

pub buffers_steps : StepsWell buffers touches
buffers_steps = search (formed, untouched, answers, changes, arith)

-- the text of a buffer is one of at most 7 characters
pub is_text : (s : Amounts) (b : ℕ) → AreTexts s → amount_of s b < 256 ^ 7
is_text s b all = grind (arith, same_of, apart_of)

with_text : (s : Amounts) (b text : ℕ) → b < 2 ^ 32 → AreTexts s → text < 256 ^ 7
    → AreTexts (with_amount s b text)
with_text s b text low all small = search (small, AllAmounts-with_amount, arith)

-- a step of the string buffers keeps the texts in range
pub texts_after : (method : BuffersMethod) (args : Args) (reply : ℕ) (s t : Amounts)
    → args.a < 2 ^ 32 → args.b < 2 ^ 32 → AreTexts s → buffers.next method args reply s ≡ Some t
    → AreTexts t
texts_after Append args reply s t low low_b all = search
    (by_append, with_text, joined, joined_below, is_text, arith)
texts_after AppendFrom args reply s t low low_b all = by_append AreTexts _ _ _ s t all
    (λ room. with_text s _ _ low all (joined_below _ _ (is_text s _ all) (is_text s _ all) room))
texts_after Cut args reply s t low low_b all = search
    (by_replies, with_text, cut_below, is_text, arith)
texts_after Length args reply s t low low_b all = λ e. cc
texts_after Read args reply s t low low_b all = λ e. cc
