-- Texts of string buffers as numbers: how long they are, how they are joined, and how they are cut.
use Rattle.vyrd_base.proofs.Prelude.{◌==◌, nat_lt, nat_le, text_of, text_length, are_characters}
use Rattle.vyrd_base.proofs.Prelude.{same_of, apart_of, both_true, first_true, second_true}
use Rattle.vyrd_base.proofs.Prelude.{below_of, is_below, at_most_of, is_at_most, above_of}
use Rattle.std.proofs.Common.{◌-◌, ◌/◌, ◌%◌, ◌≡◌, ℕ, zero, suc, ◌+◌, ◌*◌, ◌^◌, ◌<◌, ◌≤◌, min, Bool}
use Rattle.std.proofs.Common.{true, false, cond, ◌&&◌, refl, ap, ◌∙◌, sym, arith}
use Rattle.std.proofs.Math.Nat.{pow-suc, pow-le-pow_right, mul-le-mul_right, add-mul-mod_self_right}
use Rattle.std.proofs.Math.Nat.{mod-eq_of_lt}
use Rattle.std.proofs.lemmas.Nat.{pow-add, mul-add-lt}
use Rattle.vyrd_base.specs.Buffers.{powers_within, has_room, joined, cut_to}
use Rattle.vyrd_base.proofs.TestLaws.{not_below_of, isnt_below, isnt_at_most}

-- a text has only the characters below its length
pub text_same : (f g : ℕ → ℕ) (n : ℕ) → ((i : ℕ) → i < n → f i ≡ g i) → text_of f n ≡ text_of g n
text_same f g zero same = refl
text_same f g (suc n) same = λ k.
    text_same f g n (λ i low. same i (omega (arith, low))) k + (same n (omega arith) k + 1)
    * 256 ^ n

pub characters_same : (f g : ℕ → ℕ) (n : ℕ) → ((i : ℕ) → i < n → f i ≡ g i) → are_characters f n
    ≡ are_characters g n
characters_same f g zero same = refl
characters_same f g (suc n) same = λ k.
    characters_same f g n (λ i low. same i (omega (arith, low))) k
    && nat_lt (same n (omega arith) k) 255

-- each character of a text is below 255
pub character_below : (f : ℕ → ℕ) (n : ℕ) → are_characters f n ≡ true → (i : ℕ) → i < n → f i < 255
character_below f zero e i low = absurd (omega (arith, low))
character_below f (suc n) e i low = by_place
    (character_below f n (first_true (are_characters f n) _ e) i) (i == n) refl
  where
    by_place : (i < n → f i < 255) → (b : Bool) → (i == n) ≡ b → f i < 255
    by_place before true same = search (same_of, below_of, second_true, arith)
    by_place before false apart = before (let isnt = apart_of i n apart in omega (arith, low, isnt))

pub all_characters : (f : ℕ → ℕ) (n : ℕ) → ((i : ℕ) → i < n → f i < 255) → are_characters f n ≡ true
all_characters f zero each = refl
all_characters f (suc n) each =
    both_true _ _ (all_characters f n (λ i low. each i (omega (arith, low))))
    (is_below (f n) 255 (each n (omega arith)))

and_again : (a b c : Bool) → ((a && b) && c) ≡ (a && (b && c))
and_again a b c = search arith

-- characters, and those after them
pub characters_split : (f : ℕ → ℕ) (n m : ℕ) → are_characters f (n + m)
    ≡ (are_characters f n && are_characters (λ i. f (n + i)) m)
characters_split f n zero = grind arith
characters_split f n (suc m) =
    let one : n + suc m ≡ suc (n + m) = omega arith in
    ap (are_characters f) one ∙ ap (λ b. b && nat_lt (f (n + m)) 255) (characters_split f n m)
    ∙ and_again (are_characters f n) (are_characters _ m) (nat_lt _ _)

pub text_split : (f : ℕ → ℕ) (n m : ℕ) → text_of f (n + m) ≡ text_of f n
    + text_of (λ i. f (n + i)) m * 256 ^ n
text_split f n zero = grind arith
text_split f n (suc m) =
    let one : n + suc m ≡ suc (n + m) = omega arith in
    let last : text_of f (n + m) + (f (n + m) + 1) * 256 ^ (n + m)
    ≡ text_of f n + (text_of (λ i. f (n + i)) m + (f (n + m) + 1) * 256 ^ m) * 256 ^ n =
    grind (arith, text_split f n m, pow-add 256 n m) in
    ap (text_of f) one ∙ last

-- a text of n characters is below 256^n
pub text_below : (f : ℕ → ℕ) (n : ℕ) → are_characters f n ≡ true → text_of f n < 256 ^ n
text_below f zero e = omega arith
text_below f (suc n) e =
    let before = text_below f n (first_true _ _ e) in
    let low = below_of (f n) 255 (second_true _ _ e) in
    let digit : (f n + 1) * 256 ^ n ≤ 255 * 256 ^ n = mul-le-mul_right _ (omega (arith, low)) in
    omega (arith, before, digit, pow-suc 256 n)

-- how many powers of 256 are at most a text that has n characters
powers_counted : (text n k : ℕ) → text < 256 ^ n → ((i : ℕ) → i < n → 256 ^ i ≤ text)
    → powers_within k text ≡ min k n
powers_counted text n zero below each = omega arith
powers_counted text n (suc k) below each = by_power (powers_counted text n k below each)
    (nat_lt k n) refl
  where
    by_power : powers_within k text ≡ min k n → (b : Bool) → nat_lt k n ≡ b
        → powers_within k text + cond (nat_le (256 ^ k) text) 1 0 ≡ min (suc k) n
    by_power before true low = search (is_at_most, below_of, arith)
    by_power before false high =
        let k_high = not_below_of k n high in
        let power : 256 ^ n ≤ 256 ^ k = pow-le-pow_right (omega arith) k_high in
        let here : nat_le (256 ^ k) text ≡ false = isnt_at_most _ _ (omega (arith, below, power)) in
        ap (λ b. powers_within k text + cond b 1 0) here ∙ omega (arith, before, k_high)

-- a character makes a text no less than the power at its place
power_within : (f : ℕ → ℕ) (n i : ℕ) → i < n → 256 ^ i ≤ text_of f n
power_within f zero i low = absurd (omega (arith, low))
power_within f (suc n) i low = by_place (power_within f n i) (i == n) refl
  where
    by_place : (i < n → 256 ^ i ≤ text_of f n) → (b : Bool) → (i == n) ≡ b → 256 ^ i ≤ text_of f n
        + (f n + 1) * 256 ^ n
    by_place before true same = grind (arith, same_of i n same)
    by_place before false apart = grind (arith, before (omega (arith, low, (apart_of i n apart))))

pub length_of_text : (f : ℕ → ℕ) (n : ℕ) → n ≤ 7 → are_characters f n ≡ true
    → text_length (text_of f n) ≡ n
unfolding text_length
length_of_text f n few e =
    let counted = powers_counted (text_of f n) n 7 (text_below f n e) (power_within f n) in
    omega (arith, counted, few)

pub one_character : (x : ℕ) → x < 255 → text_length (x + 1) ≡ 1
one_character x low =
    let same : x + 1 ≡ text_of (λ i. x) 1 = omega arith in
    ap text_length same ∙ length_of_text (λ i. x) 1 (omega arith)
    (both_true _ _ refl (is_below x 255 low))

pub joined_texts : (f g : ℕ → ℕ) (n m : ℕ) → n ≤ 7 → are_characters f n ≡ true
    → joined (text_of f n) (text_of g m) ≡ text_of f n + text_of g m * 256 ^ n
joined_texts f g n m few e = cc (length_of_text f n few e)

-- the characters after the first n are joined after them
pub joined_characters : (f : ℕ → ℕ) (n m : ℕ) → n ≤ 7 → are_characters f n ≡ true
    → joined (text_of f n) (text_of (λ i. f (n + i)) m) ≡ text_of f (n + m)
joined_characters f n m few e = joined_texts f (λ i. f (n + i)) n m few e ∙ sym (text_split f n m)

pub cut_text : (f : ℕ → ℕ) (n k : ℕ) → n ≤ 7 → are_characters f n ≡ true → k < n
    → cut_to k (text_of f n) ≡ text_of f k
cut_text f n k few e low = ap (λ l. cond (nat_lt k l) (text_of f n % 256 ^ k) (text_of f n))
    (length_of_text f n few e) ∙ ap (λ b. cond b (text_of f n % 256 ^ k) (text_of f n))
    (is_below k n low) ∙ ap (λ t. t % 256 ^ k) (ap (text_of f) whole ∙ text_split f k _)
    ∙ add-mul-mod_self_right _ _ _
    ∙ mod-eq_of_lt
    (text_below f k
    (first_true _ _ (sym (characters_split f k _) ∙ ap (are_characters f) (sym whole) ∙ e)))
  where
    whole : n ≡ k + (n - k)
    whole = omega (arith, low)

pub uncut_text : (f : ℕ → ℕ) (n k : ℕ) → n ≤ 7 → are_characters f n ≡ true → n ≤ k
    → cut_to k (text_of f n) ≡ text_of f n
uncut_text f n k few e high = grind (arith, few, length_of_text, isnt_below)

-- a cut keeps the first k characters, or all if there are no more
pub cut_characters : (f : ℕ → ℕ) (n k : ℕ) → n ≤ 7 → are_characters f n ≡ true
    → cut_to k (text_of f n) ≡ text_of f (min k n)
cut_characters f n k few e = grind (arith, few, cut_text, below_of, uncut_text, not_below_of)

-- the last character of a text, plus 1
last_digit : (f : ℕ → ℕ) (n : ℕ) → are_characters f n ≡ true → text_of f (suc n) / 256 ^ n ≡ f n + 1
last_digit f n e = grind (arith, text_below)

-- the characters before the last
digits_before : (f : ℕ → ℕ) (n : ℕ) → are_characters f n ≡ true → text_of f (suc n) % 256 ^ n
    ≡ text_of f n
digits_before f n e = search (text_below, arith)

-- a text tells its characters
pub same_characters : (f g : ℕ → ℕ) (n : ℕ) → are_characters f n ≡ true → are_characters g n ≡ true
    → text_of f n ≡ text_of g n → (i : ℕ) → i < n → f i ≡ g i
same_characters f g zero fs gs same i low = absurd (omega (arith, low))
same_characters f g (suc n) fs gs same i low =
    by_place (same_characters f g n before_f before_g before) (i == n) refl
  where
    before_f : are_characters f n ≡ true
    before_f = first_true (are_characters f n) _ fs

    before_g : are_characters g n ≡ true
    before_g = first_true (are_characters g n) _ gs

    last : f n ≡ g n
    last = grind (arith, last_digit f n before_f, last_digit g n before_g)

    before : text_of f n ≡ text_of g n
    before = cc (digits_before f n before_f, digits_before g n before_g)

    by_place : ((j : ℕ) → j < n → f j ≡ g j) → (b : Bool) → (i == n) ≡ b → f i ≡ g i
    by_place each true here = rw (same_of i n here) last
    by_place each false apart = each i (let isnt = apart_of i n apart in omega (arith, low, isnt))

-- Of any number, a text or not.
pub powers_at_most : (k text : ℕ) → powers_within k text ≤ k
powers_at_most zero text = omega arith
powers_at_most (suc k) text = by_power (powers_at_most k text) (nat_le (256 ^ k) text)
  where
    by_power : powers_within k text ≤ k → (b : Bool) → powers_within k text + cond b 1 0 ≤ suc k
    by_power before b = search arith

pub length_at_most : (text : ℕ) → text_length text ≤ 7
unfolding text_length
length_at_most text = powers_at_most 7 text

all_within : (k text : ℕ) → 256 ^ k ≤ text → powers_within (suc k) text ≡ suc k
all_within zero text high = ap (λ b. 0 + cond b 1 0) (is_at_most (256 ^ 0) text high)
all_within (suc k) text high =
    let lower : 256 ^ k ≤ text = omega (arith, high, pow-suc 256 k) in
    ap (λ b. powers_within (suc k) text + cond b 1 0) (is_at_most (256 ^ suc k) text high)
    ∙ ap (λ n. n + 1) (all_within k text lower) ∙ omega arith

below_power : (k text : ℕ) → text < 256 ^ k → text < 256 ^ powers_within k text
below_power zero text below = below
below_power (suc k) text below = by_power (below_power k text) (nat_le (256 ^ k) text) refl
  where
    by_power : (text < 256 ^ k → text < 256 ^ powers_within k text) → (b : Bool)
        → nat_le (256 ^ k) text ≡ b
        → text < 256 ^ (powers_within k text + cond (nat_le (256 ^ k) text) 1 0)
    by_power before b high = search (all_within, at_most_of, above_of, arith)

pub within_length : (text : ℕ) → text < 256 ^ 7 → text < 256 ^ text_length text
unfolding text_length
within_length text below = below_power 7 text below

pub joined_below : (text more : ℕ) → text < 256 ^ 7 → more < 256 ^ 7 → has_room text more ≡ true
    → joined text more < 256 ^ 7
joined_below text more text_low more_low room =
    let place = mul-add-lt more (256 ^ text_length text) text (256 ^ text_length more)
    (within_length more more_low) (within_length text text_low) in
    let power : 256 ^ (text_length text + text_length more) ≤ 256 ^ 7 =
    pow-le-pow_right (omega arith) (at_most_of (text_length text + text_length more) 7 room) in
    omega (arith, place, power, pow-add 256 (text_length text) (text_length more))

pub cut_below : (n text : ℕ) → text < 256 ^ 7 → cut_to n text < 256 ^ 7
cut_below n text low = grind arith
