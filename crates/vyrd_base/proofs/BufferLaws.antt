-- What the loop over the characters of a buffer finds.
use Rattle.vyrd_base.proofs.Prelude.{◌≡◌, ℕ, ◌+◌, ◌*◌, ◌^◌, ◌<◌, ◌≤◌, Bool, true, false, refl}
use Rattle.vyrd_base.proofs.Prelude.{arith, nat_le, None, is_buffer, are_characters, second_true}
use Rattle.std.proofs.Math.Nat.{mul-le-mul_right, pow-le-pow_right}
use Rattle.vyrd_base.specs.Buffers.{Buffer, shown_text}
use Rattle.vyrd_base.proofs.TextLaws.{character_below}

-- the power of 256 at a character, and what that character counts
pub power_below : (power i : ℕ) → i < 7 → power ≡ 256 ^ i → power ≤ 2 ^ 48
power_below power i few is =
    let most : i ≤ 6 = omega (arith, few) in
    let small : 256 ^ i ≤ 256 ^ 6 = pow-le-pow_right {n = 256} (omega arith) most in
    omega (arith, small, is)

pub digit_below : (c power i : ℕ) → c < 255 → i < 7 → power ≡ 256 ^ i → (c + 1) * power
    ≤ 255 * 2 ^ 48
digit_below c power i low few is =
    let most : c + 1 ≤ 255 = omega (arith, low) in
    let digit : (c + 1) * power ≤ 255 * power = mul-le-mul_right power most in
    omega (arith, digit, power_below power i few is)

-- a character that isn't below 255 makes the words no buffer
pub bad_text : (b : Buffer) (i : ℕ) → i < b.count → 255 ≤ b.character i → None ≡ shown_text b
bad_text b i low high = cc (isnt (is_buffer b) refl)
  where
    isnt : (s : Bool) → is_buffer b ≡ s → is_buffer b ≡ false
    isnt true e =
        let all : are_characters b.character b.count ≡ true = second_true (nat_le b.count 7) _ e in
        absurd (omega (arith, high, character_below b.character b.count all i low))
    isnt false e = e
