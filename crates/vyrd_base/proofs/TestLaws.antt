-- What a test of numbers or of truths tells, and when it says so.
use Rattle.std.proofs.Common.{◌≡◌, ◌≢◌, ℕ, ◌<◌, ◌≤◌, Bool, true, false, ◌&&◌, ◌||◌, Some, None}
use Rattle.std.proofs.Common.{arith}
use Rattle.std.specs.Bool.{then_some}
use Rattle.std.specs.Prelude.{◌==◌, nat_lt, nat_le}
use Rattle.std.proofs.lemmas.Bool.Decides.{nat_tests}

-- two numbers that are the same
pub same_of : (a b : ℕ) → (a == b) ≡ true → a ≡ b
same_of a b e = grind (arith, nat_tests)

pub is_same : (a b : ℕ) → a ≡ b → (a == b) ≡ true
is_same a b e = grind (arith, nat_tests)

pub same_number : (a : ℕ) → (a == a) ≡ true
same_number a = grind (arith, nat_tests)

-- two that are not
pub apart_of : (a b : ℕ) → (a == b) ≡ false → a ≢ b
apart_of a b e = grind (arith, nat_tests)

pub isnt_same : (a b : ℕ) → a ≢ b → (a == b) ≡ false
isnt_same a b apart = grind (arith, nat_tests)

pub flipped : (a b : ℕ) → (a == b) ≡ false → (b == a) ≡ false
flipped a b e = grind (arith, nat_tests)

pub lower_isnt : (a b : ℕ) → a < b → (a == b) ≡ false
lower_isnt a b low = grind (arith, nat_tests)

-- the first below the second, and not below it
pub below_of : (a b : ℕ) → nat_lt a b ≡ true → a < b
below_of a b e = grind (arith, nat_tests)

pub is_below : (a b : ℕ) → a < b → nat_lt a b ≡ true
is_below a b low = grind (arith, nat_tests)

pub not_below_of : (a b : ℕ) → nat_lt a b ≡ false → b ≤ a
not_below_of a b e = grind (arith, nat_tests)

pub isnt_below : (a b : ℕ) → b ≤ a → nat_lt a b ≡ false
isnt_below a b high = grind (arith, nat_tests)

-- the first at most the second, and above it
pub at_most_of : (a b : ℕ) → nat_le a b ≡ true → a ≤ b
at_most_of a b e = grind (arith, nat_tests)

pub is_at_most : (a b : ℕ) → a ≤ b → nat_le a b ≡ true
is_at_most a b low = grind (arith, nat_tests)

pub above_of : (a b : ℕ) → nat_le a b ≡ false → b < a
above_of a b e = grind (arith, nat_tests)

pub isnt_at_most : (a b : ℕ) → b < a → nat_le a b ≡ false
isnt_at_most a b high = grind (arith, nat_tests)

pub above_then : (a b : ℕ) → nat_lt b a ≡ true → nat_le a b ≡ false
above_then a b e = grind (arith, nat_tests)

-- both of two truths
pub both_true : (a b : Bool) → a ≡ true → b ≡ true → (a && b) ≡ true
both_true a b e f = search arith

pub first_true : (a b : Bool) → (a && b) ≡ true → a ≡ true
first_true a b e = search arith

pub second_true : (a b : Bool) → (a && b) ≡ true → b ≡ true
second_true a b e = search arith

pub both_of : (a b : Bool) → (a && b) ≡ true → (a ≡ true) × (b ≡ true)
both_of a b e = (first_true a b e, second_true a b e)

-- neither of two truths
pub neither_true : (a b : Bool) → (a || b) ≡ false → (a ≡ false) × (b ≡ false)
neither_true a b e = search arith

-- what a test gives, if it gives something
pub then_some_true : {A : Type 0} (b : Bool) (x y : A) → then_some b x ≡ Some y → (b ≡ true)
    × (x ≡ y)
then_some_true b x y e = search arith

pub then_some_false : {A : Type 0} (b : Bool) (x : A) → then_some b x ≡ None → b ≡ false
then_some_false b x e = search arith
