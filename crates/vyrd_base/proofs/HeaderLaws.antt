-- What the limits of a header say of its version, its size, its callers and its words.
use Rattle.vyrd_base.proofs.Prelude
use Prelude.{◌≡◌, ℕ, ◌+◌, ◌<◌, ◌≤◌, ◌^◌, true, ◌∙◌, sym, arith, nat_le, nat_tests, Header, Subject}
use Prelude.{is_known_version, is_sized, is_built_in, limits_of, plain_words_of, lock_words_of}
use Prelude.{plain_words, lock_words, first_true, second_true, at_most_of, same_of}
use Rattle.vyrd_base.specs.Limits.{is_within, is_own_within}
use Rattle.vyrd_base.proofs.StructureLaws.{words_within}

small_number : (n most : ℕ) → most < 2 ^ 32 → nat_le n most ≡ true → n < 2 ^ 32
small_number n most m e = grind (arith, nat_tests)

-- numbers within the limits of built-in subjects have 32 bits
pub small_size : (size callers : ℕ) → is_sized size callers ≡ true → size < 2 ^ 32
small_size size callers e = search (small_number, second_true, first_true, arith)

pub small_callers : (size callers : ℕ) → is_sized size callers ≡ true → callers < 2 ^ 32
small_callers size callers e = search (small_number, second_true, arith)

-- there are three versions
pub known_version : (n : ℕ) → is_known_version n ≡ true → n ≤ 2
known_version n e = grind arith

-- a header of a built-in subject has the limits of these
pub limits_built_in : (subject : Subject) (version size callers : ℕ) → is_built_in subject ≡ true
    → limits_of subject version size callers ≡ is_within version size callers
limits_built_in subject version size callers built = grind arith

pub within : (h : Header) → is_built_in h.subject ≡ true → is_within h.version h.size h.callers
    ≡ true
within h built = sym (limits_built_in h.subject h.version h.size h.callers built) ∙ h.within

pub sized : (h : Header) → is_built_in h.subject ≡ true → is_sized h.size h.callers ≡ true
sized h built = second_true (is_known_version h.version) _ (within h built)

-- the size is from 1 to 1,024 then
pub some_size : (h : Header) → is_built_in h.subject ≡ true → 1 ≤ h.size
some_size h built = search (at_most_of, first_true, sized, arith)

pub low_size : (h : Header) → is_built_in h.subject ≡ true → h.size ≤ 1024
low_size h built = search (at_most_of, second_true, first_true, sized, arith)

-- a header of version 1 is that of a built-in subject, since the user's own has version 3
of_version_one : (subject : Subject) (version size callers : ℕ)
    → limits_of subject version size callers ≡ true → version ≡ 1 → is_built_in subject ≡ true
of_version_one subject version size callers within one = grind (arith, within, same_of, first_true)

pub first_version_built_in : (h : Header) → h.version ≡ 1 → is_built_in h.subject ≡ true
first_version_built_in h one = of_version_one h.subject h.version h.size h.callers h.within one

-- what holds of the numbers of every header
record AreLimited (version size callers words : ℕ) : Type 0 where
  known : version ≤ 3
  sized : size ≤ 65536
  some : 1 ≤ callers
  few : callers ≤ 256
  short : words ≤ 2 ^ 16

built_in_limited : (version size callers words : ℕ) → (size ≤ 1024 → words < 2 ^ 16)
    → is_within version size callers ≡ true
    → AreLimited version size callers words
built_in_limited version size callers words few e =
    search (second_true, at_most_of, first_true, known_version, sized, arith)

own_limited : (version size callers : ℕ) → is_own_within version size callers ≡ true
    → AreLimited version size callers (size + 0)
own_limited version size callers e = grind arith

limited : (subject : Subject) (version size callers : ℕ) → limits_of subject version size callers
    ≡ true
    → AreLimited version size callers (plain_words_of subject size + lock_words_of subject size)
limited subject version size callers e = search (built_in_limited, words_within, own_limited, arith)

pub low_version : (h : Header) → h.version ≤ 3
low_version h = (limited h.subject h.version h.size h.callers h.within).known

pub most_size : (h : Header) → h.size ≤ 65536
most_size h = (limited h.subject h.version h.size h.callers h.within).sized

pub size_in_32_bits : (h : Header) → h.size < 2 ^ 32
size_in_32_bits h = omega (arith, most_size h)

-- the callers are from 1 to 256
pub some_callers : (h : Header) → 1 ≤ h.callers
some_callers h = (limited h.subject h.version h.size h.callers h.within).some

pub few_callers : (h : Header) → h.callers ≤ 256
few_callers h = (limited h.subject h.version h.size h.callers h.within).few

pub callers_in_32_bits : (h : Header) → h.callers < 2 ^ 32
callers_in_32_bits h = omega (arith, few_callers h)

-- the words, plain and locks, have numbers of 16 bits
pub few_words : (h : Header) → plain_words h + lock_words h ≤ 2 ^ 16
few_words h = (limited h.subject h.version h.size h.callers h.within).short
