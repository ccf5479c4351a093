-- What the part of a word gives, as it was decoded from the words of all parts.
use Rattle.vyrd_follow.proofs.Prelude.{◌≡◌, ℕ, ◌/◌, List, take, given, pairs_in, part_pairs, Gives}

module _ (width places : ℕ) (gives : Gives) (q w whole : ℕ) (all : List ℕ) where
  pub given_there : (n m k : ℕ) (pairs found : List (ℕ × ℕ)) (there : List ℕ) → pairs ≡ found
      → n ≡ places → m ≡ whole → there ≡ all → k ≡ width
      → given q (pairs_in places found)
      ≡ given q (part_pairs width places gives (take m there) (w / k))
      → given q (pairs_in n pairs)
      ≡ given q (part_pairs width places gives (take whole all) (w / width))
  given_there n m k pairs found there same few many is wide gave = cc
