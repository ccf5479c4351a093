-- Which locks a hand holds once it has one event more.
use Rattle.vyrd_trace.proofs.Prelude.{◌≡◌, ◌≢◌, ℕ, None, refl, ◌∙◌, eq-eqb, ne_eqb, Did, Took, Gave}
use Rattle.vyrd_trace.proofs.Prelude.{made_of, Look, stamp, HandView, Holds, with_one_more}
use Rattle.vyrd_trace.proofs.Parts.{value-snoc}

-- a lock that it took
pub holds-taken : (hand : HandView) (lock number : ℕ) (look : Look)
    → Holds (with_one_more hand number (Took lock) look) lock
holds-taken hand lock number look = value-snoc hand.lane (stamp number hand.caller (Took lock)) lock
    ∙ rw (eq-eqb lock lock refl) refl

-- a lock that it held, where the event doesn't change it
pub holds-still : (hand : HandView) (lock number : ℕ) (did : Did) (look : Look)
    → made_of lock hand.caller did ≡ None
    → Holds hand lock → Holds (with_one_more hand number did look) lock
holds-still hand lock number did look other held =
    cc (value-snoc hand.lane (stamp number hand.caller did) lock)

-- a lock that it held, where it takes or gives another one
pub holds-beside : (hand : HandView) (lock other number : ℕ) (look : Look) → other ≢ lock
    → Holds hand lock
    → Holds (with_one_more hand number (Took other) look) lock
    × Holds (with_one_more hand number (Gave other) look) lock
holds-beside hand lock other number look apart held = (
  value-snoc hand.lane (stamp number hand.caller (Took other)) lock
      ∙ rw (ne_eqb other lock apart) held,
  value-snoc hand.lane (stamp number hand.caller (Gave other)) lock
      ∙ rw (ne_eqb other lock apart) held,
)
