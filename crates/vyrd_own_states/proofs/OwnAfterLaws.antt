-- What own words show after one of them has changed, of all whole parts.
use Rattle.vyrd_own_states.proofs.Prelude.{◌≡◌, ℕ, ◌<◌, ◌≤◌, List, length-set, set, take}
use Rattle.vyrd_own_states.proofs.Prelude.{take-set-le, take-set-lt, amount_of, own_view, Written}
use Rattle.vyrd_own_states.proofs.Prelude.{Charter, rules_by}
use Rattle.vyrd_own_states.proofs.OwnShownLaws.{AreWhole, whole_seen}

module _ {p : Written} {charter : Charter} {words : List ℕ} {whole : ℕ}
    (known : AreWhole p charter words whole) (q w v before : ℕ)
    (is : before ≡ amount_of ((rules_by charter).view (set words w v)) q) where
  -- the same of the words with the other value
  changed_whole : AreWhole p charter (set words w v) whole
  changed_whole = record { is = cc (known.is, length-set words w v); seen = known.seen }

  -- a word behind them shows nothing
  pub behind_whole : whole ≤ w → before ≡ amount_of ((rules_by charter).view words) q
  behind_whole past =
      cc (whole_seen changed_whole, take-set-le whole words w v past, whole_seen known)

  -- one of theirs can be changed among them
  pub among_whole : w < whole → before ≡ amount_of (own_view p (set (take whole words) w v)) q
  among_whole low = cc (whole_seen changed_whole, take-set-lt whole words w v low)
