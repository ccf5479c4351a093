-- What is said of a refused reply, by what is known of its call and of the state.
use Rattle.vyrd_own_states.proofs.Prelude.{◌≡◌, ℕ, List, Some, Header, StartWord, Written, own}
use Rattle.vyrd_own_states.proofs.Prelude.{State, own_refused_items}
use Rattle.vyrd_base.specs.declared.log.Entry.{Entry}
use Rattle.vyrd_base.specs.Callers.{Called}
use Rattle.vyrd_base.specs.Rules.{own_rules}
use Rattle.vyrd_states.specs.Known.{state_then}
use Rattle.vyrd_states.specs.Replies.{called_at}
use Rattle.vyrd_own_states.specs.OwnReplies.{own_reply_items}

module _ (h : Header) (w : Written) (starting : List StartWord) (front : List Entry)
    (at reply : ℕ) where
  -- and otherwise what that state says of the call
  pub known_says : (s : State) (called : Called)
      → Some s ≡ state_then (own_rules h w) starting front at → called_at front at ≡ Some called
      → own_refused_items h w at reply s called ≡ own_reply_items h w starting front at reply
  known_says s called known is = cc

-- a charter tells its header and its lines
pub header_by : (h g : Header) (lines others : List (List ℕ)) → own h lines ≡ own g others → h ≡ g
header_by h g lines others same = cc

pub lines_by : (h g : Header) (lines others : List (List ℕ)) → own h lines ≡ own g others
    → lines ≡ others
lines_by h g lines others same = cc
