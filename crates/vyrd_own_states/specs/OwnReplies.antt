-- What is said of a reply that a specification of the user's own refuses: what the state before the
-- commit has, as far as the method's cases read it, and which replies that state allows.
use Rattle.std.specs.Prelude.{ℕ, ◌==◌, ◌&&◌, Bool, not, List, [], ◌∷◌, ◌++◌, map, filter}
use Rattle.std.specs.Prelude.{filter_map, length, Option, Some, None, is_some, slice_index}
use Rattle.std.specs.Prelude.{if◌then◌else◌}
use Rattle.std.specs.List.{list_any}
use Rattle.std.specs.Option.{option_map_or}
use Rattle.vyrd_base.specs.declared.header.Header.{Header}
use Rattle.vyrd_base.specs.declared.log.Entry.{Entry}
use Rattle.vyrd_base.specs.declared.log.StartWord.{StartWord}
use Rattle.vyrd_base.specs.Amounts.{amount_of}
use Rattle.vyrd_base.specs.Callers.{Called}
use Rattle.vyrd_base.specs.Own.Expressions.{most, list_at, first_of, last_of}
use Rattle.vyrd_base.specs.Own.Programs.{Written}
use Rattle.vyrd_base.specs.Places.{numbers_below}
use Rattle.vyrd_base.specs.Rules.{own_rules}
use Rattle.vyrd_base.specs.States.{State}
use Rattle.vyrd_own.specs.declared.reads.Reads.{Reads}
use Rattle.vyrd_own.specs.declared.reads.Reads.TheVariants.{Shown, Hidden as HiddenOf, Nothing}
use Rattle.vyrd_own.specs.declared.reads.Worth.{Worth}
use Rattle.vyrd_own_spec.specs.Counted.{worths_by}
use Rattle.vyrd_witness.specs.declared.item.Item.{Item}
use Rattle.vyrd_witness.specs.declared.item.Item.TheVariants.{Register, Elements, Before, Hidden}
use Rattle.vyrd_witness.specs.declared.item.Item.TheVariants.{Allowed}
use Rattle.vyrd_states.specs.Known.{state_then}
use Rattle.vyrd_states.specs.Replies.{called_at}

-- one more number, if it isn't among them yet
abbrev pub with_once : List ℕ → ℕ → List ℕ
with_once seen n = if list_any (λ m. m == n) seen then seen else seen ++ n ∷ []

-- numbers, each where it comes first, behind some that came before
abbrev pub each_once : List ℕ → List ℕ → List ℕ
each_once seen [] = seen
each_once seen (n ∷ numbers) = each_once (with_once seen n) numbers

-- the key of which a shown amount is read, and that of which a hidden one is
abbrev pub shown_key : Reads → Option ℕ
shown_key (Shown key) = Some key
shown_key (HiddenOf key) = None
shown_key Nothing = None

abbrev pub hidden_key : Reads → Option ℕ
hidden_key (Shown key) = None
hidden_key (HiddenOf key) = Some key
hidden_key Nothing = None

-- the keys that are read, each once
abbrev pub shown_keys : List Worth → List ℕ
shown_keys worths = each_once [] (filter_map (λ worth. shown_key worth.reads) worths)

abbrev pub hidden_keys : List Worth → List ℕ
hidden_keys worths = each_once [] (filter_map (λ worth. hidden_key worth.reads) worths)

-- the replies that are tried: 0, 1 and 2, and the value of each expression that counts
abbrev pub tried : List Worth → List ℕ
tried worths = each_once (0 ∷ 1 ∷ 2 ∷ []) (map (λ worth. worth.value) worths)

-- the registers of a state
abbrev pub register_items : ℕ → State → List Item
register_items at state = map (λ i. Register at i (slice_index state.registers i))
    (numbers_below (length state.registers))

-- its lists, by their sizes and their ends
abbrev pub elements_of : ℕ → ℕ → List ℕ → Item
elements_of at i list = Elements at i (length list) (first_of list) (last_of list)

abbrev pub list_items : ℕ → State → List Item
list_items at state =
    map (λ i. elements_of at i (list_at state i)) (numbers_below (length state.lists))

-- the amounts of it that are read
abbrev pub amount_items : ℕ → State → List Worth → List Item
amount_items at state worths =
    map (λ key. Before at key (amount_of state.shown key)) (shown_keys worths)
    ++ map (λ key. Hidden at key (amount_of state.hidden key)) (hidden_keys worths)

-- Whether it allows a call this reply. `none` is no reply.
abbrev pub is_allowed : Header → Written → Called → State → ℕ → Bool
is_allowed h w called state reply = not (reply == most)
    && is_some ((own_rules h w).next called.method called.args reply state)

-- what is said of a call in the state before its commit, where this counts for its reply
abbrev pub own_call_items : Header → Written → ℕ → State → Called → List Worth → List Item
own_call_items h w at state called worths =
    register_items at state ++ list_items at state ++ amount_items at state worths
    ++ map Allowed (filter (is_allowed h w called state) (tried worths))

-- the same by the reply that is refused
abbrev pub own_refused_items : Header → Written → ℕ → ℕ → State → Called → List Item
own_refused_items h w at reply state called =
    own_call_items h w at state called (worths_by w called.method called.args reply state)

-- what is said of the commit at a position of a front with this reply, if the state before it is
-- known
abbrev pub own_reply_items
    : Header → Written → List StartWord → List Entry → ℕ → ℕ → List Item
own_reply_items h w starting front at reply = option_map_or
    (λ state. option_map_or (own_refused_items h w at reply state) (called_at front at) [])
    (state_then (own_rules h w) starting front at) []
