-- Proofs of laws that an impl in src/ names: no contract says what is defined here. A walk is sound
-- if what follows it is.
use Rattle.std.proofs.Common.{◌≡◌, ℕ, zero, suc, ◌+◌, ◌^◌, ◌<◌, ◌≤◌, min, Bool, true, false, cond}
use Rattle.std.proofs.Common.{List, [], ◌∷◌, length, refl, ap, arith}
use Rattle.std.specs.Prelude.{◌==◌, nat_lt, nat_le, ⊤}
use Rattle.std.specs.List.{list_any}
use Rattle.std.proofs.lemmas.Bool.Decides.{nat_tests}
use Rattle.vyrd_base.specs.declared.header.Header.{Header}
use Rattle.vyrd_base.specs.declared.subject.Subject.TheVariants.{Tree}
use Rattle.vyrd_base.specs.declared.subject.Method.{Method}
use Rattle.vyrd_memory.specs.declared.act.Act.TheVariants.{Load}
use Rattle.vyrd_memory.specs.declared.op.Variant.{Variant}
use Rattle.vyrd_memory.specs.Scripts.{Script, step}
use Rattle.vyrd_memory.specs.Soundness.{Situation, IsSound}
use Rattle.vyrd_memory.proofs.SoundActs.{either}
use Rattle.vyrd_tree.specs.Cells.{level_cell, count_cell, bound_cell, right_cell, key_cell}
use Rattle.vyrd_tree.specs.Cells.{value_cell, lock_of, unlock_node}
use Rattle.vyrd_tree.specs.Procedures.Walk.{Arrived, load_keys, load_values, child_place, to_child}
use Rattle.vyrd_tree.specs.Procedures.Walk.{descend, load_rest, arrive, moves_right, pass_on}
use Rattle.vyrd_tree.specs.Procedures.Walk.{visit_node, walk_from}
use Rattle.vyrd_tree.specs.Laws.Sound.Acts.{holding, IsLock, loads, takes_first, gives_last}
use Rattle.vyrd_tree.specs.Laws.Ends.Walk.{four_at_most, first_loads}

-- a node's lock
pub node_lock : (h : Header) (node : ℕ) → node < h.size → IsLock h (lock_of h node)
node_lock h node low = (omega arith, omega arith)

-- the numbers fit
abbrev pub AreSmall : List ℕ → Type 0
AreSmall [] = ⊤
AreSmall (key ∷ keys) = (key < 2 ^ 63) × AreSmall keys

-- the numbers of the entries fit
abbrev pub AreSmallEntries : List (ℕ × ℕ) → Type 0
AreSmallEntries [] = ⊤
AreSmallEntries (entry ∷ entries) =
    (entry.0 < 2 ^ 63) × (entry.1 < 2 ^ 63) × AreSmallEntries entries

-- what is known of the node where a walk has arrived
pub record IsLoaded (h : Header) (at : Arrived) : Type 0 where
  pub node : at.node < h.size
  pub level : at.level < 2 ^ 63
  pub bound : at.bound < 2 ^ 63
  pub right : at.right < 2 ^ 63
  pub few : length at.entries ≤ 4
  pub small : AreSmallEntries at.entries

keys_sound : (h : Header) (s : Situation) (left node place : ℕ) (loaded : List ℕ → Script)
    → h.subject ≡ Tree → node < h.size → place + left ≤ 4
    → ((keys : List ℕ) → length keys ≡ left → AreSmall keys → IsSound h s (loaded keys))
    → IsSound h s (load_keys left node place loaded)
keys_sound h s zero node place loaded is low fits sound = sound [] refl tt
keys_sound h s (suc left) node place loaded is low fits sound =
    loads h s (key_cell node place)
    (λ key. load_keys left node (place + 1) (λ keys. loaded (key ∷ keys))) is (omega arith)
    (λ key small. keys_sound h s left node (place + 1) (λ keys. loaded (key ∷ keys)) is low
    (omega arith) (λ keys len all. sound (key ∷ keys) (ap suc len) (small, all)))

values_sound : (h : Header) (s : Situation) (keys : List ℕ) (node place : ℕ)
    (loaded : List (ℕ × ℕ) → Script)
    → h.subject ≡ Tree → node < h.size → place + length keys ≤ 4 → AreSmall keys
    → ((entries : List (ℕ × ℕ)) → length entries ≡ length keys → AreSmallEntries entries
    → IsSound h s (loaded entries))
    → IsSound h s (load_values keys node place loaded)
values_sound h s [] node place loaded is low fits all sound = sound [] refl tt
values_sound h s (key ∷ keys) node place loaded is low fits all sound =
    loads h s (value_cell node place)
    (λ value. load_values keys node (place + 1) (λ entries. loaded ((key, value) ∷ entries))) is
    (omega arith)
    (λ value small. values_sound h s keys node (place + 1)
    (λ entries. loaded ((key, value) ∷ entries)) is low (omega arith) all.1
    (λ entries len small_entries. sound ((key, value) ∷ entries) (ap suc len)
    (all.0, small, small_entries)))

-- the place of a child is one of the keys' places
child_low : (key : ℕ) (keys : List ℕ) (n : ℕ) → length keys ≤ suc n → child_place key keys ≤ n
child_low key [] n fits = omega arith
child_low key (x ∷ []) n fits = omega arith
child_low key (x ∷ y ∷ keys) zero fits = absurd (omega (arith, fits))
child_low key (x ∷ y ∷ keys) (suc n) fits =
    let lower : child_place key (y ∷ keys) ≤ n = child_low key (y ∷ keys) n (omega arith) in
    elim (list_any (λ other. nat_le other key) (y ∷ keys)) as
    (λ b. cond b (child_place key (y ∷ keys) + 1) 0 ≤ suc n) [
      | true ↦ omega (arith, lower)
      | false ↦ omega arith
    ]

-- a node's lock is held, and no block is open
abbrev at_node : Header → ℕ → Method → Bool → Situation
at_node h node method committed = holding (lock_of h node ∷ []) method committed false

descend_sound : (h : Header) (method : Method) (committed : Bool) (key node count : ℕ)
    (lost : Script) (visit : ℕ → Script)
    → h.subject ≡ Tree → node < h.size → count ≤ 4
    → IsSound h (holding [] method committed false) lost
    → ((next : ℕ) → IsSound h (holding [] method committed false) (visit next))
    → IsSound h (at_node h node method committed) (descend h key node count lost visit)
descend_sound h method committed key node count lost visit is low few lost_sound visit_sound =
    keys_sound h (at_node h node method committed) count node 0
    (λ keys. to_child h key node count keys lost visit) is low
    (omega (arith, few)) (λ keys len all.
    either h (at_node h node method committed) (count == 0) (unlock_node h node lost)
    (step (Load (value_cell node (child_place key keys)))
    (λ child. unlock_node h node (visit child)))
    (λ none. gives_last h method committed false (lock_of h node) lost is
    (node_lock h node low) lost_sound)
    (λ some.
    let place : child_place key keys ≤ 3 = child_low key keys 3 (omega (arith, len, few)) in
    loads h (at_node h node method committed) (value_cell node (child_place key keys))
    (λ child. unlock_node h node (visit child)) is (omega (arith, place, low))
    (λ child small. gives_last h method committed false (lock_of h node) (visit child) is
    (node_lock h node low) (visit_sound child))))

arrive_sound : (h : Header) (method : Method) (committed : Bool) (node level count bound right : ℕ)
    (arrived : Arrived → Script)
    → h.subject ≡ Tree → node < h.size → count ≤ 4 → level < 2 ^ 63 → bound < 2 ^ 63
    → right < 2 ^ 63
    → ((at : Arrived) → IsLoaded h at → IsSound h (at_node h at.node method committed) (arrived at))
    → IsSound h (at_node h node method committed) (arrive node level count bound right arrived)
arrive_sound h method committed node level count bound right arrived is low few l b r sound =
    keys_sound h (at_node h node method committed) count node 0
    (λ keys. load_rest node level bound right keys arrived) is low (omega (arith, few))
    (λ keys len all. values_sound h (at_node h node method committed) keys node 0
    (λ entries. arrived
    (record { node = node; level = level; bound = bound; right = right; entries = entries })) is low
    (omega (arith, len, few)) all
    (λ entries len' small.
    sound (record { node = node; level = level; bound = bound; right = right; entries = entries })
    (record {
      node = low;
      level = l;
      bound = b;
      right = r;
      few = omega (arith, len, len', few);
      small = small;
    })))

first_loads_sound : (h : Header) (s : Situation) (node : ℕ) (rest : ℕ → ℕ → ℕ → ℕ → Script)
    → h.subject ≡ Tree → node < h.size
    → ((level count bound right : ℕ) → level < 2 ^ 63 → bound < 2 ^ 63 → right < 2 ^ 63
    → IsSound h s (rest level count bound right))
    → IsSound h s (first_loads node rest)
first_loads_sound h s node rest is low sound =
    loads h s (level_cell node)
    (λ level. step (Load (count_cell node)) (λ count. step (Load (bound_cell node))
    (λ bound. step (Load (right_cell node)) (λ right. rest level count bound right)))) is
    (omega (arith, low))
    (λ level l. loads h s (count_cell node)
    (λ count. step (Load (bound_cell node))
    (λ bound. step (Load (right_cell node)) (λ right. rest level count bound right))) is
    (omega (arith, low))
    (λ count _. loads h s (bound_cell node)
    (λ bound. step (Load (right_cell node)) (λ right. rest level count bound right)) is
    (omega (arith, low))
    (λ bound b. loads h s (right_cell node) (λ right. rest level count bound right) is
    (omega (arith, low)) (λ right r. sound level count bound right l b r))))

visit_sound : (h : Header) (variant : Variant) (method : Method) (committed : Bool)
    (key toward node : ℕ) (lost : Script) (visit : ℕ → Script) (arrived : Arrived → Script)
    → h.subject ≡ Tree → node < h.size → IsSound h (holding [] method committed false) lost
    → ((next : ℕ) → IsSound h (holding [] method committed false) (visit next))
    → ((at : Arrived) → IsLoaded h at → IsSound h (at_node h at.node method committed) (arrived at))
    → IsSound h (holding [] method committed false)
    (visit_node h variant key toward node lost visit arrived)
visit_sound h variant method committed key toward node lost visit arrived is low lost_sound
    visits_sound sound =
    takes_first h method committed false (lock_of h node)
    (first_loads node (λ level count bound right. pass_on h variant key toward node level count
    bound right lost visit arrived)) is (node_lock h node low)
    (first_loads_sound h (at_node h node method committed) node (λ level count bound right.
    pass_on h variant key toward node level count bound right lost visit arrived) is low passes)
  where
    passes : (level count bound right : ℕ) → level < 2 ^ 63 → bound < 2 ^ 63 → right < 2 ^ 63
        → IsSound h (at_node h node method committed)
        (pass_on h variant key toward node level count bound right lost visit arrived)
    passes level count bound right l b r =
        either h (at_node h node method committed) (moves_right variant level bound key)
        (unlock_node h node (visit right))
        (cond (nat_lt toward level) (descend h key node (min count 4) lost visit)
        (arrive node level (min count 4) bound right arrived))
        (λ moves. gives_last h method committed false (lock_of h node) (visit right) is
        (node_lock h node low) (visits_sound right))
        (λ stays. either h (at_node h node method committed) (nat_lt toward level)
        (descend h key node (min count 4) lost visit)
        (arrive node level (min count 4) bound right arrived)
        (λ down. descend_sound h method committed key node (min count 4) lost visit is low
        (four_at_most count) lost_sound visits_sound)
        (λ here. arrive_sound h method committed node level (min count 4) bound right arrived is low
        (four_at_most count) l b r sound))

pub walk_sound : (h : Header) (variant : Variant) (method : Method) (committed : Bool)
    (key toward left node : ℕ) (lost : Script) (arrived : Arrived → Script)
    → h.subject ≡ Tree → IsSound h (holding [] method committed false) lost
    → ((at : Arrived) → IsLoaded h at → IsSound h (at_node h at.node method committed) (arrived at))
    → IsSound h (holding [] method committed false)
    (walk_from h variant key toward left node lost arrived)
walk_sound h variant method committed key toward zero node lost arrived is lost_sound sound =
    lost_sound
walk_sound h variant method committed key toward (suc left) node lost arrived is lost_sound sound =
    either h (holding [] method committed false) (nat_lt node h.size)
    (visit_node h variant key toward node lost
    (λ next. walk_from h variant key toward left next lost arrived) arrived) lost
    (λ low. visit_sound h variant method committed key toward node lost
    (λ next. walk_from h variant key toward left next lost arrived) arrived is
    (lower node h.size low) lost_sound
    (λ next. walk_sound h variant method committed key toward left next lost arrived is lost_sound
    sound) sound) (λ high. lost_sound)
  where
    lower : (a b : ℕ) → nat_lt a b ≡ true → a < b
    lower a b e = grind (arith, nat_tests)
