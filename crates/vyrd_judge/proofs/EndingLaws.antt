-- Blocks with a lone commit in them, which have ended where that commit is judged.
use Rattle.vyrd_judge.proofs.Prelude
use Prelude.{◌≡◌, ℕ, Bool, true, false, cond, ◌&&◌, ◌||◌, List, [], ◌∷◌, ◌++◌, Some, None, refl, ap}
use Prelude.{subst, ◌∙◌, sym, ◌==◌, option_or, list_any-append, or-true, Header, Kind, Call, Return}
use Prelude.{Write, Commit, BlockOpen, BlockClose, BlockCommit, Entry, has_inner_commit, checks_at}
use Prelude.{broken_rule, returned, next_reply, entry, by_same, never, has_block_of, own_inner}
use Prelude.{other_inner, IsReturned, all_kept, ends_block, is_ended}

-- a caller that has returned has ended its block
returned_ended : (c : ℕ) (later : List Entry) (r : ℕ) → next_reply c later ≡ Some r
    → is_ended c later ≡ true
returned_ended c [] r found = cc
returned_ended c (e ∷ later) r found = by_test (e.caller == c) e.kind
    (λ f. returned_ended c later r f) found
  where
    Rest : Type 0
    Rest = next_reply c later ≡ Some r → is_ended c later ≡ true

    or_rest : (b : Bool) → is_ended c later ≡ true → (b || is_ended c later) ≡ true
    or_rest b so = ap (λ r. b || r) so ∙ or-true b

    by_test : (b : Bool) (kind : Kind) → Rest → option_or (cond b (returned kind) None)
        (next_reply c later) ≡ Some r
        → ((b && ends_block kind) || is_ended c later) ≡ true
    by_test false kind rest f = rest f
    by_test true (Return reply) rest f = refl
    by_test true (Call method args) rest f = or_rest (ends_block (Call method args)) (rest f)
    by_test true (Write word value) rest f = or_rest (ends_block (Write word value)) (rest f)
    by_test true Commit rest f = or_rest (ends_block Commit) (rest f)
    by_test true BlockOpen rest f = or_rest (ends_block BlockOpen) (rest f)
    by_test true BlockClose rest f = refl
    by_test true BlockCommit rest f = refl

-- The blocks that are open at a place, and have a lone commit before it, end later.
abbrev pub AllEnd : List Entry → List Entry → Type 0
AllEnd earlier later = (c : ℕ) → has_inner_commit c earlier ≡ true → is_ended c later ≡ true

-- what doesn't end the block leaves it to the entries after it
left : (a b r : Bool) → b ≡ false → ((a && b) || r) ≡ true → r ≡ true
left true true r none e = cc
left true false r none e = e
left false b r none e = e

other_left : (a b r : Bool) → a ≡ false → ((a && b) || r) ≡ true → r ≡ true
other_left true b r none e = cc
other_left false b r none e = e

-- the caller's own entry
own_ends : (h : Header) (c : ℕ) (kind : Kind) (earlier later : List Entry)
    → broken_rule h earlier (entry c kind) ≡ None → IsReturned c kind later
    → (has_inner_commit c earlier ≡ true → is_ended c (entry c kind ∷ later) ≡ true)
    → has_inner_commit c (entry c kind ∷ earlier) ≡ true → is_ended c later ≡ true
own_ends h c (Call method args) earlier later kept is before inner =
    left (c == c) false _ refl (before (sym (own_inner c (Call method args) earlier) ∙ inner))
own_ends h c (Return reply) earlier later kept is before inner =
    never (all_kept (checks_at h earlier (entry c (Return reply))) kept).1.1.0
    (has_block_of c earlier (sym (own_inner c (Return reply) earlier) ∙ inner))
own_ends h c (Write word value) earlier later kept is before inner =
    left (c == c) false _ refl (before (sym (own_inner c (Write word value) earlier) ∙ inner))
own_ends h c Commit earlier later kept is before inner = let reply = is refl in
    returned_ended c _ reply.0 reply.1
own_ends h c BlockOpen earlier later kept is before inner = never (own_inner c BlockOpen earlier)
    inner
own_ends h c BlockClose earlier later kept is before inner = never (own_inner c BlockClose earlier)
    inner
own_ends h c BlockCommit earlier later kept is before inner =
    never (own_inner c BlockCommit earlier) inner

-- From one place to the next, where a commit has returned.
pub end_next : (h : Header) (e : Entry) (earlier later : List Entry) → broken_rule h earlier e
    ≡ None → IsReturned e.caller e.kind later
    → AllEnd earlier (e ∷ later) → AllEnd (e ∷ earlier) later
end_next h e earlier later kept is ends = λ c inner. by_same e.caller c
    (λ same. subst (λ d. broken_rule h earlier (entry d e.kind) ≡ None → IsReturned d e.kind later
    → (has_inner_commit c earlier ≡ true → is_ended c (entry d e.kind ∷ later) ≡ true)
    → has_inner_commit c (entry d e.kind ∷ earlier) ≡ true → is_ended c later ≡ true) (sym same)
    (own_ends h c e.kind earlier later) kept is (ends c) inner)
    (λ apart. other_left (e.caller == c) (ends_block e.kind) (is_ended c later) apart
    (ends c (sym (other_inner c e.caller e.kind earlier apart) ∙ inner)))

-- with further entries
pub end_more : (earlier later more : List Entry) → AllEnd earlier later
    → AllEnd earlier (later ++ more)
end_more earlier later more ends = λ c inner.
    cc (list_any-append (λ e. e.caller == c && ends_block e.kind) later more, ends c inner)
