-- How phases and holders go on with one more entry.
use Rattle.vyrd_shape.proofs.Prelude
use Prelude.{◌≡◌, ◌≢◌, ℕ, suc, zero, ◌+◌, ◌-◌, ◌<◌, ◌≤◌, Bool, true, false, cond, ◌&&◌, ◌||◌, List}
use Prelude.{[], ◌∷◌, length, map, Option, Some, None, refl, ap, ◌∙◌, sym, subst, arith, get_or}
use Prelude.{set, slice_get, get_or-set_other, get_or-set_same, ◌==◌, nat_lt, option_map, is_some}
use Prelude.{is_none, replicate, option_or, then_some, get_or_from_slice_get, BlockRaced, list_any}
use Prelude.{nat_tests, Header, Kind, Call, Return, Write, Commit, BlockOpen, BlockClose}
use Prelude.{BlockCommit, Entry, Rule, numbers_from, plain_words, Called, by_caller, open_or_close}
use Prelude.{write_or_open, open_call, has_block, has_inner_commit, holds_word, broken_rule}
use Prelude.{is_held_by_other, is_passed, is_call_open, entry, by_same, other_answer, no_answer}
use Prelude.{flipped, same_of, never, zeros, slice_get-set_same, holds_other, open_kept}
use Prelude.{no_inner_commit, own_holds, Phase, phase_of, Holding, released, is_held_by_another}
use Prelude.{holders_after, ShapeKept, HasFollowed, AreOrdered, CommitStamps, last_commit}
use Rattle.vyrd_shape.proofs.EffectStamps.{passed_by_stamp}
use Rattle.vyrd_shape.proofs.OrderLaws.{ordered_none}
use Rattle.vyrd_shape.proofs.ChainLaws.{at_most_set, released_at, released_own, released_other}
use Rattle.vyrd_shape.proofs.ChainLaws.{released_le, differs}
use Rattle.vyrd_shape.proofs.RuleLaws.{not_held}

-- what a shape with these fields keeps
abbrev pub kept_by : Header → List Phase → Holding → CommitStamps → List ℕ → ShapeKept
kept_by header phases holding commits stamps = record {
  header = header;
  phases = phases;
  holders = holding.by_word;
  commits = commits;
  stamps = stamps;
}

-- another caller's entry leaves a phase alone
phase_of-other : (c d : ℕ) (kind : Kind) (earlier : List Entry) → (d == c) ≡ false
    → phase_of c (entry d kind ∷ earlier) ≡ phase_of c earlier
phase_of-other c d kind earlier e = grind (arith, other_answer)

slice_get-set_other : {A : Type 0} (xs : List A) (i j : ℕ) (x : A) → j ≢ i
    → slice_get (set xs i x) j ≡ slice_get xs j
slice_get-set_other [] i j x h = refl
slice_get-set_other (y ∷ xs) zero zero x h = absurd (h refl)
slice_get-set_other (y ∷ xs) zero (suc j) x h = refl
slice_get-set_other (y ∷ xs) (suc i) zero x h = refl
slice_get-set_other (y ∷ xs) (suc i) (suc j) x h = slice_get-set_other xs i j x (λ e. h (ap suc e))

-- a caller's phase goes on, and the others stay
phases_next : (n : ℕ) (phases : List Phase) (earlier : List Entry) (c : ℕ) (kind : Kind)
    (next : Phase) → c < length phases
    → next ≡ phase_of c (entry c kind ∷ earlier)
    → ((d : ℕ) → d < n → slice_get phases d ≡ Some (phase_of d earlier))
    → (d : ℕ) → d < n → slice_get (set phases c next) d ≡ Some (phase_of d (entry c kind ∷ earlier))
phases_next n phases earlier c kind next low is all = λ d low_d. by_same c d
    (λ same. subst
    (λ x. slice_get (set phases c next) x ≡ Some (phase_of x (entry c kind ∷ earlier))) same
    (slice_get-set_same phases c next low ∙ ap Some is))
    (λ other. slice_get-set_other phases c d next (differs c d (flipped c d other)) ∙ all d low_d
    ∙ ap Some (sym (phase_of-other d c kind earlier other)))

-- what a caller holds after an entry that touches no block and not this word
holds_quiet : (d c w : ℕ) (kind : Kind) (earlier : List Entry) → open_or_close kind ≡ None
    → write_or_open w kind ≡ None
    → holds_word d w (entry c kind ∷ earlier) ≡ holds_word d w earlier
holds_quiet d c w kind earlier edge word = grind (arith, no_answer)

-- a word is held by whom its holder says
abbrev pub Held : List ℕ → ℕ → ℕ → List Entry → Type 0
Held by_word d w earlier = holds_word d w earlier ≡ (get_or by_word w 0 == d + 1)

held_open : (by_word : List ℕ) (c d w : ℕ) (earlier : List Entry) → has_block c earlier ≡ false
    → Held by_word d w earlier
    → Held by_word d w (entry c BlockOpen ∷ earlier)
held_open by_word c d w earlier free was = grind arith

never_one : (g n : ℕ) → g ≢ 0 → (released g n == g) ≡ false
never_one g n some = search (by_same, released, released_own, released_other, differs, arith)

still_one : (g n h : ℕ) → h ≢ g → h ≢ 0 → (released g n == h) ≡ (n == h)
still_one g n h other some = search
    (by_same, released, released_own, released_other, differs, arith)

next_apart : (c d : ℕ) → (c == d) ≡ false → d + 1 ≢ c + 1
next_apart c d other e = search arith

held_end : (by_word : List ℕ) (c d w : ℕ) (kind : Kind) (earlier : List Entry) → open_or_close kind
    ≡ Some false
    → Held by_word d w earlier → Held (map (released (c + 1)) by_word) d w (entry c kind ∷ earlier)
held_end by_word c d w kind earlier edge was = search (
  by_same,
  released,
  own_holds,
  never_one,
  released_at,
  holds_other,
  still_one,
  next_apart,
  arith,
)

-- the list after a write, by whether it is in a block and nobody held the word
written : Bool → List ℕ → ℕ → ℕ → List ℕ
written held by_word word c = cond held (set by_word word (c + 1)) by_word

held_write_other : (by_word : List ℕ) (held : Bool) (c d w word value : ℕ) (earlier : List Entry)
    → (word == w) ≡ false
    → Held by_word d w earlier → Held (written held by_word word c) d w
    (entry c (Write word value) ∷ earlier)
unfolding written
held_write_other by_word held c d w word value earlier other was = holds_quiet d c w
    (Write word value) _ refl (cc) ∙ was ∙ ap (λ x. x == d + 1) (by_held held)
  where
    by_held : (b : Bool) → get_or by_word w 0 ≡ get_or (cond b (set by_word word (c + 1)) by_word) w
        0
    by_held true =
        cc (get_or-set_other by_word word w (c + 1) 0 (differs word w (flipped word w other)))
    by_held false = refl

-- the word itself, of a caller that isn't in a block
held_write_out : (by_word : List ℕ) (c d w value : ℕ) (earlier : List Entry) → has_block c earlier
    ≡ false
    → Held by_word d w earlier → Held by_word d w (entry c (Write w value) ∷ earlier)
held_write_out by_word c d w value earlier out was = grind arith

now_holds : (c w value : ℕ) (earlier : List Entry) → has_block c earlier ≡ true
    → holds_word c w (entry c (Write w value) ∷ earlier) ≡ true
now_holds c w value earlier inside = grind (arith, nat_tests, own_holds)

-- the word itself, of a caller in a block, where nobody held the word
held_write_free : (by_word : List ℕ) (c d w value : ℕ) (earlier : List Entry) → has_block c earlier
    ≡ true → w < length by_word
    → get_or by_word w 0 ≡ 0
    → Held by_word d w earlier → Held (set by_word w (c + 1)) d w
    (entry c (Write w value) ∷ earlier)
held_write_free by_word c d w value earlier inside low free was = by_same c d
    (λ same. subst (λ x. Held (set by_word w (c + 1)) x w (entry c (Write w value) ∷ earlier)) same
    (now_holds c w value earlier inside
    ∙ (let here : (c + 1 == c + 1) ≡ true = grind (arith, nat_tests) in sym here)
    ∙ ap (λ x. x == c + 1) (sym (get_or-set_same by_word w _ 0 low))))
    (λ other. holds_other d c w (Write w value) _ other ∙ was ∙ ap (λ x. x == d + 1) free
    ∙ (let apart : d ≢ c = differs c d (flipped c d other) in let a : (0 == d + 1)
    ≡ false = grind (arith, nat_tests) in
    let b : (c + 1 == d + 1) ≡ false = grind (arith, nat_tests) in a ∙ sym b)
    ∙ ap (λ x. x == d + 1) (sym (get_or-set_same _ w _ 0 low)))

-- the word itself, of a caller in a block that holds it already
held_write_again : (by_word : List ℕ) (c d w value : ℕ) (earlier : List Entry) → has_block c earlier
    ≡ true → get_or by_word w 0 ≡ c + 1
    → Held by_word d w earlier → Held by_word d w (entry c (Write w value) ∷ earlier)
held_write_again by_word c d w value earlier inside held was = search
    (by_same, now_holds, holds_other, arith)

-- nobody held the word, or its writer did
whose : (callers : ℕ) (by_word : List ℕ) (c w : ℕ) (earlier : List Entry) → get_or by_word w 0
    ≤ callers
    → ((d : ℕ) → d < callers → Held by_word d w earlier)
    → ((d : ℕ) → d < callers → (d == c) ≡ false → holds_word d w earlier ≡ false)
    → (get_or by_word w 0 == 0) ≡ false → get_or by_word w 0 ≡ c + 1
whose callers by_word c w earlier high was free some =
    let more : get_or by_word w 0 ≢ 0 = grind (arith, nat_tests) in
    by_same (get_or by_word w 0 - 1) c (λ same. omega arith)
    (λ other.
    let d = get_or by_word w 0 - 1 in
    let held = was d (omega arith) in
    let none = free d (omega arith) other in
    let yet : (get_or by_word w 0 == d + 1) ≡ true = grind (arith, nat_tests) in
    cc)

-- what is known of the holders before the entry
record Before (h : Header) (by_word : List ℕ) (c : ℕ) (kind : Kind) (earlier : List Entry) : Type 0
  where
    rules : broken_rule h earlier (entry c kind) ≡ None
    words : length by_word ≡ plain_words h
    high : (w : ℕ) → get_or by_word w 0 ≤ h.callers
    was : (d w : ℕ) → d < h.callers → w < plain_words h → Held by_word d w earlier

held_written : (h : Header) (by_word : List ℕ) (c d w value : ℕ) (earlier : List Entry)
    → Before h by_word c (Write w value) earlier
    → d < h.callers → w < plain_words h → (inside free : Bool) → has_block c earlier ≡ inside
    → (get_or by_word w 0 == 0) ≡ free
    → Held (cond (inside && free) (set by_word w (c + 1)) by_word) d w
    (entry c (Write w value) ∷ earlier)
held_written h by_word c d w value earlier before low_d low false free e f = search
    (held_write_out, arith)
held_written h by_word c d w value earlier before low_d low true true e f =
    held_write_free _ c d w value _ e (omega (arith, before.words)) (same_of _ 0 f)
    (before.was d w low_d low)
held_written h by_word c d w value earlier before low_d low true false e f =
    held_write_again _ c d w value _ e
    (whose h.callers _ c w earlier (before.high w) (λ x low_x. before.was x w low_x low)
    (not_held h c w value _ before.rules) f) (before.was d w low_d low)

held_next : (h : Header) (by_word : List ℕ) (c : ℕ) (kind : Kind) (earlier : List Entry)
    → Before h by_word c kind earlier
    → (d w : ℕ) → d < h.callers → w < plain_words h
    → Held (holders_after by_word (has_block c earlier) c kind) d w (entry c kind ∷ earlier)
unfolding written
held_next h by_word c (Call method args) earlier before d w low_d low = search (holds_quiet, arith)
held_next h by_word c (Return reply) earlier before d w low_d low = search (holds_quiet, arith)
held_next h by_word c Commit earlier before d w low_d low = search (holds_quiet, arith)
held_next h by_word c BlockOpen earlier before d w low_d low = search (held_open, open_kept, arith)
held_next h by_word c BlockClose earlier before d w low_d low = held_end by_word c d w BlockClose
    earlier refl (before.was d w low_d low)
held_next h by_word c BlockCommit earlier before d w low_d low = held_end by_word c d w BlockCommit
    earlier refl (before.was d w low_d low)
held_next h by_word c (Write word value) earlier before d w low_d low = by_same word w
    (λ same. at_word d w low_d low same) (λ other. elsewhere other)
  where
    at_word : (d w : ℕ) → d < h.callers → w < plain_words h → word ≡ w
        → Held (holders_after by_word (has_block c earlier) c (Write word value)) d w
        (entry c (Write word value) ∷ earlier)
    at_word d w low_d low same = search (held_written, arith)

    elsewhere : (word == w) ≡ false
        → Held (holders_after by_word (has_block c earlier) c (Write word value)) d w
        (entry c (Write word value) ∷ earlier)
    elsewhere other = held_write_other by_word (has_block c earlier && (get_or by_word word 0 == 0))
        c d w word value earlier other (before.was d w low_d low)

high_next : (by_word : List ℕ) (inside : Bool) (c n : ℕ) (kind : Kind) → c < n
    → ((w : ℕ) → get_or by_word w 0 ≤ n) → (w : ℕ)
    → get_or (holders_after by_word inside c kind) w 0 ≤ n
high_next by_word inside c n kind low high w = grind (arith, released_le, released_at, at_most_set)

-- one more entry that keeps the rules
pub followed_by : (kept : ShapeKept) (earlier : List Entry) (c : ℕ) (kind : Kind) (next : Phase)
    (commits : CommitStamps) (stamps : List ℕ)
    → c < kept.header.callers → length kept.phases ≡ kept.header.callers → length kept.holders
    ≡ plain_words kept.header
    → next ≡ phase_of c (entry c kind ∷ earlier)
    → AreOrdered kept.header commits stamps (entry c kind ∷ earlier)
    → commits.next ≤ kept.commits.next + 1
    → broken_rule kept.header earlier (entry c kind) ≡ None → HasFollowed kept earlier
    → HasFollowed (record {
      header = kept.header;
      phases = set kept.phases c next;
      holders = holders_after kept.holders (has_block c earlier) c kind;
      commits = commits;
      stamps = stamps;
    }) (entry c kind ∷ earlier)
followed_by kept earlier c kind next commits stamps low phases words is ordered more rules
    followed =
    let before : Before kept.header kept.holders c kind earlier =
    record { rules = rules; words = words; high = followed.callers; was = followed.holders } in
    record {
      rules = (rules, followed.rules);
      phases = phases_next _ _ _ c _ _
          (omega arith) is followed.phases;
      holders = held_next kept.header _ c _ _ before;
      callers = high_next kept.holders (has_block c _) c _ kind low followed.callers;
      order = ordered;
      numbered = omega (arith, more, followed.numbered);
    }

-- nothing has been followed
starting : (n c : ℕ) (start : Phase) → c < n → slice_get (replicate n start) c ≡ Some start
starting zero c start low = absurd (omega arith)
starting (suc n) zero start low = refl
starting (suc n) (suc c) start low = starting n c start (omega arith)

pub followed_none : (h : Header) (start : Phase) (n m : ℕ) → ((c : ℕ) → start ≡ phase_of c [])
    → HasFollowed (record {
      header = h;
      phases = replicate h.callers start;
      holders = replicate n 0;
      commits = record { by_caller = replicate h.callers 0; next = 1 };
      stamps = replicate m 0;
    }) []
followed_none h start n m is = record {
  rules = tt;
  phases = λ c low. starting h.callers c start low ∙ ap Some (is c);
  holders = λ c w low low_w. (let e : (0 == c + 1) ≡ false = grind (arith, nat_tests) in sym e)
      ∙ ap (λ x. x == c + 1) (sym (zeros n w));
  callers = λ w. omega (arith, zeros n w);
  order = ordered_none h h.callers m;
  numbered = omega arith;
}

-- a test of numbers that is the same at each
same_any : (p q : ℕ → Bool) (k n : ℕ) → ((d : ℕ) → d < k + n → p d ≡ q d)
    → list_any p (numbers_from k n) ≡ list_any q (numbers_from k n)
same_any p q k zero same = refl
same_any p q k (suc n) same = λ i. same k (omega arith) i || same_any p q (k + 1) n
    (λ d low. same d (omega arith)) i

-- whether another caller holds the word, by the definition and by the holders
pub raced_is : (kept : ShapeKept) (earlier : List Entry) (holding : Holding) (c w : ℕ)
    → holding.callers
    ≡ kept.header.callers
    → holding.by_word ≡ kept.holders
    → w < plain_words kept.header → HasFollowed kept earlier
    → is_held_by_other kept.header c w earlier ≡ is_held_by_another holding c w
raced_is kept earlier holding c w callers words low followed = grind (arith, kept, same_any)

-- whether the word is passed, by the definition and by the stamps
pub passed_is : (kept : ShapeKept) (earlier : List Entry) (c w : ℕ)
    → ((kept.header.version == 1) ≡ false → length kept.stamps ≡ plain_words kept.header)
    → c < kept.header.callers → w < plain_words kept.header → HasFollowed kept earlier
    → is_passed c w earlier
    ≡ (has_inner_commit c earlier && nat_lt (get_or kept.commits.by_caller c 0)
    (get_or kept.stamps w 0))
passed_is kept earlier c w enough low_c low followed =
    search (kept, last_commit, never, no_inner_commit, same_of, passed_by_stamp, arith)

-- whether some execution is open, by the phases and by the definition
open_is : (earlier : List Entry) (phases : List Phase) (k : ℕ)
    → ((i : ℕ) → i < length phases → slice_get phases i ≡ Some (phase_of (k + i) earlier))
    → list_any (λ phase. is_some phase.open_method) phases
    ≡ list_any (λ c. is_some (open_call c earlier)) (numbers_from k (length phases))
open_is earlier [] k all = refl
open_is earlier (phase ∷ phases) k all =
    let first : phase ≡ phase_of (k + 0) earlier = cc (all 0 (omega arith)) in
    let here : phase ≡ phase_of k earlier = first ∙ ap (λ c. phase_of c earlier) (omega arith) in
    let rest = open_is earlier phases (k + 1) (λ i low. all (suc i) (omega arith)
    ∙ ap (λ c. Some (phase_of c earlier)) (omega arith)) in
    (λ i. is_some (here i).open_method || rest i)
    ∙ ap (λ b. b || list_any (λ c. is_some (open_call c earlier))
    (numbers_from (k + 1) (length phases))) (is_some_map (open_call k earlier))
  where
    is_some_map : (o : Option Called) → is_some (option_map (λ called. called.method) o) ≡ is_some o
    is_some_map None = refl
    is_some_map (Some called) = refl

pub call_open_is : (kept : ShapeKept) (earlier : List Entry) → length kept.phases
    ≡ kept.header.callers
    → HasFollowed kept earlier
    → list_any (λ phase. is_some phase.open_method) kept.phases ≡ is_call_open kept.header earlier
call_open_is kept earlier size followed =
    open_is earlier kept.phases 0 (λ i low. followed.phases i (omega arith)
    ∙ ap (λ c. Some (phase_of c earlier)) (omega arith))
    ∙ ap (λ n. list_any (λ c. is_some (open_call c earlier)) (numbers_from 0 n)) size

-- what was read is the phase
pub phase_is : (phases : List Phase) (c : ℕ) (read phase : Phase) → read ≡ get_or phases c read
    → slice_get phases c ≡ Some phase → read ≡ phase
phase_is phases c read phase e at = e ∙ get_or_from_slice_get phases c phase read at

-- the rule where a word is held by another caller, and where none of this is so
pub raced_rule : (o : Option Rule) (raced : Bool) (rule : Option Rule) → is_none o ≡ true
    → raced ≡ true
    → option_or o (then_some raced BlockRaced) ≡ rule → Some BlockRaced ≡ rule
raced_rule o raced rule e f is = grind arith

pub clear_rule : (o : Option Rule) (raced : Bool) (rule : Option Rule) → raced ≡ false
    → option_or o (then_some raced BlockRaced) ≡ rule → o ≡ rule
clear_rule o raced rule f is = grind arith

pub first_rule : (o : Option Rule) (raced : Bool) (rule : Option Rule) → is_none o ≡ false
    → option_or o (then_some raced BlockRaced) ≡ rule → o ≡ rule
first_rule o raced rule e is = search arith
