-- What a caller may do in its situation breaks no rule of shape, except that its write may race for
-- a word of a block.
use Rattle.vyrd_memory.proofs.Prelude
use Prelude.{◌≡◌, ℕ, ◌<◌, ◌^◌, Bool, true, false, cond, not, ◌&&◌, ◌||◌, List, Option, Some, None}
use Prelude.{option_map, refl, ap, ◌∙◌, sym, ◌==◌, nat_lt, is_some, is_none, option_map_or, Header}
use Prelude.{Method, Kind, Call, Return, Write, Commit, BlockOpen, BlockClose, BlockCommit, Entry}
use Prelude.{Rule, plain_words, is_observer, same_subject, are_args, Called, open_call, has_block}
use Prelude.{has_committed, broken_rule, cells_of, is_plain, entry, first_true, second_true, Store}
use Prelude.{Situation, observes, may_act, may_mark}
use Rattle.std.specs.Prelude.{nat_le}
use Rattle.std.proofs.lemmas.Bool.{not-true}
use Rattle.vyrd_base.specs.declared.subject.Commits.{Commits}
use Rattle.vyrd_base.specs.declared.subject.Commits.TheVariants.{Never, AtMostOnce, Once}
use Rattle.vyrd_base.specs.declared.verdict.Rule.TheVariants.{CallerRange, MethodOther}
use Rattle.vyrd_base.specs.declared.verdict.Rule.TheVariants.{ArgumentRange, CallInCall, NoCall}
use Rattle.vyrd_base.specs.declared.verdict.Rule.TheVariants.{ReturnInBlock, NoCommit, WordRange}
use Rattle.vyrd_base.specs.declared.verdict.Rule.TheVariants.{ValueRange, BlockRaced}
use Rattle.vyrd_base.specs.declared.verdict.Rule.TheVariants.{ObserverCommit, SecondCommit}
use Rattle.vyrd_base.specs.declared.verdict.Rule.TheVariants.{CommitInBlock, BlockInBlock, NoBlock}
use Rattle.vyrd_base.specs.Subjects.{commits_of, never_commits, always_commits}
use Rattle.vyrd_base.specs.Shape.{first_broken, checks_of, is_observing, owes_commit, is_raced}
use Rattle.vyrd_base.proofs.TestLaws.{isnt_at_most, above_then}
use Rattle.vyrd_memory.proofs.Agreements.{Agrees, three_true, four_true, may_call, may_return}

-- where a rule is broken, it is that of raced blocks
pub record OnlyRaced (broken : Option Rule) : Type 0 where
  pub raced : (rule : Rule) → broken ≡ Some rule → rule ≡ BlockRaced

pub none_broken : OnlyRaced None
none_broken = record { raced = λ rule e. cc }

-- a check that isn't broken is passed over
passed : (broken : Bool) (rule : Rule) (rest : Option Rule) → broken ≡ false → OnlyRaced rest
    → OnlyRaced (cond broken (Some rule) rest)
passed true rule rest e later = cc
passed false rule rest e later = later

race_last : (broken : Bool) → OnlyRaced (cond broken (Some BlockRaced) None)
race_last true = record { raced = λ rule e. let same : BlockRaced ≡ rule = cc in sym same }
race_last false = none_broken

-- the tests of an entry that may come
not_false : (b : Bool) → b ≡ true → not b ≡ false
not_false b e = ap not e

both_false : (a b : Bool) → b ≡ false → (a && b) ≡ false
both_false true b e = e
both_false false b e = refl

opened : (o : Option Called) (p : Option Method) → option_map (λ called. called.method) o ≡ p
    → is_some p ≡ true → is_none o ≡ false
opened None p e some = let no : false ≡ true = ap is_some e ∙ some in cc
opened (Some called) p e some = refl

closed : (o : Option Called) (p : Option Method) → option_map (λ called. called.method) o ≡ p
    → is_none p ≡ true → is_some o ≡ false
closed None p e none = refl
closed (Some called) p e none = let no : false ≡ true = ap is_none e ∙ none in cc

is_open : (c : ℕ) (s : Situation) (log : List Entry) → Agrees c s log → is_some s.called ≡ true
    → is_none (open_call c log) ≡ false
is_open c s log a some = opened (open_call c log) s.called a.called some

pub isnt_open : (c : ℕ) (s : Situation) (log : List Entry) → Agrees c s log → is_none s.called
    ≡ true → is_some (open_call c log) ≡ false
isnt_open c s log a none = closed (open_call c log) s.called a.called none

watches : (c : ℕ) (s : Situation) (log : List Entry) → Agrees c s log → is_observing c log
    ≡ observes s
watches c s log a = by_call (open_call c log) ∙ ap (λ o. option_map_or is_observer o false) a.called
  where
    by_call : (o : Option Called) → option_map_or (λ called. is_observer called.method) o false
        ≡ option_map_or is_observer (option_map (λ called. called.method) o) false
    by_call None = refl
    by_call (Some called) = refl

-- a write
pub write_kept : (h : Header) (c word value : ℕ) (s : Situation) (log : List Entry) → c < h.callers
    → may_act h s (Store word value) ≡ true → Agrees c s log
    → OnlyRaced (broken_rule h log (entry c (Write word value)))
write_kept h c word value s log low may a =
    let parts = three_true (is_plain (cells_of h) word) (nat_lt value (2 ^ 63))
    (is_some s.called) may in
    passed (nat_le h.callers c) CallerRange (first_broken (checks_of h log c (Write word value)))
    (isnt_at_most h.callers c low)
    (passed (is_none (open_call c log)) NoCall _ (is_open c s log a parts.2)
    (passed (nat_le (plain_words h) word) WordRange _ (above_then (plain_words h) word parts.0)
    (passed (nat_le (2 ^ 63) value) ValueRange _ (above_then (2 ^ 63) value parts.1)
    (race_last (is_raced h c word log)))))

-- an execution that commits always, and not yet, isn't that of an observer
paid : (commits : Commits) (committed : Bool) → not (never_commits commits || committed) ≡ false
    → (always_commits commits && not committed) ≡ false
paid Never committed done = refl
paid AtMostOnce committed done = refl
paid Once committed done = done

-- the rules of a mark, after that of its caller
checks_kept : (h : Header) (c : ℕ) (kind : Kind) (s : Situation) (log : List Entry)
    → may_mark h s kind ≡ true → Agrees c s log
    → OnlyRaced (first_broken (checks_of h log c kind))
checks_kept h c (Call method args) s log may a =
    let parts = may_call h s method args may in
    passed (not (same_subject _ _)) MethodOther _ (not_false _ parts.0)
    (passed (not (are_args h.size method args)) ArgumentRange _ (not_false _ parts.1)
    (passed (is_some _) CallInCall None (isnt_open c s _ a parts.2.called) none_broken))
checks_kept h c (Return reply) s log may a =
    let parts = may_return h s reply may in
    let done : (is_observing c log || has_committed c log)
    ≡ true = cc (watches c s log a, a.committed, parts.2) in
    passed (is_none _) NoCall _ (is_open c s _ a parts.0)
    (passed (has_block c _) ReturnInBlock _ (a.in_block ∙ parts.1)
    (passed (owes_commit c _ && not _) NoCommit None
    (nothing_owed (open_call c _) refl (is_open c s _ a parts.0) (not_false _ done)) none_broken))
  where
    nothing_owed : (o : Option Called) → open_call c log ≡ o → is_none (open_call c log) ≡ false
        → not (is_observing c log || has_committed c log) ≡ false
        → (owes_commit c log && not (has_committed c log)) ≡ false
    nothing_owed None e some done = let no : true ≡ false = ap is_none (sym e) ∙ some in cc
    nothing_owed (Some called) e some done =
        cc (paid (commits_of called.method) (has_committed c log) (cc))
checks_kept h c (Write word value) s log may a = cc
checks_kept h c Commit s log may a =
    let parts = four_true (is_some _) (not _) (not _) (not _) may in
    passed (is_none _) NoCall _ (is_open c s _ a parts.0)
    (passed (is_observing c _) ObserverCommit _ (watches c s _ a ∙ not-true _ parts.1)
    (passed (has_committed c _) SecondCommit _ (a.committed ∙ not-true _ parts.2)
    (passed (h.version == 1 && has_block c log) CommitInBlock None
    (both_false (h.version == 1) (has_block c log) (a.in_block ∙ not-true s.in_block parts.3))
    none_broken)))
checks_kept h c BlockOpen s log may a = passed (is_none _) NoCall _
    (is_open c s _ a (first_true _ (not _) may))
    (passed (has_block c _) BlockInBlock None
    (a.in_block ∙ not-true _ (second_true (is_some s.called) _ may)) none_broken)
checks_kept h c BlockClose s log may a = passed (is_none _) NoCall _
    (is_open c s _ a (first_true _ s.in_block may))
    (passed (not _) NoBlock None (not_false _ (a.in_block ∙ second_true (is_some s.called) _ may))
    none_broken)
checks_kept h c BlockCommit s log may a =
    let parts = four_true (is_some _) s.in_block (not _) (not _) may in
    passed (is_none _) NoCall _ (is_open c s _ a parts.0)
    (passed (not (has_block c _)) NoBlock _ (not_false _ (a.in_block ∙ parts.1))
    (passed (is_observing c _) ObserverCommit _ (watches c s _ a ∙ not-true _ parts.2)
    (passed (has_committed c log) SecondCommit None (a.committed ∙ not-true s.committed parts.3)
    none_broken)))

pub mark_kept : (h : Header) (c : ℕ) (kind : Kind) (s : Situation) (log : List Entry)
    → c < h.callers → may_mark h s kind ≡ true → Agrees c s log
    → OnlyRaced (broken_rule h log (entry c kind))
mark_kept h c kind s log low may a = passed (nat_le _ c) CallerRange
    (first_broken (checks_of h _ c _)) (isnt_at_most _ c low) (checks_kept h c kind s _ may a)
