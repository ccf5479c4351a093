-- The subjects and their names: which are the same, how long a name is, and how it is read.
use Rattle.vyrd_base.proofs.Prelude
use Prelude.{◌≡◌, ℕ, Bool, true, false, cond, List, [], ◌∷◌, ◌++◌, Some, refl, sym, ap, ◌∙◌, ◌==◌}
use Prelude.{find, bytes_eq, slice_split, AllByRecursion, Subject, Method, Multiset, Cache, Tree}
use Prelude.{Buffers, Own, subject_name, subject_called, split_at, first_true, second_true}
use Rattle.std.proofs.lemmas.List.{append_cancel_left}
use Rattle.vyrd_base.specs.Subjects.{subjects, same_subject, is_built_in, is_named, subject_of}
use Rattle.vyrd_base.proofs.StructureLaws.{plain_subject}

-- subjects that are found to be the same are
pub same_subjects : (a b : Subject) → same_subject a b ≡ true → a ≡ b
same_subjects Multiset Multiset e = refl
same_subjects Cache Cache e = refl
same_subjects Tree Tree e = refl
same_subjects Buffers Buffers e = refl
same_subjects Multiset Cache e = cc
same_subjects Multiset Tree e = cc
same_subjects Multiset Buffers e = cc
same_subjects Cache Multiset e = cc
same_subjects Cache Tree e = cc
same_subjects Cache Buffers e = cc
same_subjects Tree Multiset e = cc
same_subjects Tree Cache e = cc
same_subjects Tree Buffers e = cc
same_subjects Buffers Multiset e = cc
same_subjects Buffers Cache e = cc
same_subjects Buffers Tree e = cc
same_subjects Own Own e = refl
same_subjects Own Multiset e = cc
same_subjects Multiset Own e = cc
same_subjects Own Cache e = cc
same_subjects Cache Own e = cc
same_subjects Own Tree e = cc
same_subjects Tree Own e = cc
same_subjects Own Buffers e = cc
same_subjects Buffers Own e = cc

-- a method with a name is its subject's, and that is built in
pub named_same : (method : Method) (subject : Subject) → is_named method subject ≡ true
    → same_subject (subject_of method) subject ≡ true
named_same method subject named = second_true (is_built_in subject) _ named

pub named_built_in : (method : Method) (subject : Subject) → is_named method subject ≡ true
    → is_built_in (subject_of method) ≡ true
named_built_in method subject named =
    ap is_built_in (same_subjects (subject_of method) subject (named_same method subject named))
    ∙ first_true (is_built_in subject) _ named

-- what is found among subjects that are built in is one
found_in : (test : Subject → Bool) (among : List Subject) (subject : Subject)
    → AllByRecursion (λ s. is_built_in s ≡ true) among
    → find test among ≡ Some subject → is_built_in subject ≡ true
found_in test [] subject all found = cc
found_in test (s ∷ among) subject all found = by_test (test s) (found_in test among subject all.1)
    found
  where
    by_test : (b : Bool) → (find test among ≡ Some subject → is_built_in subject ≡ true)
        → cond b (Some s) (find test among) ≡ Some subject → is_built_in subject ≡ true
    by_test true rest is = let same : s ≡ subject = cc in ap is_built_in (sym same) ∙ all.0
    by_test false rest is = rest is

pub called_built_in : (name : List ℕ) (subject : Subject) → subject_called name ≡ Some subject
    → is_built_in subject ≡ true
called_built_in name subject found =
    found_in (λ s. bytes_eq (subject_name s) name) subjects subject
    (refl, (refl, (refl, (refl, tt)))) found

-- the name of a subject that is built in is read as the subject that has it
pub subject_read : (subject : Subject) → is_built_in subject ≡ true
    → subject_called (subject_name subject) ≡ Some subject
subject_read Multiset built = refl
subject_read Cache built = refl
subject_read Tree built = refl
subject_read Buffers built = refl
subject_read Own built = cc

-- the name before a space is one
pub one_name : (a b : Subject) (r s : List ℕ) → subject_name a ++ 32 ∷ r ≡ subject_name b ++ 32 ∷ s
    → r ≡ s
one_name a b r s e =
    let parts : subject_name a ∷ slice_split (λ x. x == 32) r ≡ subject_name b ∷ slice_split
    (λ x. x == 32) s = sym (split_at 32 (subject_name a) r (first_true _ _ (plain_subject a)))
    ∙ ap (slice_split (λ x. x == 32)) e ∙ split_at 32 (subject_name b) s
    (first_true _ _ (plain_subject b)) in
    let same : subject_name a ≡ subject_name b = cc in
    let tails : 32 ∷ r ≡ 32 ∷ s = append_cancel_left (subject_name a) (32 ∷ r) (32 ∷ s) (cc) in
    cc
