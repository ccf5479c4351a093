-- What every method and every subject meets: calls are written on lines and read again.
use Rattle.vyrd_base.proofs.Prelude
use Prelude.{◌≡◌, ℕ, ◌+◌, ◌<◌, ◌≤◌, ◌^◌, Bool, true, not, cond, List, [], ◌∷◌, length, map, Some}
use Prelude.{refl, ap, ◌∙◌, arith, find, option_map, slice_get, slice_get-map, longest_subject}
use Prelude.{longest_method, Subject, Multiset, Cache, Tree, Buffers, Method, multiset, cache, tree}
use Prelude.{buffers, arity_of, subject_of, methods_of, is_observer, must_commit, is_built_in}
use Prelude.{is_named, plain_words_of, lock_words_of, subject_name, method_name, method_called}
use Prelude.{is_plain_field}
use Rattle.vyrd_base.specs.declared.subject.Method.TheVariants.{OwnNever, OwnAtMostOnce, OwnOnce}
use Rattle.vyrd_base.specs.declared.subject.Method.TheVariants.{Multiset as OfMultiset}
use Rattle.vyrd_base.specs.declared.subject.Method.TheVariants.{Cache as OfCache, Tree as OfTree}
use Rattle.vyrd_base.specs.declared.subject.Method.TheVariants.{Buffers as OfBuffers}
use Rattle.vyrd_base.proofs.SpelledMultiset.{multiset_is}
use Rattle.vyrd_base.proofs.SpelledCache.{cache_is}
use Rattle.vyrd_base.proofs.SpelledTree.{tree_is}
use Rattle.vyrd_base.proofs.SpelledBuffers.{buffers_is}

pub plain_method : (method : Method) → is_plain_field (method_name method) ≡ true
plain_method method = grind arith

pub short_method : (method : Method) → length (method_name method) ≤ longest_method
short_method method = grind arith

pub some_arguments : (method : Method) → is_built_in (subject_of method) ≡ true
    → 1 ≤ arity_of method
some_arguments method built = grind arith

pub few_arguments : (method : Method) → is_built_in (subject_of method) ≡ true → arity_of method ≤ 3
few_arguments method built = grind arith

pub once_or_never : (method : Method) → is_built_in (subject_of method) ≡ true → must_commit method
    ≡ not (is_observer method)
once_or_never method built = grind arith

-- a search among other names of the same things
find_mapped : {A B : Type 0} (f : A → B) (p : B → Bool) (xs : List A) → find p (map f xs)
    ≡ option_map f (find (λ x. p (f x)) xs)
find_mapped f p [] = refl
find_mapped f p (x ∷ xs) = by_test (p (f x)) (find_mapped f p xs)
  where
    by_test : (b : Bool) → find p (map f xs) ≡ option_map f (find (λ y. p (f y)) xs)
        → cond b (Some (f x)) (find p (map f xs))
        ≡ option_map f (cond b (Some x) (find (λ y. p (f y)) xs))
    by_test b rest = search arith

-- the method of that name is the only one of its subject
pub method_found : (subject : Subject) (method : Method) → is_named method subject ≡ true
    → method_called subject (method_name method) ≡ Some method
method_found subject method e = grind (arith, find_mapped)

-- a method's place among those of its subject
abbrev pub place_of : Method → ℕ
place_of (OfMultiset m) = multiset_is.place m
place_of (OfCache m) = cache_is.place m
place_of (OfTree m) = tree_is.place m
place_of (OfBuffers m) = buffers_is.place m
place_of (OwnNever i) = 0
place_of (OwnAtMostOnce i) = 0
place_of (OwnOnce i) = 0

pub method_listed : (subject : Subject) (method : Method) → is_named method subject ≡ true
    → slice_get (methods_of subject) (place_of method) ≡ Some method
method_listed Multiset (OfMultiset m) e = slice_get-map OfMultiset multiset.methods
    (multiset_is.place m) ∙ ap (option_map OfMultiset) (multiset_is.listed m)
method_listed Cache (OfCache m) e = slice_get-map OfCache cache.methods (cache_is.place m)
    ∙ ap (option_map OfCache) (cache_is.listed m)
method_listed Tree (OfTree m) e = slice_get-map OfTree tree.methods (tree_is.place m)
    ∙ ap (option_map OfTree) (tree_is.listed m)
method_listed Buffers (OfBuffers m) e = slice_get-map OfBuffers buffers.methods (buffers_is.place m)
    ∙ ap (option_map OfBuffers) (buffers_is.listed m)
method_listed _ _ e = cc

pub plain_subject : (subject : Subject) → is_plain_field (subject_name subject) ≡ true
plain_subject subject = grind arith

pub short_subject : (subject : Subject) → length (subject_name subject) ≤ longest_subject
short_subject subject = grind arith

pub words_within : (subject : Subject) → (size : ℕ) → size ≤ 1024 → plain_words_of subject size
    + lock_words_of subject size < 2 ^ 16
words_within subject size low = grind arith
