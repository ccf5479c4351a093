-- The words of the form `check` are those for which a program that only checks does so.
use Rattle.vyrd_command.proofs.Prelude.{◌≡◌, ℕ, Bool, true, false, List, [], ◌∷◌, Option, Some}
use Rattle.vyrd_command.proofs.Prelude.{None, refl, codes, if◌then◌else◌, Form}
use Rattle.std.specs.Option.{option_and_then}
use Rattle.std.specs.Str.{bytes_eq}
use Rattle.vyrd_explain.specs.declared.about.About.TheVariants.{Fault, Changes}
use Rattle.vyrd_check_command.specs.Inside.Words.{is_check}
use Rattle.vyrd_command.specs.declared.show.Show.TheVariants.{Verdict, Log, History}
use Rattle.vyrd_command.specs.declared.form.Form.TheVariants.{Check, Step, Run, Gen, Movers, Batch}
use Rattle.vyrd_command.specs.declared.form.Form.TheVariants.{Tell}
use Rattle.vyrd_command.specs.Forms.{form_in}

chosen : (b : Bool) (x y : Option Form) → b ≡ true → (if b then x else y) ≡ x
chosen true x y e = refl
chosen false x y e = cc

pub check_said : (said : List (List ℕ)) → is_check said ≡ true → form_in said ≡ Some Check
check_said [] e = cc
check_said (word ∷ []) e = chosen (bytes_eq word (codes "check")) (Some Check) _ e
check_said (word ∷ other ∷ more) e = cc

-- no other word has that form
one_word_said : (check step run movers batch explain follow : Bool)
    → (if check then Some Check else (if step then Some (Step Verdict)
    else (if run then Some (Run Verdict) else (if movers then Some Movers
    else (if batch then Some Batch else (if explain then Some (Tell Fault)
    else (if follow then Some (Tell Changes) else None))))))) ≡ Some Check → check ≡ true
one_word_said true step run movers batch explain follow e = refl
one_word_said false true run movers batch explain follow e = cc
one_word_said false false true movers batch explain follow e = cc
one_word_said false false false true batch explain follow e = cc
one_word_said false false false false true explain follow e = cc
one_word_said false false false false false true follow e = cc
one_word_said false false false false false false true e = cc
one_word_said false false false false false false false e = cc

-- nor do two words
two_words_said : (gen count log history step run : Bool) (n : ℕ)
    → (if gen then (if count then Some (Gen n) else None)
    else option_and_then
    (λ show. if step then Some (Step show) else (if run then Some (Run show) else None))
    (if log then Some Log else (if history then Some History else None))) ≡ Some Check → ⊥
two_words_said true true log history step run n e = cc
two_words_said true false log history step run n e = cc
two_words_said false count true history true run n e = cc
two_words_said false count true history false true n e = cc
two_words_said false count true history false false n e = cc
two_words_said false count false true true run n e = cc
two_words_said false count false true false true n e = cc
two_words_said false count false true false false n e = cc
two_words_said false count false false step run n e = cc

pub only_check : (said : List (List ℕ)) → form_in said ≡ Some Check → is_check said ≡ true
only_check [] e = cc
only_check (word ∷ []) e = one_word_said _ _ _ _ _ _ _ e
only_check (word ∷ other ∷ []) e = absurd (two_words_said _ _ _ _ _ _ _ e)
only_check (word ∷ other ∷ third ∷ more) e = cc
