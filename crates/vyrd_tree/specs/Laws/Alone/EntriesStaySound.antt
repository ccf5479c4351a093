-- Proofs of laws that an impl in src/ names: no contract says what is defined here. Sound entries
-- stay sound if one is added, removed or gets another value, or if five are split.
use Rattle.std.proofs.Common.{◌≡◌, ◌≢◌, ℕ, ◌+◌, ◌<◌, ◌≤◌, ◌^◌, [], ◌∷◌, ◌++◌, refl, ap, ◌∙◌, subst}
use Rattle.std.proofs.Common.{arith}
use Rattle.std.specs.Prelude.{length, drop, insert, flat_map}
use Rattle.std.specs.List.{AllByRecursion as Each}
use Rattle.vyrd_base.specs.Tree.{entry_parts}
use Rattle.vyrd_base.specs.Amounts.{given}
use Rattle.vyrd_base.proofs.SumLaws.{given-append}
use Rattle.vyrd_tree.specs.Contents.{IsLeafEntry, Rising, InRange, Below, BeginsAt, AreEntries}
use Rattle.vyrd_tree.specs.Contents.{IsChild, Entries, gives}
use Rattle.vyrd_tree.specs.Laws.Alone.Entries.{each_join, each_front, each_back, AllBelow}
use Rattle.vyrd_tree.specs.Laws.Alone.Entries.{rising_join, rising_front, rising_back}
use Rattle.vyrd_tree.specs.Laws.Alone.Entries.{rising_across, gives-append, take_front, drop_front}
use Rattle.vyrd_tree.specs.Laws.Alone.Entries.{place_is, IsBetween}
use Rattle.vyrd_tree.specs.Procedures.Split.{place_below, with_entry, lower_half, upper_half}
use Rattle.vyrd_tree.specs.Procedures.Split.{first_key}

pub length_join : (xs ys : Entries) → length (xs ++ ys) ≡ length xs + length ys
length_join [] ys = omega arith
length_join (x ∷ xs) ys = let e = length_join xs ys in omega arith

-- the new entry stands between those below it and those above it
pub with_entry_is : (xs front back : Entries) (k v : ℕ) → IsBetween k xs front back
    → with_entry xs k v ≡ front ++ (k, v) ∷ back
with_entry_is xs front back k v is =
    ap (λ place. insert xs place (k, v)) (place_is k xs ∙ is.place)
    ∙ ap (λ xs. insert xs (length front) (k, v)) is.parts
    ∙ ap (λ front'. front' ++ (k, v) ∷ drop (length front) (front ++ back)) (take_front front back)
    ∙ ap (λ back'. front ++ (k, v) ∷ back') (drop_front front back)

pub place_below_is : (xs front back : Entries) (k : ℕ) → IsBetween k xs front back
    → place_below k xs ≡ length front
place_below_is xs front back k is = place_is k xs ∙ is.place

each_around : (P : ℕ × ℕ → Type 0) (front back : Entries) (entry : ℕ × ℕ) → Each P (front ++ back)
    → P entry
    → Each P (front ++ entry ∷ back)
each_around P front back entry all it =
    each_join P front (entry ∷ back) (each_front P front back all) (it, each_back P front back all)

each_without : (P : ℕ × ℕ → Type 0) (front back : Entries) (entry : ℕ × ℕ)
    → Each P (front ++ entry ∷ back) → Each P (front ++ back)
each_without P front back entry all = each_join P front back (each_front P front (entry ∷ back) all)
    (each_back P front (entry ∷ back) all).1

rising_around : (front back : Entries) (entry : ℕ × ℕ) → Rising (front ++ back)
    → Each (λ x. x.0 < entry.0) front
    → Each (λ x. entry.0 < x.0) back
    → Rising (front ++ entry ∷ back)
rising_around front back entry rise below above =
    rising_join front (entry ∷ back) (rising_front front back rise) (
      above,
      rising_back front back rise,
    ) (across front below (rising_across front back rise))
  where
    across : (front : Entries) → Each (λ x. x.0 < entry.0) front → AllBelow front back
        → AllBelow front (entry ∷ back)
    across [] below all = tt
    across (x ∷ xs) below all = ((below.0, all.0), across xs below.1 all.1)

across_without : (front back : Entries) (entry : ℕ × ℕ) → AllBelow front (entry ∷ back)
    → AllBelow front back
across_without [] back entry all = tt
across_without (x ∷ xs) back entry all = (all.0.1, across_without xs back entry all.1)

rising_without : (front back : Entries) (entry : ℕ × ℕ) → Rising (front ++ entry ∷ back)
    → Rising (front ++ back)
rising_without front back entry rise =
    rising_join front back (rising_front front (entry ∷ back) rise)
    (rising_back front (entry ∷ back) rise).1
    (across_without front back entry (rising_across front (entry ∷ back) rise))

begins_around : (front back : Entries) (entry : ℕ × ℕ) (from : ℕ) → BeginsAt from (front ++ back)
    → from < entry.0
    → Each (λ x. entry.0 < x.0) back
    → BeginsAt from (front ++ entry ∷ back)
begins_around [] [] entry from begins above later = absurd begins
begins_around [] (x ∷ xs) entry from begins above later =
    absurd (let lt = later.0 in let at : x.0 ≡ from = begins in omega arith)
begins_around (x ∷ xs) back entry from begins above later = begins

-- one more entry, whose key is none of the others
pub entries_added : (last : ℕ) (level low : ℕ → ℕ) (above from bound : ℕ) (xs front back : Entries)
    (entry : ℕ × ℕ)
    → AreEntries last level low above from bound xs → IsBetween entry.0 xs front back
    → InRange from bound entry → (above ≡ 0 → IsLeafEntry entry) → (above ≢ 0 → from ≢ entry.0)
    → (above ≢ 0 → IsChild last level low above entry)
    → AreEntries last level low above from bound (front ++ entry ∷ back)
entries_added last level low above from bound xs front back entry es is in_range leaf apart child =
    record {
      rise = rising_around front back entry (subst Rising is.parts es.rise) is.below is.above;
      in_range = each_around (InRange from bound) front back entry
          (subst (Each (InRange from bound)) is.parts es.in_range) in_range;
      leaf = λ none. each_around IsLeafEntry front back entry
          (subst (Each IsLeafEntry) is.parts (es.leaf none)) (leaf none);
      inner = λ some. let i = es.inner some in record {
        two = (let two = i.two in
            let parts = ap length is.parts ∙ length_join front back in
            let more = length_join front (entry ∷ back) in omega arith);
        first = begins_around front back entry from (subst (BeginsAt from) is.parts i.first)
            (let le = in_range.0 in
            let other = apart some in omega arith) is.above;
        child = each_around (IsChild last level low above) front back entry
            (subst (Each (IsChild last level low above)) is.parts i.child) (child some);
      };
    }

-- one entry of a leaf less
pub entries_removed : (last : ℕ) (level low : ℕ → ℕ) (above from bound : ℕ) (front back : Entries)
    (entry : ℕ × ℕ)
    → above ≡ 0 → AreEntries last level low above from bound (front ++ entry ∷ back)
    → AreEntries last level low above from bound (front ++ back)
entries_removed last level low above from bound front back entry leaf es = record {
  rise = rising_without front back entry es.rise;
  in_range = each_without (InRange from bound) front back entry es.in_range;
  leaf = λ none. each_without IsLeafEntry front back entry (es.leaf none);
  inner = λ some. absurd (some leaf);
}

-- another value for the key of a leaf's entry
pub entries_replaced : (last : ℕ) (level low : ℕ → ℕ) (above from bound : ℕ) (front back : Entries)
    (entry : ℕ × ℕ) (value : ℕ)
    → above ≡ 0 → value < 2 ^ 32
    → AreEntries last level low above from bound (front ++ entry ∷ back)
    → AreEntries last level low above from bound (front ++ (entry.0, value) ∷ back)
entries_replaced last level low above from bound front back entry value leaf small es = record {
  rise = rising_around front back (
    entry.0,
    value,
  ) (rising_without front back entry es.rise)
      (below front (rising_across front (entry ∷ back) es.rise))
      (rising_back front (entry ∷ back) es.rise).0;
  in_range = each_around (InRange from bound) front back (entry.0, value)
      (each_without (InRange from bound) front back entry es.in_range)
      (let is = (each_back (InRange from bound) front (entry ∷ back) es.in_range).0 in
      (is.0, is.1));
  leaf = λ none. each_around IsLeafEntry front back (entry.0, value)
      (each_without IsLeafEntry front back entry (es.leaf none))
      (record {
        key_low = (each_back IsLeafEntry front (entry ∷ back) (es.leaf none)).0.key_low;
        value_low = small;
      });
  inner = λ some. absurd (some leaf);
}
  where
    below : (xs : Entries) → AllBelow xs (entry ∷ back) → Each (λ x. x.0 < entry.0) xs
    below [] all = tt
    below (x ∷ xs) all = (all.0.0, below xs all.1)

-- what is given when an entry is put between others
pub gives_around : (q : ℕ) (front back : Entries) (entry : ℕ × ℕ)
    → gives q (front ++ entry ∷ back) ≡ given q (entry_parts entry) + gives q (front ++ back)
gives_around q front back entry =
    omega (
      arith,
      gives-append q front (entry ∷ back),
      gives-append q front back,
      given-append q (entry_parts entry) (flat_map entry_parts back),
    )

-- five entries that are split in two: the first three up to the key of the fourth, and the last two
-- from there on
pub record AreHalves (last : ℕ) (level low : ℕ → ℕ) (above from bound : ℕ)
    (five : Entries) : Type 0 where
  pub lower : AreEntries last level low above from (first_key (upper_half five)) (lower_half five)
  pub upper : AreEntries last level low above (first_key (upper_half five)) bound (upper_half five)
  pub higher : from < first_key (upper_half five)
  pub within : Below (first_key (upper_half five)) bound
  pub three : length (lower_half five) ≡ 3
  pub two : length (upper_half five) ≡ 2
  pub whole : five ≡ lower_half five ++ upper_half five

pub halves : (last : ℕ) (level low : ℕ → ℕ) (above from bound : ℕ) (five : Entries)
    → length five ≡ 5
    → AreEntries last level low above from bound five
    → AreHalves last level low above from bound five
halves last level low above from bound [] len es = absurd (omega (arith, len))
halves last level low above from bound (a ∷ []) len es = absurd (omega (arith, len))
halves last level low above from bound (a ∷ b ∷ []) len es = absurd (omega (arith, len))
halves last level low above from bound (a ∷ b ∷ c ∷ []) len es = absurd (omega (arith, len))
halves last level low above from bound (a ∷ b ∷ c ∷ d ∷ []) len es = absurd (omega (arith, len))
halves last level low above from bound (a ∷ b ∷ c ∷ d ∷ e ∷ f ∷ more) len es =
    absurd (omega (arith, len))
halves last level low above from bound (a ∷ b ∷ c ∷ d ∷ e ∷ []) len es =
    let r = es.rise in
    let w = es.in_range in
    let ab : a.0 < b.0 = r.0.0 in
    let ad : a.0 < d.0 = r.0.1.1.0 in
    let bd : b.0 < d.0 = r.1.0.1.0 in
    let cd : c.0 < d.0 = r.1.1.0.0 in
    let de : d.0 < e.0 = r.1.1.1.0.0 in
    let low_a : from ≤ a.0 = w.0.0 in
    record {
      lower = record {
        rise = ((r.0.0, (r.0.1.0, tt)), ((r.1.0.0, tt), (tt, tt)));
        in_range = ((w.0.0, λ some. ad), ((w.1.0.0, λ some. bd), ((w.1.1.0.0, λ some. cd), tt)));
        leaf = λ none. (let l = es.leaf none in (l.0, (l.1.0, (l.1.1.0, tt))));
        inner = λ some. (let i = es.inner some in
            record {
              two = omega arith;
              first = i.first;
              child = (
                i.child.0,
                (i.child.1.0, (i.child.1.1.0, tt)),
              );
            });
      };
      upper = record {
        rise = ((de, tt), (tt, tt));
        in_range = ((omega arith, w.1.1.1.0.1), ((omega arith, w.1.1.1.1.0.1), tt));
        leaf = λ none. (let l = es.leaf none in l.1.1.1);
        inner = λ some. (let i = es.inner some in
            record { two = omega arith; first = refl; child = i.child.1.1.1 });
      };
      higher = omega arith;
      within = w.1.1.1.0.1;
      three = refl;
      two = refl;
      whole = refl;
    }
