use Rattle.std.proofs.Common.{◌≡◌, ℕ, ◌-◌, true, false, List, [], ◌++◌, length, take, drop, ap, sym}
use Rattle.std.proofs.Common.{subst, ◌∙◌}
use Rattle.std.specs.List.{AllByRecursion}
use Rattle.vyrd_base.specs.declared.log.Entry.{Entry}
use Rattle.vyrd_base.specs.Starts.{may_start}
use Rattle.vyrd_base.specs.Reading.{reading}
use Rattle.vyrd_base.proofs.ReadingSound.{IsWritable, reading_writable}
use Rattle.vyrd_text.specs.Written.{is_writable}
use Rattle.vyrd_text.specs.Answered.{IsGrownBy}
use Rattle.vyrd_text.specs.Readers.{HasRead, so_far}
use Rattle.vyrd_text.proofs.WrittenLaws.{all_writable}
use Rattle.vyrd_text.proofs.ReadLaws.{nothing_read}
use Rattle.vyrd_log_tests.proofs.text.written_again.Goals as goal

-- entries that grew as what was read is what was read
grown : (a b a_new b_new : List Entry) → a ≡ b → IsGrownBy a b a_new b_new → a_new ≡ b_new
grown a b a_new b_new same g = g.one ∙ ap (λ t. t ++ g.more) same ∙ sym g.other

module _ (c : goal.After-again-1) where
  -- the bytes of the first piece, and those of both
  abbrev front : List ℕ
  front = take c.args.cut c.args.text.now

  abbrev all : List ℕ
  all = front ++ take (length c.args.text.now - c.args.cut) (drop c.args.cut c.args.text.now)

  first : HasRead c.feed.new.self front
  first = c.in_ok-feed.ensures.read [] c.new-reader.ensures.read

  both : HasRead c.feed-2.new.self all
  both = c.in_ok-feed-2.ensures.read front first

  kept : IsWritable c.in-Some.header (reading (so_far c.feed-2.new.self) all)
  kept = reading_writable (so_far c.feed-2.new.self) all c.in-Some.header
      (sym (c.in-Some.ensures.read all both))

  one : c.feed.new.out.items ≡ (reading (so_far c.feed.new.self) front).entries
  one = grown c.new-entries.result.items (reading (so_far c.new-reader.result) []).entries
      c.feed.new.out.items
      (reading (so_far c.new-reader.result) front).entries
      (c.new-entries.ensures.items ∙ sym (nothing_read c.new-reader.result))
      (c.in_ok-feed.ensures.entries [] c.new-reader.ensures.read)
      ∙ ap (λ n. (reading (record { max_lines = n; is_whole = false }) front).entries)
      (sym c.in_ok-feed.ensures.limit)

  two : c.feed-2.new.out.items ≡ (reading (so_far c.feed-2.new.self) all).entries
  two = grown c.feed.new.out.items (reading (so_far c.feed.new.self) front).entries
      c.feed-2.new.out.items
      (reading (so_far c.feed.new.self) all).entries one
      (c.in_ok-feed-2.ensures.entries front first)
      ∙ ap (λ n. (reading (record { max_lines = n; is_whole = false }) all).entries)
      (sym c.in_ok-feed-2.ensures.limit)

pub write_started-requires-clause-start : goal.write_started-requires-clause-start
write_started-requires-clause-start c =
    subst (λ ss. may_start c.in-Some.header ss ≡ true) (sym (c.start.ensures.read (all c) (both c)))
    (kept c).may

pub write_started-requires-clause-entries : goal.write_started-requires-clause-entries
write_started-requires-clause-entries c =
    subst (λ (es : List Entry). AllByRecursion (λ e. is_writable c.in-Some.header.subject e ≡ true)
    es) (sym (c.deref.ensures.value ∙ two c))
    (all_writable c.in-Some.header.subject _ (kept c).of_subject)
