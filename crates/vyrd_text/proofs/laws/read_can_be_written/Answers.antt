use Rattle.vyrd_base.proofs.ReadingSound.{reading_writable}
use Rattle.vyrd_text.proofs.WrittenLaws.{all_writable}
use Rattle.vyrd_text.proofs.laws.read_can_be_written.Goals as goal

pub returns-clause-start : goal.returns-clause-start
returns-clause-start c = λ input bytes h has. (reading_writable input bytes h has).may

pub returns-clause-entries : goal.returns-clause-entries
returns-clause-entries c = λ input bytes h has. all_writable h.subject _
    (reading_writable input bytes h has).of_subject
