use Rattle.vyrd_text.proofs.GrowingLaws as growing
use Rattle.vyrd_text.proofs.laws.read_for_good.Goals as goal

pub returns-clause-header : goal.returns-clause-header
returns-clause-header c = λ r bytes more h low e. growing.header_lasts r bytes more low h e

pub returns-clause-entries : goal.returns-clause-entries
returns-clause-entries c = λ r bytes more low. growing.entries_last r bytes more low

pub returns-clause-start : goal.returns-clause-start
returns-clause-start c = λ r bytes more low. growing.starts_last r bytes more low

pub returns-clause-begun : goal.returns-clause-begun
returns-clause-begun c = λ r bytes more low begun. growing.starts_stay r bytes more low begun

pub returns-clause-ended : goal.returns-clause-ended
returns-clause-ended c = λ r bytes more low e. growing.end_lasts r bytes more low e

pub returns-clause-fault : goal.returns-clause-fault
returns-clause-fault c = λ r bytes more f low e. growing.fault_lasts r bytes more low f e

pub returns-clause-whole_fault : goal.returns-clause-whole_fault
returns-clause-whole_fault c = λ r bytes more f low e. growing.fault_lasts_whole r bytes more low f
    e

pub returns-clause-still_read : goal.returns-clause-still_read
returns-clause-still_read c = λ r bytes more f low e has. growing.still_read r bytes more low f e
    has
