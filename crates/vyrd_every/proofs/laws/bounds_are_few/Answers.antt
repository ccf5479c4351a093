use Rattle.vyrd_every.proofs.Workloads as workloads
use Rattle.vyrd_every.proofs.laws.bounds_are_few.Goals as goal

pub returns-clause-of_multiset : goal.returns-clause-of_multiset
returns-clause-of_multiset c = workloads.few_multiset_events

pub returns-clause-of_cache : goal.returns-clause-of_cache
returns-clause-of_cache c = workloads.few_cache_events

pub returns-clause-of_buffers : goal.returns-clause-of_buffers
returns-clause-of_buffers c = workloads.few_buffer_events
