-- The laws that the contracts of `laws` state.
use Rattle.vyrd_shadow.proofs.FollowLaws.{followed_call, followed_return, followed_lone_commit}

pub ruleset quiet_laws = (followed_call, followed_return, followed_lone_commit)
