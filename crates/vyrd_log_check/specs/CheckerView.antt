-- What the fields of a checker stand for.
use Rattle.vyrd_log_check.specs.declared.checker.LogChecker.TheInside.{Inside}
use Rattle.vyrd_log_check.specs.Checking.{LogCheckerState, so_far_by}

abbrev pub log_checker_in : Inside → LogCheckerState
log_checker_in c = record {
  max_lines = c.max_lines;
  matched = c.matched;
  first = c.first;
  own = c.own;
  so_far = so_far_by c.first c.own;
  has_failed = c.has_failed;
}
