-- What the fields of an explainer stand for.
use Rattle.vyrd_explain.specs.declared.explainer.Explainer.TheInside.{Inside}
use Rattle.vyrd_explain.specs.Explaining.{ExplainerState}

abbrev pub explainer_in : Inside → ExplainerState
explainer_in e = record {
  checker = e.checker;
  reader = e.reader;
  entries = e.entries.items;
  own = e.own;
  own_entries = e.own_entries.items;
  numbers = e.numbers.items;
  has_failed = e.has_failed;
}
