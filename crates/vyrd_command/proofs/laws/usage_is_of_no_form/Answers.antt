use Rattle.vyrd_command.proofs.CommandLaws.{three_is_usage}
use Rattle.vyrd_command.proofs.laws.usage_is_of_no_form.Goals as goal

pub returns : goal.returns
returns c = three_is_usage
