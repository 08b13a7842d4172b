use Rattle.choices.proofs.laws.ListedOnce.{all-orders, all-points}
use Rattle.choices.proofs.law.each_choice_once.Goals as goal

pub returns : goal.returns
returns c = record { orders_once = all-orders; points_once = all-points }
