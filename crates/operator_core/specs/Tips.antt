-- Tips as values of the code.
use Rattle.operator_rules.specs.Walk.{Place}
use Rattle.operator_core.specs.declared.ends.Tip.{Tip}

-- the place that the code's value stands for
abbrev pub place_of_tip : Tip → Place
place_of_tip tip = record { block = tip.block; owner = tip.owner }
