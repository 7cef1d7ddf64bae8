use Rattle.std.proofs.Common.{◌^◌, ◌≤◌, arith}
use Rattle.plasma_base.proofs.ToyLaws.{power-small}
use Rattle.plasma_base.proofs.toy.place_value.Goals as goal

pub pow-requires : goal.pow-requires
pow-requires c = let small : 256 ^ c.args.place ≤ 2 ^ 56 = power-small c.args.place c.requires in omega arith

pub returns : goal.returns
returns c = record { value = c.pow.ensures; small = rw (c.pow.ensures) (power-small c.args.place c.requires) }
