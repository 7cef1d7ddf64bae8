-- Where a coin's history ends, and who owns the coin there.
use Rattle.std.specs.Prelude.{ℕ, ◌-◌, length, Option, slice_get}
use Rattle.std.specs.Option.{option_map_or}
use Rattle.plasma_tx.specs.{declared.owner.Owner.{Owner}, declared.links.Link.{Link}, declared.links.Links.{Links}}

-- the last spend, if there is one
abbrev pub last_spend : Links → Option Link
last_spend links = slice_get links.spends (length links.spends - 1)

-- the tip: the block of the last spend, or the deposit block
abbrev pub tip_of : Links → ℕ
tip_of links = option_map_or (λ link. link.block) (last_spend links) links.deposit

-- the last owner: to whom the last spend goes, or the depositor
abbrev pub last_owner_of : Links → Owner
last_owner_of links = option_map_or (λ link. link.tx.body.to) (last_spend links) links.owner
