use Rattle.merkle_pages.proofs.Words.{◌∙◌, sym, length-map, entry_in}
use Rattle.merkle_pages.proofs.leaves.Leaves.len.Goals as goal

pub returns : goal.returns
returns c = rw (← c.self.view_is) (c.len.ensures.len ∙ sym (length-map c.self.inside.map.entries entry_in))
