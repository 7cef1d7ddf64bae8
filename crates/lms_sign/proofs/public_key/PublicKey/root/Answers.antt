use Rattle.std.proofs.Common.{◌≤◌, ◌∙◌, length, drop, ap, arith, length-drop}
use Rattle.std.proofs.lemmas.List.{take_all}
use Rattle.lms_sign.proofs.public_key.PublicKey.root.Goals as goal

pub returns : goal.returns
returns c =
    let bytes = c.self.inside.bytes in
    let fits : length (drop 24 bytes) ≤ 32 = omega (arith, length-drop 24 bytes) in
    take_all 32 (drop 24 bytes) fits ∙ ap (drop 24) c.self.view_is
