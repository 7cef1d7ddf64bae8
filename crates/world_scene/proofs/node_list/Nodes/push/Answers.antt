use Rattle.std.proofs.Common.{rules, ◌≡◌, sym, ap, ◌∙◌, subst, arith, length, [], ◌∷◌, ◌++◌, None}
use Rattle.std.specs.List.{position}
use Rattle.world_scene.specs.declared.names.Roles.{Roles}
use Rattle.world_scene.specs.Names.{is_named_view}
use Rattle.world_scene.specs.Places.{PutsPlace}
use Rattle.world_nodes.specs.Nodes.{declared_as}
use Rattle.world_scene.specs.Indexed.{all_declared, wallet_accounts, IsIndexed}
use Rattle.world_scene.proofs.Index.{places_same, one_more}
use Rattle.world_scene.proofs.node_list.Nodes.push.Goals as goal

pub invariant_of-self-in_err-put : goal.invariant_of-self-in_err-put
invariant_of-self-in_err-put g c =
    let inside = c.self.inside in
    subst (λ views. IsIndexed c.put.new.self c.reserve-2.new.self.items (all_declared views))
    (sym c.reserve.ensures.items)
    (subst (λ accounts. IsIndexed c.put.new.self accounts (all_declared inside.entries.items))
    (sym c.reserve-2.ensures.items)
    (places_same inside.places c.put.new.self inside.wallet_accounts.items (all_declared inside.entries.items)
    c.in_err-put.ensures.err c.self.invariant))

pub invariant_of-self-2 : goal.invariant_of-self-2
invariant_of-self-2 g c =
    let inside = c.self.inside in
    let entry = c.args.entry in
    let pushed : c.push.new.self.items ≡ inside.entries.items ++ entry ∷ [] = search
    (rules, c.unwrap.ensures, c.push.ensures.items, c.reserve.ensures.items) in
    let counted : c.len.result ≡ length inside.entries.items =
    omega (arith, c.len.ensures, c.reserve.new.self.ok.0, ap length c.reserve.ensures.items) in
    let puts : PutsPlace inside.places entry.node.name (length inside.entries.items) c.put.new.self =
    subst (λ name. PutsPlace inside.places name (length inside.entries.items) c.put.new.self) c.name.ensures
    (subst (λ n. PutsPlace inside.places c.name.result.now n c.put.new.self) counted c.in_ok-put.ensures.ok) in
    subst (λ views. IsIndexed c.put.new.self c.push_account.new.accounts.items (all_declared views)) (sym pushed)
    (one_more inside.places c.put.new.self inside.wallet_accounts.items c.push_account.new.accounts.items
    inside.entries.items entry puts
    (subst (λ views. position (is_named_view Roles.Any entry.node.name) views ≡ None) (sym c.self.view_is) c.requires)
    (c.push_account.ensures
    ∙ ap (λ accounts. accounts ++ wallet_accounts (declared_as entry.node ∷ [])) c.reserve-2.ensures.items)
    c.self.invariant)
