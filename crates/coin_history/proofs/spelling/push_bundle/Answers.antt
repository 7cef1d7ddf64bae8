use Rattle.coin_history.proofs.Words.{◌++◌, length, flat_map, IfOk-equal, length_text, item_text, bundle_text}
use Rattle.coin_history.proofs.BundleItems.{front_kept, header_put, bundle_put}
use Rattle.coin_history.proofs.spelling.push_bundle.Goals as goal

pub returns-clause-ok : goal.returns-clause-ok
returns-clause-ok c =
    let out = c.args.out.now.items in
    let bundle = c.args.bundle.now in
    let openings = c.as_slice-openings.result.now in
    let header = header_put _ _ _ _ _ _ _ c.in_ok-put_u64.ensures.ok c.in_ok-put_u64-2.ensures.ok
    c.in_ok-put_u32.ensures.ok in
    IfOk-equal c.push_items.result c.push_items.new.out.items (c.put_u32.new.out.items ++ flat_map item_text openings)
    (out ++ bundle_text bundle) c.push_items.ensures.ok
    (bundle_put out c.put_u32.new.out.items bundle openings c.as_slice-openings.ensures header)

pub returns-clause-front : goal.returns-clause-front
returns-clause-front c =
    let out = c.args.out.now.items in
    let bundle = c.args.bundle.now in
    let count = length_text (length c.as_slice-openings.result.now) in
    front_kept _ _ _ _
    (header_put _ _ _ _ _ _ _ c.in_ok-put_u64.ensures.ok c.in_ok-put_u64-2.ensures.ok c.in_ok-put_u32.ensures.ok)
    c.push_items.ensures.front
