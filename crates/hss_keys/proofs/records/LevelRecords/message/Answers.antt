use Rattle.hss_keys.proofs.Words.{◌≡◌, ◌<◌, ◌≤◌, ◌-◌, ◌∙◌, ℕ, suc, List, [], Some, refl, sym, ap, arith, length, get_or, slice_get, get_or_default, leaf_count, entries_of, messages_under, opened_count, LevelRecordsState}
use Rattle.hss_keys.proofs.Counts.{message-here, message-later, message-none, message-other, message-within}
use Rattle.hss_keys.proofs.Form.{are_counted}
use Rattle.hss_keys.proofs.records.LevelRecords.message.Goals as goal

pub loop-body-init : goal.loop-body-init
loop-body-init c = refl

pub loop-body-preserved-in-None : goal.loop-body-preserved-in-None
loop-body-preserved-in-None c =
    let items = c.deref-body-items.result.now in
    let index = c.loop-body.body-index in
    let within : index < length items = c.loop-body-test.true in
    let is_body : c.as_slice.result.now ≡ get_or items index [] = c.as_slice.ensures.value ∙ c.body-item.is
    ∙ get_or_default items index c.body-item.result [] within in
    message-other _ _ _ _ _ _ within is_body c.in-None.ensures c.loop-body.invariant

pub loop-body-preserved : goal.loop-body-preserved
loop-body-preserved c =
    let items = c.deref-body-items.result.now in
    let index = c.loop-body.body-index in
    let before = c.loop-body.before in
    let within : index < length items = c.loop-body-test.true in
    let is_body : c.as_slice.result.now ≡ get_or items index [] = c.as_slice.ensures.value ∙ c.body-item.is
    ∙ get_or_default items index c.body-item.result [] within in
    let more : before ≡ suc (before - 1) = omega (arith, c.if-before-eq0.false) in
    message-later _ _ _ _ _ _ _ _ within is_body c.in-Some.ensures more c.loop-body.invariant

pub returns-then-before-eq0-clause-value : goal.returns-then-before-eq0-clause-value
returns-then-before-eq0-clause-value c =
    let items = c.deref-body-items.result.now in
    let index = c.loop-body.body-index in
    let within : index < length items = c.loop-body-test.true in
    let is_body : c.as_slice.result.now ≡ get_or items index [] = c.as_slice.ensures.value ∙ c.body-item.is
    ∙ get_or_default items index c.body-item.result [] within in
    message-here _ _ _ _ _ _ _ within is_body c.in-Some.ensures c.if-before-eq0.true c.loop-body.invariant
    ∙ ap (λ (l : List (List ℕ)). slice_get (messages_under c.args.top_leaf (entries_of l)) c.args.leaf)
    (c.deref-body-items.ensures.value ∙ ap (λ (s : LevelRecordsState). s.records) c.self.view_is)

pub returns-then-before-eq0-clause-top : goal.returns-then-before-eq0-clause-top
returns-then-before-eq0-clause-top c =
    let entries = entries_of c.args.self.now.records in
    let counted = are_counted c.self.inside.seed c.self.inside.records.items c.self.invariant.are in
    let here : Some c.in-Some.message ≡ slice_get (messages_under c.args.top_leaf
    (entries_of c.self.inside.records.items)) c.args.leaf = returns-then-before-eq0-clause-value c
    ∙ sym (ap (λ (s : LevelRecordsState). slice_get (messages_under c.args.top_leaf (entries_of s.records)) c.args.leaf)
    c.self.view_is) in
    let within = message-within c.self.inside.seed (entries_of c.self.inside.records.items) _ _ _ counted here in
    omega (arith, within.0, ap (λ (s : LevelRecordsState). opened_count (entries_of s.records)) c.self.view_is)

pub returns-then-before-eq0-clause-below : goal.returns-then-before-eq0-clause-below
returns-then-before-eq0-clause-below c =
    let counted = are_counted c.self.inside.seed c.self.inside.records.items c.self.invariant.are in
    let here : Some c.in-Some.message ≡ slice_get (messages_under c.args.top_leaf
    (entries_of c.self.inside.records.items)) c.args.leaf = returns-then-before-eq0-clause-value c
    ∙ sym (ap (λ (s : LevelRecordsState). slice_get (messages_under c.args.top_leaf (entries_of s.records)) c.args.leaf)
    c.self.view_is) in
    let within = message-within c.self.inside.seed (entries_of c.self.inside.records.items) _ _ _ counted here in
    omega (arith, within.1, ap (λ (s : LevelRecordsState). leaf_count s.seed.bottom) c.self.view_is)

pub returns-clause-value : goal.returns-clause-value
returns-clause-value c =
    let items = c.deref-body-items.result.now in
    let index = c.loop-body.body-index in
    let past : length items ≤ index = omega (arith, c.loop-body-test.false) in
    message-none c.args.top_leaf items index c.loop-body.before c.args.leaf past c.loop-body.invariant
    ∙ ap (λ (l : List (List ℕ)). slice_get (messages_under c.args.top_leaf (entries_of l)) c.args.leaf)
    (c.deref-body-items.ensures.value ∙ ap (λ (s : LevelRecordsState). s.records) c.self.view_is)
