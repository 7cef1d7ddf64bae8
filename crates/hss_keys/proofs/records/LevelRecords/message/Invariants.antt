use Rattle.hss_keys.proofs.Words.{◌≡◌, drop, slice_get, entries_of, messages_under}
use Rattle.hss_keys.proofs.records.LevelRecords.message.Given as goal

abbrev pub invariant-loop-body : goal.invariant-loop-body
invariant-loop-body l =
    slice_get (messages_under l.top_leaf (entries_of (drop l.body-index l.body-items))) l.before
    ≡ slice_get (messages_under l.top_leaf (entries_of l.body-items)) l.fn.leaf
