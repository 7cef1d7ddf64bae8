use Rattle.hss_keys.proofs.Words.{rules, ◌≡◌, true, ◌∙◌, ◌+◌, ℕ, List, [], ◌∷◌, ◌++◌, Ok, ap, sym, subst, arith, leaf_count-le, Binds, entries_of, keys_of, used_in, entry_may_follow, level_records, may_follow, LevelRecordsState}
use Rattle.hss_keys.proofs.Counts.{entries-more, follows_from, keys-bound, next_leaf, used-more}
use Rattle.hss_keys.proofs.Form.{one_more}
use Rattle.hss_keys.proofs.records.LevelRecords.push_message.Goals as goal

pub overflow_add-self : goal.overflow_add-self
overflow_add-self c =
    let inside = c.self.inside in
    let follows : entry_may_follow inside.seed (entries_of inside.records.items)
    (Binds c.args.top_leaf c.args.leaf c.args.message.now) ≡ true =
    subst (λ (s : LevelRecordsState). entry_may_follow s.seed (entries_of s.records)
    (Binds c.args.top_leaf c.args.leaf c.args.message.now) ≡ true) (sym c.self.view_is) c.requires.follows in
    let next = next_leaf inside.seed (entries_of inside.records.items) c.args.top_leaf c.args.leaf c.args.message.now
    follows in
    omega (arith, c.self.invariant.used_is, next.next, next.leaf, leaf_count-le inside.seed.bottom)

pub invariant_of-self : goal.invariant_of-self
invariant_of-self c =
    let inside = c.self.inside in
    let seed = inside.seed in
    let records = inside.records.items in
    let entries = entries_of records in
    let j = c.args.top_leaf in
    let q = c.args.leaf in
    let message = c.args.message.now in
    let follows : entry_may_follow seed entries (Binds j q message) ≡ true =
    subst (λ (s : LevelRecordsState). entry_may_follow s.seed (entries_of s.records) (Binds j q message) ≡ true)
    (sym c.self.view_is) c.requires.follows in
    let may : may_follow seed records c.args.body ≡ true =
    follows_from seed records c.args.body (Binds j q message) c.requires.reads ∙ follows in
    let more = entries-more records c.args.body (Binds j q message) c.requires.reads in
    let next = next_leaf seed entries j q message follows in
    let pushed : c.push.new.self.items ≡ records ++ c.args.body ∷ [] = search
    (rules, c.unwrap.ensures, c.push.ensures.items) in
    record {
      top = c.self.invariant.top;
      bottom = c.self.invariant.bottom;
      id = c.self.invariant.id;
      are = subst (λ (l : List (List ℕ)). level_records seed l ≡ Ok l) (sym pushed)
          (one_more seed records c.args.body c.self.invariant.are may);
      keys_are = c.self.invariant.keys_are ∙ sym (keys-bound entries j q message) ∙ sym (ap keys_of more)
          ∙ sym (ap (λ (l : List (List ℕ)). keys_of (entries_of l)) pushed);
      used_is = ap (λ n. n + 1) c.self.invariant.used_is ∙ sym (used-more entries j q message next.last)
          ∙ sym (ap used_in more) ∙ sym (ap (λ (l : List (List ℕ)). used_in (entries_of l)) pushed);
      keys_room = c.self.invariant.keys_room;
    }
