use Rattle.hss_keys.proofs.Words.{rules, ◌≡◌, true, ◌∙◌, ℕ, List, [], ◌∷◌, ◌++◌, Ok, ap, sym, subst, arith, Opens, entries_of, keys_of, opened_count, used_in, entry_may_follow, level_records, may_follow, LevelRecordsState}
use Rattle.hss_keys.proofs.Counts.{entries-more, follows_from, keys-opened, used-none}
use Rattle.hss_keys.proofs.Form.{are_counted, one_more}
use Rattle.hss_keys.proofs.records.LevelRecords.push_key.Goals as goal

pub invariant_of-self : goal.invariant_of-self
invariant_of-self c =
    let inside = c.self.inside in
    let seed = inside.seed in
    let records = inside.records.items in
    let entries = entries_of records in
    let key = c.args.key.now in
    let j = c.args.top_leaf in
    let follows : entry_may_follow seed entries (Opens j key) ≡ true =
    subst (λ (s : LevelRecordsState). entry_may_follow s.seed (entries_of s.records) (Opens j key) ≡ true)
    (sym c.self.view_is) c.requires.follows in
    let may : may_follow seed records c.args.body ≡ true =
    follows_from seed records c.args.body (Opens j key) c.requires.reads ∙ follows in
    let more = entries-more records c.args.body (Opens j key) c.requires.reads in
    let counted = are_counted seed records c.self.invariant.are in
    let keys : c.push.new.self.items ≡ inside.keys.items ++ key ∷ [] = search
    (rules, c.unwrap.ensures, c.push.ensures.items) in
    let pushed : c.push-2.new.self.items ≡ records ++ c.args.body ∷ [] = search
    (rules, c.unwrap-2.ensures, c.push-2.ensures.items) in
    record {
      top = c.self.invariant.top;
      bottom = c.self.invariant.bottom;
      id = c.self.invariant.id;
      are = subst (λ (l : List (List ℕ)). level_records seed l ≡ Ok l) (sym pushed)
          (one_more seed records c.args.body c.self.invariant.are may);
      keys_are = keys ∙ (λ i. c.self.invariant.keys_are i ++ key ∷ []) ∙ sym (keys-opened entries j key)
          ∙ sym (ap keys_of more) ∙ sym (ap (λ (l : List (List ℕ)). keys_of (entries_of l)) pushed);
      used_is = sym (ap (λ (l : List (List ℕ)). used_in (entries_of l)) pushed ∙ ap used_in more
          ∙ used-none entries j key (counted.later (opened_count entries) (omega arith)));
      keys_room = omega (arith, c.self.invariant.keys_room, c.push.ensures.capacity);
    }
