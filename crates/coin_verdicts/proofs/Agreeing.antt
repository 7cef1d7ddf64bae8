-- What a standing says of what the wallet has is what the events say.
use Rattle.std.proofs.Common.{◌≡◌, ℕ, ◌+◌, ◌-◌, ◌==◌, ◌&&◌, ◌||◌, not, Bool, true, false, if◌then◌else◌, List, [], ◌∷◌, ◌++◌, length, Option, Some, None, refl, sym, ◌∙◌, arith}
use Rattle.std.specs.Prelude.{option_map}
use Rattle.std.specs.List.{list_any}
use Rattle.std.proofs.lemmas.Grind.{common_steps}
use Rattle.plasma_tx.specs.declared.owner.Owner.{Owner}
use Rattle.plasma_tx.specs.declared.body.Body.{Body}
use Rattle.plasma_tx.specs.declared.views.CoinView.{CoinView}
use Rattle.coin_history.specs.declared.bundle.Bundle.{Bundle}
use Rattle.world_rules.specs.Events.{leaf_at, is_taken, not_taken, is_bundle}
use Rattle.world_rules.specs.Safety.{was_deposited}
use Rattle.coin_verdicts.specs.declared.note.Note.{Note}
use Rattle.coin_verdicts.specs.declared.note.Change.{Change}
use Rattle.coin_verdicts.specs.declared.note.Holder.{Holder}
use Rattle.coin_verdicts.specs.declared.note.Standing.{Standing}
use Rattle.coin_verdicts.specs.Notes.{where_so, returned, noted}
use Rattle.coin_verdicts.specs.Standings.{with_note, standing_in}
use Rattle.coin_verdicts.proofs.Lists.{or-false, or-comm}
use Rattle.coin_verdicts.proofs.Views.{leaf_of}
use Rattle.coin_verdicts.proofs.SentLeaves.{is_body, one_if, count_of, gone, taken-count}
use Rattle.coin_verdicts.proofs.OneLine.{in_line, after-where}

-- the standing says these of the deposit, the accepted tips, the leaves and the payment
pub record Agrees (deposited accepted : Bool) (sent : ℕ) (withdrawn : Bool) (s : Standing) : Type 0 where
  pub deposited_is : s.deposited ≡ deposited
  pub accepted_is : s.accepted ≡ accepted
  pub sent_is : s.sent ≡ sent
  pub withdrawn_is : s.withdrawn ≡ withdrawn

module _ (holder : Holder) (e line : ℕ) (notes : List Note) (dep acc : Bool) (sent : ℕ) (out : Bool)
    (same : Agrees dep acc sent out (standing_in holder e notes)) where
  -- the standing after one more note
  abbrev next : Change → Standing
  next change = with_note holder e (standing_in holder e notes) (in_line line change)

  deposits-at : (b : Bool) (block amount : ℕ) (owner : Owner) (made : Option CoinView)
      → was_deposited holder.owner e made ≡ dep
      → Agrees (was_deposited holder.owner e
      (if b then Some (record { deposit = block; amount = amount; owner = owner }) else made)) acc sent out
      (if b then next (Change.Deposits block owner) else standing_in holder e notes)
  deposits-at true block amount owner made was = grind (arith, common_steps) steps 20000
  deposits-at false block amount owner made was = grind (arith, common_steps) steps 20000

  pub after-deposits : (b : Bool) (block amount : ℕ) (owner : Owner) (made : Option CoinView)
      → was_deposited holder.owner e made ≡ dep
      → Agrees (was_deposited holder.owner e
      (if b then Some (record { deposit = block; amount = amount; owner = owner }) else made)) acc sent out
      (standing_in holder e (noted line (where_so b (Change.Deposits block owner)) ++ notes))
  after-deposits b block amount owner made was =
      rw (after-where holder e line b (Change.Deposits block owner) notes) (deposits-at b block amount owner made was)

  accepts-at : (b d : Bool) (v c : ℕ) (bundle : Bundle) (bundles : List Bundle) → (bundle.coin == c) ≡ b
      → (v == holder.wallet) ≡ d → list_any (is_bundle c e) bundles ≡ acc
      → Agrees dep (list_any (is_bundle c e) (if d then bundle ∷ bundles else bundles)) sent out
      (if b then next (Change.Accepts v bundle.tip) else standing_in holder e notes)
  accepts-at true true v c bundle bundles coin own was = grind (arith, common_steps, or-comm) steps 20000
  accepts-at true false v c bundle bundles coin own was = grind (arith, common_steps, or-false) steps 20000
  accepts-at false true v c bundle bundles coin own was = grind (arith, common_steps) steps 20000
  accepts-at false false v c bundle bundles coin own was = grind (arith, common_steps) steps 20000

  pub after-accepts : (v c : ℕ) (bundle : Bundle) (bundles : List Bundle) → list_any (is_bundle c e) bundles ≡ acc
      → Agrees dep (list_any (is_bundle c e) (if v == holder.wallet then bundle ∷ bundles else bundles)) sent out
      (standing_in holder e (noted line (where_so (bundle.coin == c) (Change.Accepts v bundle.tip)) ++ notes))
  after-accepts v c bundle bundles was = grind (arith, common_steps, after-where, accepts-at) steps 20000

  -- a leaf is bound or taken back: nothing else changes
  of-sent : (change : Change) (b : Bool) (count : ℕ)
      → ((if b then next change else standing_in holder e notes).deposited ≡ (standing_in holder e notes).deposited)
      → ((if b then next change else standing_in holder e notes).accepted ≡ (standing_in holder e notes).accepted)
      → ((if b then next change else standing_in holder e notes).withdrawn ≡ (standing_in holder e notes).withdrawn)
      → (if b then next change else standing_in holder e notes).sent ≡ count
      → Agrees dep acc count out (if b then next change else standing_in holder e notes)
  of-sent change b count d a w s = grind (arith, common_steps) steps 20000

  sends-so : (b : Bool) (v p count : ℕ)
      → (if b then (if (v == holder.wallet) && (p == e) then sent + 1 else sent) else sent) ≡ count
      → Agrees dep acc count out (if b then next (Change.Sends v p) else standing_in holder e notes)
  sends-so true v p count is = grind (arith, common_steps, of-sent) steps 20000
  sends-so false v p count is = of-sent (Change.Sends v p) false count refl refl refl (same.sent_is ∙ is)

  returns-so : (b : Bool) (v p count : ℕ)
      → (if b then (if (v == holder.wallet) && (p == e) then sent - 1 else sent) else sent) ≡ count
      → Agrees dep acc count out (if b then next (Change.Returns v p) else standing_in holder e notes)
  returns-so true v p count is = grind (arith, common_steps, of-sent) steps 20000
  returns-so false v p count is = of-sent (Change.Returns v p) false count refl refl refl (same.sent_is ∙ is)

  -- how the count of leaves that sign the coin away changes, by the tests of a body that is bound
  bound-count : (k t d p : Bool) (n : ℕ)
      → (if k && not t then (if d && p then n + 1 else n) else n)
      ≡ (if d then (if t then 0 else one_if (k && p)) + n else n)
  bound-count k t d p n = grind (arith, common_steps) steps 20000

  not_taken-count : (c : ℕ) (taken : List ℕ) (body : Body) (bodies : List Body) (d t : Bool)
      → (d ≡ true → is_taken taken (length bodies) ≡ t) → count_of (is_body c e) (not_taken taken bodies) ≡ sent
      → count_of (is_body c e) (not_taken taken (if d then body ∷ bodies else bodies))
      ≡ (if d then (if t then 0 else one_if (is_body c e body)) + sent else sent)
  unfolding not_taken
  not_taken-count c taken body bodies d t is was = grind (arith, common_steps, count_of, is_body, one_if) steps 20000

  pub after-binds : (v c : ℕ) (t : Bool) (taken : List ℕ) (body : Body) (bodies : List Body)
      → ((v == holder.wallet) ≡ true → is_taken taken (length bodies) ≡ t)
      → count_of (is_body c e) (not_taken taken bodies) ≡ sent
      → Agrees dep acc
      (count_of (is_body c e) (not_taken taken (if v == holder.wallet then body ∷ bodies else bodies))) out
      (standing_in holder e (noted line (where_so ((body.coin == c) && not t) (Change.Sends v body.parent)) ++ notes))
  after-binds v c t taken body bodies is was =
      grind (arith, common_steps, after-where, sends-so, bound-count, not_taken-count) steps 20000

  -- and of one that is taken back
  returned-count : (k d p : Bool) (n m : ℕ) → (d ≡ true → n ≡ m + one_if (k && p)) → (d ≡ false → n ≡ m)
      → (if k then (if d && p then n - 1 else n) else n) ≡ m
  returned-count k d p n m own other = grind (arith, common_steps) steps 20000

  stays-so : (count : ℕ) → sent ≡ count → Agrees dep acc count out (standing_in holder e notes)
  stays-so count is = grind (arith, common_steps) steps 20000

  returns-at : (v c count : ℕ) (t : Bool) (found : Option Body)
      → ((v == holder.wallet) ≡ true → sent ≡ count + gone (is_body c e) t found)
      → ((v == holder.wallet) ≡ false → sent ≡ count)
      → Agrees dep acc count out
      (standing_in holder e (noted line (if t then [] else returned c v (option_map leaf_of found)) ++ notes))
  returns-at v c count true found own other = grind (arith, common_steps, stays-so) steps 20000
  returns-at v c count false None own other = grind (arith, common_steps, stays-so) steps 20000
  returns-at v c count false (Some body) own other =
      grind (arith, common_steps, after-where, returns-so, returned-count) steps 20000

  pub after-returns : (v c q : ℕ) (t : Bool) (taken : List ℕ) (bodies : List Body) (found : Option Body)
      → ((v == holder.wallet) ≡ true → is_taken taken q ≡ t) → ((v == holder.wallet) ≡ true → leaf_at q bodies ≡ found)
      → count_of (is_body c e) (not_taken taken bodies) ≡ sent
      → Agrees dep acc
      (count_of (is_body c e) (not_taken (if v == holder.wallet then q ∷ taken else taken) bodies)) out
      (standing_in holder e (noted line (if t then [] else returned c v (option_map leaf_of found)) ++ notes))
  after-returns v c q t taken bodies found is at was =
      returns-at v c _ t found
      (grind (arith, common_steps, taken-count, is_body, count_of, gone) steps 20000)
      (λ apart. rw apart (sym was))

  ends-at : (b : Bool) (block account : ℕ) (paid : Bool)
      → Agrees dep acc sent ((b && paid) || out)
      (if b then next (Change.Ends block account paid) else standing_in holder e notes)
  ends-at true block account paid = grind (arith, common_steps, or-comm) steps 20000
  ends-at false block account paid = same

  pub after-ends : (b : Bool) (block account : ℕ) (paid : Bool)
      → Agrees dep acc sent ((b && paid) || out)
      (standing_in holder e (noted line (where_so b (Change.Ends block account paid)) ++ notes))
  after-ends b block account paid =
      rw (after-where holder e line b (Change.Ends block account paid) notes) (ends-at b block account paid)

  pub meets-at : (b : Bool) (nodes tips : List ℕ)
      → Agrees dep acc sent out (if b then next (Change.Meets nodes tips) else standing_in holder e notes)
  meets-at b nodes tips = grind (arith, common_steps) steps 20000
