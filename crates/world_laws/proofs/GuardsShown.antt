-- What a watcher's records keep is shown by a bundle that events say it guards: one of the same coin and tip, with the
-- same links.
use Rattle.world_laws.proofs.Basics.{◌≡◌, ◌⊎◌, ℕ, not, Bool, true, false, if◌then◌else◌, ◌^◌, ◌<◌, List, [], ◌∷◌, filter, Option, Some, Ok, Err, inl, inr, sym, ◌∙◌, subst, lit<, arith, Result, IfSome, list_any, false≢true, common_steps, has-kept}
use Rattle.world_laws.proofs.CoinWords.{Links, RootCall, Bundle, links_in, Has, has-cases, has-filter}
use Rattle.world_laws.proofs.NodeWords.{Effect, only, Accepted, chain_of, kept_of, links_handed, IsReadBack, Guarded, Released, who_is, is_of, with_guard, guards_of, guards_in, guard_effect, release_effect, AddsGuard, NodeOrder, with_record, on_guarded, on_released, watcher_does, Small, small-nil}
use Rattle.world_laws.proofs.WorldWords.{Event, Guards, Releases, is_bundle, Node, World, is_watcher_role, node_does, bundle_read, event_of, watcher_told, Deed, as_deed, Said, told, IsFitOrder, watcher-alone, has_order}
use Rattle.node_rules.specs.declared.refusal.WatcherRefusal.{WatcherRefusal}
use Rattle.node_rules.specs.declared.refusal.WatcherRefusal.TheVariants.{NoGuard}
use Rattle.node_rules.specs.Watcher.{note_text}
use Rattle.node_rules.specs.WatcherLaws.{AddsNote}
use Rattle.node_rules.proofs.WatcherRole.{commands_add_their_notes}
use Rattle.node_replies.specs.declared.order.WatcherOrder.{WatcherOrder}
use Rattle.world_rules.proofs.KeptWatcher.{KeptWatcher, GuardEnds, Refused, Known, New, guard_ends}
use Rattle.world_laws.proofs.Handed.{handed-history}

-- a bundle shows a kept coin: it is of the coin and the tip, and has the links
pub record IsShown (tag : List ℕ) (bundles : List Bundle) (kept : Bundle) : Type 0 where
  pub bundle : Bundle
  pub has : Has bundles bundle
  pub coin : bundle.coin ≡ kept.coin
  pub tip : bundle.tip ≡ kept.tip
  pub links : links_in (chain_of tag) bundle.coin bundle.openings ≡ links_in (chain_of tag) kept.coin kept.openings

-- each kept coin is shown
abbrev pub AreShown : List ℕ → List Bundle → List Bundle → Type 0
AreShown tag bundles guards = (kept : Bundle) → Has guards kept → IsShown tag bundles kept

-- ---- lists

has-guard : (kept : Bundle) (guards : List Bundle) (other : Bundle) → Has (with_guard kept guards) other
    → (kept ≡ other) ⊎ Has guards other
has-guard kept guards other h = grind (arith, common_steps, has-cases, has-filter)

-- one more bundle shows no less
pub shown-more : (tag : List ℕ) (bundle : Bundle) (bundles guards : List Bundle) → AreShown tag bundles guards
    → AreShown tag (bundle ∷ bundles) guards
shown-more tag bundle bundles guards shown kept has = grind (arith, common_steps)

-- what is let go of both
shown-released : (tag : List ℕ) (c e : ℕ) (bundles guards : List Bundle) → AreShown tag bundles guards
    → AreShown tag (filter (λ bundle. not (is_bundle c e bundle)) bundles)
    (filter (λ kept. not (is_of c e kept)) guards)
shown-released tag c e bundles guards shown kept has = grind (arith, common_steps, has-filter, has-kept)

-- ---- a watcher's commands

-- the bundle that was handed in shows what is kept of its links
pub handed-shown : (dig : List ℕ → List ℕ) (tag : List ℕ) (log : List RootCall) (bytes : List ℕ) (links : Links)
    (bundles : List Bundle) → links_handed dig tag log bytes ≡ Ok links → IsReadBack dig tag log links
    → IsShown tag (bundle_read bytes ∷ bundles) (kept_of links)
handed-shown dig tag log bytes links bundles handed back =
    let history = handed-history dig (chain_of tag) log bytes links handed in grind (arith, common_steps)

-- the release of a guard that is there, or isn't
abbrev releasing : ℕ → ℕ → Bool → Effect (Result (Unit {0}) WatcherRefusal)
releasing c e has =
    if has then record { answer = Ok tt; note = Some (note_text (Released c e)) } else only (Err NoGuard)

module _ (dig : List ℕ → List ℕ) (tag : List ℕ) (s : Said) (log : List RootCall) (records : List (List ℕ))
    (kept : KeptWatcher dig s records) (tag_is : (who_is records).tag ≡ tag)
    (shown : AreShown tag s.guarded (guards_in dig records)) where
  abbrev IsAfter : Event → Option (List ℕ) → Type 0
  IsAfter event note = AreShown tag (told event s).guarded (guards_in dig (with_record records note))

  guard-new : (n : ℕ) (bytes body : List ℕ) (links : Links)
      → links_handed dig (who_is records).tag log bytes ≡ Ok links
      → IsReadBack dig (who_is records).tag log links → AddsNote dig records (Guarded (kept_of links)) body
      → IsAfter (Guards n (bundle_read bytes)) (Some body)
  unfolding guards_of
  guard-new n bytes body links handed back adds =
      subst (λ notes. AreShown tag (bundle_read bytes ∷ s.guarded) (guards_of notes)) (sym adds.1) each
    where
      each : AreShown tag (bundle_read bytes ∷ s.guarded) (with_guard (kept_of links) (guards_in dig records))
      each other has = elim (has-guard (kept_of links) (guards_in dig records) other has) [
        | inl same ↦
            subst (IsShown tag (bundle_read bytes ∷ s.guarded)) same
            (subst (λ t. IsShown t (bundle_read bytes ∷ s.guarded) (kept_of links)) tag_is
            (handed-shown dig (who_is records).tag log bytes links s.guarded handed back))
        | inr old ↦ shown-more tag (bundle_read bytes) s.guarded (guards_in dig records) shown other old
      ]

  abbrev IsGuarded : ℕ → List ℕ → Effect (Result Accepted WatcherRefusal) → Type 0
  IsGuarded n bytes effect = IsAfter (watcher_told n (WatcherOrder.Guard bytes) on_guarded effect.answer) effect.note

  pub guard-shown : (n : ℕ) (bytes : List ℕ) → Small bytes → IsGuarded n bytes (guard_effect dig records log bytes)
  unfolding event_of
  guard-shown n bytes small = by (guard_ends dig records log bytes)
    where
      by : GuardEnds dig records log bytes (guard_effect dig records log bytes)
          → IsGuarded n bytes (guard_effect dig records log bytes)
      by (Refused why is) = subst (IsGuarded n bytes) (sym is) shown
      by (Known links handed known is) =
          subst (IsGuarded n bytes) (sym is)
          (shown-more tag (bundle_read bytes) s.guarded (guards_in dig records) shown)
      by (New links handed is) =
          let text = note_text (Guarded (kept_of links)) in
          let adds : AddsGuard dig records log bytes text =
          subst (λ e. IfSome e.note (AddsGuard dig records log bytes)) is
          (commands_add_their_notes dig records log bytes 0 0 kept.is small.are (lit< tt) (lit< tt)).0 in
          subst (IsGuarded n bytes) (sym is) (guard-new n bytes text adds.0 adds.1 adds.2 adds.3)

  release-new : (n c e : ℕ) (body : List ℕ) → AddsNote dig records (Released c e) body
      → IsAfter (Releases n c e) (Some body)
  unfolding guards_of
  release-new n c e body adds =
      subst (λ notes. AreShown tag (filter (λ bundle. not (is_bundle c e bundle)) s.guarded) (guards_of notes))
      (sym adds.1) (shown-released tag c e s.guarded (guards_in dig records) shown)

  abbrev IsReleased : ℕ → ℕ → ℕ → Effect (Result (Unit {0}) WatcherRefusal) → Type 0
  IsReleased n c e effect = IsAfter (watcher_told n (WatcherOrder.Release c e) on_released effect.answer) effect.note

  pub release-shown : (n c e : ℕ) → c < 2 ^ 64 → e < 2 ^ 64 → IsReleased n c e (release_effect dig records c e)
  unfolding release_effect event_of
  release-shown n c e coin_fits tip_fits =
      by (list_any (is_of c e) (guards_in dig records))
      (commands_add_their_notes dig records log [] c e kept.is small-nil.are coin_fits tip_fits).1
    where
      by : (has : Bool) → IfSome (releasing c e has).note (AddsNote dig records (Released c e))
          → IsReleased n c e (releasing c e has)
      by true adds = release-new n c e (note_text (Released c e)) adds
      by false adds = shown

-- what a watcher's command leaves
module _ (dig : List ℕ → List ℕ) (world : World) (n : ℕ) (node : Node) (s : Said)
    (role : is_watcher_role node.role ≡ true) (kept : KeptWatcher dig s node.notes)
    (tag_is : (who_is node.notes).tag ≡ world.chain.tag)
    (shown : AreShown world.chain.tag s.guarded (guards_in dig node.notes)) where
  abbrev ShownAfter : Deed → Type 0
  ShownAfter deed =
      AreShown world.chain.tag (told deed.gives.event s).guarded (guards_in dig (with_record node.notes deed.note))

  pub order-shown : (order : NodeOrder) → has_order order node.role ≡ true → IsFitOrder order
      → ShownAfter (as_deed n order (node_does dig world.chain.log node order))
  unfolding watcher_does event_of
  order-shown (NodeOrder.Watcher (WatcherOrder.Guard bytes)) at fit =
      guard-shown dig world.chain.tag s world.chain.log node.notes kept tag_is shown n bytes fit
  order-shown (NodeOrder.Watcher (WatcherOrder.Release coin tip)) at fit =
      release-shown dig world.chain.tag s world.chain.log node.notes kept tag_is shown n coin tip fit.0 fit.1
  order-shown (NodeOrder.Watcher WatcherOrder.Watch) at fit = shown
  order-shown (NodeOrder.Wallet order) at fit = absurd (false≢true (sym (watcher-alone node.role role).0 ∙ at))
  order-shown (NodeOrder.Operator order) at fit = absurd (false≢true (sym (watcher-alone node.role role).1 ∙ at))
  order-shown NodeOrder.Open at fit = shown
