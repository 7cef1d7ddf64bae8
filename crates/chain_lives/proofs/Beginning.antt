-- What events say of a node that was just begun is what its records are: its identity alone.
use Rattle.std.proofs.Common.{◌≡◌, ℕ, Bool, true, false, if◌then◌else◌, List, [], ◌∷◌, ◌++◌, Option, Some, None, refl, sym, ap, ◌∙◌, subst}
use Rattle.std.proofs.lemmas.Bool.{eq-eqb, false≢true}
use Rattle.std.proofs.lemmas.List.Elements.{All-nil}
use Rattle.plasma_tx.specs.declared.call.RootCall.{RootCall}
use Rattle.coin_history.specs.declared.bundle.Bundle.{Bundle}
use Rattle.plasma_tx.specs.Spelling.{number_text}
use Rattle.watch_duty.proofs.Members.{Has}
use Rattle.node_rules.specs.declared.identity.WalletIdentity.{WalletIdentity}
use Rattle.node_rules.specs.WalletRecords.{is_first, short_text, common_text, identity_text, identity_in, notes_of, accepted_of, owner_of}
use Rattle.node_rules.specs.Wallet.{WalletRecords, who}
use Rattle.node_rules.specs.WalletCommandLaws.{HaveOpenings}
use Rattle.node_rules.proofs.WalletTexts.{identity_in-spelled}
use Rattle.node_rules.specs.Watcher.{WatcherIdentity, who_is as watcher_is, identity_in as watcher_in, identity_text as watcher_text, notes_of as watcher_notes, guards_of, guards_in}
use Rattle.node_rules.proofs.WatcherTexts.{identity_in-spelled as watcher_in-spelled}
use Rattle.node_replies.specs.Roles.{Role, Wallet, Watcher, Operator}
use Rattle.node_replies.proofs.ByteTexts.{Small, small-front, small-back}
use Rattle.node_lives.specs.Standing.{identity_alone, IsIdentityOf}
use Rattle.world_rules.specs.Events.{Event, Declares, log_of}
use Rattle.world_rules.proofs.Said.{Said, said, nothing_said, told, said-own}
use Rattle.world_rules.proofs.KeptWallet.{KeptWallet}
use Rattle.world_rules.proofs.KeptWatcher.{KeptWatcher}
use Rattle.world_rules.proofs.NewNodes.{new-wallet-kept, new-watcher-kept}
use Rattle.world_laws.specs.Legal.{left_by, is_left}
use Rattle.world_laws.proofs.AcceptsShown.{accepted_in}
use Rattle.world_laws.proofs.LeftRuns.{left-plain}
use Rattle.chain_lives.specs.Steps.{act_events}
use Rattle.chain_lives.specs.Acts.{begun_by}
use Rattle.chain_lives.proofs.WalletDeeds.{TellsWallet}
use Rattle.chain_lives.proofs.WatcherDeeds.{TellsWatcher}

-- What events say of a node of this role, whose chain has this tag, is what its records are. Of an operator they say
-- nothing.
abbrev pub Tells : (List ℕ → List ℕ) → Role → List ℕ → ℕ → List Event → WalletRecords → Type 0
Tells dig Wallet tag n events records = TellsWallet dig tag n events records
Tells dig Watcher tag n events records = TellsWatcher dig tag n events records
Tells dig Operator tag n events records = Unit {0}

-- ---- the bytes of an identity

common-parts : (me : WalletIdentity) → Small (common_text me) → Small me.tag × Small me.seed
common-parts me small = (
  small-front me.tag (number_text me.account) (small-front (me.tag ++ number_text me.account) me.seed small),
  small-back (me.tag ++ number_text me.account) me.seed small,
)

identity-parts : (me : WalletIdentity) → Small (identity_text me) → Small me.tag × Small me.seed
unfolding identity_text
identity-parts me = by (is_first me.types)
  where
    by : (b : Bool)
        → Small (if b then 1 ∷ common_text me
        else 4 ∷ short_text me.types.lms ++ short_text me.types.ots ++ common_text me)
        → Small me.tag × Small me.seed
    by true small = common-parts me (small-back (1 ∷ []) (common_text me) small)
    by false small =
        common-parts me
        (small-back (4 ∷ short_text me.types.lms ++ short_text me.types.ots) (common_text me) small)

-- ---- what was begun

-- the records are what events say
pub record HasBegun (dig : List ℕ → List ℕ) (role : Role) (n : ℕ) (events : List Event) (records : WalletRecords)
    : Type 0 where
  pub tag : List ℕ
  pub tells : Tells dig role tag n events records

module _ (dig : List ℕ → List ℕ) (n : ℕ) (start : List Event) (silent : said start n ≡ nothing_said)
    (none : left_by start n ≡ []) where
  no-accepts : (body : List ℕ) (kept : Bundle) → Has (accepted_in dig (body ∷ [])) kept → ⊥
  unfolding notes_of accepted_of
  no-accepts body kept h = h

  no-openings : (body : List ℕ) → HaveOpenings dig (identity_alone body)
  unfolding notes_of accepted_of
  no-openings body = All-nil (λ (kept : Bundle). kept.openings ≡ [] → ⊥)

  no-guards : (body : List ℕ) (kept : Bundle) → Has (guards_in dig (body ∷ [])) kept → ⊥
  unfolding watcher_notes guards_of
  no-guards body kept h = h

  wallet-begun : (identity : List ℕ) (me : WalletIdentity) → IsIdentityOf dig Wallet identity
      → identity_in identity ≡ Some me
      → HasBegun dig Wallet n (Declares n (owner_of me) ∷ start) (identity_alone identity)
  unfolding log_of
  wallet-begun identity me is found =
      let spelled = identity_in-spelled identity me is.bytes found in
      let parts = identity-parts me (subst Small spelled.0 (record { are = is.bytes })) in
      let event : Event = Declares n (owner_of me) in
      let now : said (event ∷ start) n ≡ told event nothing_said =
      said-own event start n (eq-eqb n n refl) ∙ ap (told event) silent in
      let kept : KeptWallet dig (told event nothing_said) (log_of start) (identity_alone identity) =
      subst (λ (bytes : List ℕ). KeptWallet dig (told event nothing_said) (log_of start) (identity_alone bytes))
      (sym spelled.0) (new-wallet-kept dig me spelled.1 (log_of start) n parts.0 parts.1) in
      record {
        tag = (who (identity_alone identity)).tag;
        tells = record {
          kept =
              subst (λ (s : Said). KeptWallet dig s (log_of start) (identity_alone identity)) (sym now) kept;
          tag_is = refl;
          shown = λ one has. absurd (no-accepts identity one has);
          openings = no-openings identity;
          left = λ c e is_there.
              absurd (false≢true
              (sym (ap (λ (calls : List RootCall). is_left calls c e) (left-plain event start n refl ∙ none))
              ∙ is_there));
        };
      }

  watcher-begun : (identity : List ℕ) (me : WatcherIdentity) → IsIdentityOf dig Watcher identity
      → watcher_in identity ≡ Some me → HasBegun dig Watcher n start (identity_alone identity)
  watcher-begun identity me is found =
      let spelled = watcher_in-spelled identity me is.bytes found in
      record {
        tag = (watcher_is (identity ∷ [])).tag;
        tells = record {
          kept =
              subst (λ (s : Said). KeptWatcher dig s (identity ∷ [])) (sym silent)
              (subst (λ (bytes : List ℕ). KeptWatcher dig nothing_said (bytes ∷ [])) (sym spelled.0)
              (new-watcher-kept dig me spelled.1));
          tag_is = refl;
          shown = λ one has. absurd (no-guards identity one has);
          owner = ap (λ (s : Said). s.owner) silent;
        };
      }

  -- a watcher's identity is no wallet's
  no-wallet : (me : WatcherIdentity) → identity_in (watcher_text me) ≡ None
  unfolding identity_in watcher_text
  no-wallet me = refl

  pub has-begun : (role : Role) (identity : List ℕ) → IsIdentityOf dig role identity
      → (now : Option WalletRecords)
      → HasBegun dig role n (act_events n now (begun_by (identity_in identity)) start) (identity_alone identity)
  has-begun Wallet identity is now = by (identity_in identity) refl
    where
      by : (found : Option WalletIdentity) → identity_in identity ≡ found
          → HasBegun dig Wallet n (act_events n now (begun_by found) start) (identity_alone identity)
      by None found = absurd (let some = is.is in cc (some, found))
      by (Some me) found = wallet-begun identity me is found
  has-begun Watcher identity is now = by (watcher_in identity) refl
    where
      by : (found : Option WatcherIdentity) → watcher_in identity ≡ found
          → HasBegun dig Watcher n (act_events n now (begun_by (identity_in identity)) start) (identity_alone identity)
      by None found = absurd (let some = is.is in cc (some, found))
      by (Some me) found =
          let spelled = watcher_in-spelled identity me is.bytes found in
          subst
          (λ (o : Option WalletIdentity). HasBegun dig Watcher n (act_events n now (begun_by o) start)
          (identity_alone identity)) (sym (ap identity_in spelled.0 ∙ no-wallet me))
          (watcher-begun identity me is found)
  has-begun Operator identity is now = record { tag = []; tells = tt }
