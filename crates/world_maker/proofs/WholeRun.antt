-- Every line that is made has a step in the run of the lines before it.
use Rattle.std.proofs.Common.{◌≡◌, ℕ, zero, suc, ◌/◌, ◌%◌, ◌<◌, ◌==◌, ◌&&◌, not, Bool, true, false, List, [], ◌∷◌, ◌++◌, length, reverse, slice_index_or, codes, Option, Some, None, is_some, refl, sym, ap, ◌∙◌, subst, append_assoc, arith}
use Rattle.std.specs.Prelude.{option_map, find, filter}
use Rattle.std.specs.List.{AllByRecursion, position, list_any}
use Rattle.std.specs.Option.{option_or}
use Rattle.std.proofs.lemmas.Bool.{and_from, true≢false}
use Rattle.std.proofs.lemmas.List.{reverse-append}
use Rattle.std.proofs.lemmas.Grind.{reverse_onto}
use Rattle.line_forms.specs.declared.tokens.OutcomeToken.{OutcomeToken}
use Rattle.schedule_text.specs.declared.line.Line.{Line}
use Rattle.schedule_text.specs.declared.call_form.CallForm.{CallForm}
use Rattle.schedule_text.specs.declared.command.Command.{Command}
use Rattle.schedule_text.specs.Grammar.{node_of}
use Rattle.world_rules.specs.World.{Role, Wallet, Watcher, Operator, World, is_named, is_wallet_role, does_watch, any_role, owner_of_node, owner_of_rogue, rogue_named, owner_named}
use Rattle.world_rules.specs.Declarations.{is_declared, is_wallet_account, plays, has_declared_names, keeps_rules, keeps_rules_in}
use Rattle.world_rules.specs.Steps.{step, run_of}
use Rattle.world_rules.proofs.Lines.{lines_that_keep_the_rules_step}
use Rattle.world_maker.specs.declared.round.Round.{Round}
use Rattle.world_maker.specs.Generator.{send, watch, wallets, first_lines, kind_of, lines_by_kind, round_lines, round_at, made_lines}
use Rattle.world_maker.proofs.MadeLines.{◌▹◌}
use Rattle.world_maker.proofs.People.{Person, people, is_called, position-same, found-same, accounts-same, is_played, people-stay}
use Rattle.world_maker.proofs.FirstRun.{Leads, leads-on, world_g, declarations, declared}

-- who takes part
abbrev cast : List Person
cast =
    record { name = codes "op"; account = 9; role = Operator }
    ∷ record { name = codes "a"; account = 11; role = Wallet }
    ∷ record { name = codes "b"; account = 12; role = Wallet }
    ∷ record { name = codes "c"; account = 13; role = Wallet }
    ∷ record { name = codes "g"; account = 14; role = Watcher }
    ∷ []

-- ---- names

-- one of those who take part has the name, and a role that passes
abbrev takes_part : (Role → Bool) → List ℕ → Bool
takes_part may name = is_some (position (is_called may name) cast)

some-owner : {A B : Type 0} (f : A → B) (one : Option A) (other : Option B) → is_some one ≡ true
    → is_some (option_or (option_map f one) other) ≡ true
some-owner f (Some x) other some = refl
some-owner f None other some = absurd (true≢false (sym some))

module _ (world : World) (is : people world.nodes ≡ cast) where
  named : (may : Role → Bool) (name : List ℕ) → takes_part may name ≡ true → is_declared may world name ≡ true
  named may name some =
      ap (λ (o : Option ℕ). is_some o) (position-same may name world.nodes)
      ∙ ap (λ (them : List Person). is_some (position (is_called may name) them)) is
      ∙ some

  owner : (name : List ℕ) → is_some (find (is_called is_wallet_role name) cast) ≡ true
      → is_some (owner_named world name) ≡ true
  owner name some =
      some-owner owner_of_node (find (is_named is_wallet_role name) world.nodes)
      (option_map owner_of_rogue (rogue_named world name))
      (found-same is_wallet_role name world.nodes
      ∙ ap (λ (them : List Person). is_some (find (is_called is_wallet_role name) them)) is
      ∙ some)

  stranger : is_wallet_account world 10 ≡ false
  stranger =
      accounts-same 10 world.nodes
      ∙ ap (λ (them : List Person). list_any (λ one. one.account == 10) (filter (λ one. is_wallet_role one.role) them))
      is

-- ---- lines

-- a line that keeps the rules wherever they take part, and changes none of them
record IsPlayed (line : Line) : Type 0 where
  keeps : (world : World) → people world.nodes ≡ cast → keeps_rules_in world line ≡ true
  played : is_played line ≡ true

-- a name of a wallet that takes part
record IsWallet (name : List ℕ) : Type 0 where
  wallet : takes_part is_wallet_role name ≡ true
  any : takes_part any_role name ≡ true
  owned : is_some (find (is_called is_wallet_role name) cast) ≡ true

wallet-named : (number : ℕ) → IsWallet (slice_index_or wallets (number % 3) [])
wallet-named number = by (number % 3) (omega arith)
  where
    by : (i : ℕ) → i < 3 → IsWallet (slice_index_or wallets i [])
    by zero lt = record { wallet = refl; any = refl; owned = refl }
    by (suc zero) lt = record { wallet = refl; any = refl; owned = refl }
    by (suc (suc zero)) lt = record { wallet = refl; any = refl; owned = refl }
    by (suc (suc (suc i))) lt = absurd (omega arith)

fund : (account amount : ℕ) → IsPlayed (Line.Fund account amount)
fund account amount = record { keeps = λ world is. refl; played = refl }

tick : (time : ℕ) → IsPlayed (Line.Tick time)
tick time = record { keeps = λ world is. refl; played = refl }

enter : (name : List ℕ) → takes_part any_role name ≡ true → IsPlayed (Line.Enter name 1)
enter name some = record { keeps = λ world is. named world is any_role name some; played = refl }

deposit : (name : List ℕ) (amount : ℕ) → IsWallet name → IsPlayed (Line.Deposit name amount)
deposit name amount wallet =
    record { keeps = λ world is. named world is is_wallet_role name wallet.wallet; played = refl }

crash : (name : List ℕ) → IsWallet name → IsPlayed (Line.Crash name OutcomeToken.Old)
crash name wallet = record { keeps = λ world is. named world is any_role name wallet.any; played = refl }

finish : (coin exit : ℕ) → IsPlayed (Line.Call 10 (CallForm.Finish coin exit))
finish coin exit = record {
  keeps = λ world is. ap (λ (b : Bool). not b && true) (stranger world is);
  played = refl;
}

-- a command that names its own node alone
command : (own : Command) → takes_part (plays own) (node_of own) ≡ true
    → ((world : World) → has_declared_names world own ≡ true) → IsPlayed (Line.Command own)
command own some names = record {
  keeps = λ world is.
      and_from (is_declared (plays own) world (node_of own)) (has_declared_names world own)
      (named world is (plays own) (node_of own) some) (names world);
  played = refl;
}

watches : (name : List ℕ) → takes_part does_watch name ≡ true → IsPlayed (watch name)
watches name some = command (Command.Watch name) some (λ world. refl)

pays : (name : List ℕ) (coin : ℕ) (payee : List ℕ) → IsWallet name → IsWallet payee
    → IsPlayed (send name coin payee)
pays name coin payee wallet paid = record {
  keeps = λ world is.
      and_from (is_declared is_wallet_role world name) (is_some (owner_named world payee))
      (named world is is_wallet_role name wallet.wallet) (owner world is payee paid.owned);
  played = refl;
}

-- ---- rounds

module _ (round : Round) where
  wallet : IsWallet (slice_index_or wallets (round.word % 3) [])
  wallet = wallet-named round.word

  each : (kind : ℕ) → kind < 8 → AllByRecursion IsPlayed (slice_index_or (lines_by_kind round) kind [])
  each zero lt = deposit _ 10 wallet ▹ tt
  each (suc zero) lt =
      pays _ _ _ wallet (wallet-named (round.word / 3))
      ▹ command _ refl (λ world. refl) ▹ command _ refl (λ world. refl) ▹ enter (codes "op") refl ▹ tt
  each (suc (suc zero)) lt = command _ refl (λ world. refl) ▹ command _ wallet.wallet (λ world. refl) ▹ tt
  each (suc (suc (suc zero))) lt = command _ refl (λ world. refl) ▹ command _ refl (λ world. refl) ▹ tt
  each (suc (suc (suc (suc zero)))) lt = command _ wallet.wallet (λ world. refl) ▹ enter _ wallet.any ▹ tt
  each (suc (suc (suc (suc (suc zero))))) lt =
      watches (codes "a") refl ▹ enter (codes "a") refl
      ▹ watches (codes "b") refl ▹ enter (codes "b") refl
      ▹ watches (codes "c") refl ▹ enter (codes "c") refl
      ▹ watches (codes "a") refl ▹ watches (codes "b") refl ▹ watches (codes "c") refl ▹ tick _ ▹ tt
  each (suc (suc (suc (suc (suc (suc zero)))))) lt =
      crash _ wallet ▹ command _ wallet.any (λ world. refl) ▹ tt
  each (suc (suc (suc (suc (suc (suc (suc zero))))))) lt = finish _ _ ▹ tt
  each (suc (suc (suc (suc (suc (suc (suc (suc kind)))))))) lt = absurd (omega arith)

  round-played : AllByRecursion IsPlayed (round_lines round)
  unfolding round_lines
  round-played = each (kind_of round) (omega arith)

-- ---- the run

-- the lines, the newest first, have a run after which all take part
record Goes (dig : List ℕ → List ℕ) (lines : List Line) : Type 0 where
  world : World
  leads : Leads dig lines world
  is : people world.nodes ≡ cast

some-of : {A : Type 0} (o : Option A) → is_some o ≡ true → (x : A) × (o ≡ Some x)
some-of (Some x) some = (x, refl)
some-of None some = absurd (true≢false (sym some))

goes-on : (dig : List ℕ → List ℕ) (lines : List Line) (line : Line) → IsPlayed line → Goes dig lines
    → Goes dig (line ∷ lines)
unfolding keeps_rules
goes-on dig lines line line_is before =
    let effect = some-of (step dig (Some before.world) line)
    (lines_that_keep_the_rules_step dig (Some before.world) line ∙ line_is.keeps before.world before.is) in
    record {
      world = (effect.0).world;
      leads = leads-on dig lines line before.world effect.0 before.leads effect.1;
      is = people-stay dig before.world line effect.0 line_is.played effect.1 ∙ before.is;
    }

goes-through : (dig : List ℕ → List ℕ) (lines before : List Line) → AllByRecursion IsPlayed lines → Goes dig before
    → Goes dig (reverse lines ++ before)
goes-through dig [] before all goes = goes
goes-through dig (line ∷ lines) before all goes =
    subst (Goes dig) (moved line lines before)
    (goes-through dig lines (line ∷ before) all.1 (goes-on dig before line all.0 goes))
  where
    moved : (line : Line) (lines before : List Line)
        → reverse lines ++ (line ∷ before) ≡ reverse (line ∷ lines) ++ before
    moved line lines before =
        sym (append_assoc (reverse lines) (line ∷ []) before)
        ∙ ap (λ (front : List Line). front ++ before) (sym (reverse_onto lines line []))

-- the first lines have a run
begins : (dig : List ℕ → List ℕ) → Goes dig (reverse first_lines)
begins dig =
    goes-through dig (Line.Fund 11 1000000 ∷ Line.Fund 12 1000000 ∷ Line.Fund 13 1000000 ∷ Line.Fund 14 1000000 ∷ [])
    declarations
    (fund 11 1000000 ▹ fund 12 1000000 ▹ fund 13 1000000 ▹ fund 14 1000000 ▹ tt)
    (record { world = world_g; leads = declared dig; is = refl })

-- and so have all
goes : (dig : List ℕ → List ℕ) (seed count : ℕ) → Goes dig (reverse (made_lines seed count))
unfolding made_lines
goes dig seed zero = begins dig
goes dig seed (suc count) =
    let round : Round = round_at seed (suc count) (length (made_lines seed count)) in
    subst (Goes dig) (sym (reverse-append (made_lines seed count) (round_lines round)))
    (goes-through dig (round_lines round) (reverse (made_lines seed count)) (round-played round) (goes dig seed count))

pub whole-run : (dig : List ℕ → List ℕ) (seed count : ℕ) → is_some (run_of dig (reverse (made_lines seed count))) ≡ true
whole-run dig seed count = ap (λ o. is_some o) (goes dig seed count).leads.run_is
