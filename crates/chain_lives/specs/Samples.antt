-- Two chains with a wallet, worked through: a coin is received, watched through a stranger's exit, and sent; and power
-- is lost within the send, and within the acceptance. And a hasty reading of runs, which they refuse.
use Rattle.std.specs.Prelude.{◌≡◌, ℕ, Bool, true, false, List, [], ◌∷◌, ◌++◌, length, replicate, sum_by, codes, Some, None}
use Rattle.std.specs.Option.{option_map_or}
use Rattle.plasma_tx.specs.declared.owner.Owner.{Owner}
use Rattle.plasma_tx.specs.declared.body.Body.{Body}
use Rattle.plasma_tx.specs.declared.opening.RawOpening.{RawOpening}
use Rattle.plasma_tx.specs.declared.call.Shown.TheVariants.{Spend}
use Rattle.plasma_tx.specs.declared.call.RootCall.{RootCall}
use Rattle.coin_history.specs.declared.bundle.Bundle.{Bundle}
use Rattle.node_rules.specs.Wallet.{WalletRecords}
use Rattle.world_rules.specs.Events.{Declares, Joins, Bounces, Accepts, Binds, Watches, Other}
use Rattle.world_rules.specs.Safety.{holds}
use Rattle.world_laws.specs.Looked.{is_looked_after}
use Rattle.chain_lives.specs.Steps.{Deed, Visit, Act, Begins, Runs, Step, Enters, Refuses, Does, events_of}

-- ---- who, and what its commands do

-- The wallet is node 1; 20 is its account, 9 the operator's, and others are strangers'. Coin 1 was deposited in block 1
-- by a stranger, who sent it to the wallet in block 2.
abbrev pub key : ℕ → List ℕ
key byte = replicate 56 byte

abbrev pub me : Owner
me = record { account = 20; key = key 7 }

abbrev pub opening : ℕ → RawOpening
opening block = record { block = block; bytes = [] }

abbrev pub bundle : Bundle
bundle = record { coin = 1; tip = 2; openings = opening 2 ∷ [] }

-- the transfer to another stranger, whose account is 40
abbrev pub body : Body
body = record {
  tag = replicate 32 0;
  coin = 1;
  parent = 2;
  to = record { account = 40; key = key 4 };
  last = None;
}

-- so many records; what they say isn't asked here
abbrev pub records : ℕ → ℕ → WalletRecords
records notes leaves = record { notes = replicate notes []; leaves = replicate leaves [] }

-- `accept`, `watch`, `send` and `again`, as they are answered
abbrev pub accepts : Deed
accepts = record { text = codes "accepted 1 2" ++ 10 ∷ []; event = Accepts 1 bundle; left = records 2 0 }

abbrev pub watches : List RootCall → Deed
watches calls = record { text = codes "offers .." ++ 10 ∷ []; event = Watches 1 calls; left = records 2 0 }

abbrev pub sends : Deed
sends = record { text = codes "sent 0 .." ++ 10 ∷ []; event = Binds 1 body; left = records 2 1 }

abbrev pub again : Deed
again = record { text = codes "sent 0 .." ++ 10 ∷ []; event = Other 1; left = records 2 1 }

-- ---- runs

-- all commands were answered, and what was written was read; the sink failed before it took a byte; power was lost
-- within the first command
abbrev pub size_of : List Deed → ℕ
size_of deeds = sum_by (λ deed. length deed.text) deeds

abbrev pub read : WalletRecords → List Deed → Act
read found deeds =
    Runs (record { found = found; log = None; deeds = deeds; next = None; written = size_of deeds })

abbrev pub unread : WalletRecords → List Deed → Act
unread found deeds = Runs (record { found = found; log = None; deeds = deeds; next = None; written = 0 })

abbrev pub cut : WalletRecords → Deed → Act
cut found deed = Runs (record { found = found; log = None; deeds = []; next = Some deed; written = 0 })

-- ---- received, watched, sent

-- a stranger's exit of block 4, whose parent is block 3, and the challenge at block 2 that is due for it
abbrev pub exit : RootCall
exit = RootCall.StartSpend 30 1 (Spend (opening 3)) (opening 4)

abbrev pub challenge : RootCall
challenge = RootCall.Before 20 1 4 (Spend (opening 2))

abbrev pub begun : List (Step Act)
begun =
    Enters (RootCall.Commit 9 (replicate 32 1)) ∷ Enters (RootCall.Deposit 10 5 (key 3)) ∷ Does 1 (Begins (Some me))
    ∷ []

abbrev pub received : List (Step Act)
received = Does 1 (read (records 1 0) (accepts ∷ [])) ∷ begun

-- it is entered once more, and refused, since it stands
abbrev pub exited : List (Step Act)
exited = Refuses exit ∷ Enters exit ∷ received

abbrev pub watched : List (Step Act)
watched = Does 1 (read (records 2 0) (watches (challenge ∷ []) ∷ [])) ∷ exited

-- the window of the exit passes
abbrev pub passed : List (Step Act) → List (Step Act)
passed steps = Enters (RootCall.Tick 604800) ∷ steps

abbrev pub challenged : List (Step Act)
challenged = passed (Enters challenge ∷ watched)

abbrev pub sent : List (Step Act)
sent = Does 1 (read (records 2 0) (sends ∷ [])) ∷ challenged

-- ---- what they come to

-- the wallet holds the coin at block 2, and it was looked after
pub record Reading : Type 0 where
  pub held : Bool
  pub looked : Bool

abbrev pub reading : List (Step Act) → Reading
reading steps = record {
  held = holds (events_of steps) 1 1 2;
  looked = is_looked_after (events_of steps) 1 1 2;
}

abbrev pub reads : Bool → Bool → Reading
reads held looked = record { held = held; looked = looked }

pub record ReceivedWatchedSent : Type 0 where
  pub events : events_of sent
      ≡ Binds 1 body
      ∷ Joins (RootCall.Tick 604800)
      ∷ Joins challenge
      ∷ Watches 1 (challenge ∷ [])
      ∷ Bounces exit
      ∷ Joins exit
      ∷ Accepts 1 bundle
      ∷ Joins (RootCall.Commit 9 (replicate 32 1))
      ∷ Joins (RootCall.Deposit 10 5 (key 3))
      ∷ Declares 1 me
      ∷ []
  pub before : reading begun ≡ reads false true
  pub received : reading received ≡ reads true true
  -- nobody watched; the wallet did, and what it offered wasn't entered; it was
  pub unwatched : reading (passed exited) ≡ reads true false
  pub unfulfilled : reading (passed watched) ≡ reads true false
  pub challenged : reading challenged ≡ reads true true
  pub sent : reading sent ≡ reads false true

-- ---- power is lost

-- within the send: the next run finds its record, and gives the transfer out again; or it finds none
abbrev pub send_kept : List (Step Act)
send_kept = Does 1 (read (records 2 1) (again ∷ [])) ∷ Does 1 (cut (records 2 0) sends) ∷ received

abbrev pub send_lost : List (Step Act)
send_lost = Does 1 (read (records 2 0) []) ∷ Does 1 (cut (records 2 0) sends) ∷ received

-- within the acceptance
abbrev pub accept_kept : List (Step Act)
accept_kept = Does 1 (read (records 2 0) []) ∷ Does 1 (cut (records 1 0) accepts) ∷ begun

abbrev pub accept_lost : List (Step Act)
accept_lost = Does 1 (read (records 1 0) []) ∷ Does 1 (cut (records 1 0) accepts) ∷ begun

-- and the sink failed before it took a byte of the watch's answer; somebody else challenged the exit
abbrev pub watch_unread : List (Step Act)
watch_unread =
    passed (Enters challenge ∷ Does 1 (unread (records 2 0) (watches (challenge ∷ []) ∷ [])) ∷ exited)

pub record PowerIsLost : Type 0 where
  pub send_stands : reading send_kept ≡ reads false true
  pub send_is_gone : reading send_lost ≡ reads true true
  pub accept_stands : reading accept_kept ≡ reads true true
  pub accept_is_gone : reading accept_lost ≡ reads false true
  pub watch_is_none : reading watch_unread ≡ reads true false
  -- the events of the send that was kept
  pub events : events_of send_kept
      ≡ Other 1
      ∷ Binds 1 body
      ∷ Accepts 1 bundle
      ∷ Joins (RootCall.Commit 9 (replicate 32 1))
      ∷ Joins (RootCall.Deposit 10 5 (key 3))
      ∷ Declares 1 me
      ∷ []

-- ---- a hasty reading

-- each command that was begun counts as done, and each answer as read
abbrev pub hasty_visit : Visit → Visit
hasty_visit visit =
    let deeds = visit.deeds ++ option_map_or (λ deed. deed ∷ []) visit.next [] in
    record visit { deeds = deeds; next = None; written = size_of deeds }

abbrev pub hasty_act : Act → Act
hasty_act (Runs visit) = Runs (hasty_visit visit)
hasty_act act = act

abbrev pub hastily : List (Step Act) → List (Step Act)
hastily [] = []
hastily (Enters call ∷ steps) = Enters call ∷ hastily steps
hastily (Refuses call ∷ steps) = Refuses call ∷ hastily steps
hastily (Does n act ∷ steps) = Does n (hasty_act act) ∷ hastily steps

-- by it a coin is held whose acceptance was lost, one was sent that wasn't, and one was looked after that nobody looked
-- at
pub record HastyIsWrong : Type 0 where
  pub accepted : reading (hastily accept_lost) ≡ reads true true
  pub signed : reading (hastily send_lost) ≡ reads false true
  pub watched : reading (hastily watch_unread) ≡ reads true true
