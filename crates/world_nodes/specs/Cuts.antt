-- What an order does of which so many device calls may pass before its node's disks crash.
use Rattle.std.specs.Prelude.{◌≡◌, ℕ, Bool, true, false, ◌&&◌, ◌||◌, not, nat_lt, if◌then◌else◌, List, length, Option, Some, None, option_map}
use Rattle.std.specs.Option.{option_or}
use Rattle.crash_disk.specs.{Disk.{History, content}, Calls.{with_made}, declared.outcome.Outcome.{Outcome}}
use Rattle.gate_journal.specs.{Image.{spelled}, Steps.{append_steps, open_steps}, Laws.{is_added}}
use Rattle.plasma_tx.specs.declared.call.RootCall.{RootCall}
use Rattle.world_rules.specs.{World.{Node}, Orders.{node_does}, Steps.{after_crash}}
use Rattle.node_replies.specs.{Given.{IsGiven}, Orders.{Doing, adds_record}, declared.order.NodeOrder.{NodeOrder}}
use Rattle.world_nodes.specs.{declared.order.CutEnd.{CutEnd}, declared.order.CutEnd.TheVariants.{Down, Stopped, Done}, Orders.{is_opening_order}, Nodes.{NodeView, answers_down, with_records, with_opening, crashed_disk}}

-- The opening of a node that is down makes three calls on each disk, and an append four on its one. An order of which
-- so many calls pass is stopped where it needs more.
abbrev pub is_stopped : ℕ → Node → NodeOrder → Doing → Bool
is_stopped calls node order doing =
    if is_opening_order order then not node.is_up && nat_lt calls 3 else adds_record doing && nat_lt calls 4

-- the record of an order that was stopped is kept
abbrev pub is_kept : ℕ → Outcome → NodeOrder → Bool
is_kept calls outcome order = not (is_opening_order order) && is_added calls outcome

-- the record that is kept of an order that was stopped, if one is
abbrev pub kept_record : ℕ → Outcome → NodeOrder → Doing → Option (List ℕ)
kept_record calls outcome order doing =
    if is_kept calls outcome order then option_or doing.note doing.leaf else None

-- the node after an order that was stopped
abbrev pub after_stop : ℕ → Outcome → NodeOrder → Node → Doing → Node
after_stop calls outcome order node doing =
    after_crash (if is_kept calls outcome order then with_records node doing else node)

-- ---- disks

-- what a disk tells after an opening of which so many calls may pass: the calls up to the first that failed
abbrev pub with_cut_opening : ℕ → History → History
with_cut_opening calls disk = with_made calls (open_steps (content disk)) disk

-- what it tells after the append of a record behind these, if there is one, of which so many calls may pass
abbrev pub with_cut_append : ℕ → List (List ℕ) → Option (List ℕ) → History → History
with_cut_append calls records None disk = disk
with_cut_append calls records (Some body) disk = with_made calls (append_steps (length (spelled records)) body) disk

-- What the notes' disk tells when it crashes: it was opened for a command, which then made its append as far as its
-- calls passed; an order that opens a node that is down opened it as far as the calls passed, and one that is up made
-- none.
abbrev pub cut_notes : ℕ → NodeOrder → Doing → Node → History → History
cut_notes calls order doing node disk =
    if is_opening_order order
    then (if node.is_up then disk else with_cut_opening calls disk)
    else with_cut_append calls node.notes doing.note (with_opening disk)

-- What the leaves' disk tells then: the same, but that it is opened behind the notes' one, where that was opened.
abbrev pub cut_leaves : ℕ → NodeOrder → Doing → Node → History → History
cut_leaves calls order doing node disk =
    if is_opening_order order
    then (if node.is_up || nat_lt calls 3 then disk else with_opening disk)
    else with_cut_append calls node.leaves doing.leaf (with_opening disk)

-- each disk of a node whose order was cut holds the image that the outcome leaves of it
pub record DisksCrash {H : Type 0} (calls : ℕ) (outcome : Outcome) (order : NodeOrder) (doing : Doing)
    (old new : NodeView H) : Type 0 where
  pub notes_disk : new.notes_disk ≡ crashed_disk outcome (cut_notes calls order doing old.node old.notes_disk)
  pub leaves_disk : new.leaves_disk
      ≡ option_map (λ disk. crashed_disk outcome (cut_leaves calls order doing old.node disk)) old.leaves_disk

-- ---- ends

-- an order that was stopped, and what is kept of it
pub record IsStopped {H : Type 0} (calls : ℕ) (outcome : Outcome) (order : NodeOrder) (doing : Doing) (old : NodeView H)
    (kept : Option (List ℕ)) (new : NodeView H) : Type 0 where
  pub is_up : answers_down order old.node ≡ false
  pub stopped : is_stopped calls old.node order doing ≡ true
  pub keeps : kept ≡ kept_record calls outcome order doing
  pub node : new.node ≡ after_stop calls outcome order old.node doing
  pub disks : DisksCrash calls outcome order doing old new
  pub hash : new.hash ≡ old.hash

-- an order that was done before the crash
pub record IsFinished {H : Type 0} (calls : ℕ) (outcome : Outcome) (order : NodeOrder) (doing : Doing)
    (old new : NodeView H) : Type 0 where
  pub is_up : answers_down order old.node ≡ false
  pub passed : is_stopped calls old.node order doing ≡ false
  pub node : new.node ≡ after_crash (with_records old.node doing)
  pub disks : DisksCrash calls outcome order doing old new
  pub hash : new.hash ≡ old.hash

-- how a cut ended, by what the order does
abbrev pub Ends : {H : Type 0} → ℕ → Outcome → NodeOrder → Doing → NodeView H → CutEnd → NodeView H → Type 0
Ends calls outcome order doing old Down new = (answers_down order old.node ≡ true) × (new ≡ old)
Ends calls outcome order doing old (Stopped kept) new = IsStopped calls outcome order doing old kept new
Ends calls outcome order doing old (Done given) new = IsGiven doing.response given
    × IsFinished calls outcome order doing old new

-- what a cut of an order of a node did
abbrev pub Cuts : {H : Type 0} → (List ℕ → List ℕ) → List RootCall → ℕ → Outcome → NodeOrder → NodeView H → CutEnd
    → NodeView H → Type 0
Cuts dig log calls outcome order old end new =
    Ends calls outcome order (node_does dig log old.node order) old end new
