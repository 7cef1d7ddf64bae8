-- The world in memory, and when it is what lines leave.
use Rattle.std.specs.Prelude.{◌≡◌, ◌≤◌, ℕ, Bool, List, [], map, Option, Some, None, option_map}
use Rattle.std.specs.List.{All, count_by}
use Rattle.std.specs.Option.{ForSome, option_map_or}
use Rattle.plasma_tx.specs.Spelling.{AreBytes}
use Rattle.plasma_tx.specs.Shown.{tests_by, rules_of}
use Rattle.schedule_text.specs.declared.line.Line.{Line}
use Rattle.schedule_text.specs.Grammar.{IsLine}
use Rattle.world_rules.specs.declared.TheConstants.{MOST_MAIL}
use Rattle.world_rules.specs.World.{World}
use Rattle.world_rules.specs.Events.{Event}
use Rattle.world_rules.specs.Steps.{mail_size, TraceEntry, Run, run_of, events_of}
use Rattle.world_rules.specs.Verdicts.{is_refused, Named, wallets_from}
use Rattle.coin_verdicts.specs.Wallets.{named_of}
use Rattle.world_trace.specs.Traces.{TraceState, no_trace, Tells}
use Rattle.world_scene.specs.Scenes.{SceneState, world_of}
use Rattle.world_scene.specs.Steps.{AllSpell}

-- the digest, the world once the chain has begun, the bytes of all mail items, what is kept of the lines, and how many
-- of their answers begin with `refused`
pub record RunningState (H : Type 0) : Type 0 where
  pub hash : H
  pub scene : Option (SceneState H)
  pub mail_size : ℕ
  pub trace : TraceState
  pub refused : ℕ

-- a world, and whether it has ended: memory ran out, or the mail was full
pub record WorldState (H : Type 0) : Type 0 where
  pub running : RunningState H
  pub ended : Bool

-- the world before its first line
abbrev pub before_all : {H : Type 0} → H → RunningState H
before_all hash = record { hash = hash; scene = None; mail_size = 0; trace = no_trace; refused = 0 }

-- the world that it holds
abbrev pub world_in : {H : Type 0} → RunningState H → Option World
world_in state = option_map world_of state.scene

-- each image of a crash now of each node's disks keeps the node's records
abbrev pub NodesSpell : {H : Type 0} → RunningState H → Type 0
NodesSpell state = ForSome state.scene AllSpell

-- the world judges openings by its digest
abbrev pub HasHash : {H : Type 0} → RunningState H → Type 0
HasHash {H} state = ForSome state.scene (λ (scene : SceneState H). scene.hash ≡ state.hash)

-- what is kept of the lines is that of these events, in the world that they left
abbrev pub TellsIn : (List ℕ → List ℕ) → Option World → List Event → TraceState → Type 0
TellsIn dig None events trace = (events ≡ []) × (trace ≡ no_trace)
TellsIn dig (Some world) events trace = Tells dig (tests_by dig) (rules_of world.chain) events trace

-- the wallets of a world, in the order of their declarations; none before the first line
abbrev pub wallets_in : Option World → List Named
wallets_in None = []
wallets_in (Some world) = wallets_from 0 world.nodes

-- the line of a trace made bytes
abbrev pub MadeBytes : TraceEntry → Type 0
MadeBytes entry = AreBytes entry.made

-- The world and what it keeps are what these lines leave, the newest first. Each is in the grammar, and made bytes.
pub record IsAfter {H : Type 0} (dig : List ℕ → List ℕ) (lines : List Line) (state : RunningState H) : Type 0 where
  pub run : Run
  pub ran : run_of dig lines ≡ Some run
  pub world : run.world ≡ world_in state
  pub grammar : All IsLine lines
  pub made : All MadeBytes run.entries
  pub hash : HasHash state
  pub mail : state.mail_size ≡ option_map_or mail_size run.world 0
  pub fits : state.mail_size ≤ MOST_MAIL
  pub trace : TellsIn dig run.world (events_of run.entries) state.trace
  pub named : map named_of state.trace.wallets ≡ wallets_in run.world
  pub refused : state.refused ≡ count_by is_refused run.entries
