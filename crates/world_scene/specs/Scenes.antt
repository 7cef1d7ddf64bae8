-- The world in memory: the contract, the nodes with their disks, strangers, and the mail; and what a line shows of
-- its effect.
use Rattle.std.specs.Prelude.{ℕ, Bool, List, map, Option, option_map}
use Rattle.plasma_tx.specs.Chain.{Chain}
use Rattle.schedule_text.specs.declared.line.Line.{Line}
use Rattle.node_replies.specs.declared.reply.Reply.{Reply}
use Rattle.world_rules.specs.{World.{Node, Rogue, World}, Steps.{LineEffect, effect_in}}
use Rattle.world_nodes.specs.Nodes.{NodeView}

-- the contract's chain, the nodes in the order of their declarations, the strangers, the accounts of `call` lines, and
-- the mail; the newest of the accounts first
pub record SceneState (H : Type 0) : Type 0 where
  pub hash : H
  pub chain : Chain
  pub nodes : List (NodeView H)
  pub rogues : List Rogue
  pub raw_callers : List ℕ
  pub mail : List (List ℕ)

-- a node, and the nodes without their disks
abbrev pub node_in : {H : Type 0} → NodeView H → Node
node_in view = view.node

-- the world that it is
abbrev pub world_of : {H : Type 0} → SceneState H → World
world_of scene = record {
  chain = scene.chain;
  nodes = map node_in scene.nodes;
  rogues = scene.rogues;
  raw_callers = scene.raw_callers;
  mail = scene.mail;
}

-- what a line shows: its answer, and whether it is that of a command in a `cut` which ended first; the bytes that it
-- makes; and the world after it
pub record Shown : Type 0 where
  pub done : Bool
  pub reply : Reply
  pub made : List ℕ
  pub world : World

-- an effect without its event
abbrev pub shown_of : LineEffect → Shown
shown_of effect =
    record { done = effect.done; reply = effect.reply; made = effect.made; world = effect.world }

-- what a line shows in a world, where the definitions say that it does anything
abbrev pub shows : (List ℕ → List ℕ) → World → Line → Option Shown
shows dig world line = option_map shown_of (effect_in dig world line)
