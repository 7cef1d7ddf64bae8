-- What the lines of a world do to it, by what they do to its scene.
use Rattle.world_core.proofs.Words.{◌≡◌, ℕ, true, false, List, [], Option, Some, None, refl, sym, ap, ◌∙◌, subst, option_map, option_map_some, Line, keeps_rules, keeps_rules_in, new_chain, new_world, effect_of, LineEvent, LineAnswer, SceneState, shows, world_of, answered, TellsInRuns, AllSpell, RunningState, NodesSpell, MovesIn, shows_in, TellsLine, Takes, scene_with, with_item}
use Rattle.node_replies.specs.declared.reply.Reply.{Reply}
use Rattle.world_scene.specs.Moves.{Moves}

-- the answer of the first line
abbrev pub begun_as : List ℕ → LineAnswer
begun_as made = record { done = false; reply = Reply.Chain; made = made; event = LineEvent.Idle }

-- the first line begins the chain
pub takes_first : {H : Type 0} (dig : List ℕ → List ℕ) (old new : RunningState H) (tag operator most : ℕ)
    (scene : SceneState H) (line : Line) (made : List ℕ) → old.scene ≡ None
    → line ≡ Line.Chain tag operator most → world_of scene ≡ new_world (new_chain tag operator most)
    → scene.hash ≡ old.hash → made ≡ [] → new ≡ record old { scene = Some scene }
    → Takes dig old line (begun_as made) new
unfolding keeps_rules effect_of
takes_first dig old new tag operator most scene line made none line_is begun hash empty is =
    subst (λ (l : Line). Takes dig old l (begun_as made) new) (sym line_is)
    (record {
      scene = scene;
      is = is;
      hash = hash;
      keeps = ap (λ s. keeps_rules (option_map world_of s) (Line.Chain tag operator most)) none;
      shows =
          ap (λ s. shows_in dig (option_map world_of s) (Line.Chain tag operator most)) none
          ∙ (λ i. Some (record { done = false; reply = Reply.Chain; made = sym empty i; world = sym begun i }));
      tells =
          subst (λ s. TellsLine dig (option_map world_of s) (Line.Chain tag operator most) LineEvent.Idle) (sym none)
          refl;
    })

-- a line of a scene
pub takes_next : {H : Type 0} (dig : List ℕ → List ℕ) (old new : RunningState H) (before scene : SceneState H)
    (line : Line) (answer : LineAnswer) → old.scene ≡ Some before
    → keeps_rules_in (world_of before) line ≡ true
    → shows dig (world_of before) line ≡ Some (answered answer (world_of scene))
    → TellsInRuns dig (world_of before) line answer.event → scene.hash ≡ old.hash
    → new ≡ record old { scene = Some scene } → Takes dig old line answer new
unfolding keeps_rules effect_of
takes_next dig old new before scene line answer some keeps shown told hash is = record {
  scene = scene;
  is = is;
  hash = hash;
  keeps = ap (λ s. keeps_rules (option_map world_of s) line) some ∙ keeps;
  shows = ap (λ s. shows_in dig (option_map world_of s) line) some ∙ shown;
  tells = subst (λ s. TellsLine dig (option_map world_of s) line answer.event) (sym some) told;
}

-- ---- what a line does to the disks

-- the digest stays
pub moves_hash : {H : Type 0} (digest : H → List ℕ → List ℕ) (old : SceneState H) (line : Line) (new : SceneState H)
    → Moves digest old line new → new.hash ≡ old.hash
moves_hash digest old (Line.Crash node outcome) new moves = moves.hash
moves_hash digest old (Line.Cut node calls outcome command) new moves = moves.hash
moves_hash digest old line new moves = moves.hash

-- a mail item moves nothing
moves-with : {H : Type 0} (digest : H → List ℕ → List ℕ) (old : SceneState H) (line : Line) (new : SceneState H)
    (item : List ℕ) → Moves digest old line new → Moves digest old line (scene_with item new)
moves-with digest old (Line.Command command) new item moves = record {
  n = moves.n;
  order = moves.order;
  given = moves.given;
  chosen = moves.chosen;
  runs = moves.runs;
  hash = moves.hash;
}
moves-with digest old (Line.Crash node outcome) new item moves =
    record { n = moves.n; found = moves.found; crashes = moves.crashes; hash = moves.hash }
moves-with digest old (Line.Cut node calls outcome command) new item moves = record {
  n = moves.n;
  order = moves.order;
  end = moves.end;
  chosen = moves.chosen;
  cuts = moves.cuts;
  hash = moves.hash;
}
moves-with digest old line new item moves = record { nodes = moves.nodes; hash = moves.hash }

pub moves_put : {H : Type 0} (digest : H → List ℕ → List ℕ) (old : Option (SceneState H)) (line : Line)
    (taken put : RunningState H) (item : List ℕ) → put ≡ with_item taken item
    → MovesIn digest old line taken.scene → MovesIn digest old line put.scene
moves_put {H} digest old line taken put item is moves =
    subst (λ (p : RunningState H). MovesIn digest old line p.scene) (sym is) (by old taken.scene moves)
  where
    by : (before after : Option (SceneState H)) → MovesIn digest before line after
        → MovesIn digest before line (option_map (scene_with item) after)
    by None after moves = tt
    by (Some before) None moves = moves
    by (Some before) (Some after) moves = moves-with digest before line after item moves

pub nodes_put : {H : Type 0} (taken put : RunningState H) (item : List ℕ) → put ≡ with_item taken item
    → NodesSpell taken → NodesSpell put
nodes_put {H} taken put item is spell scene at =
    let found = option_map_some (scene_with item) taken.scene scene
    (ap (λ (p : RunningState H). p.scene) (sym is) ∙ at) in
    subst AllSpell found.2 (spell found.0 found.1)
