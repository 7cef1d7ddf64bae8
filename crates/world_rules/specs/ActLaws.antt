-- The step of a line is what its act does.
use Rattle.std.specs.Prelude.{◌≡◌, ℕ, List, Some, is_some, option_map}
use Rattle.schedule_text.specs.declared.line.Line.{Line}
use Rattle.world_rules.specs.{World.{World}, Declarations.{keeps_rules}, Steps.{effect_in, with_mail, step}, Acts.{Act, act_of, done}, Evidence.{IsActIn}}

-- a line is an act exactly where it keeps the rules of declarations
abbrev pub ActsKeepTheRules : Type 0
ActsKeepTheRules = (world : World) (line : Line) → is_some (act_of world line) ≡ keeps_rules (Some world) line

-- what a line does is what its act does
abbrev pub EffectsAreOfActs : Type 0
EffectsAreOfActs = (dig : List ℕ → List ℕ) (world : World) (line : Line) (act : Act)
    → act_of world line ≡ Some act → effect_in dig world line ≡ Some (done dig world act)

-- so the step of a line, in a world that has begun, is what its act does, with its mail item
abbrev pub StepsAreOfActs : Type 0
StepsAreOfActs = (dig : List ℕ → List ℕ) (world : World) (line : Line)
    → step dig (Some world) line ≡ option_map (λ act. with_mail (done dig world act)) (act_of world line)

-- what is known of a line's act
abbrev pub ActsAreKnown : Type 0
ActsAreKnown = (world : World) (line : Line) (act : Act) → act_of world line ≡ Some act → IsActIn world act
