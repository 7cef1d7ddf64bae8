-- What a source gave and a sink took over several calls, where they tell it.
use Rattle.std.specs.Prelude.{◌≡◌, ◌⊎◌, ℕ, Bool, true, false, List, [], ◌∷◌, ◌++◌, Option, option_map, IfSome}
use Rattle.plasma_base.specs.Causes.{counted, faults_after}

-- where it tells, the source gave these bytes, and these are left; an input that was read to its end has none left
pub record Gave (before after : Option (List ℕ)) (bytes : List ℕ) (ended : Bool) : Type 0 where
  pub given : before ≡ option_map (λ left. bytes ++ left) after
  pub end : ended ≡ true → IfSome after (λ left. left ≡ [])

-- where it tells, the source gave these bytes in one take: none only at its end
abbrev pub GaveAll : Option (List ℕ) → Option (List ℕ) → List ℕ → Type 0
GaveAll before after [] = Gave before after [] true
GaveAll before after (byte ∷ bytes) = Gave before after (byte ∷ bytes) false

-- A source is read up to its first fault: in a reading that failed it counted that one, and its last take is the one
-- that failed; in another it counted none.
pub record ReadsToFault (before after : ℕ) (failed_last failed : Bool) : Type 0 where
  pub count : after ≡ faults_after before failed
  pub last : failed ≡ true → failed_last ≡ true

-- A source is read up to its end, which a reading meets once or never: so behind it nothing is taken.
abbrev pub ReadsToEnd : ℕ → ℕ → Type 0
ReadsToEnd before after = (after ≡ before) ⊎ (after ≡ counted before)

-- where it tells, the sink has taken this text after what it had taken before
abbrev pub Wrote : Option (List ℕ) → Option (List ℕ) → List ℕ → Type 0
Wrote before after text = after ≡ option_map (λ taken. taken ++ text) before

-- where it tells, the sink has taken a beginning of this text after what it had taken before
pub record WroteFront (before after : Option (List ℕ)) (text : List ℕ) : Type 0 where
  pub front : List ℕ
  pub back : List ℕ
  pub whole : front ++ back ≡ text
  pub wrote : Wrote before after front
