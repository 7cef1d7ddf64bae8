-- What the command makes of words that are a form: it takes them, and its matches hold them.
use Rattle.std.proofs.Common.{◌≡◌, ◌∙◌, refl, sym, ap, ap₂, ℕ, ◌==◌, ◌&&◌, Bool, true, false, List, [], ◌∷◌, ◌++◌, length, Some, None, codes, append_assoc, append-nil, true≢false, ◌≤◌, arith, rules}
use Rattle.std.specs.Prelude.{is_some, nat_le, fold, unwrap_or, slice_get}
use Rattle.std.specs.List.{AllByRecursion, list_all}
use Rattle.std.proofs.lemmas.Bool.{le-leb}
use Rattle.clap.specs.Words.{App, new_rule, Rule, Shape, Text, is_simple, subcommand_of, takes, all_of}
use Rattle.clap.specs.Simple.{built, entered, names_of}
use Rattle.clap.specs.Takes.{default_passes, is_valid, entered_passes, level_passes, settle_passes, turn_passes, value_passes, values_pass, walk_passes}
use Rattle.clap.specs.Walk.{Names, Walk, finished, nothing_held, positional, rows_after, walk, walk_from, walked}
use Rattle.clap.proofs.OnLiterals.{clap_on_literals}
use Rattle.run_words.specs.Forms.{form_of}
use Rattle.run_words.specs.Parsing.{run_command, matched_words}
use Rattle.run_words.proofs.FormLaws.{IsPlain, plain, names, named, at_name, few}

-- the command is one of which clap says what its matches are
pub simple : is_simple run_command ≡ true
unfolding clap_on_literals
simple = refl

-- the command, built
abbrev whole : App
whole = built run_command

-- ---- behind the name of a subcommand

-- the walk over the command's words, once it met a subcommand and passed these words
abbrev stopped : Walk → Text → List Text → Walk
stopped w name words = record w { stopped = Some (name, words) }

-- the words behind the name go to the subcommand as they stand
stopped_walk : (c : List Rule) (subcommands : Names) (w : Walk) (name : Text) (met rest : List Text)
    → fold (walked c subcommands) (stopped w name met) rest ≡ stopped w name (met ++ rest)
unfolding walked
stopped_walk c subcommands w name met [] = ap (stopped w name) (sym (append-nil met))
stopped_walk c subcommands w name met (word ∷ rest) =
    stopped_walk c subcommands w name (met ++ word ∷ []) rest
    ∙ ap (stopped w name) (append_assoc met (word ∷ []) rest)

-- whatever they are, the command passes them
stopped_passes : (s : Shape) (subcommands : Names) (w : Walk) (name : Text) (met rest : List Text)
    → walk_passes s subcommands (stopped w name met) rest ≡ true
unfolding walked walk_passes
stopped_passes s subcommands w name met [] = refl
stopped_passes s subcommands w name met (word ∷ rest) =
    stopped_passes s subcommands w name (met ++ word ∷ []) rest

-- ---- the words of a subcommand

-- a subcommand that is built
abbrev leaf : Text → Shape
leaf name = record (unwrap_or (slice_get whole.subs 0) whole.top) { name = name }

-- its one argument
abbrev rest_rules : List Rule
rest_rules = (leaf []).rules

-- the walk over a subcommand's words, once these are read
abbrev reading : List Text → Walk
reading values = record {
  held = record { rows = []; pending = Some (codes "rest", values); skip = 0 };
  waiting = positional;
  position = 1;
  is_trailing = true;
  stopped = None;
}

-- a word without a hyphen is the first value; 45 is the hyphen
first_read : (first : ℕ) (word : Text) → (first == 45) ≡ false
    → walked rest_rules [] (walk_from nothing_held) (first ∷ word) ≡ reading ((first ∷ word) ∷ [])
unfolding walked
first_read first word is = rw is (rw is refl)

first_passes : (name : Text) (first : ℕ) (word : Text) → (first == 45) ≡ false
    → turn_passes (leaf name) [] (walk_from nothing_held) (first ∷ word) ≡ true
unfolding walked
first_passes name first word is = rw is (rw is refl)

-- each word after it is one more
rest_read : (values words : List Text)
    → fold (walked rest_rules []) (reading values) words ≡ reading (values ++ words)
unfolding walked
rest_read values [] = ap reading (sym (append-nil values))
rest_read values (word ∷ words) =
    rest_read (values ++ word ∷ []) words ∙ ap reading (append_assoc values (word ∷ []) words)

rest_passes : (name : Text) (values words : List Text) → walk_passes (leaf name) [] (reading values) words ≡ true
unfolding walked walk_passes
rest_passes name values [] = refl
rest_passes name values (word ∷ words) = rest_passes name (values ++ word ∷ []) words

-- the walk over words of which the first is plain
all_read : (first : ℕ) (word : Text) (words : List Text) → (first == 45) ≡ false
    → walk rest_rules [] nothing_held ((first ∷ word) ∷ words) ≡ reading ((first ∷ word) ∷ words)
all_read first word words is =
    ap (λ (start : Walk). fold (walked rest_rules []) start words) (first_read first word is)
    ∙ rest_read ((first ∷ word) ∷ []) words

-- the positional of a subcommand takes all its words
rest_taken : (rest : List Text) → IsPlain rest
    → unwrap_or (all_of (codes "rest") (rows_after rest_rules [] rest)) [] ≡ rest
rest_taken [] is = refl
rest_taken ([] ∷ words) is = absurd is
rest_taken ((first ∷ word) ∷ words) is =
    ap (λ (end : Walk). unwrap_or (all_of (codes "rest") (finished rest_rules end.held)) [])
    (all_read first word words is)

-- each text is a value
values_taken : (a : Rule) (values : List Text) → value_passes a ≡ (λ value. true) → values_pass a values ≡ true
values_taken a [] any = refl
values_taken a (value ∷ values) any =
    ap₂ (λ x y. x && y) (ap (λ test. test value) any) (values_taken a values any)

-- the end of a subcommand's words: the positional takes its values, and nothing is missing
abbrev ends : Shape → Walk → Bool
ends s end =
    settle_passes s.rules s.args_override_self end.held
    && (list_all default_passes s.rules && is_valid s (finished s.rules end.held) false)

-- the positional asks for no least number of values, and has no more than it may
no_least : (count : ℕ) → nat_le 0 count ≡ true
no_least count = le-leb 0 count (omega arith)

values_end : (name first : Text) (words : List Text) → nat_le (length (first ∷ words)) 18446744073709551615 ≡ true
    → ends (leaf name) (reading (first ∷ words)) ≡ true
values_end name first words short =
    let rule = unwrap_or (slice_get rest_rules 0) (new_rule []) in
    rw (no_least (length (first ∷ words)), short, values_taken rule words refl) refl

-- a subcommand takes words of which the first is plain
level_taken : (name : Text) (rest : List Text) → IsPlain rest → nat_le (length rest) 18446744073709551615 ≡ true
    → level_passes (leaf name) [] nothing_held rest false ≡ true
unfolding walked walk_passes
level_taken name [] is short = refl
level_taken name ([] ∷ words) is short = absurd is
level_taken name ((first ∷ word) ∷ words) is short =
    ap₂ (λ x y. x && y)
    (ap₂ (λ x y. x && y) (first_passes name first word is)
    (ap (λ (w : Walk). walk_passes (leaf name) [] w words) (first_read first word is)
    ∙ rest_passes name ((first ∷ word) ∷ []) words))
    (ap (ends (leaf name)) (all_read first word words is) ∙ values_end name (first ∷ word) words short)

-- ---- both

-- the command meets the subcommand of this name
record IsMet (name : Text) : Type 0 where
  met : walked whole.top.rules (names_of whole) (walk_from nothing_held) name
      ≡ stopped (walk_from nothing_held) name []
  passes : turn_passes whole.top (names_of whole) (walk_from nothing_held) name ≡ true
  found : (rest : List Text) → entered whole (Some (name, rest)) ≡ Some (name, rows_after rest_rules [] rest)
  taken : (rest : List Text)
      → entered_passes whole (Some (name, rest)) ≡ level_passes (leaf name) [] nothing_held rest false

-- it meets that of each name
all_met : AllByRecursion IsMet names
unfolding walked
all_met = search rules

-- the walk over words that begin with the name of a subcommand
named_walk : (name : Text) (rest : List Text) → IsMet name
    → walk whole.top.rules (names_of whole) nothing_held (name ∷ rest) ≡ stopped (walk_from nothing_held) name rest
named_walk name rest is =
    ap (λ (w : Walk). fold (walked whole.top.rules (names_of whole)) w rest) is.met
    ∙ stopped_walk whole.top.rules (names_of whole) (walk_from nothing_held) name [] rest

-- what the matches hold, where the subcommand is met and the word after its name is plain
matches : (name : Text) (rest : List Text) → IsMet name → IsPlain rest
    → matched_words (subcommand_of run_command (name ∷ rest)) ≡ name ∷ rest
matches name rest is first =
    ap matched_words (ap (λ (w : Walk). entered whole w.stopped) (named_walk name rest is) ∙ is.found rest)
    ∙ ap (λ (words : List Text). name ∷ words) (rest_taken rest first)

-- the matches of words that are a form hold them
pub form_matches : (words : List Text) → is_some (form_of words) ≡ true
    → matched_words (subcommand_of run_command words) ≡ words
unfolding form_of
form_matches [] is = absurd (true≢false (sym is))
form_matches (name ∷ rest) is =
    matches name rest (at_name IsMet names name all_met (named name rest is)) (plain name rest is)

-- the end of the command's own words, with a subcommand or without
abbrev top_ends : Walk → Bool
top_ends end =
    settle_passes whole.top.rules whole.top.args_override_self end.held
    && (list_all default_passes whole.top.rules
    && is_valid whole.top (finished whole.top.rules end.held) (is_some (entered whole end.stopped)))

-- both levels pass
taken_at : (name : Text) (rest : List Text) → IsMet name → IsPlain rest → length rest ≤ 6
    → takes run_command (name ∷ rest) ≡ true
unfolding walk_passes
taken_at name rest is first most =
    ap₂ (λ x y. x && y)
    (ap (λ (w : Walk). entered_passes whole w.stopped) (named_walk name rest is)
    ∙ (is.taken rest ∙ level_taken name rest first (le-leb _ _ (omega arith))))
    (ap₂ (λ x y. x && y)
    (ap₂ (λ x y. x && y) is.passes
    (ap (λ (w : Walk). walk_passes whole.top (names_of whole) w rest) is.met
    ∙ stopped_passes whole.top (names_of whole) (walk_from nothing_held) name [] rest))
    (ap top_ends (named_walk name rest is)))

-- the command takes words that are a form
pub form_taken : (words : List Text) → is_some (form_of words) ≡ true → takes run_command words ≡ true
unfolding form_of
form_taken [] is = absurd (true≢false (sym is))
form_taken (name ∷ rest) is =
    taken_at name rest (at_name IsMet names name all_met (named name rest is)) (plain name rest is) (few name rest is)
