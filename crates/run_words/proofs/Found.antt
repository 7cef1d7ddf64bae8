-- What matches hold, as their parts are read.
use Rattle.run_words.proofs.Basics.{◌≡◌, ◌∙◌, sym, List, [], Option, Some, codes, map, arith, option_map, unwrap_or, none-some, common_steps, Row, Text, all_of, found_of, matched_of, raw_values, rows_of, subcommand_name_of, subcommand_rows_of, form_named, form_of, matched_words}
use Rattle.std.specs.Borrow.{Bor}
use Rattle.clap.specs.declared.parser.matches.ArgMatches.{ArgMatches}
use Rattle.clap.specs.declared.parser.matches.ArgMatches.TheViews.{out-ArgMatches}
use Rattle.clap.proofs.WalkLemmas.{raw_values-rows}

-- two steps are one
map_map : {A B C : Type 0} (f : B → C) (g : A → B) (o : Option A)
    → option_map f (option_map g o) ≡ option_map (λ a. f (g a)) o
map_map f g o = grind (arith, common_steps) steps 20000

-- the name that matches have is that of the subcommand whose rows they have
pub subcommand_name : (m : ArgMatches) → subcommand_name_of m ≡ option_map (λ found. found.0) (subcommand_rows_of m)
subcommand_name m = sym (map_map (λ found. found.0) _ (out-ArgMatches m).subcommand)

-- a pair is found where its two parts are
both_parts : (o : Option (Text × List Row)) (name : Text) (rows : List Row)
    → Some name ≡ option_map (λ found. found.0) o → Some rows ≡ option_map (λ found. found.1) o → o ≡ Some (name, rows)
both_parts o name rows is more = grind (arith, common_steps, none-some) steps 20000

-- the subcommand with its rows, from its two parts
pub subcommand_found : (m : ArgMatches) (name : Text) (rows : List Row) → Some name ≡ subcommand_name_of m
    → Some rows ≡ option_map (λ found. found.1) (subcommand_rows_of m) → subcommand_rows_of m ≡ Some (name, rows)
subcommand_found m name rows is more = both_parts (subcommand_rows_of m) name rows (is ∙ subcommand_name m) more

-- the values, or none
values_or : (o : Option (Bor (List (Bor Text)))) (none : Bor (List (Bor Text))) → none.now ≡ []
    → map (λ v. v.now) (unwrap_or o none).now ≡ unwrap_or (option_map (λ s. map (λ v. v.now) s.now) o) []
values_or o none is = grind (arith, common_steps) steps 20000

-- the words of the positional, or none
pub rest_found : (m : ArgMatches) (values : Option (Bor (List (Bor Text)))) (none : Bor (List (Bor Text)))
    → none.now ≡ []
    → option_map (λ s. map (λ v. v.now) s.now) values ≡ option_map raw_values (matched_of (found_of m) (codes "rest"))
    → map (λ v. v.now) (unwrap_or values none).now ≡ unwrap_or (all_of (codes "rest") (rows_of (found_of m))) []
rest_found m values none empty is = grind (arith, common_steps, values_or, raw_values-rows) steps 20000

-- the form of what matches hold is that of the name and the words
pub form_found : (m inner : ArgMatches) (name : Text) (rest : List Text) → Some name ≡ subcommand_name_of m
    → Some (rows_of (found_of inner)) ≡ option_map (λ found. found.1) (subcommand_rows_of m)
    → rest ≡ unwrap_or (all_of (codes "rest") (rows_of (found_of inner))) []
    → form_of (matched_words (subcommand_rows_of m)) ≡ form_named name rest
unfolding form_of
form_found m inner name rest is more words = grind (arith, common_steps, subcommand_found) steps 20000
