-- What a file holds and was asked, to which bytes were added over a disk.
use Rattle.std.proofs.Common.{◌≡◌, ℕ, ◌+◌, Bool, true, false, List, [], ◌++◌, length, take, drop, Option, Some, sym, ◌∙◌, ap, subst, arith}
use Rattle.std.specs.Option.{option_map}
use Rattle.std.proofs.Math.Logic.{∥∥₁_map}
use Rattle.std.proofs.Math.ListN.{drop_of_length-le}
use Rattle.std.proofs.Math.Seq.{take-length}
use Rattle.std.proofs.lemmas.List.{append-nil}
use Rattle.crash_disk.specs.Calls.{WhereTold}
use Rattle.crash_disk.specs.Disk.{Step, asks_length, writes, syncs, DeviceCall, History, fresh_history, content, with_call, with_write}
use Rattle.crash_disk.specs.FileCalls.{FileCall, finds, measures, asked, has_name, asks_of, went, AreFor, told_of}
use Rattle.crash_disk.proofs.Held.{told_more}
use Rattle.told_files.specs.States.{tells_there}
use Rattle.crash_disk.specs.Adding.{added_calls, added_asks, all_made}

-- the calls of a length, and of a write behind it
abbrev measured : Bool → List FileCall
measured there = asked measures false (asked (finds there) false [])

abbrev written : Bool → ℕ → List ℕ → List FileCall
written there place bytes = went 4 (asks_of (writes place bytes) true true) (measured there)

-- a sync behind them finds the file, and the first look said whether it was there
synced : (began there said : Bool) (place : ℕ) (bytes : List ℕ) (files : List FileCall)
    → files ≡ went (length (asks_of syncs said false)) (asks_of syncs said false) (written there place bytes)
    → tells_there began files ≡ true → files ≡ all_made (added_asks began place bytes)
synced true true true place bytes files is tells = is
synced false false true place bytes files is tells = is
synced true false true place bytes files is tells = absurd (cc (sym tells ∙ ap (tells_there true) is))
synced false true true place bytes files is tells = absurd (cc (sym tells ∙ ap (tells_there false) is))
synced true there false place bytes files is tells = absurd (cc (sym tells ∙ ap (tells_there true) is))
synced false there false place bytes files is tells = absurd (cc (sym tells ∙ ap (tells_there false) is))

made : (began : Bool) (place : ℕ) (bytes : List ℕ) (files : List FileCall)
    → AreFor (added_calls place bytes) files → tells_there began files ≡ true
    → files ≡ all_made (added_asks began place bytes)
made began place bytes files are tells =
    let length_made = are.1.1 in
    let there : Bool = length_made.2.0 in
    let said : Bool = are.2.0 in
    let after_length : are.1.0 ≡ measured there = length_made.2.1
    ∙ ap (λ (calls : List FileCall). asked measures false (asked (finds there) false calls)) length_made.1 in
    let after_write : are.0 ≡ written there place bytes = are.1.2.1
    ∙ ap (λ (calls : List FileCall). went 4 (asks_of (writes place bytes) true true) calls) after_length in
    synced began there said place bytes files
    (subst
    (λ (calls : List FileCall).
    files ≡ went (length (asks_of syncs said (has_name calls))) (asks_of syncs said (has_name calls)) calls)
    after_write are.2.1)
    tells

-- the calls of the file, by those that the disk tells
pub added_asked : (began : Bool) (place : ℕ) (bytes : List ℕ) (calls : List DeviceCall) (files : List FileCall)
    → calls ≡ added_calls place bytes → ∥ AreFor calls files ∥₁ → tells_there began files ≡ true
    → ∥ files ≡ all_made (added_asks began place bytes) ∥₁
added_asked began place bytes calls files is are tells =
    ∥∥₁_map (subst (λ (l : List DeviceCall). ∥ AreFor l files ∥₁) is are)
    (λ are. made began place bytes files are tells)

-- bytes that are written at the end stand behind the others
pub with_end : (old new : List ℕ) → with_write old (length old) new ≡ old ++ new
with_end old new =
    let first : take (length old) old ≡ old = take-length old in
    let last : drop (length old + length new) old ≡ [] = drop_of_length-le old (omega arith) in
    ap (λ (l : List ℕ). l ++ new ++ drop (length old + length new) old) first
    ∙ ap (λ (l : List ℕ). old ++ new ++ l) last
    ∙ append-nil (old ++ new)

-- one device call more is told, where the file began with the same bytes
pub told_next : (began now_began : Option (List ℕ)) (past now : History) (step : Step) (failed : Bool)
    → now ≡ with_call step failed past → now_began ≡ began
    → told_of now_began now ≡ option_map (with_call step failed) (told_of began past)
told_next began now_began past now step failed is stays =
    (λ i. told_of (stays i) (is i)) ∙ told_more began past step failed

-- what the disk tells of the three calls
pub added_told : (image : List ℕ) (place : ℕ) (bytes : List ℕ) (opened asked wrote synced : Option History)
    → opened ≡ Some (fresh_history image) → asked ≡ option_map (with_call asks_length false) opened
    → WhereTold opened (λ history. place ≡ length (content history))
    → wrote ≡ option_map (with_call (writes place bytes) false) asked
    → synced ≡ option_map (with_call syncs false) wrote
    → synced ≡ Some (record { began = image; calls = added_calls (length image) bytes })
added_told image place bytes opened asked wrote synced told length_called answer write_called sync_called =
    let last : place ≡ length image = answer (fresh_history image) told in
    sync_called
    ∙ ap (option_map (with_call syncs false)) write_called
    ∙ ap (λ (t : Option History). option_map (with_call syncs false) (option_map (with_call (writes place bytes) false) t))
    (length_called ∙ ap (option_map (with_call asks_length false)) told)
    ∙ ap (λ (n : ℕ). Some (record { began = image; calls = added_calls n bytes })) last

-- two histories that are told alike are alike
pub told_alike : (one other : History) → ◌≡◌ {A = Option History} (Some one) (Some other) → one ≡ other
told_alike one other is = cc is
