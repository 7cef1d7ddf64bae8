-- What a run that signs comes to: the leaf that signs, the records that are added, and the answer.
use Rattle.std.specs.Prelude.{ℕ, ◌-◌, ◌&&◌, Bool, true, false, nat_lt, nat_le, if◌then◌else◌, List, [], ◌∷◌, ◌++◌, length, codes, Option, Some, None, Result, Ok, Err}
use Rattle.std.specs.Option.{option_map_or}
use Rattle.plasma_base.specs.HexText.{hex_text}
use Rattle.line_forms.specs.Tokens.{number_text}
use Rattle.lms_sign.specs.Types.{leaf_count}
use Rattle.run_endings.specs.declared.status.Status.TheVariants.{Done, Refused}
use Rattle.run_endings.specs.Outputs.{Output}
use Rattle.run_endings.specs.Texts.{refused_text}
use Rattle.hss_keys.specs.declared.seed.HssSeed.{HssSeed}
use Rattle.hss_keys.specs.declared.entry.Entry.{Entry}
use Rattle.hss_keys.specs.declared.entry.Entry.TheVariants.{Opens, Binds}
use Rattle.hss_keys.specs.Keys.{top_secret, bottom_secret, bottom_key, hss_signature_of}
use Rattle.hss_keys.specs.Entries.{most_length, entries_of, opened_count, used_in}
use Rattle.hss_keys.specs.Levels.{has_leaf}
use Rattle.hss_runs.specs.declared.next.NextLeaf.{NextLeaf}

-- The leaf that signs next: the last bottom key's next one, where that key has a leaf left; else leaf 0 of the next
-- bottom key, which is opened for it. There is none where every top leaf signed its bottom key, and the last has no
-- leaf left.
abbrev pub next_leaf : HssSeed → List Entry → Option NextLeaf
next_leaf seed entries =
    let opened = opened_count entries in
    if has_leaf seed entries then Some (record { top_leaf = opened - 1; leaf = used_in entries; opens = false })
    else if nat_lt opened (leaf_count seed.top) then Some (record { top_leaf = opened; leaf = 0; opens = true })
    else None

-- the entries that are added where this leaf signs a message, in order
abbrev pub entries_added : HssSeed → NextLeaf → List ℕ → List Entry
entries_added seed next message =
    (if next.opens then Opens next.top_leaf (bottom_key seed next.top_leaf) ∷ [] else [])
    ++ Binds next.top_leaf next.leaf message ∷ []

-- `signed`, the top leaf and the leaf, as a line; 32 is the blank, and 10 the line feed
abbrev pub first_line : ℕ → ℕ → List ℕ
first_line j q = codes "signed " ++ number_text j ++ 32 ∷ [] ++ number_text q ++ 10 ∷ []

-- the signature by leaf q of the bottom key that top leaf j signs
abbrev pub signature_by : HssSeed → ℕ → ℕ → List ℕ → List ℕ
signature_by seed j q message = hss_signature_of (top_secret seed) j (bottom_secret seed j) q message

-- the answer: that line, and the signature as a hex on a line of its own
unfoldable pub signed_text : HssSeed → ℕ → ℕ → List ℕ → List ℕ
signed_text seed j q message = first_line j q ++ hex_text (signature_by seed j q message) ++ 10 ∷ []

-- the answer, or the cause of a refusal, and the entries that are added, in order
pub record Signing : Type 0 where
  pub says : Result (List ℕ) (List ℕ)
  pub adds : List Entry

abbrev pub refuses : List ℕ → ℕ → Signing
refuses words number = record { says = Err (words ++ 32 ∷ number_text number); adds = [] }

abbrev pub signs : HssSeed → List ℕ → NextLeaf → Signing
signs seed message next = record {
  says = Ok (signed_text seed next.top_leaf next.leaf message);
  adds = entries_added seed next message;
}

-- a message of 1 to 128 bytes
abbrev pub is_signable : List ℕ → Bool
is_signable message = nat_le 1 (length message) && nat_le (length message) most_length

-- A signer with these records signs a message by the next leaf. It refuses one of another length, and then, where no
-- leaf is left, every message.
unfoldable pub signing : HssSeed → List (List ℕ) → List ℕ → Signing
signing seed records message =
    let entries = entries_of records in
    if is_signable message
    then option_map_or (signs seed message) (next_leaf seed entries)
    (refuses (codes "key-spent") (opened_count entries))
    else refuses (codes "bad-length") (length message)

-- what a run writes whose signing wasn't stopped
abbrev pub said_output : Result (List ℕ) (List ℕ) → Output
said_output (Ok text) = record { status = Done; answers = []; last = text }
said_output (Err cause) = record { status = Refused; answers = []; last = refused_text cause }
