-- What the forms of a run need: the test of `verify`, and which of a run's objects a form uses.
use Rattle.std.specs.Prelude.{ℕ, ◌==◌, ◌&&◌, Bool, true, false, List, length, Option, Some, None}
use Rattle.lms_sign.specs.Valid.{is_valid}
use Rattle.run_words.specs.{declared.form.Form.{Form}, declared.form.Form.TheVariants.{Replay, Brief, Wallet, Operator, Watcher, InitWallet, InitOperator, InitWatcher, Make, Verify, HssInit, HssSign, HssVerify, Audit, Archive}}

-- the key has 56 bytes and reads, and the signature of the message is valid under it (RFC 8554)
unfoldable pub is_verified : List ℕ → List ℕ → List ℕ → Bool
is_verified key message signature = (length key == 56) && is_valid key message signature

-- whether a form reads the input
abbrev pub reads_input : Option Form → Bool
reads_input None = false
reads_input (Some Replay) = true
reads_input (Some Brief) = true
reads_input (Some Wallet) = true
reads_input (Some Operator) = true
reads_input (Some Watcher) = true
reads_input (Some (InitWallet tag account seed types)) = false
reads_input (Some (InitOperator tag account key_seed)) = false
reads_input (Some (InitWatcher tag account)) = false
reads_input (Some (Make seed count)) = false
reads_input (Some (Verify key message signature)) = false
reads_input (Some (HssInit seed)) = false
reads_input (Some (HssSign message)) = false
reads_input (Some (HssVerify key message signature)) = false
reads_input (Some (Audit key receipt)) = true
reads_input (Some Archive) = true

-- whether what it reads is a schedule
abbrev pub reads_schedule : Option Form → Bool
reads_schedule (Some Replay) = true
reads_schedule (Some Brief) = true
reads_schedule form = false

-- whether it uses the disk of the notes
abbrev pub uses_notes : Option Form → Bool
uses_notes None = false
uses_notes (Some Replay) = false
uses_notes (Some Brief) = false
uses_notes (Some Wallet) = true
uses_notes (Some Operator) = true
uses_notes (Some Watcher) = true
uses_notes (Some (InitWallet tag account seed types)) = true
uses_notes (Some (InitOperator tag account key_seed)) = true
uses_notes (Some (InitWatcher tag account)) = true
uses_notes (Some (Make seed count)) = false
uses_notes (Some (Verify key message signature)) = false
uses_notes (Some (HssInit seed)) = true
uses_notes (Some (HssSign message)) = true
uses_notes (Some (HssVerify key message signature)) = false
uses_notes (Some (Audit key receipt)) = false
uses_notes (Some Archive) = false

-- whether it may use the disk of the leaves, which wallets, operators with a key and two-level signers have
abbrev pub uses_leaves : Option Form → Bool
uses_leaves (Some Wallet) = true
uses_leaves (Some Operator) = true
uses_leaves (Some (InitWallet tag account seed types)) = true
uses_leaves (Some (InitOperator tag account (Some seed))) = true
uses_leaves (Some (HssInit seed)) = true
uses_leaves (Some (HssSign message)) = true
uses_leaves form = false
