-- Messages that a run of a two-level signer signs.
use Rattle.std.specs.Prelude.{◌≡◌, ℕ, true, List, Option, Some, Ok}
use Rattle.crash_disk.specs.Disk.{History, content}
use Rattle.node_journal.specs.Role.{role_in}
use Rattle.run_endings.specs.declared.status.Status.{Status}
use Rattle.run_endings.specs.Statuses.{IsDoneUnlessFailed}
use Rattle.hss_keys.specs.Entries.{entries_of}
use Rattle.hss_keys.specs.Form.{level_records_in}
use Rattle.hss_runs.specs.declared.next.NextLeaf.{NextLeaf}
use Rattle.hss_runs.specs.Identity.{signer_kinds, seed_of}
use Rattle.hss_runs.specs.Signing.{is_signable, next_leaf}

-- Over disks that tell their history, a run with this status that was to sign this message. Where the image of the notes
-- spells records of a signer, and that of the leaves records of its key of which a leaf is left, and the message has 1
-- to 128 bytes, the run is done, unless something fails.
abbrev pub SigningComplete : {D : Type 0} → (D → Option History) → Status → List ℕ → D → D → Type 0
SigningComplete told status message notes leaves =
    (of_notes of_leaves : History) (records levels : List (List ℕ)) (next : NextLeaf)
    → told notes ≡ Some of_notes → told leaves ≡ Some of_leaves
    → role_in signer_kinds (content of_notes) ≡ Ok records
    → level_records_in (seed_of records) (content of_leaves) ≡ Ok levels
    → is_signable message ≡ true → next_leaf (seed_of records) (entries_of levels) ≡ Some next
    → IsDoneUnlessFailed status
