-- What lines show, by what they accept.
use Rattle.std.proofs.Common.{◌≡◌, Bor, ℕ, List, [], map, refl, ap}
use Rattle.plasma_tx.specs.declared.opening.RawOpening.{RawOpening}
use Rattle.plasma_tx.specs.declared.call.RootCall.{RootCall}
use Rattle.world_rules.specs.Exhibits.{openings_of, coin_of}
use Rattle.trace_exhibits.proofs.Reading.{openings-accepted}
use Rattle.trace_exhibits.specs.Told.{opened, shown_of}
use Rattle.trace_exhibits.specs.Lines.{accepts, event_of}
use Rattle.trace_exhibits.specs.declared.lines.ExhibitLine.{ExhibitLine}

pub shown-accepted : (coin : ℕ) (openings : List RawOpening)
    → shown_of (accepts coin openings) ≡ map (opened coin) openings
unfolding coin_of
shown-accepted coin openings = ap (map (opened coin)) (openings-accepted coin openings)

pub shown-nothing : (line : ExhibitLine) → ((call : Bor RootCall) → line ≡ ExhibitLine.Joins call → ⊥)
    → ((coin : ℕ) (openings : Bor (List RawOpening)) → line ≡ ExhibitLine.Shows coin openings → ⊥)
    → shown_of (event_of line) ≡ []
unfolding coin_of openings_of
shown-nothing (ExhibitLine.Declares w me) joins shows = refl
shown-nothing (ExhibitLine.Binds w body) joins shows = refl
shown-nothing (ExhibitLine.Joins call) joins shows = absurd (joins call refl)
shown-nothing (ExhibitLine.Shows coin openings) joins shows = absurd (shows coin openings refl)
shown-nothing ExhibitLine.Other joins shows = refl
