use Rattle.std.proofs.Common.{◌≡◌, List, false, length, take, find, Some, None, sym, ◌∙◌, ap}
use Rattle.std.specs.Prelude.{slice_index_or, nat_lt}
use Rattle.std.specs.Option.{option_copied}
use Rattle.std.proofs.lemmas.List.{length-take-le}
use Rattle.plasma_tx.specs.declared.links.Link.{Link}
use Rattle.wallet_node.specs.SharedHistories.{history_at, is_place_of}
use Rattle.wallet_node.proofs.SharedHistories.{spends-found, none-found, found-within, history-read, none-read}
use Rattle.wallet_node.proofs.kept_coins.KeptCoins.spends_at.Goals as goal

pub returns-in_default : goal.returns-in_default
returns-in_default c =
    let histories = c.self.inside.histories.items in
    let places = c.self.inside.places.items in
    let found : find (is_place_of c.args.coin c.args.tip) places ≡ None =
    sym (ap (λ o. option_copied o) (sym c.in_default.is) ∙ c.first_of.ensures
    ∙ ap (find (is_place_of c.args.coin c.args.tip)) c.deref.ensures.value) in
    rw (← c.self.view_is) (sym (none-found histories c.args.coin c.args.tip places found))

pub slice_bounds-result-end-in-Some-get : goal.slice_bounds-result-end-in-Some-get
slice_bounds-result-end-in-Some-get c =
    let histories = c.self.inside.histories.items in
    let places = c.self.inside.places.items in
    let place = c.in-Some.place.now in
    let found : find (is_place_of c.args.coin c.args.tip) places ≡ Some place =
    sym (ap (λ o. option_copied o) (sym c.in-Some.is) ∙ c.first_of.ensures
    ∙ ap (find (is_place_of c.args.coin c.args.tip)) c.deref.ensures.value) in
    let within = found-within histories c.args.coin c.args.tip places place c.self.invariant found in
    let read : c.in-Some-get.history.now ≡ history_at histories place.history =
    history-read histories place.history c.in-Some-get.history.now
    (c.in-Some-get.ensures.lookup.0
    ∙ ap (λ (l : List (List Link)). nat_lt place.history (length l)) c.deref-2.ensures.value)
    (c.in-Some-get.ensures.lookup.1
    ∙ ap (λ (l : List (List Link)). slice_index_or l place.history c.in-Some-get.history.now)
    c.deref-2.ensures.value) in
    let lent : c.as_slice.result.now ≡ history_at histories place.history = c.as_slice.ensures ∙ read in
    rw lent (sym (length-take-le place.count (history_at histories place.history) within))

pub returns-in-Some-get : goal.returns-in-Some-get
returns-in-Some-get c =
    let histories = c.self.inside.histories.items in
    let places = c.self.inside.places.items in
    let place = c.in-Some.place.now in
    let found : find (is_place_of c.args.coin c.args.tip) places ≡ Some place =
    sym (ap (λ o. option_copied o) (sym c.in-Some.is) ∙ c.first_of.ensures
    ∙ ap (find (is_place_of c.args.coin c.args.tip)) c.deref.ensures.value) in
    let read : c.in-Some-get.history.now ≡ history_at histories place.history =
    history-read histories place.history c.in-Some-get.history.now
    (c.in-Some-get.ensures.lookup.0
    ∙ ap (λ (l : List (List Link)). nat_lt place.history (length l)) c.deref-2.ensures.value)
    (c.in-Some-get.ensures.lookup.1
    ∙ ap (λ (l : List (List Link)). slice_index_or l place.history c.in-Some-get.history.now)
    c.deref-2.ensures.value) in
    ap (take place.count) (c.as_slice.ensures ∙ read)
    ∙ rw (← c.self.view_is) (spends-found histories c.args.coin c.args.tip places place found)

pub returns-in-None : goal.returns-in-None
returns-in-None c =
    let histories = c.self.inside.histories.items in
    let places = c.self.inside.places.items in
    let place = c.in-Some.place.now in
    let found : find (is_place_of c.args.coin c.args.tip) places ≡ Some place =
    sym (ap (λ o. option_copied o) (sym c.in-Some.is) ∙ c.first_of.ensures
    ∙ ap (find (is_place_of c.args.coin c.args.tip)) c.deref.ensures.value) in
    let past : false ≡ nat_lt place.history (length histories) =
    c.in-None.ensures.lookup.0
    ∙ ap (λ (l : List (List Link)). nat_lt place.history (length l)) c.deref-2.ensures.value in
    none-read histories place.history place.count past
    ∙ rw (← c.self.view_is) (spends-found histories c.args.coin c.args.tip places place found)
