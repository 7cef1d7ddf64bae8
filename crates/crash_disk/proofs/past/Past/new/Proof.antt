-- `new` makes the empty struct, at the history that its clause names. Assumes `Logic`.
use Rattle.crash_disk.proofs.Words.{[], ◌∷◌, refl, proved, named, vstruct, vnil, ‵, raw, ◌⊛◌, ◌$◌, ◌∵◌, !, qed, move, keep, split, suffices, done, agg, enter, returns, no_more, alloc_all, pass_all, free_all, look_at, sets, u8, yes, owns, pure_i, plain, types_at, shr_slice_vals, shr_slice_Tells, alive, says, Stays, stay_none_slice, walk_of, ends_at, Goes-none_slice, History, fresh_history, the_row}
use Rattle.crash_disk.specs.contracts.past.Past.new as f
use Rattle.crash_disk.proofs.past.Past.new.Statement.{statement}
use Rattle.crash_disk.proofs.past.Past.new.Code as code

abbrev stayed : Stays f.ended.signature.params f.ended.kept
stayed = (stay_none_slice (0 ∷ []) tt (plain (λ _. u8)) yes, tt)

abbrev made : History → the_row.Denot
made history = record { history = history }

pub new_spec : {M : Type 1} → statement M
new_spec 𝓤 𝓛 𝓜 𝓡 wired =
    let c = f.clauses 𝓛 𝓜.mem 𝓡.returns in let W = walk_of 𝓛 f.ended stayed c in
    proved 𝓛 f.ended stayed c 𝓜 𝓡 (Goes-none_slice 𝓛 1 (0 ∷ []) tt (plain (λ _. u8)) yes, tt)
    f.Key.name code.function (code.unfolded 𝓤 𝓛.H 𝓜 𝓡 wired)
    (λ κs. (shr_slice_vals, tt)) (λ κs. (shr_slice_Tells (named 0) κs.0 u8, tt)) (λ κs qs bounds a g are.
    let y : W.Ghost = ((κs, qs, bounds, a, (shr_slice_vals a.0, tt)), g) in
    let passed = owns (types_at f.signature.params κs) a y.0.4 in
    let new = made (fresh_history a.0.now) in
    qed 𝓛 ((raw (alive 𝓛 f.signature κs qs) ⊛ ‵ passed) ∷ raw ((c κs a).requires g) ∷ []) ∵
    keep ! (0 ∷ []) $ split ! $
    enter ! _ _ _ _ _ $ alloc_all ! (λ l. pass_all ! refl ((tt, (tt, (record { fits = are.0.0.1.0 }, tt))), tt) $
    sets ! (agg ! (no_more !)) refl (tt, tt) $
    returns ! (look_at ! 0 refl) $ free_all ! refl $
    suffices ! _ (ends_at 𝓛 f.ended stayed c y (vstruct vnil) new (tt, tt) (tt, tt)) $ says ! refl $
    pure_i ! (the_row.own_val new (vstruct vnil ∷ [])) ((λ vss. (tt, tt)), tt) ((tt, (refl, tt)), tt) $
    move ! (1 ∷ 2 ∷ 0 ∷ []) $ done !))
