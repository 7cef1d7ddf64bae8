-- `and` makes the empty struct, at the history that its clause names. Assumes `Logic`.
use Rattle.crash_disk.proofs.Words.{[], ◌∷◌, refl, proved, named, vstruct, vnil, ‵, raw, ◌⊛◌, ◌$◌, ◌∵◌, !, qed, move, keep, split, suffices, done, agg, enter, returns, no_more, alloc_all, pass_all, free_all, look_at, sets, bool, yes, bool_vals, bool_Tells, owns, shr_vals, shr_Tells, pure_i, plain, types_at, named_lft, alive, says, Stays, stay_none, stay_none_ref, walk_of, ends_at, Goes-none, Goes-none_ref, History, with_call, step_of, the_row}
use Rattle.crash_disk.specs.contracts.past.AskedStep as asked
use Rattle.crash_disk.specs.contracts.past.Past.and as f
use Rattle.crash_disk.proofs.past.Past.and.Statement.{statement}
use Rattle.crash_disk.proofs.past.Past.and.Code as code

abbrev stayed : Stays f.ended.signature.params f.ended.kept
stayed = (
  stay_none_ref (0 ∷ []) tt (plain (λ _. the_row)) yes,
  (stay_none_ref (1 ∷ []) tt (plain (λ κs. asked.the_row (named_lft 3 2 tt κs))) yes, (stay_none (λ _. bool) yes, tt)),
)

abbrev made : History → the_row.Denot
made history = record { history = history }

pub and_spec : {M : Type 1} → statement M
and_spec 𝓤 𝓛 𝓜 𝓡 wired =
    let c = f.clauses 𝓛 𝓜.mem 𝓡.returns in let W = walk_of 𝓛 f.ended stayed c in
    proved 𝓛 f.ended stayed c 𝓜 𝓡 (
      Goes-none_ref 𝓛 3 (0 ∷ []) tt (plain (λ _. the_row)) yes,
      (
        Goes-none_ref 𝓛 3 (1 ∷ []) tt (plain (λ κs. asked.the_row (named_lft 3 2 tt κs))) yes,
        (Goes-none 𝓛 3 (λ _. bool) yes (λ κs x f. refl), tt),
      ),
    )
    f.Key.name code.function (code.unfolded 𝓤 𝓛.H 𝓜 𝓡 wired)
    (λ κs. (shr_vals, (shr_vals, (bool_vals, tt))))
    (λ κs. (
      shr_Tells (named 0) κs.0 the_row,
      (shr_Tells (named 1) κs.1.0 (asked.the_row (named_lft 3 2 tt κs)), (bool_Tells, tt)),
    ))
    (λ κs qs bounds a g are.
    let y : W.Ghost = ((κs, qs, bounds, a, (shr_vals a.0, (shr_vals a.1.0, (bool_vals a.1.1.0, tt)))), g) in
    let passed = owns (types_at f.signature.params κs) a y.0.4 in
    let new = made (with_call (step_of a.1.0.now) a.1.1.0 a.0.now.history) in
    qed 𝓛 ((raw (alive 𝓛 f.signature κs qs) ⊛ ‵ passed) ∷ raw ((c κs a).requires g) ∷ []) ∵
    keep ! (0 ∷ []) $ split ! $
    enter ! _ _ _ _ _ $ alloc_all ! (λ l. pass_all ! refl ((tt, tt), ((tt, tt), ((tt, tt), tt))) $
    sets ! (agg ! (no_more !)) refl (tt, tt) $
    returns ! (look_at ! 0 refl) $ free_all ! refl $
    suffices ! _ (ends_at 𝓛 f.ended stayed c y (vstruct vnil) new (tt, (tt, (tt, tt))) (tt, (tt, (tt, tt)))) $
    says ! refl $
    pure_i ! (the_row.own_val new (vstruct vnil ∷ [])) ((λ vss. (tt, tt)), tt) ((tt, (refl, tt)), tt) $
    move ! (1 ∷ 2 ∷ 0 ∷ []) $ done !))
