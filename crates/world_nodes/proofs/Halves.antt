-- What a command, an opening and a crash do to one disk of a node and to the records that it has there.
use Rattle.world_nodes.proofs.Words.{◌≡◌, ◌+◌, [], ℕ, Bool, true, false, cond, List, Option, Some, None, Result, Ok, Err, refl, sym, ◌∙◌, ap, subst, arith, option_map, unwrap_or, result_ok, common_steps, content, FaultPlan, after_calls, passing, MemState, plan_of, image_after, Outcome, content_may_be_left, fresh_disk_leaves_itself, listed-after_calls, journal_in, Keeps, IsSettled, NotesState, Did, Opened, Kinds, are_of, read_of_kinds, role_in, leaf_records_read_of, leaf_records_in_of, with_record, EachKeeps, with_append, with_opening, mem_told, mem_plan, mem_faults, NoneListed, Half, half_of, kept_half, crashed, IsLeft}
use Rattle.crash_disk.proofs.Images.{outcomes}
use Rattle.leaf_journal.proofs.Form.{all_same}

-- ---- plans

-- calls leave none listed
pub planned_listed : (count : ℕ) (old new : MemState) → mem_plan new ≡ option_map (after_calls count) (mem_plan old)
    → NoneListed old → NoneListed new
planned_listed count old new is none =
    let same : plan_of new ≡ after_calls count (plan_of old) = cc is in
    record {
      listed = λ n. ap (λ (p : FaultPlan). p.listed n) same
          ∙ (listed-after_calls count n (plan_of old) ∙ none.listed (count + n));
    }

-- ---- a command

-- what a command that went through did to one half, to which it added this record, or none
pub record HalfRan (added : Option (List ℕ)) (old new : Half) : Type 0 where
  pub records : new.records ≡ with_record old.records added
  pub told : new.disk.history ≡ with_append old.records added old.disk.history
  pub keeps : EachKeeps old.records old.disk.history → EachKeeps new.records new.disk.history
  pub listed : NoneListed old.disk → NoneListed new.disk

-- a half that stays
pub half_stays : (old new : Half) → new.disk ≡ old.disk → new.records ≡ old.records → HalfRan None old new
half_stays old new disk records = grind (arith, common_steps) steps 20000

pub half_ran : (added : Option (List ℕ)) (old new : NotesState MemState)
    → Did mem_told mem_plan mem_faults added old None new → HalfRan added (half_of old) (half_of new)
half_ran None old new did = grind (arith, common_steps, half_stays) steps 20000
half_ran (Some body) old new did = record {
  records = did.records;
  told = cc did.made.calls;
  keeps = λ before. (did.settled new.disk.history refl).images;
  listed = planned_listed 4 old.disk new.disk did.made.planned.1;
}

pub stays_open : (added : Option (List ℕ)) (old new : NotesState MemState)
    → Did mem_told mem_plan mem_faults added old None new → new.closed ≡ false
stays_open None old new did = ap (λ (s : NotesState MemState). s.closed) did.1 ∙ did.0
stays_open (Some body) old new did = did.is_open

-- ---- an opening

pick : (b : Bool) (records found : List (List ℕ)) (place : ℕ) → cond b (Ok records) (Err place) ≡ Ok found
    → records ≡ found
pick true records found place is = cc is
pick false records found place is = absurd (cc is)

read_kept : (kinds : Kinds) (read : Result (List (List ℕ)) ℕ) (found : List (List ℕ))
    → read_of_kinds kinds read ≡ Ok found → result_ok read ≡ Some found
read_kept kinds (Ok records) found is = ap Some (pick (are_of kinds records) records found _ is)
read_kept kinds (Err place) found is = absurd (cc is)

-- what a role's reader reads is kept, and what the reader of leaves reads
pub role_reads : (kinds : Kinds) (image : List ℕ) (found : List (List ℕ)) → role_in kinds image ≡ Ok found
    → Keeps found image
role_reads kinds image found is = read_kept kinds (journal_in image) found is

leaf_kept : (is_message : List ℕ → Bool) (leaves : ℕ) (read : Result (List (List ℕ)) ℕ) (found : List (List ℕ))
    → leaf_records_read_of is_message leaves read ≡ Ok found → result_ok read ≡ Some found
leaf_kept is_message leaves (Ok records) found is = ap Some (all_same is_message leaves records found is)
leaf_kept is_message leaves (Err place) found is = absurd (cc is)

pub leaf_reads : (is_message : List ℕ → Bool) (leaves : ℕ) (image : List ℕ) (found : List (List ℕ))
    → leaf_records_in_of is_message leaves image ≡ Ok found → Keeps found image
leaf_reads is_message leaves image found is = leaf_kept is_message leaves (journal_in image) found is

-- what an opening of a disk that keeps these records did
pub record HalfOpened (records : List (List ℕ)) (old : MemState) (new : NotesState MemState) : Type 0 where
  pub records_are : new.records ≡ records
  pub told : new.disk.history ≡ with_opening old.history
  pub settled : IsSettled new.disk.history records
  pub planned : plan_of new.disk ≡ after_calls 3 (plan_of old)
  pub passes : passing 3 (plan_of old) ≡ 3
  pub is_open : new.closed ≡ false

-- the reader of an opening gives what an image keeps
abbrev pub Reads : (List ℕ → Result (List (List ℕ)) ℕ) → Type 0
Reads read = (image : List ℕ) (found : List (List ℕ)) → read image ≡ Ok found → Keeps found image

pub half_opened : (read : List ℕ → Result (List (List ℕ)) ℕ) → Reads read → (records : List (List ℕ)) (old : MemState)
    (new : NotesState MemState) → Opened mem_told mem_plan mem_faults read old new → EachKeeps records old.history
    → HalfOpened records old new
half_opened read reads records old new opened keeps =
    let same : new.records ≡ records =
    (let a = reads (content old.history) new.records (opened.kept old.history refl) in
    let b = keeps (content old.history) (content_may_be_left old.history) in cc (a, b)) in
    record {
      records_are = same;
      told = cc opened.made.calls;
      settled = subst (IsSettled new.disk.history) same (opened.settled new.disk.history refl);
      planned = cc opened.made.planned.1;
      passes = opened.made.planned.0 (plan_of old) refl;
      is_open = opened.is_open;
    }

-- none is listed behind an opening
pub opened_listed : (records : List (List ℕ)) (old : MemState) (new : NotesState MemState)
    → HalfOpened records old new → NoneListed old → NoneListed new.disk
opened_listed records old new opened none = planned_listed 3 old new.disk (ap Some opened.planned) none

-- ---- a crash

pub left_half : (records : List (List ℕ)) (outcome : Outcome) (disk : MemState)
    → Keeps records (image_after outcome disk.history) → NoneListed disk
    → IsLeft records (kept_half (crashed outcome disk))
left_half records outcome disk keeps none = record {
  records_are = ap (λ (k : Option (List (List ℕ))). unwrap_or k []) keeps;
  keeps = λ image may.
      subst (Keeps records) (sym (fresh_disk_leaves_itself (image_after outcome disk.history) image may)) keeps;
  listed = record { listed = none.listed };
}

-- a disk whose images keep them
pub kept_left : (records : List (List ℕ)) (outcome : Outcome) (disk : MemState) → EachKeeps records disk.history
    → NoneListed disk → IsLeft records (kept_half (crashed outcome disk))
kept_left records outcome disk keeps none =
    left_half records outcome disk (keeps (image_after outcome disk.history) (outcomes outcome disk.history)) none
