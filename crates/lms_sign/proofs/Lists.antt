-- Strings one after another, and the steps of a chain.
use Rattle.std.proofs.Common.{◌≡◌, ℕ, zero, suc, ◌+◌, ◌/◌, ◌<◌, List, ◌++◌, take, drop, refl, sym, ap, ◌∙◌, add-one, add-zero, append_assoc, append-nil, arith, get_or, inl, inr, length, set, zero-add}
use Rattle.std.proofs.lemmas.Bool.{cases_lt}
use Rattle.std.proofs.lemmas.List.{get_or-set_other, get_or-set_same, take_all}
use Rattle.sha2.proofs.Facts256.{length-sha256}
use Rattle.lms_sign.specs.declared.secret.Secret.{Secret}
use Rattle.lms_sign.specs.Types.{u8str, u16str, u32str}
use Rattle.lms_sign.specs.Valid.{ancestor_node, parent_node}
use Rattle.lms_sign.specs.OneTime.{chain_at, chain_step, chain_value, concatenation}

pub concatenation-none : (f : ℕ → List ℕ) (xs : List ℕ) → xs ++ concatenation f 0 ≡ xs
unfolding concatenation
concatenation-none f xs = append-nil xs

pub concatenation-more : (f : ℕ → List ℕ) (n : ℕ) (xs : List ℕ)
    → xs ++ concatenation f (n + 1) ≡ xs ++ concatenation f n ++ f n
unfolding concatenation
concatenation-more f n xs = rw add-one (sym (append_assoc xs (concatenation f n) (f n)))

pub chain_value-none : (id : List ℕ) (q i j : ℕ) (n : ℕ) (string : List ℕ) → n ≡ 0
    → chain_value id q i j n string ≡ string
unfolding chain_value
chain_value-none id q i j n string e = rw e refl

-- a steps and then b steps are a + b steps
pub chain_value-add : (id : List ℕ) (q i j a b : ℕ) (string : List ℕ)
    → chain_value id q i j (a + b) string ≡ chain_value id q i (j + a) b (chain_value id q i j a string)
unfolding chain_value
chain_value-add id q i j zero b string = rw (zero-add, add-zero) refl
chain_value-add id q i j (suc a) b string =
    let steps : suc a + b ≡ suc (a + b) = omega arith in
    let place : j + suc a ≡ j + 1 + a = omega arith in
    rw (steps, place) (chain_value-add id q i (j + 1) a b (chain_step id q i j string))

-- the last of some steps
pub chain_value-last : (id : List ℕ) (q i j n : ℕ) (string : List ℕ)
    → chain_value id q i j (n + 1) string ≡ chain_step id q i (j + n) (chain_value id q i j n string)
unfolding chain_value
chain_value-last id q i j n string = chain_value-add id q i j n 1 string

length-chain_value : (id : List ℕ) (q i j n : ℕ) (string : List ℕ) → length string ≡ 32
    → length (chain_value id q i j n string) ≡ 32
unfolding chain_value
length-chain_value id q i j zero string e = e
length-chain_value id q i j (suc n) string e = length-chain_value id q i (j + 1) n _ (length-sha256 _)

pub length-chain_at : (secret : Secret) (q i n : ℕ) → length (chain_at secret q i n) ≡ 32
length-chain_at secret q i n = length-chain_value secret.id q i 0 n _ (length-sha256 _)

pub ancestor_node-none : (id : List ℕ) (n r : ℕ) (path node : List ℕ) → n ≡ 0 → ancestor_node id n r path node ≡ node
unfolding ancestor_node
ancestor_node-none id n r path node e = rw e refl

pub ancestor_node-more : (id : List ℕ) (n m r : ℕ) (path node : List ℕ) → n ≡ m + 1
    → ancestor_node id n r path node ≡ ancestor_node id m (r / 2) (drop 32 path)
    (parent_node id r (take 32 path) node)
unfolding ancestor_node
ancestor_node-more id n m r path node e = rw (e, add-one) refl

-- bytes all_of_front up to the end are all that there is
pub all_of_front : (out xs : List ℕ) (n : ℕ) → length out ≡ n → take n out ≡ xs → out ≡ xs
all_of_front out xs n e h = sym (take_all n out (omega arith)) ∙ h

-- what is all_of_front first
pub put_first : (out s : List ℕ) (m : ℕ) → take (0 + length s) out ≡ s → length s ≡ m → take m out ≡ s
put_first out s m e l = rw (← l) (rw zero-add at e)

-- bytes xs up to n, and then s from n on, are xs followed by s up to m
pub put_on : (mid out s xs : List ℕ) (n m : ℕ) → take n mid ≡ xs → take (n + length s) out ≡ take n mid ++ s
    → n + length s ≡ m → take m out ≡ xs ++ s
put_on mid out s xs n m h e l = rw (← l) (e ∙ ap (λ t. t ++ s) h)

pub length-u8str : (n : ℕ) → length (u8str n) ≡ 1
unfolding u8str
length-u8str n = refl

pub length-u16str : (n : ℕ) → length (u16str n) ≡ 2
unfolding u16str
length-u16str n = refl

pub length-u32str : (n : ℕ) → length (u32str n) ≡ 4
unfolding u32str
length-u32str n = refl

-- pieces that are the same one by one are the same one after another
pub concatenation-same : (f g : ℕ → List ℕ) (n : ℕ) → ((i : ℕ) → i < n → f i ≡ g i)
    → concatenation f n ≡ concatenation g n
unfolding concatenation
concatenation-same f g zero same = refl
concatenation-same f g (suc n) same = rw (
  concatenation-same f g n (λ i below. same i (omega arith)),
  same n (omega arith),
) refl

-- element k of a list set, when those before it are
pub set_next : {X : Type 0} (f : ℕ → X) (xs : List X) (k : ℕ) (v d : X) → k < length xs → v ≡ f k
    → ((n : ℕ) → n < k → get_or xs n d ≡ f n) → (n : ℕ) → n < k + 1 → get_or (set xs k v) n d ≡ f n
set_next f xs k v d within here before n below = elim (cases_lt n k) [
  | inl earlier ↦ get_or-set_other xs k n v d (omega arith) ∙ before n earlier
  | inr last ↦
      let same : n ≡ k = omega arith in
      rw same (get_or-set_same xs k v d within ∙ here)
]
