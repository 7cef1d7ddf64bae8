-- No two strings of the worked openings have one digest: what the digest keeps says at which level of which leaf's way
-- up a string stands.
use Rattle.money_laws.proofs.Basics.{◌≡◌, ℕ, zero, suc, ◌+◌, ◌<◌, ◌==◌, ◌||◌, not, Bool, true, false, if◌then◌else◌, List, [], ◌∷◌, slice_index_or, inl, inr, refl, sym, ap, ◌∙◌, arith, list_any, flat_map, range_with_len, bytes_eq, lt-ltb, and_parts, false_from_ne_true, true≢false, bytes_eq-Decides, common_steps}
use Rattle.money_laws.proofs.CoinWords.{proof_path, sibling_at, parent_string, hashed_string, hashed_strings, bit_of, leaf_string, node_string, subtree_digest, default_digest, Has, has-map, has-flat_map}
use Rattle.money_laws.proofs.WorldWords.{do_clash, has_clash, byte, print, digest, alone}
use Rattle.std.proofs.lemmas.List.FromFn.{get_or-map-range_with_len}
use Rattle.std.proofs.lemmas.Nat.Bits.{bit_at-zero}

pub byte-is : (n : ℕ) → n < 256 → byte n ≡ n
byte-is n small = ap (λ b. if b then n else 0) (lt-ltb n 256 small)

node-prints : (a b i j : ℕ) → digest (node_string (print a i) (print b j)) ≡ print (byte a + 1) (byte i + byte j)
unfolding digest
node-prints a b i j = refl

-- a node above a level, whose children's leaves are these
above : (l i j : ℕ) → l < 64 → i + j < 256 → digest (node_string (print l i) (print l j)) ≡ print (suc l) (i + j)
above l i j low small =
    let level : byte l + 1 ≡ suc l = omega (arith, byte-is l (omega (arith, low))) in
    let both : byte i + byte j ≡ i + j = omega (
      arith,
      byte-is i (omega (arith, small)),
      byte-is j (omega (arith, small)),
    ) in
    node-prints l l i j ∙ (λ k. print (level k) (both k))

default-prints : (l : ℕ) → l < 65 → default_digest digest l ≡ print l 0
unfolding subtree_digest digest
default-prints zero low = refl
default-prints (suc l) low =
    let below = default-prints l (omega (arith, low)) in
    (λ k. digest (node_string (below k) (below k))) ∙ above l 0 0 (omega (arith, low)) (omega arith)

sibling-prints : (l : ℕ) → l < 64 → slice_index_or (proof_path digest alone) l [] ≡ print l 0
unfolding proof_path
sibling-prints l low =
    let clear : bit_of 0 l ≡ false = ap (λ n. n == 1) (bit_at-zero l) in
    get_or-map-range_with_len (sibling_at digest alone) 0 64 l l [] low (omega arith)
    ∙ ap (λ b. if b then slice_index_or {A = List ℕ} [] 0 [] else default_digest digest l) clear
    ∙ default-prints l (omega (arith, low))

parent-prints : (b : Bool) (l i : ℕ) → l < 64 → i < 256
    → digest (parent_string b (print l i) (print l 0)) ≡ print (suc l) i
parent-prints false l i low small =
    let same : i + 0 ≡ i = omega arith in
    above l i 0 low (omega (arith, small)) ∙ ap (λ n. print (suc l) n) same
parent-prints true l i low small =
    let same : 0 + i ≡ i = omega arith in
    above l 0 i low (omega (arith, small)) ∙ ap (λ n. print (suc l) n) same

module _ (c i : ℕ) (small : i < 256) (leaf : List ℕ) (is : digest (leaf_string leaf) ≡ print 0 i) where
  -- on the way up from a leaf
  string-prints : (l : ℕ) → l < 65 → digest (hashed_string digest c leaf (proof_path digest alone) l) ≡ print l i
  unfolding hashed_string
  string-prints zero low = is
  string-prints (suc l) low =
      grind (arith, common_steps, string-prints l (omega (arith, low)), sibling-prints, parent-prints)

-- what was printed
level-printed : (l m i j : ℕ) → l < 256 → m < 256 → print l i ≡ print m j → l ≡ m
level-printed l m i j low less same =
    sym (byte-is l low) ∙ ap (λ (xs : List ℕ). slice_index_or xs 0 0) same ∙ byte-is m less

leaf-printed : (l m i j : ℕ) → i < 256 → j < 256 → print l i ≡ print m j → i ≡ j
leaf-printed l m i j low less same =
    sym (byte-is i low) ∙ ap (λ (xs : List ℕ). slice_index_or xs 1 0) same ∙ byte-is j less

-- a string is one of a range
in-range : (a n k : ℕ) → Has (range_with_len a n) k → k < a + n
in-range a zero k there = absurd there
in-range a (suc n) k (inl is) = omega (arith, is)
in-range a (suc n) k (inr there) = omega (arith, in-range (a + 1) n k there)

-- strings that differ by their digests don't clash
module _ (dig : List ℕ → List ℕ) where
  none-of : (s : List ℕ) (strings : List (List ℕ))
      → ((t : List ℕ) → Has strings t → dig s ≡ dig t → s ≡ t) → list_any (do_clash dig s) strings ≡ false
  none-of s [] apart = refl
  none-of s (t ∷ strings) apart =
      ap (λ b. b || list_any (do_clash dig s) strings)
      (false_from_ne_true (do_clash dig s t) (λ yes.
      let parts = and_parts (not (bytes_eq s t)) (bytes_eq (dig s) (dig t)) yes in
      let same = apart t (inl refl) ((bytes_eq-Decides (dig s) (dig t)).0 parts.1) in
      true≢false (sym parts.0 ∙ ap not ((bytes_eq-Decides s t).1 same))))
      ∙ none-of s strings (λ u there. apart u (inr there))

  none-clash : (strings : List (List ℕ))
      → ((s t : List ℕ) → Has strings s → Has strings t → dig s ≡ dig t → s ≡ t) → has_clash dig strings ≡ false
  unfolding has_clash
  none-clash [] apart = refl
  none-clash (s ∷ strings) apart =
      ap (λ b. b || has_clash dig strings)
      (none-of s strings (λ t there. apart s t (inl refl) (inr there)))
      ∙ none-clash strings (λ t u first second. apart t u (inr first) (inr second))

-- the leaves of these marks, at a coin
module _ (c : ℕ) (text : ℕ → List ℕ) (marks : List ℕ)
    (reads : (i : ℕ) → Has marks i → (i < 256) × (digest (leaf_string (text i)) ≡ print 0 i)) where
  record Stands (s : List ℕ) : Type 0 where
    mark : ℕ
    level : ℕ
    low : level < 65
    small : mark < 256
    string : hashed_string digest c (text mark) (proof_path digest alone) level ≡ s
    prints : digest s ≡ print level mark

  stands : (s : List ℕ) → Has (flat_map (λ i. hashed_strings digest c (text i) (proof_path digest alone)) marks) s
      → Stands s
  unfolding hashed_strings
  stands s there =
      let m = has-flat_map (λ i. hashed_strings digest c (text i) (proof_path digest alone)) marks s there in
      let l = has-map (hashed_string digest c (text m.0) (proof_path digest alone)) (range_with_len 0 65) s m.2 in
      let low = in-range 0 65 l.0 l.1 in
      let known = reads m.0 m.1 in
      record {
        mark = m.0;
        level = l.0;
        low = omega (arith, low);
        small = known.0;
        string = l.2;
        prints = ap digest (sym l.2) ∙ string-prints c m.0 known.0 (text m.0) known.1 l.0 (omega (arith, low));
      }

  pub clear :
      has_clash digest (flat_map (λ i. hashed_strings digest c (text i) (proof_path digest alone)) marks) ≡ false
  clear = grind (arith, common_steps, none-clash, stands, level-printed, leaf-printed)
