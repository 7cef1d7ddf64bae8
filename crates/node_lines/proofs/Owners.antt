-- An owner as a hex of its bytes, both ways.
use Rattle.std.proofs.Common.{◌≡◌, ℕ, ◌<◌, ◌%◌, Bool, List, ◌++◌, Some, option_map, sym, ap, ◌∙◌, subst, lit<}
use Rattle.std.proofs.Math.Nat.{mod-lt}
use Rattle.std.proofs.lemmas.List.Elements.{All-from_recursion, All-append, All-drop, All-take}
use Rattle.line_forms.specs.Laws.{MayFollow, IsKind}
use Rattle.line_forms.specs.Tokens.{AreBytes, AreBytesOf, hex_of}
use Rattle.line_forms.specs.declared.tokens.TheConstants.{OWNER_BYTES}
use Rattle.line_forms.proofs.FormLaws.{option_map_some, pair_same}
use Rattle.line_forms.proofs.TokenLaws.{hex_of-is}
use Rattle.plasma_tx.specs.declared.owner.Owner.{Owner}
use Rattle.plasma_tx.specs.Spelling.{number_text, owner_text, owner_in}
use Rattle.plasma_tx.proofs.Spellings.{owner_in-text, length-owner_text, owner_text-in, owner_in-is}
use Rattle.node_lines.specs.Grammar.{IsOwnerOfBytes, owner}

-- ---- the bytes of an owner

low-byte : (n : ℕ) → n % 256 < 256
low-byte n = mod-lt n (lit< tt)

number-bytes : (n : ℕ) → AreBytes (number_text n)
number-bytes n =
    All-from_recursion (λ byte. byte < 256) (number_text n) (
      low-byte _,
      (low-byte _, (low-byte _, (low-byte _, (low-byte _, (low-byte _, (low-byte _, (low-byte _, tt))))))),
    )

owner-bytes : (owner : Owner) → IsOwnerOfBytes owner → AreBytesOf OWNER_BYTES (owner_text owner)
unfolding owner_text
owner-bytes owner is = (
  All-append (λ byte. byte < 256) (number_text owner.account) owner.key (number-bytes owner.account) is.1,
  length-owner_text owner is.0,
)

bytes-owner : (bytes : List ℕ) → AreBytesOf OWNER_BYTES bytes → IsOwnerOfBytes (owner_in bytes)
unfolding owner_in
bytes-owner bytes are = (
  owner_in-is bytes are.0 are.1,
  All-take (λ byte. byte < 256) 56 _ (All-drop (λ byte. byte < 256) 8 bytes are.0),
)

-- ---- the word of an owner

owner-spelled : (closed : Bool) (words rest : List (List ℕ)) (value : Owner) → MayFollow closed rest
    → owner.take words ≡ Some (value, rest) → (words ≡ owner.words value ++ rest) × IsOwnerOfBytes value
owner-spelled closed words rest value f h =
    let hex = hex_of OWNER_BYTES in
    let p = option_map_some (λ taken. (owner_in taken.0, taken.1)) (hex.take words) (value, rest) h in
    let same = pair_same (owner_in p.0.0, p.0.1) (value, rest) p.2 in
    let q = (hex_of-is OWNER_BYTES closed).spelled words p.0.1 p.0.0 (subst (MayFollow closed) (sym same.1) f) p.1 in
    let text : owner_text value ≡ p.0.0 = ap owner_text (sym same.0) ∙ owner_text-in p.0.0 q.1.0 q.1.1 in (
      q.0 ∙ ap (λ bytes. hex.words bytes ++ p.0.1) (sym text) ∙ ap (λ rest. owner.words value ++ rest) same.1,
      subst IsOwnerOfBytes same.0 (bytes-owner p.0.0 q.1),
    )

pub owner-is : (closed : Bool) → IsKind Owner owner closed
owner-is closed = record {
  taken = λ value is rest f.
      ap (option_map (λ taken. (owner_in taken.0, taken.1)))
      ((hex_of-is OWNER_BYTES closed).taken (owner_text value) (owner-bytes value is) rest f)
      ∙ ap (λ (value : Owner). Some (value, rest)) (owner_in-text value is.0);
  spelled = owner-spelled closed;
  unbroken = λ value is. (hex_of-is OWNER_BYTES closed).unbroken (owner_text value) (owner-bytes value is);
}
