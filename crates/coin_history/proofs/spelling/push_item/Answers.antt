use Rattle.coin_history.proofs.Words.{◌≡◌, ℕ, List, ◌++◌, length, ap, ◌∙◌, append_assoc, number_text, length_text}
use Rattle.coin_history.proofs.spelling.push_item.Goals as goal

pushed : (out one two last : List ℕ) (block count : ℕ) (bytes : List ℕ) → one ≡ out ++ number_text block
    → two ≡ one ++ length_text count → count ≡ length bytes → last ≡ two ++ bytes
    → last ≡ out ++ (number_text block ++ length_text (length bytes) ++ bytes)
pushed out one two last block count bytes is_one is_two counted is_last =
    let whole : out ++ number_text block ++ length_text (length bytes) ++ bytes
    ≡ out ++ (number_text block ++ length_text (length bytes) ++ bytes) = regroup (number_text block)
    (length_text (length bytes)) in
    rw (is_last, is_two, is_one, counted) whole
  where
    regroup : (a b : List ℕ) → out ++ a ++ b ++ bytes ≡ out ++ (a ++ b ++ bytes)
    regroup a b = simp append_assoc

pub returns-clause-ok : goal.returns-clause-ok
returns-clause-ok c =
    pushed c.args.out.now.items c.put_u64.new.out.items c.put_u32.new.out.items c.extend_from_slice.new.self.items
    c.args.opening.now.block c.len.result c.args.opening.now.bytes c.in_ok-put_u64.ensures.ok
    c.in_ok-put_u32.ensures.ok c.len.ensures
    (c.in_ok-extend_from_slice.ensures.items ∙ ap (λ (l : List ℕ). c.put_u32.new.out.items ++ l) c.as_slice.ensures)
