-- Names that the files beside this one use.
pub use Rattle.std.proofs.Common.{◌≡◌, ℕ, ◌^◌, ◌<◌, ◌≤◌, ◌==◌, Bool, true, false, not, ◌&&◌, ◌||◌, cond, nat_le, List, [], ◌∷◌, length, codes, Option, Some, None, option_map, refl, subst, arith, take, zero, suc, ◌+◌, ◌-◌, ◌*◌, ◌/◌, ◌%◌, ltb, ◌++◌, drop, set, get_or, sym, rules, lit<, ap, ◌∙◌, map, add-one, append_assoc}
pub use Rattle.std.specs.List.{list_all, AllByRecursion, All, onto_first, position, position_or_len}
pub use Rattle.std.specs.Map.{lookup}
pub use Rattle.std.specs.Option.{option_or, option_and_then}
pub use Rattle.std.specs.Str.{bytes_eq}
pub use Rattle.std.proofs.lemmas.List.{drop-set, length-drop, length-set, take_all, append-nil, take-append-le, take-take, length-take, take_more}
pub use Rattle.std.proofs.lemmas.Slice.Eq.{bytes_eq-Decides}
pub use Rattle.std.proofs.lemmas.Grind.{common_steps}
pub use Rattle.std.specs.Char.{is_ascii_digit}
pub use Rattle.std.specs.Fmt.{decimal}
pub use Rattle.std.specs.Str.Parse.{digits_value}
pub use Rattle.std.proofs.lemmas.Bool.{and_parts, eqb-true, leb-true, le-leb, ne_eqb, eq-eqb, ltb-true, lt-ltb, le-ltb, ltb-false, not-true}
pub use Rattle.std.proofs.lemmas.Option.{cond_some}
pub use Rattle.line_forms.specs.Words.{words_of, line_of_words, is_end}
unfoldable pub use Rattle.line_forms.specs.Words.{trailed}
pub use Rattle.line_forms.specs.Forms.{Kind, take_word, one_word, Shape, ends, ◌▸◌, Make, Values, AreValues, words_by, made, take_by, Form, named, name_of, shape_of, makes, takes, Table, Parts, these, makes_parts, words_of_parts, AreParts, take_form, whole, form_of, run_of, optional, take_optional, IsOptional, optional_words, mapped_make, mapped_form}
unfoldable pub use Rattle.line_forms.specs.Forms.{text_of, value_in}
pub use Rattle.line_forms.specs.Laws.{is_unbroken, IsKind, IsRow, IsMade, AreUnbroken, MayFollow, is_closed_before, IsLawful, IsTable}
pub use Rattle.line_forms.specs.Names.{rows_of}
pub use Rattle.line_forms.specs.Tokens.{only_if, IsNumber, IsNumberWithin, IsName, IsDeclaredName, AreBytes, AreBytesOf, AreSomeBytes, IsHexOrName, IsHexOrItem, IsShown, number, number_within, name, hex, hex_of, some_bytes, hex_or_name, bytes, shown, outcome, outcomes, outcome_parts, optional_number, declared_name, is_letter, hex_or_name_text, item_in, hex_or_item_text, shown_text, is_decimal}
unfoldable pub use Rattle.line_forms.specs.Tokens.{declared_name_in, number_in, number_text, number_within_in, name_in, hex_of_in, some_bytes_in, hex_or_name_in, bytes_in, shown_in}
pub use Rattle.line_forms.specs.Pieces.{words_of_pieces, piece_words, words_then}
