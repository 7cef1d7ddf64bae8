-- Names that the files beside this one use.
pub use Rattle.std.proofs.Common.{◌≡◌, ℕ, ◌==◌, ◌||◌, Bool, true, false, if◌then◌else◌, List, [], ◌∷◌, Option, None, refl, ap, subst, map, sym, codes, true≢false, ◌≤◌, length, arith, ◌∙◌, ◌*◌, ◌+◌, ◌%◌, ◌&&◌, Some, ap₂, ◌++◌, append_assoc, append-nil, rules, string_bytes, take}
pub use Rattle.std.specs.Prelude.{is_some, option_map, nat_le, fold, unwrap_or, slice_get, IfSome}
pub use Rattle.std.specs.List.{AllByRecursion, list_any, list_all}
pub use Rattle.std.specs.Str.{bytes_eq}
pub use Rattle.std.proofs.lemmas.Bool.{eqb-true, le-leb, leb-true}
pub use Rattle.std.proofs.lemmas.Option.{none-some}
pub use Rattle.std.proofs.lemmas.Grind.{common_steps}
pub use Rattle.std.proofs.lemmas.Result.{IfErr-weaker, IfOk-weaker}
pub use Rattle.plasma_base.specs.HexText.{◌>>=◌, lower_digit_in, pair_in}
unfoldable pub use Rattle.plasma_base.specs.HexText.{hex_in, digits_in}
pub use Rattle.line_forms.specs.Tokens.{only_if}
unfoldable pub use Rattle.line_forms.specs.Tokens.{number_in, hex_of_in, number_within_in}
pub use Rattle.run_words.specs.Forms.{init_watcher, IsSound}
unfoldable pub use Rattle.run_words.specs.Forms.{form_named, alone, init_form, init_wallet, init_operator, identity_in, make_form, verify_form, hss_form, hss_init, hss_sign, hss_verify, audit_form, form_of, types_in, wallet_of, operator_of}
pub use Rattle.run_words.specs.declared.form.Form.{Form}
pub use Rattle.run_words.specs.declared.form.Form.TheVariants.{Replay, Brief, Wallet, Operator, Watcher, InitWatcher, Archive, Verify, HssVerify}
pub use Rattle.clap.specs.Words.{App, Rule, Shape, Text, is_simple, subcommand_of, takes, all_of, with_subcommand, app_of, found_of, rows_of, Row, matched_of, raw_values, subcommand_name_of, subcommand_rows_of}
pub use Rattle.run_words.specs.Parsing.{run_command, matched_words, bare_command, subcommand_shape}
pub use Rattle.run_words.specs.Words.{texts}
