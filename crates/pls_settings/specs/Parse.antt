-- The command in the terms of the parser, and what it finds.
use Rattle.std.specs.Prelude.{Option, Some, true, fold, codes}
use Rattle.clap.specs.Simple.{App, new_app, new_rule, on_top, with_rule}
use Rattle.clap.specs.Matches.{found_of}
use Rattle.clap.specs.Walk.{Rule, first_of, rows_of}
use Rattle.clap.specs.declared.parser.matches.ArgMatches.{ArgMatches}
use Rattle.pls_settings.specs.Line.{Text, options}

-- a command without the program's name, and without help
abbrev pub bare : App
bare = on_top (λ s. record s { no_binary_name = true; disable_help_flag = true }) (new_app (codes "plsnd"))

abbrev pub mode_rule : Rule
mode_rule = record (new_rule (codes "mode")) { required = true }

abbrev pub option_rule : Text → Rule
option_rule name = record (new_rule name) { long = Some name }

abbrev pub with_option : App → Text → App
with_option a name = with_rule a (option_rule name)

-- the command: a mode, and the options
unfoldable pub plsnd : App
plsnd = fold with_option (with_rule bare mode_rule) options

-- the text that is given for a name, by what the parser found
abbrev pub text_in : ArgMatches → Text → Option Text
text_in matches name = first_of name (rows_of (found_of matches))
