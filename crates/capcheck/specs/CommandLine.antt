-- The command line of the program, as `clap` reads it. Texts that only help shows aren't part of it.
use Rattle.std.specs.Prelude.{codes, true, Some}
use Rattle.clap.specs.Words.{App, Rule, Text, new_app, new_rule, with_rule, with_subcommand}
use Rattle.clap.specs.Simple.{on_top}
use Rattle.clap.specs.declared.builder.action.ArgAction.TheVariants.{SetTrue}

-- an argument with a value, which may be absent
abbrev pub word_rule : Text → Rule
word_rule id = record (new_rule id) { value_names = 1 }

-- one that may not be absent
abbrev pub needed_rule : Text → Rule
needed_rule id = record (word_rule id) { required = true }

-- -s FILE, --start FILE
abbrev pub start_rule : Rule
start_rule = record (word_rule (codes "start")) { short = Some 115; long = Some (codes "start") }

-- -p NUMBER, --profile NUMBER
abbrev pub profile_rule : Rule
profile_rule = record (word_rule (codes "profile")) { short = Some 112; long = Some (codes "profile") }

-- -v, --verbose
abbrev pub verbose_rule : Rule
verbose_rule =
    record (new_rule (codes "verbose")) { short = Some 118; long = Some (codes "verbose"); action = Some SetTrue }

-- with --profile and --verbose
abbrev pub with_options : App → App
with_options words = with_rule (with_rule words profile_rule) verbose_rule

-- with --start and the options
abbrev pub with_start : App → App
with_start words = with_options (with_rule words start_rule)

-- NAME [FILE], with --start and the options
abbrev pub reading_words : Text → App
reading_words name = with_start (with_rule (new_app name) (word_rule (codes "trace")))

-- NAME FILE
abbrev pub file_words : Text → App
file_words name = with_rule (new_app name) (needed_rule (codes "trace"))

-- edit FILE [SCRIPT], with --start and the options
abbrev pub edit_words : App
edit_words = with_start (with_rule (file_words (codes "edit")) (word_rule (codes "script")))

-- explain FILE K, with --start and the options
abbrev pub explain_words : App
explain_words = with_start (with_rule (file_words (codes "explain")) (needed_rule (codes "position")))

-- limits FILE [K], with --start and the options
abbrev pub limits_words : App
limits_words = with_start (with_rule (file_words (codes "limits")) (word_rule (codes "position")))

-- the first word names a command, and there are --help, --version and help
abbrev pub bare_words : App
bare_words = on_top (λ s. record s {
  no_binary_name = true;
  subcommand_required = true;
  has_version = true;
}) (new_app (codes "capcheck"))

-- with check [FILE] and denials [FILE]
abbrev pub asking_words : App
asking_words = with_subcommand (with_subcommand bare_words (reading_words (codes "check")).top)
    (reading_words (codes "denials")).top

-- with the one that replies to a script
abbrev pub editing_words : App
editing_words = with_subcommand asking_words edit_words.top

abbrev pub capcheck : App
capcheck = with_subcommand (with_subcommand editing_words explain_words.top) limits_words.top
