-- The command line: the command, and what words ask for.
use Rattle.std.specs.Prelude.{ℕ, ◌≡◌, ⊤, ◌&&◌, true, false, List, [], ◌∷◌, Option, Some, None, Result, Ok, Err}
use Rattle.std.specs.Prelude.{codes}
use Rattle.std.specs.Prelude.{map, if◌then◌else◌}
use Rattle.std.specs.Borrow.{Bor}
use Rattle.std.specs.Str.{bytes_eq}
use Rattle.clap.specs.declared.builder.action.ArgAction.TheVariants.{SetTrue}
use Rattle.clap.specs.declared.builder.command.Command.{Command}
use Rattle.clap.specs.declared.builder.command.Command.TheViews.{out-Command}
use Rattle.clap.specs.Words.{App, Kinds, Row, Rule, Text, app_of, fault_of, first_of, new_app, new_rule, subcommand_of}
use Rattle.clap.specs.Words.{with_rule, with_subcommand}
use Rattle.flame_report.specs.declared.query.Kind.{Kind}
use Rattle.flame_report.specs.declared.query.Kind.TheVariants as kind
use Rattle.flame_words.specs.declared.request.Format.{Format}
use Rattle.flame_words.specs.declared.request.Request.{Request}
use Rattle.flame_words.specs.declared.request.Request.TheVariants.{Report, Export, Live}
use Rattle.flame_words.specs.LiveOptions.{PlainOptions, options_of}
use Rattle.flame_words.specs.declared.words.WordsFault.{WordsFault}
use Rattle.flame_words.specs.declared.words.WordsFault.TheVariants.{Refused, BadName, Sessions, NoMemory}
use Rattle.flame_words.specs.Options.{flame_kind, format_named, is_name_if_given, is_set, sessions_in, text_or}
use Rattle.flame_words.specs.Options.{top_kind}

-- ---- the command

-- an option with a value
abbrev pub option_rule : Text → Rule
option_rule id = record (new_rule id) { long = Some id; value_names = 1 }

-- an option with a value, and the value that it has where it isn't given
abbrev pub default_rule : Text → Text → Rule
default_rule id default = record (option_rule id) { defaults = default ∷ [] }

-- an option without a value
abbrev pub flag_rule : Text → Rule
flag_rule id = record (new_rule id) { long = Some id; action = Some SetTrue }

-- how the input is read
abbrev pub with_source : App → App
with_source app =
    with_rule (with_rule app (default_rule (codes "format") (codes "folded"))) (option_rule (codes "value"))

-- which rows are kept
abbrev pub with_filters : App → App
with_filters app = with_rule (with_rule app (option_rule (codes "focus"))) (option_rule (codes "ignore"))

abbrev pub top_app : App
top_app =
    with_rule
    (with_rule (with_filters (with_source (new_app (codes "top")))) (default_rule (codes "by") (codes "flat")))
    (default_rule (codes "count") (codes "20"))

abbrev pub flame_graph_app : App
flame_graph_app =
    with_rule (with_filters (with_source (new_app (codes "flame")))) (default_rule (codes "columns") (codes "100"))

abbrev pub fold_app : App
fold_app = with_filters (with_source (new_app (codes "fold")))

abbrev pub proto_app : App
proto_app =
    with_rule (with_rule (new_app (codes "proto")) (default_rule (codes "kind") (codes "samples")))
    (default_rule (codes "unit") (codes "count"))

-- `all` and `warm` say what is written and what is stored
abbrev pub live_app : App
live_app =
    with_rule
    (with_rule (with_rule (with_source (new_app (codes "live"))) (flag_rule (codes "all"))) (flag_rule (codes "warm")))
    (default_rule (codes "sessions") (codes "2"))

-- `flame`, which wants one of its subcommands
abbrev pub flame_app : App
flame_app = record { top = record (new_app (codes "flame")).top { subcommand_required = true }; subs = [] }

abbrev pub program_app : App
program_app =
    with_subcommand
    (with_subcommand
    (with_subcommand (with_subcommand (with_subcommand flame_app top_app.top) flame_graph_app.top) fold_app.top)
    proto_app.top)
    live_app.top

-- ---- what words ask for

-- the words as bytes
abbrev pub texts_of : List (Bor Text) → List Text
texts_of words = map (λ word. word.now) words

-- What was made of words: a request; a focus or an ignored name that can't be a name; a warm start for which a store
-- has no session; or nothing.
pub data Reading : Type 0 where
  asked : Request → Reading
  misnamed : Reading
  crowded : Reading
  refused : Reading

-- a report, where both names that it filters by can be names
abbrev pub named_report : Kind → Format → Option Text → Option Text → Option Text → Reading
named_report kind format value focus ignore =
    if is_name_if_given focus && is_name_if_given ignore
    then asked (Report (record { format = format; value = value })
    (record { focus = focus; ignore = ignore; value = 0; kind = kind }))
    else misnamed

-- a report of a kind on an input of a format
abbrev pub report_of : Option Kind → Option Format → List Row → Reading
report_of None format rows = refused
report_of (Some kind) None rows = refused
report_of (Some kind) (Some format) rows =
    named_report kind format (first_of (codes "value") rows) (first_of (codes "focus") rows)
    (first_of (codes "ignore") rows)

abbrev pub report_in : Option Kind → List Row → Reading
report_in kind rows = report_of kind (format_named (text_or (codes "folded") (codes "format") rows)) rows

abbrev pub export_in : List Row → Reading
export_in rows =
    asked (Export (text_or (codes "samples") (codes "kind") rows) (text_or (codes "count") (codes "unit") rows))

-- reports out of a store, where it has a session for each thread and for a warm start
abbrev pub stored_report : Format → Option Text → Option PlainOptions → Reading
stored_report format value None = crowded
stored_report format value (Some options) = asked (Live (record { format = format; value = value }) options)

abbrev pub live_of : Option ℕ → Option Format → List Row → Reading
live_of None format rows = refused
live_of (Some sessions) None rows = refused
live_of (Some sessions) (Some format) rows =
    stored_report format (first_of (codes "value") rows)
    (options_of sessions (is_set (codes "all") rows) (is_set (codes "warm") rows))

abbrev pub live_in : List Row → Reading
live_in rows = live_of (sessions_in rows) (format_named (text_or (codes "folded") (codes "format") rows)) rows

-- what a subcommand asks for, by its name and its options
abbrev pub asked_by : Option (Text × List Row) → Reading
asked_by None = refused
asked_by (Some subcommand) =
    if bytes_eq subcommand.0 (codes "top") then report_in (top_kind subcommand.1) subcommand.1
    else if bytes_eq subcommand.0 (codes "flame") then report_in (flame_kind subcommand.1) subcommand.1
    else if bytes_eq subcommand.0 (codes "fold") then report_in (Some kind.Folded) subcommand.1
    else if bytes_eq subcommand.0 (codes "proto") then export_in subcommand.1
    else if bytes_eq subcommand.0 (codes "live") then live_in subcommand.1
    else refused

-- a reading, where nothing is wrong with the words
abbrev pub unless_faulty : Kinds → Reading → Reading
unless_faulty [] reading = reading
unless_faulty (kind ∷ kinds) reading = refused

-- What is made of the words, where the command finds no fault in them. The first word is the program's name.
abbrev pub reading_of : List Text → Reading
reading_of words = unless_faulty (fault_of program_app words) (asked_by (subcommand_of program_app words))

abbrev pub request_in : Reading → Option Request
request_in (asked request) = Some request
request_in misnamed = None
request_in crowded = None
request_in refused = None

-- the request of the words, where they have one
abbrev pub request_of : List Text → Option Request
request_of words = request_in (reading_of words)

-- the words are refused, or ask for help
abbrev pub IsRefused : List Text → Type 0
IsRefused words = reading_of words ≡ refused

-- a focus or an ignored name of the words can't be a name
abbrev pub IsMisnamed : List Text → Type 0
IsMisnamed words = reading_of words ≡ misnamed

-- a store has no session for the warm start of the words
abbrev pub IsCrowded : List Text → Type 0
IsCrowded words = reading_of words ≡ crowded

-- why words weren't read, of which this was made; `NoMemory` claims nothing
abbrev pub IsUnread : Reading → WordsFault → Type 0
IsUnread reading (Refused text) = reading ≡ refused
IsUnread reading BadName = reading ≡ misnamed
IsUnread reading Sessions = reading ≡ crowded
IsUnread reading NoMemory = ⊤

abbrev pub IsReadAs : Reading → Result Request WordsFault → Type 0
IsReadAs reading (Ok request) = reading ≡ asked request
IsReadAs reading (Err fault) = IsUnread reading fault

-- why no name was made of an option's text: it can't be one
abbrev pub IsNameFault : Option Text → WordsFault → Type 0
IsNameFault given (Refused text) = ⊥
IsNameFault given BadName = is_name_if_given given ≡ false
IsNameFault given Sessions = ⊥
IsNameFault given NoMemory = ⊤

-- a command of these rules, none of whose options hold for its subcommands too
pub record HasRules (app : App) (command : Command) : Type 0 where
  pub app_is : app_of command ≡ app
  pub no_globals : (out-Command command).has_globals ≡ false
