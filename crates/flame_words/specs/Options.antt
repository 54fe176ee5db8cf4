-- What the options of a subcommand mean.
use Rattle.std.specs.Prelude.{ℕ, ◌^◌, ◌==◌, ◌&&◌, not, Bool, true, nat_lt, nat_le, length, List, Option, Some, None}
use Rattle.std.specs.Prelude.{codes, unwrap_or, if◌then◌else◌}
use Rattle.std.specs.List.{list_all}
use Rattle.std.specs.Str.{bytes_eq}
use Rattle.std.specs.Str.Parse.{digits_value}
use Rattle.clap.specs.Words.{Row, Text, first_of}
use Rattle.flame_report.specs.declared.query.Kind.{Kind}
use Rattle.flame_report.specs.declared.query.Kind.TheVariants as kind
use Rattle.flame_report.specs.declared.query.Rank.{Rank}
use Rattle.flame_report.specs.declared.query.Rank.TheVariants.{Flat, Cum}
use Rattle.op_book.specs.Runs.{most_sessions}
use Rattle.flame_words.specs.declared.request.Format.{Format}
use Rattle.flame_words.specs.declared.request.Format.TheVariants.{Folded, Pprof}

-- the value of an option, or its default
abbrev pub text_or : Text → Text → List Row → Text
text_or default id rows = unwrap_or (first_of id rows) default

-- whether an option without a value is given
abbrev pub is_set : Text → List Row → Bool
is_set id rows = bytes_eq (text_or (codes "false") id rows) (codes "true")

abbrev pub format_named : Text → Option Format
format_named text =
    if bytes_eq text (codes "folded") then Some Folded
    else if bytes_eq text (codes "pprof") then Some Pprof
    else None

abbrev pub rank_named : Text → Option Rank
rank_named text =
    if bytes_eq text (codes "flat") then Some Flat
    else if bytes_eq text (codes "cum") then Some Cum
    else None

abbrev pub is_digit : ℕ → Bool
is_digit byte = nat_le 48 byte && nat_le byte 57

-- one or more decimal digits
abbrev pub is_number : Text → Bool
is_number text = not (length text == 0) && list_all is_digit text

-- the number that decimal digits write, where 32 bits hold it
abbrev pub number_named : Text → Option ℕ
number_named text =
    if is_number text
    then (if nat_lt (digits_value 10 text) (2 ^ 32) then Some (digits_value 10 text) else None)
    else None

-- a number of columns: 1 to 65,535
abbrev pub columns_of : Option ℕ → Option ℕ
columns_of None = None
columns_of (Some number) = if not (number == 0) && nat_lt number 65536 then Some number else None

-- a number of threads: 1 to 64
abbrev pub sessions_of : Option ℕ → Option ℕ
sessions_of None = None
sessions_of (Some number) = if not (number == 0) && nat_le number most_sessions then Some number else None

abbrev pub sessions_in : List Row → Option ℕ
sessions_in rows = sessions_of (number_named (text_or (codes "2") (codes "sessions") rows))

abbrev pub top_of : Option Rank → Option ℕ → Option Kind
top_of (Some rank) (Some count) = Some (kind.Top rank count)
top_of (Some rank) None = None
top_of None count = None

abbrev pub flame_of : Option ℕ → Option Kind
flame_of (Some columns) = Some (kind.Flame columns)
flame_of None = None

-- what a report of a subcommand is
abbrev pub top_kind : List Row → Option Kind
top_kind rows =
    top_of (rank_named (text_or (codes "flat") (codes "by") rows))
    (number_named (text_or (codes "20") (codes "count") rows))

abbrev pub flame_kind : List Row → Option Kind
flame_kind rows = flame_of (columns_of (number_named (text_or (codes "100") (codes "columns") rows)))

-- a byte that a name can have
abbrev pub is_plain : ℕ → Bool
is_plain byte = not (byte == 59) && not (byte == 10)

-- whether a text can be a name: it isn't empty, and has no semicolon and no line feed
abbrev pub is_name_text : Text → Bool
is_name_text text = not (length text == 0) && list_all is_plain text

abbrev pub is_name_if_given : Option Text → Bool
is_name_if_given None = true
is_name_if_given (Some text) = is_name_text text
