-- To believe, for the command.
-- The words of a command line, those after the program's name, and what they ask for.
--
-- The command line is described to `clap`, and `fault_of` and `subcommand_of` say what that crate makes of words. A
-- word of help is a word like any other.
--
-- To believe: all of this file, over the definitions of `clap`.
use Rattle.std.specs.Prelude.{ℕ, Bool, true, ◌&&◌, nat_lt, nat_le, List, [], ◌∷◌, ◌++◌, length, Option, Some, None, option_map, option_and_then, unwrap_or, codes, if◌then◌else◌}
use Rattle.std.specs.Char.{is_digit}
use Rattle.std.specs.List.{list_all}
use Rattle.std.specs.Str.{bytes_eq}
use Rattle.std.specs.Str.Parse.{digits_value}
use Rattle.term_size.specs.declared.any_norm.NormName.{NormName}
use Rattle.term_size.specs.declared.any_norm.NormName.TheVariants as norm
use Rattle.clap.specs.Words.{App, Kinds, Row, Rule, Text, Shape, fault_of, subcommand_of, first_of, new_app, new_rule, with_rule, with_subcommand}
use Rattle.clap.specs.Simple.{on_top}

-- a positional word that has to be given
abbrev pub required_word : Text → Rule
required_word id = record (new_rule id) { required = true }

-- an option with one value
abbrev pub option : Text → Rule
option id = record (new_rule id) { long = Some id }

-- infer FILE --norm NORM
abbrev pub infer_command : App
infer_command = with_rule (with_rule (new_app (codes "infer")) (required_word (codes "file"))) (option (codes "norm"))

-- check FILE CERT
abbrev pub check_command : App
check_command = with_rule (with_rule (new_app (codes "check")) (required_word (codes "file"))) (required_word (codes "certificate"))

-- run FILE QUERY --steps N
abbrev pub run_command : App
run_command = with_rule (with_rule (with_rule (new_app (codes "run")) (required_word (codes "file"))) (required_word (codes "query"))) (option (codes "steps"))

-- gen COUNT
abbrev pub gen_command : App
gen_command = with_rule (new_app (codes "gen")) (required_word (codes "count"))

-- lex FILE
abbrev pub lex_command : App
lex_command = with_rule (new_app (codes "lex")) (required_word (codes "file"))

-- loop FILE QUERY --depth D
abbrev pub loop_command : App
loop_command = with_rule (with_rule (with_rule (new_app (codes "loop")) (required_word (codes "file"))) (required_word (codes "query"))) (option (codes "depth"))

-- session FILE
abbrev pub session_command : App
session_command = with_rule (new_app (codes "session")) (required_word (codes "file"))

-- no words of help, no program's name, and a subcommand has to be given
abbrev pub settings : Shape → Shape
settings s = record s {
  no_binary_name = true;
  disable_help_flag = true;
  disable_help_subcommand = true;
  subcommand_required = true;
}

abbrev pub top_command : App
top_command = on_top settings (new_app (codes "cti"))

-- the command line
abbrev pub command_line : App
command_line =
    with_subcommand (with_subcommand (with_subcommand
    (with_subcommand (with_subcommand (with_subcommand (with_subcommand top_command infer_command.top) check_command.top) run_command.top) gen_command.top)
    lex_command.top) loop_command.top) session_command.top

-- what is asked for, by its texts: the modes of a file's program by a norm, the check of a file's certificate of it, a
-- query of it with a number of nodes, how many modes the generated program of this many predicates has, the modes of a
-- file's program by lists of mappings, a loop of a query of a file's program among its derivations of a number of
-- steps, or what the edits of a file tell
pub data Ask : Type 0 where
  infer : Text → NormName → Ask
  check : Text → Text → Ask
  run : Text → Text → ℕ → Ask
  gen : ℕ → Ask
  lex : Text → Ask
  loop : Text → Text → ℕ → Ask
  session : Text → Ask

-- where a text comes from: it is that of a file, or it is generated
pub data Origin : Type 0 where
  file : Text → Origin
  generated : ℕ → Origin

-- where the text comes from that is asked about: a program, or edits
abbrev pub origin : Ask → Origin
origin (infer name norm) = file name
origin (check name certificate) = file name
origin (run name query steps) = file name
origin (gen n) = generated n
origin (lex name) = file name
origin (loop name query depth) = file name
origin (session name) = file name

-- at most the given number of decimal digits, and at least one
abbrev pub is_short_number : ℕ → Text → Bool
is_short_number digits text = nat_lt 0 (length text) && (nat_le (length text) digits && list_all (λ b. is_digit b 10) text)

-- the number that a text spells with at most the given number of digits, where it is from 1 to the greatest
abbrev pub number_in : ℕ → ℕ → Text → Option ℕ
number_in digits greatest text =
    if is_short_number digits text && (nat_lt 0 (digits_value 10 text) && nat_le (digits_value 10 text) greatest) then Some (digits_value 10 text) else None

-- the number of nodes that a text asks for: one to seven digits, from 1 to 1,000,000
abbrev pub steps_in : Text → Option ℕ
steps_in text = number_in 7 1000000 text

-- the number of predicates that a text asks for: one to seven digits, from 1 to 300
abbrev pub predicates_in : Text → Option ℕ
predicates_in text = number_in 7 300 text

-- the same of an option's value, which is 100,000 where it is absent
abbrev pub steps_of : Option Text → Option ℕ
steps_of None = Some 100000
steps_of (Some text) = steps_in text

-- the number of steps that a text asks for: one or two digits, from 1 to 12
abbrev pub depth_in : Text → Option ℕ
depth_in text = number_in 2 12 text

-- the same of an option's value, which is 8 where it is absent
abbrev pub depth_of : Option Text → Option ℕ
depth_of None = Some 8
depth_of (Some text) = depth_in text

-- the query of what is asked for, where it has one
abbrev pub query_of : Ask → Option Text
query_of (run name query steps) = Some query
query_of (loop name query depth) = Some query
query_of ask = None

-- the norm that a text names
abbrev pub norm_in : Text → Option NormName
norm_in text = if bytes_eq text (codes "term") then Some norm.Term else if bytes_eq text (codes "list") then Some norm.List else None

-- the same of an option's value, which is term size where it is absent
abbrev pub norm_of : Option Text → Option NormName
norm_of None = Some norm.Term
norm_of (Some text) = norm_in text

-- the word of this name, which is always given
abbrev pub given : Text → List Row → Text
given id rows = unwrap_or (first_of id rows) []

-- what a command asks for: `run` is the one beside the others
abbrev pub ask_by : Text → List Row → Option Ask
ask_by name rows =
    if bytes_eq name (codes "gen") then option_map gen (predicates_in (given (codes "count") rows))
    else if bytes_eq name (codes "infer") then option_map (infer (given (codes "file") rows)) (norm_of (first_of (codes "norm") rows))
    else if bytes_eq name (codes "check") then Some (check (given (codes "file") rows) (given (codes "certificate") rows))
    else if bytes_eq name (codes "lex") then Some (lex (given (codes "file") rows))
    else if bytes_eq name (codes "session") then Some (session (given (codes "file") rows))
    else if bytes_eq name (codes "loop") then
    option_map (loop (given (codes "file") rows) (given (codes "query") rows)) (depth_of (first_of (codes "depth") rows))
    else option_map (run (given (codes "file") rows) (given (codes "query") rows)) (steps_of (first_of (codes "steps") rows))

-- what words without a fault ask for
abbrev pub ask_if : Kinds → Option (Text × List Row) → Option Ask
ask_if [] subcommand = option_and_then (λ p. ask_by p.0 p.1) subcommand
ask_if (k ∷ ks) subcommand = None

-- what the words ask for; the usage is written where it is nothing
abbrev pub asks : List Text → Option Ask
asks words = ask_if (fault_of command_line words) (subcommand_of command_line words)

-- one line for each command
abbrev pub usage_lines : List ℕ
usage_lines =
    codes "usage: cti infer FILE --norm NORM\n" ++ codes "usage: cti check FILE CERT\n" ++ codes "usage: cti run FILE QUERY --steps N\n"
    ++ codes "usage: cti gen N\n" ++ codes "usage: cti lex FILE\n" ++ codes "usage: cti loop FILE QUERY --depth D\n"
    ++ codes "usage: cti session FILE\n"
