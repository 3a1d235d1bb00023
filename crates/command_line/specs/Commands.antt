-- The words that the program takes, in the terms of `clap`'s own definitions.
use Rattle.std.specs.Prelude.{◌∷◌, [], Some, true, ℕ, codes, pos}
use Rattle.clap.specs.Words.{App, Rule, Text, new_app, new_rule, with_rule, with_subcommand}
use Rattle.clap.specs.declared.builder.ArgAction.TheVariants.{Append, Set, SetTrue}
use Rattle.clap.specs.declared.builder.value_parser.ValueParser.TheVariants.{Signed}

-- a word that has to be there
abbrev pub required_text : Text → Rule
required_text id = record (new_rule id) { action = Some Set; required = true }

-- `--id VALUE`
abbrev pub named_option : Text → Rule
named_option id = record (new_rule id) { long = Some id; action = Some Set; value_names = 1 }

abbrev pub required_option : Text → Rule
required_option id = record (named_option id) { required = true }

-- a word that stands there once or more
abbrev pub required_texts : Text → Rule
required_texts id = record (required_text id) { action = Some Append }

-- `--id VALUE`, as often as one likes
abbrev pub repeated_option : Text → Rule
repeated_option id = record (named_option id) { action = Some Append }

-- `--cache N`, from 1 to 4096, with its default
abbrev pub cache_option : Rule
cache_option = record (named_option (codes "cache")) {
  parser = Some (Signed (pos 1) (pos 4096));
  defaults = codes "256" ∷ [];
}

-- `--id N`, from a number to another
abbrev pub number_option : Text → ℕ → ℕ → Rule
number_option id least most = record (named_option id) { parser = Some (Signed (pos least) (pos most)) }

-- `--id`
abbrev pub flag : Text → Rule
flag id = record (new_rule id) { long = Some id; action = Some SetTrue }

-- `[--library FILE] [--with PATH]..` behind a command's words
abbrev pub with_documents : App → App
with_documents app = with_rule (with_rule app (named_option (codes "library"))) (repeated_option (codes "with"))

-- `[--uri URI] [--library FILE] [--with PATH]..`, of the command with this name
abbrev pub over_documents : Text → App
over_documents name = with_documents (with_rule (new_app name) (named_option (codes "uri")))

-- `check [--uri URI] [--library FILE] [--with PATH].. [--lines] [--format FORMAT] [--quiet]`
abbrev pub check_options : App
check_options = with_rule (with_rule (with_rule (over_documents (codes "check")) (flag (codes "lines"))) (named_option (codes "format"))) (flag (codes "quiet"))

-- .. `SCHEMA INSTANCE..`
abbrev pub check_command : App
check_command = with_rule (with_rule check_options (required_text (codes "SCHEMA"))) (required_texts (codes "INSTANCE"))

-- `bundle [--uri URI] [--library FILE] [--with PATH].. [--out FILE] SCHEMA`
abbrev pub bundle_command : App
bundle_command = with_rule (with_rule (over_documents (codes "bundle")) (named_option (codes "out"))) (required_text (codes "SCHEMA"))

-- `scan [--library FILE] [--with PATH].. [--quiet] SCHEMA..`
abbrev pub scan_command : App
scan_command = with_rule (with_rule (with_documents (new_app (codes "scan"))) (flag (codes "quiet"))) (required_texts (codes "SCHEMA"))

-- `--tenants FILE [--library FILE] [--store FILE]`, of the command with this name
abbrev pub over_registries : Text → App
over_registries name =
    with_rule (with_rule (with_rule (new_app name) (required_option (codes "tenants"))) (named_option (codes "library"))) (named_option (codes "store"))

-- `run --tenants FILE [--library FILE] [--store FILE] [--cache N]`
abbrev pub run_command : App
run_command = with_rule (over_registries (codes "run")) cache_option

-- `[--connections N] [--idle SECONDS] [--whole SECONDS] [--memory BYTES]` behind a command's words
abbrev pub with_limits : App → App
with_limits app =
    with_rule (with_rule (with_rule (with_rule app (number_option (codes "connections") 1 65536)) (number_option (codes "idle") 1 86400))
    (number_option (codes "whole") 1 604800)) (number_option (codes "memory") 1048576 4294967295)

-- `[--log FILE] [--log-requests]` behind a command's words
abbrev pub with_logging : App → App
with_logging app = with_rule (with_rule app (named_option (codes "log"))) (flag (codes "log-requests"))

-- `serve --tenants FILE [--library FILE] [--store FILE] --listen ADDR [--accept N]`
abbrev pub serve_at_address : App
serve_at_address = with_rule (with_rule (over_registries (codes "serve")) (required_option (codes "listen"))) (number_option (codes "accept") 1 65536)

-- .. with the limits, the log and `[--cache N]`
abbrev pub serve_command : App
serve_command = with_rule (with_logging (with_limits serve_at_address)) cache_option

abbrev pub named_program : App
named_program = new_app (codes "schemareg")

-- the program, which has a version
abbrev pub versioned_program : App
versioned_program = record named_program { top = record named_program.top { has_version = true } }

abbrev pub program_of_files : App
program_of_files = with_subcommand (with_subcommand (with_subcommand versioned_program check_command.top) bundle_command.top) scan_command.top

abbrev pub program : App
program = with_subcommand (with_subcommand program_of_files run_command.top) serve_command.top
