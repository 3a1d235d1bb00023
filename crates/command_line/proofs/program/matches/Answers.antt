use Rattle.std.proofs.Common.{◌≡◌, true, List, Result, Ok, Err, IfOk, map, refl, subst}
use Rattle.clap.specs.Words.{App, FailsBy, HasMatchesOf, Text, fault_of, is_simple, is_simple_and_free, subcommand_of, subcommand_rows_of}
use Rattle.clap.specs.declared.error.Error.{Error}
use Rattle.clap.specs.declared.parser.matches.ArgMatches.{ArgMatches}
use Rattle.clap.proofs.OnLiterals.{clap_on_literals}
use Rattle.command_line.specs.Commands.{program}
use Rattle.command_line.proofs.program.matches.Goals as goal

simple : is_simple program ≡ true
unfolding clap_on_literals
simple = refl

free : is_simple_and_free program ≡ true
unfolding clap_on_literals
free = refl

rows_of_words : (a : App) (words : List Text) (r : Result ArgMatches Error) → a ≡ program → IfOk r (HasMatchesOf a words)
    → IfOk r (λ m. subcommand_rows_of m ≡ subcommand_of program words)
rows_of_words a words (Ok m) e h = (subst (λ (b : App). HasMatchesOf b words m) e h simple).1
rows_of_words a words (Err x) e h = tt

pub returns-clause-ok : goal.returns-clause-ok
returns-clause-ok g c =
    rows_of_words _ (map g.S.AsStr.text c.args.words.now) c.try_get_matches_from.result c.in_ok-command.ensures c.try_get_matches_from.ensures.matches

pub returns-clause-err : goal.returns-clause-err
returns-clause-err g c =
    let words = map g.S.AsStr.text c.args.words.now in
    let r = c.try_get_matches_from.result in
    subst (λ (a : App). is_simple_and_free a ≡ true → FailsBy (fault_of a words) r) c.in_ok-command.ensures c.try_get_matches_from.ensures.kinds free
