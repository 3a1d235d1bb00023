use Rattle.std.proofs.Common.{sym, ap}
use Rattle.std.specs.Fmt.{digits}
use Rattle.http_definitions.specs.ReplyTexts.{phrase_of, status_line}
use Rattle.reply_texts.proofs.heads.known_line.Goals as goal

pub returns-in-200-clause-some : goal.returns-in-200-clause-some
unfolding digits phrase_of
returns-in-200-clause-some c = ap status_line (sym c.in-200.is)

pub returns-in-201-clause-some : goal.returns-in-201-clause-some
unfolding digits phrase_of
returns-in-201-clause-some c = ap status_line (sym c.in-201.is)

pub returns-in-400-clause-some : goal.returns-in-400-clause-some
unfolding digits phrase_of
returns-in-400-clause-some c = ap status_line (sym c.in-400.is)

pub returns-in-403-clause-some : goal.returns-in-403-clause-some
unfolding digits phrase_of
returns-in-403-clause-some c = ap status_line (sym c.in-403.is)

pub returns-in-404-clause-some : goal.returns-in-404-clause-some
unfolding digits phrase_of
returns-in-404-clause-some c = ap status_line (sym c.in-404.is)

pub returns-in-409-clause-some : goal.returns-in-409-clause-some
unfolding digits phrase_of
returns-in-409-clause-some c = ap status_line (sym c.in-409.is)

pub returns-in-503-clause-some : goal.returns-in-503-clause-some
unfolding digits phrase_of
returns-in-503-clause-some c = ap status_line (sym c.in-503.is)
