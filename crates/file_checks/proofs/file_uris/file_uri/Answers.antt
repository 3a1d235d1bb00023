use Rattle.std.proofs.Common.{arith, refl}
use Rattle.std.proofs.lemmas.List.Elements.{All-from_get_or}
use Rattle.percent_encoding.proofs.PercentLemmas.{round_trip, IsByte}
use Rattle.percent_encoding.specs.Iter.{encoded_text}
use Rattle.file_checks.proofs.file_uris.file_uri.Goals as goal

pub returns-clause-spells : goal.returns-clause-spells
returns-clause-spells c = record {
  spelled = encoded_text c.utf8_percent_encode.result;
  behind = rw (c.in_ok-append_to.ensures.ok, c.in_ok-uri.ensures.ok) refl;
  read_back = rw (c.utf8_percent_encode.ensures.text) (round_trip _ c.args.path.now refl (All-from_get_or IsByte c.args.path.now 0 (λ i within. omega (arith, c.type_inv.path i))));
}
