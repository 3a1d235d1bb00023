use Rattle.std.proofs.Common.{◌≡◌, true, drop}
use denote.Text.{Utf8}
use denote.Shadow.{shadow}
use Rattle.json_doc.specs.Docs.{value}
use Rattle.locations.specs.Hops.{follow}
use Rattle.locations.specs.OwnedSteps.{are_cut, hops_along}
use Rattle.locations.specs.Ways.{owned_hops}
use Rattle.locations.proofs.ways.follow.Given as goal

abbrev pub invariant-loop-kept : goal.invariant-loop-kept
invariant-loop-kept l = record {
  utf8 : shadow (Utf8 l.names);
  cut : are_cut (drop l.kept-index l.kept-items) l.names ≡ true;
  followed : follow (hops_along (drop l.kept-index l.kept-items) l.names) (value l.found) ≡ follow (owned_hops l.fn.way) (value l.fn.doc);
}
