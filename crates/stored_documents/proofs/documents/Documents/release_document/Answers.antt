use Rattle.std.proofs.Common.{List, map, string_bytes, refl, ap, subst, ◌∙◌}
use Rattle.std.proofs.lemmas.List.{take_all}
use Rattle.std.specs.Global.{Global}
use Rattle.std.specs.declared.string.String.{String}
use Rattle.stored_documents.specs.StaleClaims.{Releases}
use Rattle.stored_documents.proofs.FreshClaims.{released_none, released_next}
use Rattle.stored_documents.proofs.documents.Documents.release_document.Goals as goal

pub loop-uri-init : goal.loop-uri-init
loop-uri-init c = record { same = refl; released = released_none c.args.self.now }

pub loop-uri-preserved : goal.loop-uri-preserved
loop-uri-preserved c =
    let l = c.loop-uri in
    let items : List (String Global) = c.resource_uris-uri-items.result.now in
    record {
      same = c.release.ensures.same ∙ l.invariant.same;
      released = released_next c.args.self.now l.self c.release.new.self string_bytes items l.uri-index c.uri-item.result c.as_str.result.now c.loop-uri-test.true c.uri-item.is c.as_str.ensures.value
          l.invariant.released c.release.ensures.released;
    }

pub returns-clause-released : goal.returns-clause-released
returns-clause-released c =
    let items : List (String Global) = c.resource_uris-uri-items.result.now in
    subst (λ us. Releases c.args.self.now us c.loop-uri.self)
    (ap (map string_bytes) (take_all c.loop-uri.uri-index items c.loop-uri-test.false) ∙ c.resource_uris-uri-items.ensures)
    c.loop-uri.invariant.released
