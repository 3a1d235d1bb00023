use Rattle.std.proofs.Common.{rules, tests}
use Rattle.std.proofs.lemmas.Fn.{always_returns_same}
use Rattle.std.specs.Cmp.Lexicographic.{slice_cmp}
use Rattle.std.specs.Global.{Global}
use Rattle.std.specs.Ordering.{nat_cmp}
use Rattle.std.specs.declared.rc.Rc.{Rc}
use Rattle.schema_scan.specs.CompiledDocuments.{compiled_view}
use Rattle.schema_scan.specs.declared.compiled.Compiled.{Compiled}
use Rattle.linker.specs.SharedDocuments.{shared_documents}
use Rattle.linker.proofs.Positions.{searched}
use Rattle.linker.proofs.insertion.position.Goals as goal

pub returns : goal.returns
unfolding shared_documents
returns c =
    let facts = c.binary_search_by.ensures in
    let by_uri = facts.position (λ (d : Rc Compiled Global). slice_cmp nat_cmp (compiled_view d.value).canonical c.args.uri.now) (always_returns_same _ _ _ (λ a r g called. search (rules, tests))) in
    let both = searched (λ (d : Rc Compiled Global). compiled_view d.value) c.args.documents.now c.args.uri.now c.requires _ facts.bound by_uri in
    record { found = both.0; absent = both.1 }
