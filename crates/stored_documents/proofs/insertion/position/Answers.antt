use Rattle.std.proofs.Common.{rules, tests}
use Rattle.std.proofs.lemmas.Fn.{always_returns_same}
use Rattle.std.specs.Cmp.Lexicographic.{slice_cmp}
use Rattle.std.specs.Global.{Global}
use Rattle.std.specs.Ordering.{nat_cmp}
use Rattle.std.specs.declared.rc.Rc.{Rc}
use Rattle.linker.proofs.Positions.{searched}
use Rattle.stored_documents.specs.SharedStored.{stored_documents}
use Rattle.stored_documents.specs.StoredDocuments.{stored_view}
use Rattle.stored_documents.specs.declared.stored.Stored.{Stored}
use Rattle.stored_documents.proofs.insertion.position.Goals as goal

pub returns : goal.returns
unfolding stored_documents
returns c =
    let facts = c.binary_search_by.ensures in
    let by_uri = facts.position (λ (s : Rc Stored Global). slice_cmp nat_cmp (stored_view s.value).canonical c.args.uri.now) (always_returns_same _ _ _ (λ a r g called. search (rules, tests))) in
    let both = searched (λ (s : Rc Stored Global). stored_view s.value) c.args.documents.now c.args.uri.now c.requires _ facts.bound by_uri in
    record { found = both.0; absent = both.1 }
