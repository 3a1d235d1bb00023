use Rattle.std.proofs.Common.{◌≡◌, IfOk, Result, Ok, Err, Vec, String, List, map, string_bytes, sym, subst}
use Rattle.std.specs.Cmp.Lexicographic.{slice_cmp}
use Rattle.std.specs.Global.{Global}
use Rattle.std.specs.List.Sorted.{IsStrictlySortedBy}
use Rattle.std.specs.Ordering.{nat_cmp}
use Rattle.definitions.specs.Values.{Text}
use Rattle.linker.specs.LinkedDocuments.{linked_documents}
use Rattle.linker.specs.SharedDocuments.{shared_documents}
use Rattle.definitions.specs.Documents.{canonicals}
use Rattle.linker.proofs.contents.reached.Goals as goal

told : {E : Type 0} (P : List Text → Type 0) (r : Result (Vec (String Global) Global) E) (uris : List Text) → P uris → IfOk r (λ v. map string_bytes v.items ≡ uris) → IfOk r (λ v. P (map string_bytes v.items))
told P (Ok v) uris p e = subst P (sym e) p
told P (Err e) uris p is = tt

pub returns-clause-ok : goal.returns-clause-ok
unfolding linked_documents
returns-clause-ok c = subst (λ ds. IfOk c.canonical_uris.result (λ uris. map string_bytes uris.items ≡ canonicals (shared_documents ds))) c.deref.ensures.value c.canonical_uris.ensures

pub returns-clause-ascending : goal.returns-clause-ascending
returns-clause-ascending c =
    told (IsStrictlySortedBy (slice_cmp nat_cmp)) c.canonical_uris.result (canonicals (shared_documents c.args.linked.now.documents.items)) c.args.linked.now.ascend
    (subst (λ ds. IfOk c.canonical_uris.result (λ uris. map string_bytes uris.items ≡ canonicals (shared_documents ds))) c.deref.ensures.value c.canonical_uris.ensures)
