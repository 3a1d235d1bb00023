use Rattle.std.proofs.Common.{ap, arith, false, rules, sym, ◌∙◌, ◌≡◌}
use Rattle.document_file.proofs.Commits.{committed_rows}
use Rattle.document_file.proofs.Rows.{same_rows}
use Rattle.document_file.proofs.files.DocumentFileDocumentStore.commit.Goals as goal

pub returns-in-Ok-clause-kept : goal.returns-in-Ok-clause-kept
returns-in-Ok-clause-kept g c rs ss held found =
    let sound : (g.S.Store.view c.commit.new.self).is_broken ≡ false = search rules in
    let kept : found.1.0 ≡ (g.S.Store.view c.commit.new.self).trees = search rules in
    same_rows ss rs (sym found.1.2 ∙ ap (λ f. f 0) kept ∙ held found.0 sound)

pub returns-in-Ok-clause-crash : goal.returns-in-Ok-clause-crash
returns-in-Ok-clause-crash g c = committed_rows (g.S.Store.view c.args.self.now.store) (g.S.Store.view c.commit.new.self) (λ clean. omega (arith, c.commit.ensures.clean)) c.commit.ensures.crash

pub returns-in-Err-clause-crash : goal.returns-in-Err-clause-crash
returns-in-Err-clause-crash g c = committed_rows (g.S.Store.view c.args.self.now.store) (g.S.Store.view c.commit.new.self) (λ clean. omega (arith, c.commit.ensures.clean)) c.commit.ensures.crash
