use Rattle.std.proofs.Common.{inl, inr, is_ok, sym, true, true≢false, Err, Ok, OnOk, Result, ◌∙◌, ◌≡◌}
use Rattle.document_file.proofs.crashing.put_and_crash.Goals as goal

pub returns-clause-whole : goal.returns-clause-whole
returns-clause-whole g c before after up held clean holds =
    let settled = c.in_ok-commit.ensures.holds before held in
    elim (c.put_all.ensures.crash before after up settled (c.in_ok-reopened.ensures.found after clean holds)) [
      | inl old ↦ inl (c.in_ok-commit.ensures.kept before after settled old)
      | inr new ↦ inr new
    ]

pub returns-clause-acknowledged : goal.returns-clause-acknowledged
returns-clause-acknowledged g c before after up held clean holds is_kept =
    on_ok c.put_all.result (sym c.is_ok-is_kept.ensures.value ∙ is_kept) c.put_all.ensures.kept before after up (c.in_ok-commit.ensures.holds before held)
    (c.in_ok-reopened.ensures.found after clean holds)
  where
    on_ok : {X E P : Type 0} (r : Result X E) → is_ok r ≡ true → OnOk r P → P
    on_ok (Ok x) h p = p
    on_ok (Err e) h p = absurd (true≢false (sym h))
