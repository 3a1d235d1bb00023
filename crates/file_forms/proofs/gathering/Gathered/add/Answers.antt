use Rattle.std.proofs.Common.{◌∙◌, inl, inr, refl, string_bytes, subst, sym}
use Rattle.std.specs.List.{Contains}
use Rattle.file_forms.specs.Gathered.{LiesAt}
use Rattle.file_forms.specs.Roots.{folder_of}
use Rattle.file_forms.proofs.Going.{texts}
use Rattle.file_forms.proofs.Places.{was_read, was_unread}
use Rattle.file_forms.proofs.gathering.Gathered.add.Goals as goal

pub returns-in-Err-clause-err : goal.returns-in-Err-clause-err
returns-in-Err-clause-err g c = inr (inl c.in-Err.ensures.err)

pub returns-then-contains-clause-ok : goal.returns-then-contains-clause-ok
returns-then-contains-clause-ok g c = record {
  place = c.as_str.result.now;
  lies = subst (LiesAt (folder_of c.args.self.now) c.args.path.now) (sym c.as_str.ensures.value) c.in-Ok.ensures.ok;
  read = was_read c.as_str.result.now c.args.self.now.places.keys (sym c.contains.ensures ∙ c.if-contains.true);
  same = refl;
}

pub returns-in-Ok-add_at-clause-ok : goal.returns-in-Ok-add_at-clause-ok
returns-in-Ok-add_at-clause-ok g c = record {
  place = string_bytes c.in-Ok.place;
  added = c.in-Ok-add_at.ensures.ok;
  unread = λ h.
      was_unread c.as_str.result.now c.args.self.now.places.keys (sym c.contains.ensures ∙ c.if-contains.false)
      (subst (Contains (texts c.args.self.now.places.keys)) (sym c.as_str.ensures.value) h);
}
