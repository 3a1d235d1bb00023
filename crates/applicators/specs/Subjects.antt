-- What a schema is applied to, as a value.
use Rattle.definitions.specs.Values.{Value, string}
use Rattle.json_doc.specs.Docs as docs
use Rattle.json_doc.specs.NamedMembers.{name_text}
use Rattle.applicators.specs.declared.subject.Subject.{Subject}
use Rattle.applicators.specs.declared.subject.Subject.TheVariants as subject

abbrev pub subject_value : Subject → Value
subject_value (subject.Value doc) = docs.value doc.now
subject_value (subject.Name name) = string (name_text name)
