use Rattle.schema_scan.specs.CompiledDocuments.{compiled_value}
use Rattle.shared_cache.proofs.ReadValues.{one_value, sound_as, regular_as}
use Rattle.shared_cache.specs.Readings.{read_value}
use Rattle.shared_cache.proofs.cache.Cache.compiled_of_key.Goals as goal

pub returns-in-Some-clause-value : goal.returns-in-Some-clause-value
returns-in-Some-clause-value c =
    let compiled = rw c.in-Some.is at c.in_ok-found.ensures.found in
    one_value c.args.key.now.value.1 (read_value c.args.key.now.value.1) (compiled_value c.in-Some.found.value) c.requires compiled.1

pub returns-in-Some-clause-sound : goal.returns-in-Some-clause-sound
returns-in-Some-clause-sound c =
    let compiled = rw c.in-Some.is at c.in_ok-found.ensures.found in
    sound_as c.args.key.now.value (read_value c.args.key.now.value.1) c.in-Some.found.value c.deref.result.now c.deref.ensures compiled c.requires c.document.ensures.faultless

pub returns-in-Some-clause-regular : goal.returns-in-Some-clause-regular
returns-in-Some-clause-regular c =
    let compiled = rw c.in-Some.is at c.in_ok-found.ensures.found in
    regular_as c.args.key.now.value (read_value c.args.key.now.value.1) c.in-Some.found.value c.deref.result.now c.deref.ensures compiled c.requires c.document.ensures.regular
