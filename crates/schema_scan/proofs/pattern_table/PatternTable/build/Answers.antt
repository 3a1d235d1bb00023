use Rattle.std.proofs.Common.{◌≡◌, List, Bor, String, Global, map, string_bytes, sym, ap, ◌∙◌}
use Rattle.std.specs.List.{list_all}
use Rattle.definitions.specs.Values.{Text}
use Rattle.definitions.specs.Patterns.{is_read}
use Rattle.schema_scan.specs.PatternTables.{holds_pattern}
use Rattle.schema_scan.specs.TextsAmong.{is_among}
use Rattle.schema_scan.proofs.HeldPatterns.{all_among, all_pass}
use Rattle.schema_scan.proofs.pattern_table.PatternTable.build.Goals as goal

pub returns-clause-held : goal.returns-clause-held
unfolding holds_pattern
returns-clause-held c =
    let texts = map (λ (t : Bor Text). t.now) c.args.texts.now in
    let own : c.in_ok-patterns.patterns.items ≡ map string_bytes c.in_ok-distinct.distinct.items =
    c.in_ok-patterns.ensures.built ∙ ap (λ (us : List (String Global)). map string_bytes us) c.deref.ensures.value in
    all_among c.in_ok-patterns.patterns.items texts (λ t e. ap (λ us. is_among us t) own ∙ c.in_ok-distinct.ensures.same t ∙ e)

pub returns-clause-read : goal.returns-clause-read
returns-clause-read c =
    let distinct = map string_bytes c.in_ok-distinct.distinct.items in
    all_pass is_read distinct (map (λ (t : Bor Text). t.now) c.args.texts.now)
    (ap (λ (us : List (String Global)). list_all is_read (map string_bytes us)) (sym c.deref.ensures.value) ∙ c.in_ok-patterns.ensures.read)
    (λ t e. c.in_ok-distinct.ensures.same t ∙ e)
