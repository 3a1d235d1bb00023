use Rattle.std.proofs.Common.{◌≡◌, Bool, Bor, List, Option, map, find, is_some, option_map, rules, tests, refl, sym, ap, ◌∙◌}
use Rattle.std.proofs.lemmas.Iterator.{YieldsList-from_slice}
use Rattle.std.proofs.lemmas.Iterator.Search.{find_from_yields_List}
use Rattle.definitions.specs.Values.{entry}
use Rattle.definitions.specs.Schemas.{Document}
use Rattle.definitions.specs.Bundles.{defs_of}
use Rattle.json_doc.specs.Docs.{value}
use Rattle.lemmas.proofs.Lists.{find-map}
use Rattle.lemmas.proofs.Options.{option_map-twice}
use Rattle.bundler.specs.Constituents.{constituent_view}
use Rattle.bundler.specs.declared.constituent.Constituent.{Constituent}
use Rattle.bundler.proofs.bundling.clash.Goals as goal

-- what is found among the images, by what is found among the elements
found_image : {X Y : Type 0} (p : Y → Bool) (f : X → Y) (xs : List X) (r : Option (Bor X)) → option_map (λ d. d.now) r ≡ find (λ x. p (f x)) xs
    → option_map (λ d. f d.now) r ≡ find p (map f xs)
found_image p f xs r e = option_map-twice f (λ d. d.now) r ∙ ap (option_map f) e ∙ sym (find-map p f xs)

pub returns : goal.returns
returns c =
    let p : Document → Bool = λ d. is_some (entry d.canonical (defs_of (value c.args.root.now))) in
    let items : List Constituent = c.iter.result.rest.now in
    let found : option_map (λ d. d.now) c.find.result ≡ find (λ (d : Constituent). p (constituent_view d)) items =
    find_from_yields_List (λ (d : Constituent). p (constituent_view d)) _ _ c.find.result c.find.ensures.ran (YieldsList-from_slice items refl) (λ x b q k. search (rules, tests)) in
    found_image p constituent_view items c.find.result found ∙ ap (λ ds. find p (map constituent_view ds)) c.iter.ensures.rest
