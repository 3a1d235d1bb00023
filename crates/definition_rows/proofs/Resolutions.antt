-- Reference resolution: the examples of RFC 3986, section 5.4, and some that identifiers rest on.
use Rattle.std.proofs.Common.{◌≡◌, refl}
use Rattle.std.specs.Prelude.{List, [], ◌∷◌, codes, map, Ok, Err}
use Rattle.definitions.specs.Values.{Text}
use Rattle.definitions.specs.Faults.{bad_uri}
use Rattle.definitions.specs.Resolution.{target_uri, base_form}

-- each reference, and what it is against `http://a/b/c/d;p?q`
examples : List (Text × Text)
examples =
    (codes "g:h", codes "g:h")
    ∷ (codes "g", codes "http://a/b/c/g")
    ∷ (codes "./g", codes "http://a/b/c/g")
    ∷ (codes "g/", codes "http://a/b/c/g/")
    ∷ (codes "/g", codes "http://a/g")
    ∷ (codes "//g", codes "http://g")
    ∷ (codes "?y", codes "http://a/b/c/d;p?y")
    ∷ (codes "g?y", codes "http://a/b/c/g?y")
    ∷ (codes "#s", codes "http://a/b/c/d;p?q#s")
    ∷ (codes "g#s", codes "http://a/b/c/g#s")
    ∷ (codes "g?y#s", codes "http://a/b/c/g?y#s")
    ∷ (codes ";x", codes "http://a/b/c/;x")
    ∷ (codes "g;x", codes "http://a/b/c/g;x")
    ∷ (codes "g;x?y#s", codes "http://a/b/c/g;x?y#s")
    ∷ (codes "", codes "http://a/b/c/d;p?q")
    ∷ (codes ".", codes "http://a/b/c/")
    ∷ (codes "./", codes "http://a/b/c/")
    ∷ (codes "..", codes "http://a/b/")
    ∷ (codes "../", codes "http://a/b/")
    ∷ (codes "../g", codes "http://a/b/g")
    ∷ (codes "../..", codes "http://a/")
    ∷ (codes "../../", codes "http://a/")
    ∷ (codes "../../g", codes "http://a/g")
    ∷ (codes "../../../g", codes "http://a/g")
    ∷ (codes "../../../../g", codes "http://a/g")
    ∷ (codes "/./g", codes "http://a/g")
    ∷ (codes "/../g", codes "http://a/g")
    ∷ (codes "g.", codes "http://a/b/c/g.")
    ∷ (codes ".g", codes "http://a/b/c/.g")
    ∷ (codes "g..", codes "http://a/b/c/g..")
    ∷ (codes "..g", codes "http://a/b/c/..g")
    ∷ (codes "./../g", codes "http://a/b/g")
    ∷ (codes "./g/.", codes "http://a/b/c/g/")
    ∷ (codes "g/./h", codes "http://a/b/c/g/h")
    ∷ (codes "g/../h", codes "http://a/b/c/h")
    ∷ (codes "g;x=1/./y", codes "http://a/b/c/g;x=1/y")
    ∷ (codes "g;x=1/../y", codes "http://a/b/c/y")
    ∷ (codes "g?y/./x", codes "http://a/b/c/g?y/./x")
    ∷ (codes "g?y/../x", codes "http://a/b/c/g?y/../x")
    ∷ (codes "g#s/./x", codes "http://a/b/c/g#s/./x")
    ∷ (codes "g#s/../x", codes "http://a/b/c/g#s/../x")
    ∷ (codes "http:g", codes "http:g") ∷ []

examples_resolve : map (λ e. target_uri (codes "http://a/b/c/d;p?q") e.0) examples ≡ map (λ e. e.1) examples
unfolding examples
examples_resolve = refl

no_authority : target_uri (codes "urn:x:y") (codes "b") ≡ codes "urn:b"
no_authority = refl

-- ---- the URI of a request
dots_removed : base_form (codes "https://ex.org/x/../a") ≡ Ok (codes "https://ex.org/a")
dots_removed = refl

no_scheme : base_form (codes "s") ≡ Err bad_uri
no_scheme = refl

with_a_fragment : base_form (codes "https://ex.org/a#") ≡ Err bad_uri
with_a_fragment = refl

-- its parts, resolved, have no authority and a path that begins with `//`
splits_otherwise : base_form (codes "x:/.//a") ≡ Err bad_uri
splits_otherwise = refl
