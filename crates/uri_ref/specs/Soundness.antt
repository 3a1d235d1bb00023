-- What holds of the parts of every text, and of the parts that such parts resolve to (RFC 3986, section 3).
use Rattle.std.specs.Prelude.{[], IsTrue, ◌||◌, codes, is_some}
use Rattle.definitions.specs.Values.{same_text}
use Rattle.definitions.specs.Uris.{Parts, begins, is_free_of, is_scheme, option_all}

-- the scheme is one, no part has a sign that would end it, and a path after an authority is empty or begins with `/`
pub record AreSound (p : Parts) : Type 0 where
  pub scheme : IsTrue (option_all is_scheme p.scheme)
  pub authority : IsTrue (option_all (is_free_of (codes "/?#")) p.authority)
  pub path : IsTrue (is_free_of (codes "?#") p.path)
  pub rooted : IsTrue (is_some p.authority) → IsTrue (same_text p.path [] || begins p.path (codes "/"))
  pub query : IsTrue (option_all (is_free_of (codes "#")) p.query)
