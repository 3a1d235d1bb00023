-- How far a head was sought.
use Rattle.std.specs.Prelude.{◌≡◌, ◌≤◌, ◌<◌, ℕ, length, take}
use Rattle.httparse.specs.Grammar.{RequestHead, ReadsRequest, print_request}
use Rattle.definitions.specs.Values.{Text}
use Rattle.http_definitions.specs.Heads.{most_head_bytes, most_line_feeds, line_feeds}
use Rattle.request_heads.specs.declared.searches.Search.{Search}

-- no head ends within the first n bytes
abbrev pub EndsPast : ℕ → Text → Type 0
EndsPast n bytes = (h : RequestHead) (more : Text) → ReadsRequest bytes h more → n < length (print_request h)

-- a head of these bytes is all of them
abbrev pub HeadsEndIn : Text → Type 0
HeadsEndIn window =
    (h : RequestHead) (rest : Text)
    → ReadsRequest window h rest → length window ≤ length (print_request h)

-- so many of the bytes were looked at, and they have so many line feeds
pub record IsSearched (bytes : Text) (s : Search) : Type 0 where
  pub within : s.len ≤ length bytes
  pub short : s.len < most_head_bytes
  pub feeds : s.line_feeds ≡ line_feeds (take s.len bytes)
  pub few : s.line_feeds < most_line_feeds
  pub past : EndsPast s.len bytes

-- so many of the bytes were looked at, no more than a head may have, and they have so many line feeds
pub record IsSought (bytes : Text) (s : Search) : Type 0 where
  pub within : s.len ≤ length bytes
  pub short : s.len ≤ most_head_bytes
  pub feeds : s.line_feeds ≡ line_feeds (take s.len bytes)
  pub few : s.line_feeds < most_line_feeds
  pub past : EndsPast s.len bytes
