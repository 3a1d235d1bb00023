-- What a connection takes of bytes whose requests are known, over the registry of one tenant.
use Rattle.std.proofs.Common.{refl, sym, subst, append-nil, inl}
use Rattle.std.specs.Prelude.{◌≡◌, ◌<◌, ◌++◌, List, [], true, false, Some, None, codes, if◌then◌else◌, length, ◌&&◌}
use Rattle.std.specs.Str.{bytes_eq}
use Rattle.httparse.specs.Grammar.{RequestHead, print_request}
use Rattle.definitions.specs.Values.{Text, same_text}
use Rattle.definitions.specs.Faults.{unknown_tenant}
use Rattle.definitions.specs.Registries.{Registry, Reply, refused, put}
use Rattle.definitions.specs.Searches.{Search}
use Rattle.definitions.specs.Steps.{step}
use Rattle.http_definitions.specs.Heads.{body_length}
use Rattle.http_definitions.specs.Streams.{Message, close, IsWaiting, IsHopeless}
use Rattle.http_definitions.specs.Connections.{Answers, AnswersAll, reply_texts, Ends, Takes, holding, closed}
use Rattle.http_rows.proofs.Computed.{spells, spells_if, is_head, is_small, begins_head_if}

-- the grammar reads no pattern
abbrev pub no_search : Search
no_search = record { reads = (λ p. false); matches = (λ p t. false) }

-- the one tenant's key is `k1`
abbrev pub by_key : Answers Registry
by_key g key q r after = (if same_text key (codes "k1") then step no_search g q else (refused unknown_tenant, g)) ≡ (r, after)

abbrev pub empty : Registry
empty = record { documents = []; library = []; most_documents = 100; most_bytes = 1000000 }

abbrev pub after_put : Registry
after_put = (step no_search empty (put (codes "https://ex.org/s") (codes "{}"))).1

-- ---- what is taken
pub takes_and_holds : (bytes : Text) (ms : List Message) (rs : List Reply) (rest : Text) (s t : Registry) → spells bytes ms rest ≡ true → close ms ≡ false
    → IsWaiting rest → AnswersAll by_key s ms rs t → Takes by_key bytes s (reply_texts ms rs) (holding rest) t
takes_and_holds bytes ms rs rest s t e unclosed waits answered = record {
  messages = ms;
  replies = rs;
  rest = rest;
  told = [];
  spelled = spells_if bytes ms rest e;
  answered = answered;
  ends = subst (λ c. Ends c rest [] (holding rest)) (sym unclosed) (inl (waits, refl, refl));
  out_is = sym (append-nil (reply_texts ms rs));
}

pub takes_and_closes : (bytes : Text) (ms : List Message) (rs : List Reply) (rest : Text) (s t : Registry) → spells bytes ms rest ≡ true → close ms ≡ true
    → AnswersAll by_key s ms rs t → Takes by_key bytes s (reply_texts ms rs) closed t
takes_and_closes bytes ms rs rest s t e last answered = record {
  messages = ms;
  replies = rs;
  rest = rest;
  told = [];
  spelled = spells_if bytes ms rest e;
  answered = answered;
  ends = subst (λ c. Ends c rest [] closed) (sym last) (refl, refl);
  out_is = sym (append-nil (reply_texts ms rs));
}

-- a head that its fields refuse
pub refused_by_fields : (bytes : Text) (h : RequestHead) → (bytes_eq bytes (print_request h ++ []) && (is_head h && is_small h)) ≡ true
    → body_length h ≡ None → IsHopeless bytes
refused_by_fields bytes h e none = inl (h, [], begins_head_if bytes h [] e, none)

-- a head whose body isn't whole
pub waits_for_body : (bytes : Text) (h : RequestHead) (more : Text) (n : _) → (bytes_eq bytes (print_request h ++ more) && (is_head h && is_small h)) ≡ true
    → body_length h ≡ Some n → length more < n → IsWaiting bytes
waits_for_body bytes h more n e long short = inl (h, more, n, begins_head_if bytes h more e, long, short)
