-- What an opening may find, by events one after the other.
use Rattle.std.proofs.Common.{◌≡◌, ℕ, List, [], ◌++◌, Option, Some, None, sym, ap, ◌∙◌, subst, append_assoc, append-nil}
use Rattle.definitions.specs.Values.{Text}
use Rattle.http_definitions.specs.Connections.{Answers}
use Rattle.connections.specs.Events.{Event, Standing, Happen, none_is_open, sent_to}
use Rattle.network.specs.Traffic.{Moved, bytes_of}
use Rattle.serving_many.specs.Going.{Tells}
use Rattle.serving_many.specs.Kept.{IsKept}
use Rattle.serving_many.proofs.Lists.{bytes_on}

-- ---- of a connection that has ended, less is known
pub less_told : (a b : Text) (p : Option Text) → Tells a b p → Tells a b None
less_told a b (Some rest) x = (rest, x)
less_told a b None x = x

-- events more
pub kept_more : {S : Type 0} (answers : Answers S) (s t : S) (events more : List Event) (wrote : List Moved)
    → IsKept answers s events wrote t → IsKept answers s (events ++ more) wrote t
kept_more answers s t events more wrote x = record {
  kept = x.kept;
  later = x.later ++ more;
  parts = ap (λ l. l ++ more) x.parts ∙ append_assoc x.kept x.later more;
  standing = x.standing;
  happened = x.happened;
  told = x.told;
}

-- .. and nothing was written
pub kept_on : {S : Type 0} (answers : Answers S) (s t : S) (events more : List Event) (wrote others : List Moved) → ((k : ℕ) → bytes_of k others ≡ [])
    → IsKept answers s events wrote t → IsKept answers s (events ++ more) (wrote ++ others) t
kept_on answers s t events more wrote others none x = record {
  kept = x.kept;
  later = x.later ++ more;
  parts = ap (λ l. l ++ more) x.parts ∙ append_assoc x.kept x.later more;
  standing = x.standing;
  happened = x.happened;
  told = λ k. ((x.told k).0, (x.told k).1 ∙ ap (λ b. b ++ (x.told k).0) (sym (bytes_on k wrote others ∙ ap (λ b. bytes_of k wrote ++ b) (none k) ∙ append-nil (bytes_of k wrote))));
}

-- all of them
pub all_kept : {S : Type 0} (answers : Answers S) (s now t : S) (events : List Event) (wrote : List Moved) (standing : ℕ → Standing) (unsent : ℕ → Option Text)
    → Happen answers none_is_open s events standing now → ((k : ℕ) → Tells (sent_to k events) (bytes_of k wrote) (unsent k)) → t ≡ now → IsKept answers s events wrote t
all_kept answers s now t events wrote standing unsent happened told same = record {
  kept = events;
  later = [];
  parts = sym (append-nil events);
  standing = standing;
  happened = subst (λ v. Happen answers none_is_open s events standing v) (sym same) happened;
  told = λ k. less_told _ _ (unsent k) (told k);
}
