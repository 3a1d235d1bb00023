-- What an opening of files finds.
use Rattle.std.proofs.Common.{ap, arith, eqb, false, if◌then◌else◌, inl, inr, refl, sym, true, true≢false, Bool, Err, IfErr, IfOk, IsTrue, List, None, Ok, Option, Result, Some, [], ℕ, ◌&&◌, ◌<◌, ◌∙◌, ◌≡◌, ◌≤◌, ◌⊎◌}
use Rattle.std.proofs.Math.Logic.{∥∥₁_elim, ∥∥₁_map}
use Rattle.sqlite_disk.specs.declared.Disk.{Ghosts}
use Rattle.sqlite_wal.specs.Reads.{are_clean, AreClean, OnlyReads}
use Rattle.sqlite_wal.specs.Recovery.{Image, IsIgnored, Pages}
use Rattle.sqlite_wal.specs.Format.{be32}
use Rattle.sqlite_wal.specs.PageSize.{bytes_of, size_in_file, Names}
use Rattle.sqlite_wal.specs.declared.page_size.PageSize.{PageSize}
use Rattle.std.proofs.lemmas.Bool.Decides.{nat_tests}
use Rattle.std.proofs.lemmas.Map.Views.{exact_unsigned_eq}
use Rattle.sqlite_pool.specs.Pool as pool
use Rattle.sqlite_pool.specs.Opening.{IsBlankFile}
use Rattle.sqlite_pool.specs.Stored.{Recovers}
use Rattle.sqlite_pool.proofs.ProbeLemmas.{not_blank}
use Rattle.sqlite_pool.proofs.ResealLemmas.{adopts_of}
use Rattle.sqlite_trees.specs.View.{doubt, IsClean}
use Rattle.sqlite_store.specs.declared.store.FileStore.{FileStore}
use Rattle.sqlite_store.specs.declared.store.open.Unopened.{Unopened}
use Rattle.sqlite_store.specs.Db.{IsFile}
use Rattle.sqlite_store.specs.FileStore.{schema_of, state, view, IsReady}
use Rattle.sqlite_store.specs.Listing.{file_trees}
use Rattle.sqlite_store.specs.Saved.{kept_schema}
use Rattle.sqlite_store.specs.declared.catalog.Wanted.{Wanted}
use Rattle.sqlite_store.specs.declared.saved.Saved.{Saved}
use Rattle.sqlite_value.specs.Order.{Row as Entry}
use Rattle.sqlite_trees.specs.Tree.{no_trees}
use Rattle.sqlite_store.specs.Slots.{IsStoredFile}
use Rattle.sqlite_store.specs.Unopened.{files_of, image, state_of, wanted_by, HasFile}
use Rattle.document_file.specs.Files.{schema, AreFoundIn, NamesPages, StandFor}

pub undoubted : (b : Bool) → doubt b ≡ 0 → IsTrue b
unfolding doubt
undoubted true h = refl
undoubted false h = absurd (cc)

pub doubtless : (b : Bool) → IsTrue b → doubt b ≡ 0
unfolding doubt
doubtless true h = refl
doubtless false h = absurd (true≢false (sym h))

pub both_ok : {X E : Type 0} (r : Result X E) {P Q R : X → Type 0} → IfOk r P → IfOk r Q → ((x : X) → P x → Q x → R x) → IfOk r R
both_ok (Ok x) p q f = f x p q
both_ok (Err e) p q f = tt

pub each_err : {X E : Type 0} (r : Result X E) {P Q : E → Type 0} → IfErr r P → ((e : E) → P e → Q e) → IfErr r Q
each_err (Ok x) p f = tt
each_err (Err e) p f = f e p

read_clean : (old-log old-db new-log new-db : Bool) → (IsTrue new-log → IsTrue old-log) → (IsTrue new-db → IsTrue old-db) → IsTrue (new-log && new-db) → IsTrue (old-log && old-db)
read_clean old-log old-db true true log db clean = rw (log refl, db refl) refl
read_clean old-log old-db true false log db clean = absurd (true≢false (sym clean))
read_clean old-log old-db false new-db log db clean = absurd (true≢false (sym clean))

-- files that were only read are as clean as before at least
pub clean_before : {D : Type 0} (g : Ghosts D) (log log-after db db-after : D) → OnlyReads g log log-after → OnlyReads g db db-after → AreClean g log-after db-after → AreClean g log db
clean_before g log log-after db db-after read-log read-db clean =
    read_clean (g.is_clean log) (g.is_clean db) (g.is_clean log-after) (g.is_clean db-after) read-log.clean read-db.clean clean

-- files that a making was cut off in stand for no documents
pub blank_stands : (size other : ℕ) (image : Image) → 512 ≤ size → 0 < other → IsBlankFile other image → (entries : List Entry) → ¬ StandFor size image entries
blank_stands size other image large some blank entries stand =
    ∥∥₁_elim stand.sound (λ x y. absurd x) (λ sound.
    not_blank size image stand.pages (adopts_of size image stand.pages stand.found) (omega arith) sound.sound other some blank)

-- pages that are a sound file of the schema, by the words of a store
stands : (saved : Option Saved) (listed : List Wanted) (other size : ℕ) (found : Image) (pages : Pages) (honest : Bool) (entries : List Entry)
    → saved ≡ None → listed ≡ schema → other ≡ size → Recovers size found pages → ∥ IsFile other (kept_schema saved listed) pages ∥₁ → IsTrue honest
    → entries ≡ (if honest then file_trees other (kept_schema saved listed) pages else no_trees) 0 → StandFor size found entries
stands saved listed other size found pages honest entries none is sized recovers sound clean same =
    record {
      pages = pages;
      found = recovers;
      sound = rw (none, is, sized) at sound;
      same = same ∙ rw (clean, none, is, sized) refl;
    }

module _ {D : Type 0} {g : Ghosts D} where
  pub clean_files : (it : Unopened D g) → (state_of it).is_clean ≡ are_clean g (files_of it).0 (files_of it).1
  unfolding pool.state pool.files
  clean_files it = refl

  -- what was opened stands for its rows
  pub opened_stands : (store : FileStore D g) (size : ℕ) (found : Image) → IsReady store → schema_of store ≡ schema → (state store).page_size ≡ size
      → Recovers size found (state store).committed → IsClean (view store) → StandFor size found ((view store).trees 0)
  opened_stands store size found ready schema_is size_is recovers clean =
      stands store.saved (schema_of store) (state store).page_size size found (state store).committed (state store).is_clean ((view store).trees 0)
      ready.unaltered schema_is size_is recovers
      (∥∥₁_map (store.stored (ready.is_open clean)) (λ (s : IsStoredFile _ _ _ _ _). s.ours.file))
      (undoubted (state store).is_clean clean) (ap (λ f. f 0) ready.clean)

  -- what was refused stands for nothing
  pub refused_stands : (it : Unopened D g) (size : ℕ) (found : Image) → ¬ HasFile it → wanted_by it ≡ schema → (state_of it).page_size ≡ size → image it ≡ found
      → (others : List Entry) → ¬ StandFor size found others
  refused_stands it size found none is sized same others stand =
      ∥∥₁_elim stand.sound (λ x y. absurd x) (λ sound. none (stand.pages, rw (sized, same) stand.found, rw (sized, is) sound))

eqb_same : (n : ℕ) → eqb n n ≡ true
eqb_same n = grind (arith, nat_tests)

same_if_not_other : (a b : ℕ) → ((a ≡ b → ⊥) → ⊥) → a ≡ b
same_if_not_other a b h = go (eqb a b) refl
  where
    go : (t : Bool) → eqb a b ≡ t → a ≡ b
    go true e = exact_unsigned_eq a b e
    go false e = absurd (h (λ same. true≢false (sym (eqb_same b) ∙ ap (λ x. eqb x b) (sym same) ∙ e)))

-- the length that the probe tells is the one that the files name
pub named_pages : (image : Image) (told : PageSize) → (¬ IsIgnored image.log → Names (Some told) (be32 image.log 8)) → (IsIgnored image.log → Names (Some told) (size_in_file image.db))
    → (size : ℕ) → NamesPages image size → size ≡ bytes_of told
named_pages image told by_log by_file size names = same_if_not_other size (bytes_of told) (λ other.
    let none : ¬ IsIgnored image.log = λ ignored. other (names.by_file ignored ∙ sym (by_file ignored).1) in
    other (names.by_log none ∙ sym (by_log none).1))

-- of the entries that a store was found with, or made without
pub any_found : (size : ℕ) (image : Image) (entries others : List Entry) → entries ≡ others
    → StandFor size image others ⊎ ((others ≡ []) × ((more : List Entry) → ¬ StandFor size image more)) → ((n : ℕ) → NamesPages image n → n ≡ size)
    → AreFoundIn image entries
any_found size image entries others same (inl stand) named = inl (size, rw same stand)
any_found size image entries others same (inr none) named = inr (same ∙ none.0, λ n names more. rw (named n names) (none.1 more))
