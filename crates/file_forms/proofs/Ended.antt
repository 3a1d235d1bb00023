-- How checks of several instances and bundles end, from a linked schema on.
use Rattle.std.proofs.Common.{◌≡◌, ◌≢◌, Bor, Option, Some, None, Err, option_map, refl, sym, subst, inl, inr}
use Rattle.std.specs.Option.{IfSome}
use Rattle.command_line.specs.Calls.{Bundling, Checks}
use Rattle.definitions.specs.Bundles.{bundle}
use Rattle.definitions.specs.Values.{Text}
use Rattle.faults.specs.View.{fault_view}
use Rattle.faults.specs.declared.Fault.{Fault}
use Rattle.faults.specs.declared.Fault.TheVariants.{NoRoom}
use Rattle.file_forms.specs.Accounts.{State}
use Rattle.file_forms.specs.Bundles.{EndsBundle, EndsBundleOf, HasNone, HasWritten, IsBundleOf, IsBundleTrouble, IsGiven, IsGivenBundle, IsUnbundled, IsUngiven, given_in}
use Rattle.file_forms.specs.Checks.{AreCheckedBy, EndsChecks, given_of, state_with}
use Rattle.file_forms.specs.Gathered.{Folder}
use Rattle.file_forms.specs.Refusals.{IsRefusal, IsUnwritten, Tells}
use Rattle.file_forms.specs.Roots.{IsLinkedRoot, IsLinkedSchema, IsRootTrouble}
use Rattle.file_forms.specs.Subjects.{Holds, Lists}
use Rattle.file_forms.specs.Told.{TellsSome}
use Rattle.file_forms.specs.declared.trouble.Trouble.{Trouble}
use Rattle.file_forms.proofs.Checked.{are_checked}
use Rattle.file_forms.proofs.Telling.{one_told, other_told}
use Rattle.linker.specs.LinkedDocuments.{linked_documents, linked_uri}
use Rattle.linker.specs.declared.linked.Linked.{Linked}

-- ---- checks
pub ends_checked : (holds : Holds) (lists : Lists) (runs_in : Folder) (checks : Checks) (found : Option Linked) (linked : Linked) (input left : Option Text) (printed told printed' told' : Text)
    (after : State) → found ≡ Some linked → IsLinkedSchema holds lists runs_in (given_of checks) found told told' → printed' ≡ printed
    → AreCheckedBy holds lists checks linked input left (state_with printed' told' 0) after → EndsChecks holds lists runs_in checks input left (state_with printed told 0) after
ends_checked holds lists runs_in checks found linked input left printed told printed' told' after found_is is unprinted by =
    let root : IsLinkedSchema holds lists runs_in (given_of checks) (Some linked) told told' = subst (λ o. IsLinkedSchema holds lists runs_in (given_of checks) o told told') found_is is in
    inl (are_checked holds lists runs_in checks linked input left (state_with printed told 0) after root.0
    (subst (λ t. AreCheckedBy holds lists checks linked input left (state_with printed t 0) after) root.1
    (subst (λ p. AreCheckedBy holds lists checks linked input left (state_with p told' 0) after) unprinted by)))

pub ends_unchecked : (holds : Holds) (lists : Lists) (runs_in : Folder) (checks : Checks) (found : Option Linked) (input left : Option Text) (printed told printed' told' : Text) → found ≡ None
    → IsLinkedSchema holds lists runs_in (given_of checks) found told told' → printed' ≡ printed
    → EndsChecks holds lists runs_in checks input left (state_with printed told 0) (state_with printed' told' 2)
ends_unchecked holds lists runs_in checks found input left printed told printed' told' found_is is unprinted =
    inr (record { told = subst (λ o. IsLinkedSchema holds lists runs_in (given_of checks) o told told') found_is is; unprinted = unprinted; status = refl })

pub ends_refused : (holds : Holds) (lists : Lists) (runs_in : Folder) (checks : Checks) (input left : Option Text) (trouble : Trouble) (printed told told' printed'' told'' : Text)
    → IsRootTrouble holds lists runs_in (given_of checks) trouble → told' ≡ told → printed'' ≡ printed → Tells trouble told' told''
    → EndsChecks holds lists runs_in checks input left (state_with printed told 0) (state_with printed'' told'' 2)
ends_refused holds lists runs_in checks input left trouble printed told told' printed'' told'' is untold unprinted tells =
    inr (record {
      told = one_told (IsRootTrouble holds lists runs_in (given_of checks)) trouble told told'' is (subst (λ t. Tells trouble t told'') untold tells);
      unprinted = unprinted;
      status = refl;
    })

-- ---- bundles
pub has_no_bundle : (linked : Linked) (path : Text) (out : Option Text) (fault : Fault) (trouble : Trouble)
    → (fault ≢ NoRoom → bundle (linked_documents linked) (linked_uri linked) ≡ Err (fault_view fault)) → IsRefusal path None fault trouble → IsUngiven linked path out trouble
has_no_bundle linked path out fault trouble why is = inl (record { fault = fault; is = is; why = why })

pub is_given : (has_written : HasWritten) (linked : Linked) (out : Option Text) (whole shown before after : Text) → IsBundleOf linked whole → shown ≡ whole
    → IsGiven has_written out shown before after → IsGivenBundle has_written out linked before after
is_given has_written linked out whole shown before after is shown_is given =
    record { whole = whole; is_bundle = is; given = subst (λ t. IsGiven has_written out t before after) shown_is given }

pub unwritten : (linked : Linked) (path : Text) (out : Option (Bor Text)) (to : Bor Text) (trouble : Trouble) → out ≡ Some to → IsUnwritten to.now trouble
    → IsUngiven linked path (option_map (λ p. p.now) out) trouble
unwritten linked path out to trouble out_is is = inr (subst (λ o. IfSome (option_map (λ p. p.now) o) (λ p. IsUnwritten p trouble)) (sym out_is) is)

pub ends_ungiven : (has_written : HasWritten) (bundling : Bundling) (linked : Linked) (trouble : Trouble) (printed told told' printed'' told'' : Text)
    → IsUngiven linked bundling.schema bundling.out trouble → told' ≡ told → printed'' ≡ printed → Tells trouble told' told''
    → EndsBundleOf has_written bundling linked (state_with printed told 0) (state_with printed'' told'' 2)
ends_ungiven has_written bundling linked trouble printed told told' printed'' told'' is untold unprinted tells =
    inr (record {
      told = one_told (IsUngiven linked bundling.schema bundling.out) trouble told told'' is (subst (λ t. Tells trouble t told'') untold tells);
      unprinted = unprinted;
      status = refl;
    })

ends_from : (holds : Holds) (lists : Lists) (runs_in : Folder) (has_written : HasWritten) (bundling : Bundling) (linked : Linked) (before after : State)
    → IsLinkedRoot holds lists runs_in (given_in bundling) linked → EndsBundleOf has_written bundling linked before after → EndsBundle holds lists runs_in has_written bundling before after
ends_from holds lists runs_in has_written bundling linked before after root (inl x) = inl (record { linked = linked; root = root; given = x.given; untold = x.untold; status = x.status })
ends_from holds lists runs_in has_written bundling linked before after root (inr x) =
    inr (record {
      told = other_told (IsUngiven linked bundling.schema bundling.out) (IsBundleTrouble holds lists runs_in bundling) before.told after.told
          (λ trouble t. inr (record { linked = linked; root = root; ungiven = t })) x.told;
      unprinted = x.unprinted;
      status = x.status;
    })

pub ends_bundled : (holds : Holds) (lists : Lists) (runs_in : Folder) (has_written : HasWritten) (bundling : Bundling) (found : Option Linked) (linked : Linked) (printed told printed' told' : Text)
    (after : State) → found ≡ Some linked → IsLinkedSchema holds lists runs_in (given_in bundling) found told told' → printed' ≡ printed
    → EndsBundleOf has_written bundling linked (state_with printed' told' 0) after → EndsBundle holds lists runs_in has_written bundling (state_with printed told 0) after
ends_bundled holds lists runs_in has_written bundling found linked printed told printed' told' after found_is is unprinted by =
    let root : IsLinkedSchema holds lists runs_in (given_in bundling) (Some linked) told told' = subst (λ o. IsLinkedSchema holds lists runs_in (given_in bundling) o told told') found_is is in
    ends_from holds lists runs_in has_written bundling linked (state_with printed told 0) after root.0
    (subst (λ t. EndsBundleOf has_written bundling linked (state_with printed t 0) after) root.1
    (subst (λ p. EndsBundleOf has_written bundling linked (state_with p told' 0) after) unprinted by))

pub ends_unlinked : (holds : Holds) (lists : Lists) (runs_in : Folder) (has_written : HasWritten) (bundling : Bundling) (found : Option Linked) (printed told printed' told' : Text) → found ≡ None
    → IsLinkedSchema holds lists runs_in (given_in bundling) found told told' → printed' ≡ printed
    → EndsBundle holds lists runs_in has_written bundling (state_with printed told 0) (state_with printed' told' 2)
ends_unlinked holds lists runs_in has_written bundling found printed told printed' told' found_is is unprinted =
    inr (record {
      told = other_told (IsRootTrouble holds lists runs_in (given_in bundling)) (IsBundleTrouble holds lists runs_in bundling) told told' (λ trouble t. inl t)
          (subst (λ o. IsLinkedSchema holds lists runs_in (given_in bundling) o told told') found_is is);
      unprinted = unprinted;
      status = refl;
    })

pub ends_unrooted : (holds : Holds) (lists : Lists) (runs_in : Folder) (has_written : HasWritten) (bundling : Bundling) (trouble : Trouble) (printed told told' printed'' told'' : Text)
    → IsRootTrouble holds lists runs_in (given_in bundling) trouble → told' ≡ told → printed'' ≡ printed → Tells trouble told' told''
    → EndsBundle holds lists runs_in has_written bundling (state_with printed told 0) (state_with printed'' told'' 2)
ends_unrooted holds lists runs_in has_written bundling trouble printed told told' printed'' told'' is untold unprinted tells =
    inr (record {
      told = one_told (IsBundleTrouble holds lists runs_in bundling) trouble told told'' (inl is) (subst (λ t. Tells trouble t told'') untold tells);
      unprinted = unprinted;
      status = refl;
    })
