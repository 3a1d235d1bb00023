-- How a form ends, and with which status.
use Rattle.std.proofs.Common.{◌≡◌, ◌∙◌, ◌++◌, ℕ, Bool, true, List, [], Option, Result, Ok, Err, refl, sym, ap, subst, inl, inr}
use Rattle.std.specs.List.{list_any}
use Rattle.definitions.specs.Values.{Text}
use Rattle.faults.specs.declared.Fault.TheVariants.{NoRoom}
use Rattle.command_line.specs.Calls.{Asked}
use Rattle.command_line.specs.Calls as call
use Rattle.file_forms.specs.Accounts.{State}
use Rattle.file_forms.specs.Checks.{state_with}
use Rattle.serving.specs.Transfers.{Transfer, transferred_bytes}
use Rattle.service_forms.specs.declared.stop.Stop.{Stop}
use Rattle.service_forms.specs.declared.stop.Stop.TheVariants.{Words, NotText, CannotRead, Refused, CannotWrite, CannotListen, CannotAccept, CannotLog, Told, TooManyConnections, Store}
use Rattle.service_forms.specs.Endings.{ReadsInOrder, files_in}
use Rattle.service_forms.specs.Stops.{IsUnreadAmong, is_error}
use Rattle.schemareg.specs.Folders.{CarriedOut}
use Rattle.schemareg.specs.Forms.{Disk, Ending, EndsForm, EndsFormIfRoom, EndsFormWithIfRoom, IsShown, IsShownWith, LacksRoom, OnForm}
use Rattle.schemareg.proofs.Carried.{carried_out, every_carried}
use Rattle.schemareg.proofs.Ended.{IsTold}

-- ---- a form
-- what follows for each form follows for that of a call
pub on_forms : (disk : Disk) (input left : Option Text) (asked : Asked) (P Q : Ending → Type 0) → ((Ends : Ending) → P Ends → Q Ends)
    → OnForm disk input left asked P → OnForm disk input left asked Q
on_forms disk input left call.input P Q f h = tt
on_forms disk input left (call.check uri schema instance) P Q f h = tt
on_forms disk input left (call.check_many checks) P Q f h = f _ h
on_forms disk input left (call.bundle bundling) P Q f h = f _ h
on_forms disk input left (call.scan scanning) P Q f h = f _ h
on_forms disk input left (call.run start) P Q f h = tt
on_forms disk input left (call.serve start listen accept) P Q f h = tt
on_forms disk input left (call.serve_many start listen limits logging) P Q f h = tt

-- what holds of each holds of that one
pub every_form : (disk : Disk) (input left : Option Text) (asked : Asked) (P : Ending → Type 0) → ((Ends : Ending) → P Ends) → OnForm disk input left asked P
every_form disk input left call.input P f = tt
every_form disk input left (call.check uri schema instance) P f = tt
every_form disk input left (call.check_many checks) P f = f _
every_form disk input left (call.bundle bundling) P f = f _
every_form disk input left (call.scan scanning) P f = f _
every_form disk input left (call.run start) P f = tt
every_form disk input left (call.serve start listen accept) P f = tt
every_form disk input left (call.serve_many start listen limits logging) P f = tt

-- ---- its end
pub form_shown : (Ends : Ending) (before after : List Transfer) (printed told : Text) (end : State) (result : Result ℕ Stop) → printed ≡ transferred_bytes before → told ≡ []
    → Ends (state_with printed told 0) end → IsShown end.printed end.status result after → EndsForm Ends before result after
form_shown Ends before after printed told end result begun untold ends shown = record {
  end = end;
  ends = subst (λ t. Ends (state_with (transferred_bytes before) t 0) end) untold (subst (λ p. Ends (state_with p told 0) end) begun ends);
  shown = shown;
}

form_ended : (Ends : Ending) (before after : List Transfer) (result status : ℕ) → status ≡ result → EndsFormIfRoom Ends before (Ok result) after
    → EndsFormWithIfRoom Ends before status after
form_ended Ends before after result status e h = elim h [
  | inl x ↦ inl (record { end = x.end; ends = x.ends; shown = inl (inl (e ∙ x.shown.0), x.shown.1) })
  | inr x ↦ absurd x.0
]

shown_with : (printed : Text) (ended : ℕ) (stop : Stop) (status : ℕ) (after final : List Transfer) → IsTold stop status after final
    → IsShown printed ended (Err stop) after → IsShownWith printed ended status final
shown_with printed ended Told status after final told h = inl (inr (h.0, (told refl).0), ap transferred_bytes (told refl).1 ∙ h.1)
shown_with printed ended CannotWrite status after final told h = inr (
  (told refl).0,
  record { rest = h.rest; are = h.are ∙ ap (λ ts. transferred_bytes ts ++ h.rest) (sym (told refl).1) },
)
shown_with printed ended (Refused f) status after final told h = absurd h
shown_with printed ended (CannotRead name) status after final told h = absurd h
shown_with printed ended (Words e) status after final told h = absurd h
shown_with printed ended NotText status after final told h = absurd h
shown_with printed ended (CannotListen a) status after final told h = absurd h
shown_with printed ended CannotAccept status after final told h = absurd h
shown_with printed ended (CannotLog path) status after final told h = absurd h
shown_with printed ended (TooManyConnections most) status after final told h = absurd h
shown_with printed ended (Store s) status after final told h = absurd h

lacking : (stop : Stop) (status : ℕ) (before after final : List Transfer) → IsTold stop status after final → LacksRoom (Err stop) → after ≡ before
    → (status ≡ 2) × (final ≡ before)
lacking (Refused f) status before after final told h same = ((told refl).0, (told refl).1 ∙ same)
lacking (CannotRead name) status before after final told h same = absurd h
lacking CannotWrite status before after final told h same = absurd h
lacking Told status before after final told h same = absurd h
lacking (Words e) status before after final told h same = absurd h
lacking NotText status before after final told h same = absurd h
lacking (CannotListen a) status before after final told h same = absurd h
lacking CannotAccept status before after final told h same = absurd h
lacking (CannotLog path) status before after final told h same = absurd h
lacking (TooManyConnections most) status before after final told h same = absurd h
lacking (Store s) status before after final told h same = absurd h

form_stopped : (Ends : Ending) (before after final : List Transfer) (stop : Stop) (status : ℕ) → IsTold stop status after final
    → EndsFormIfRoom Ends before (Err stop) after → EndsFormWithIfRoom Ends before status final
form_stopped Ends before after final stop status told h = elim h [
  | inl x ↦ inl (record { end = x.end; ends = x.ends; shown = shown_with x.end.printed x.end.status stop status after final told x.shown })
  | inr x ↦ inr (lacking stop status before after final told x.0 x.1)
]

-- ---- with the files that are read before
unread_is_error : (names : List Text) (stop : Stop) → IsUnreadAmong names stop → is_error stop ≡ true
unread_is_error names (CannotRead name) h = refl
unread_is_error names (Refused f) h = refl
unread_is_error names (Words e) h = absurd h
unread_is_error names NotText h = absurd h
unread_is_error names CannotWrite h = absurd h
unread_is_error names (CannotListen a) h = absurd h
unread_is_error names CannotAccept h = absurd h
unread_is_error names (CannotLog path) h = absurd h
unread_is_error names Told h = absurd h
unread_is_error names (TooManyConnections most) h = absurd h
unread_is_error names (Store s) h = absurd h

-- a call as it is carried out, by its result
abbrev pub InOrder : (Text → Bool) → Disk → Option Text → Option Text → List Transfer → Result ℕ Stop → List Transfer → Asked → Type 0
InOrder unreadable disk input left before result after c =
    ReadsInOrder unreadable (files_in c) result × OnForm disk input left c (λ Ends. EndsFormIfRoom Ends before result after)

-- .. and by its status
abbrev pub InOrderWith : (Text → Bool) → Disk → Option Text → Option Text → List Transfer → ℕ → List Transfer → Asked → Type 0
InOrderWith unreadable disk input left before status after c =
    (list_any unreadable (files_in c) ≡ true → status ≡ 2) × OnForm disk input left c (λ Ends. EndsFormWithIfRoom Ends before status after)

pub ended_in_order : (folder : Text → Option Bool) (unreadable : Text → Bool) (disk : Disk) (input left : Option Text) (before after : List Transfer) (result status : ℕ) (asked : Asked)
    → status ≡ result → CarriedOut folder asked (InOrder unreadable disk input left before (Ok result) after) → CarriedOut folder asked (InOrderWith unreadable disk input left before status after)
ended_in_order folder unreadable disk input left before after result status asked e h =
    carried_out folder asked (InOrder unreadable disk input left before (Ok result) after) (InOrderWith unreadable disk input left before status after)
    (λ c x. ((λ some. absurd (x.0 some)), on_forms disk input left c _ _ (λ Ends. form_ended Ends before after result status e) x.1)) h

pub stopped_in_order : (folder : Text → Option Bool) (unreadable : Text → Bool) (disk : Disk) (input left : Option Text) (before after final : List Transfer) (stop : Stop) (status : ℕ)
    (asked : Asked) → IsTold stop status after final → CarriedOut folder asked (InOrder unreadable disk input left before (Err stop) after)
    → CarriedOut folder asked (InOrderWith unreadable disk input left before status final)
stopped_in_order folder unreadable disk input left before after final stop status asked told h =
    carried_out folder asked (InOrder unreadable disk input left before (Err stop) after) (InOrderWith unreadable disk input left before status final)
    (λ c x. ((λ some. (told (unread_is_error _ stop (x.0 some))).0), on_forms disk input left c _ _ (λ Ends. form_stopped Ends before after final stop status told) x.1)) h

-- where memory ran out while the words were read
pub unspelled_in_order : (folder : Text → Option Bool) (unreadable : Text → Bool) (disk : Disk) (input : Option Text) (before : List Transfer) (result : Result ℕ Stop) (asked : Asked)
    → result ≡ Err (Refused NoRoom) → CarriedOut folder asked (InOrder unreadable disk input input before result before)
unspelled_in_order folder unreadable disk input before result asked e =
    subst (λ r. CarriedOut folder asked (InOrder unreadable disk input input before r before)) (sym e)
    (every_carried folder asked (InOrder unreadable disk input input before (Err (Refused NoRoom)) before)
    (λ c. ((λ some. refl), every_form disk input input c _ (λ Ends. inr (refl, refl)))))
