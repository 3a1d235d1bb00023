-- The call as it is carried out.
use Rattle.std.proofs.Common.{◌≡◌, Bool, true, false, Option, Some, None, inl, inr, subst, sym, if◌then◌else◌}
use Rattle.std.specs.Option.{IfSome}
use Rattle.definitions.specs.Values.{Text}
use Rattle.command_line.specs.Calls.{Asked}
use Rattle.command_line.specs.Calls as call
use Rattle.service_forms.specs.Files.{may_be_folder}
use Rattle.schemareg.specs.Folders.{ByFolder, CarriedOut, is_folder_in}

-- ---- a file or a folder
by_folder : (known : Option Bool) (A B C D : Type 0) → (A → C) → (B → D) → ByFolder known A B → ByFolder known C D
by_folder None A B C D f g h = elim h [
  | inl a ↦ inl (f a)
  | inr b ↦ inr (g b)
]
by_folder (Some true) A B C D f g h = g h
by_folder (Some false) A B C D f g h = f h

either : (known : Option Bool) (A B C : Type 0) → (A → C) → (B → C) → ByFolder known A B → C
either None A B C f g h = elim h [
  | inl a ↦ f a
  | inr b ↦ g b
]
either (Some true) A B C f g h = g h
either (Some false) A B C f g h = f h

both : (known : Option Bool) (A B : Type 0) → A → B → ByFolder known A B
both None A B a b = inl a
both (Some true) A B a b = b
both (Some false) A B a b = a

known_folder : (known : Option Bool) (A B : Type 0) → IfSome known (λ b. true ≡ b) → B → ByFolder known A B
known_folder None A B k b = inr b
known_folder (Some true) A B k b = b
known_folder (Some false) A B k b = cc k

known_file : (known : Option Bool) (A B : Type 0) → IfSome known (λ b. false ≡ b) → A → ByFolder known A B
known_file None A B k a = inl a
known_file (Some true) A B k a = cc k
known_file (Some false) A B k a = a

-- a folder was found there
pub of_folder : (files : Text → Option Text) (unreadable : Text → Bool) (folders : Text → Option Bool) (path : Text) (A B : Type 0) → may_be_folder files unreadable path ≡ true
    → IfSome (folders path) (λ b. true ≡ b) → B → ByFolder (is_folder_in files unreadable folders path) A B
of_folder files unreadable folders path A B may known b =
    subst (λ m. ByFolder (if m then folders path else Some false) A B) (sym may) (known_folder (folders path) A B known b)

-- none was
pub of_file : (files : Text → Option Text) (unreadable : Text → Bool) (folders : Text → Option Bool) (path : Text) (A B : Type 0)
    → IfSome (folders path) (λ b. false ≡ b) → A → ByFolder (is_folder_in files unreadable folders path) A B
of_file files unreadable folders path A B known a = by (may_be_folder files unreadable path)
  where
    by : (m : Bool) → ByFolder (if m then folders path else Some false) A B
    by true = known_file (folders path) A B known a
    by false = a

-- ---- a call
-- what follows for each call follows for the one that is carried out
pub carried_out : (folder : Text → Option Bool) (asked : Asked) (P Q : Asked → Type 0) → ((c : Asked) → P c → Q c) → CarriedOut folder asked P → CarriedOut folder asked Q
carried_out folder call.input P Q f h = f call.input h
carried_out folder (call.check uri schema instance) P Q f h = by_folder (folder instance) _ _ _ _ (f _) (f _) h
carried_out folder (call.check_many checks) P Q f h = f (call.check_many checks) h
carried_out folder (call.bundle bundling) P Q f h = f (call.bundle bundling) h
carried_out folder (call.scan scanning) P Q f h = f (call.scan scanning) h
carried_out folder (call.run start) P Q f h = f (call.run start) h
carried_out folder (call.serve start listen accept) P Q f h = f (call.serve start listen accept) h
carried_out folder (call.serve_many start listen limits logging) P Q f h = f (call.serve_many start listen limits logging) h

-- what follows from each follows from that one
pub by_carried_out : (folder : Text → Option Bool) (asked : Asked) (P : Asked → Type 0) (Q : Type 0) → ((c : Asked) → P c → Q) → CarriedOut folder asked P → Q
by_carried_out folder call.input P Q f h = f call.input h
by_carried_out folder (call.check uri schema instance) P Q f h = either (folder instance) _ _ Q (f _) (f _) h
by_carried_out folder (call.check_many checks) P Q f h = f (call.check_many checks) h
by_carried_out folder (call.bundle bundling) P Q f h = f (call.bundle bundling) h
by_carried_out folder (call.scan scanning) P Q f h = f (call.scan scanning) h
by_carried_out folder (call.run start) P Q f h = f (call.run start) h
by_carried_out folder (call.serve start listen accept) P Q f h = f (call.serve start listen accept) h
by_carried_out folder (call.serve_many start listen limits logging) P Q f h = f (call.serve_many start listen limits logging) h

-- what holds of each holds of that one
pub every_carried : (folder : Text → Option Bool) (asked : Asked) (P : Asked → Type 0) → ((c : Asked) → P c) → CarriedOut folder asked P
every_carried folder call.input P f = f call.input
every_carried folder (call.check uri schema instance) P f = both (folder instance) _ _ (f _) (f _)
every_carried folder (call.check_many checks) P f = f (call.check_many checks)
every_carried folder (call.bundle bundling) P f = f (call.bundle bundling)
every_carried folder (call.scan scanning) P f = f (call.scan scanning)
every_carried folder (call.run start) P f = f (call.run start)
every_carried folder (call.serve start listen accept) P f = f (call.serve start listen accept)
every_carried folder (call.serve_many start listen limits logging) P f = f (call.serve_many start listen limits logging)
