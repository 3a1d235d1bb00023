-- What `clap` makes of a command line in one of the forms.
use Rattle.std.proofs.Common.{◌≡◌, ◌==◌, ◌∙◌, ap, refl, sym, true, false, not, Bool, ℕ, [], ◌∷◌, List, None, Some, codes, subst, inl, inr}
use Rattle.std.specs.Str.{bytes_eq}
use Rattle.std.specs.List.{slice_index_or}
use Rattle.clap.specs.Lexer.{long_of, short_of}
use Rattle.clap.specs.Kinds.{Kinds, or_else}
use Rattle.clap.specs.Walk.{Held, Rule, Text, Waiting, Walk, idle, option, positional, word_met, plain_word, after_step, walked, walk, walk_from, nothing_held, finished, settled}
use Rattle.clap.specs.Faults.{turn_fault, step_fault, walk_fault, settle_fault, defaults_fault, check_fault}
use Rattle.clap.specs.Words.{HasKind, Row, Shape, built, fault_of, kind_of, subcommand_of}
use Rattle.clap.specs.declared.error.Error.{Error}
use Rattle.clap.specs.declared.error.kind.ErrorKind.TheVariants.{OutOfMemory}
use Rattle.clap.proofs.OnLiterals.{clap_on_literals}
use Rattle.command_line.specs.Commands.{program, check_command}
use Rattle.command_line.specs.Calls.{Asked, check, asked_check, call_of, check_of, conflict_in, conflict_of, faults_of, one_file}
use Rattle.clap.specs.declared.error.kind.ErrorKind.{ErrorKind}
use Rattle.command_line.specs.Forms.{Asks, help, version, Spells, no_words, two_files, with_uri, is_plain}

-- ---- a plain word is no flag and no separator

is_no_dash : (c : ℕ) → not (c == 45) ≡ true → (c == 45) ≡ false
is_no_dash c = go (c == 45)
  where
    go : (b : Bool) → not b ≡ true → b ≡ false
    go true e = sym e
    go false e = refl

plain-long_of : (w : Text) → is_plain w ≡ true → long_of w ≡ None
plain-long_of [] e = refl
plain-long_of (c ∷ cs) e = rw (is_no_dash c e) refl

plain-short_of : (w : Text) → is_plain w ≡ true → short_of w ≡ None
plain-short_of [] e = refl
plain-short_of (c ∷ cs) e = rw (is_no_dash c e) refl

plain-separator : (w : Text) → is_plain w ≡ true → bytes_eq w (45 ∷ 45 ∷ []) ≡ false
plain-separator [] e = refl
plain-separator (c ∷ cs) e = rw (is_no_dash c e) refl

plain-word_met : (rules : List Rule) (waiting : Waiting) (position : ℕ) (w : Text) (h : Held) → is_plain w ≡ true
    → word_met rules [] false waiting position w h ≡ plain_word rules waiting w h
plain-word_met rules idle position w h e = rw (plain-separator w e, plain-long_of w e, plain-short_of w e) refl
plain-word_met rules (option id) position w h e = rw (plain-separator w e, plain-long_of w e, plain-short_of w e) refl
plain-word_met rules positional position w h e = rw (plain-separator w e, plain-long_of w e, plain-short_of w e) refl

-- ---- where the walk over the words of `check` stands, before a plain word and after it

abbrev at : Held → Waiting → ℕ → Walk
at h waiting position = record { held = h; waiting = waiting; position = position; is_trailing = false; stopped = None }

abbrev after : List Rule → Held → Waiting → ℕ → Text → Walk
after rules h waiting position w =
    after_step rules w (at h waiting position) (plain_word rules waiting w h).0 (plain_word rules waiting w h).1

plain-walked : (rules : List Rule) (h : Held) (waiting : Waiting) (position : ℕ) (w : Text) → is_plain w ≡ true
    → walked rules [] (at h waiting position) w ≡ after rules h waiting position w
unfolding walked
plain-walked rules h waiting position w e =
    ap (λ met. after_step rules w (at h waiting position) met.0 met.1) (plain-word_met rules waiting position w h e)

abbrev fault_at : Shape → Held → Waiting → ℕ → Text → Kinds
fault_at s h waiting position w = step_fault s position (plain_word s.rules waiting w h).0 (plain_word s.rules waiting w h).1

plain-turn_fault : (s : Shape) (h : Held) (waiting : Waiting) (position : ℕ) (w : Text) → is_plain w ≡ true
    → turn_fault s [] (at h waiting position) w ≡ fault_at s h waiting position w
plain-turn_fault s h idle position w e = rw (plain-separator w e, plain-long_of w e, plain-short_of w e) refl
plain-turn_fault s h (option id) position w e = rw (plain-separator w e, plain-long_of w e, plain-short_of w e) refl
plain-turn_fault s h positional position w e = rw (plain-separator w e, plain-long_of w e, plain-short_of w e) refl

-- ---- the subcommand `check`, as it is built

abbrev shape : Shape
shape = slice_index_or (built program).subs 0 check_command.top

abbrev rules : List Rule
rules = shape.rules

abbrev walk_over : List Text → Walk
walk_over = walk rules [] nothing_held

abbrev turns_fault : List Text → Kinds
turns_fault = walk_fault shape [] (walk_from nothing_held)

-- what is asked for where the walk ends
abbrev asked_at : Walk → Asked
asked_at end = asked_check (finished rules end.held)

-- the faults that are left where the walk ends, after those of its words
abbrev end_fault : Kinds → Walk → Kinds
end_fault words end =
    or_else words (or_else (settle_fault rules false end.held)
    (or_else (defaults_fault (settled rules end.held).rows rules) (check_fault shape (finished rules end.held) false)))

-- ---- `check SCHEMA INSTANCE`

abbrev first_held : Text → Held
first_held s = (after rules nothing_held idle 1 s).held

abbrev two_end : Text → Text → Walk
two_end s i = after rules (first_held s) idle 2 i

two_walk : (s i : Text) → is_plain s ≡ true → is_plain i ≡ true → walk_over (s ∷ i ∷ []) ≡ two_end s i
two_walk s i e f =
    ap (λ w. walked rules [] w i) (plain-walked rules nothing_held idle 1 s e) ∙ plain-walked rules (first_held s) idle 2 i f

two_turns : (s i : Text) → is_plain s ≡ true → is_plain i ≡ true → turns_fault (s ∷ i ∷ []) ≡ []
unfolding clap_on_literals
two_turns s i e f =
    let turn : Walk → Text → Kinds = turn_fault shape [] in
    let both : Kinds → Kinds → Kinds = λ j k. or_else j (or_else k []) in
    ap (λ w. both (turn (walk_from nothing_held) s) (turn w i)) (plain-walked rules nothing_held idle 1 s e)
    ∙ ap (λ k. both k (turn (at (first_held s) idle 2) i)) (plain-turn_fault shape nothing_held idle 1 s e)
    ∙ ap (λ k. both (fault_at shape nothing_held idle 1 s) k) (plain-turn_fault shape (first_held s) idle 2 i f)

two_call : (p s i : Text) → call_of (p ∷ codes "check" ∷ s ∷ i ∷ []) ≡ asked_at (walk_over (s ∷ i ∷ []))
unfolding clap_on_literals
two_call p s i = refl

two_fault : (p s i : Text) → fault_of program (p ∷ codes "check" ∷ s ∷ i ∷ []) ≡ or_else (end_fault (turns_fault (s ∷ i ∷ [])) (walk_over (s ∷ i ∷ []))) []
unfolding clap_on_literals
two_fault p s i = refl

-- ---- `check --uri URI SCHEMA INSTANCE`

-- what is held after `--uri`, after its value and after the schema
abbrev flag_held : Held
flag_held = (walked rules [] (walk_from nothing_held) (codes "--uri")).held

abbrev value_held : Text → Held
value_held u = (after rules flag_held (option (codes "uri")) 1 u).held

abbrev schema_held : Text → Text → Held
schema_held u s = (after rules (value_held u) idle 1 s).held

abbrev uri_end : Text → Text → Text → Walk
uri_end u s i = after rules (schema_held u s) idle 2 i

abbrev uri_words : Text → Text → Text → List Text
uri_words u s i = codes "--uri" ∷ u ∷ s ∷ i ∷ []

uri_walk : (u s i : Text) → is_plain u ≡ true → is_plain s ≡ true → is_plain i ≡ true → walk_over (uri_words u s i) ≡ uri_end u s i
unfolding clap_on_literals
uri_walk u s i d e f =
    ap (λ w. walked rules [] (walked rules [] w s) i) (plain-walked rules flag_held (option (codes "uri")) 1 u d)
    ∙ ap (λ w. walked rules [] w i) (plain-walked rules (value_held u) idle 1 s e)
    ∙ plain-walked rules (schema_held u s) idle 2 i f

uri_turns : (u s i : Text) → is_plain u ≡ true → is_plain s ≡ true → is_plain i ≡ true → turns_fault (uri_words u s i) ≡ []
unfolding clap_on_literals
uri_turns u s i d e f =
    let turn : Walk → Text → Kinds = turn_fault shape [] in
    let all : Kinds → Kinds → Kinds → Kinds = λ j k l. or_else j (or_else k (or_else l [])) in
    let first : Walk = at flag_held (option (codes "uri")) 1 in
    let second : Walk = at (value_held u) idle 1 in
    let third : Walk = at (schema_held u s) idle 2 in
    let first_fault : Kinds = fault_at shape flag_held (option (codes "uri")) 1 u in
    let second_fault : Kinds = fault_at shape (value_held u) idle 1 s in
    ap (λ w. all (turn first u) (turn w s) (turn (walked rules [] w s) i)) (plain-walked rules flag_held (option (codes "uri")) 1 u d)
    ∙ ap (λ w. all (turn first u) (turn second s) (turn w i)) (plain-walked rules (value_held u) idle 1 s e)
    ∙ ap (λ k. all k (turn second s) (turn third i)) (plain-turn_fault shape flag_held (option (codes "uri")) 1 u d)
    ∙ ap (λ k. all first_fault k (turn third i)) (plain-turn_fault shape (value_held u) idle 1 s e)
    ∙ ap (λ k. all first_fault second_fault k) (plain-turn_fault shape (schema_held u s) idle 2 i f)

uri_call : (p u s i : Text) → call_of (p ∷ codes "check" ∷ uri_words u s i) ≡ asked_at (walk_over (uri_words u s i))
unfolding clap_on_literals
uri_call p u s i = refl

uri_fault : (p u s i : Text) → fault_of program (p ∷ codes "check" ∷ uri_words u s i) ≡ or_else (end_fault (turns_fault (uri_words u s i)) (walk_over (uri_words u s i))) []
unfolding clap_on_literals
uri_fault p u s i = refl

-- ---- a plain word is the file of the one instance, and no format is named

plain-stdin : (w : Text) → is_plain w ≡ true → bytes_eq w (codes "-") ≡ false
plain-stdin [] e = refl
plain-stdin (c ∷ cs) e = rw (is_no_dash c e) refl

plain-one_file : (w : Text) → is_plain w ≡ true → one_file (w ∷ []) ≡ Some w
plain-one_file w e = rw (plain-stdin w e) refl

abbrev rows_at : Walk → List Row
rows_at end = finished rules end.held

abbrev conflict_at : Walk → Kinds
conflict_at end = conflict_in (codes "check") (rows_at end)

two_asked : (s i : Text) → is_plain i ≡ true → asked_at (two_end s i) ≡ check (codes "urn:schemareg:root") s i
unfolding clap_on_literals
two_asked s i f = ap (λ o. check_of o (rows_at (two_end s i))) (plain-one_file i f)

two_conflict : (p s i : Text) → conflict_of (subcommand_of program (p ∷ codes "check" ∷ s ∷ i ∷ [])) ≡ conflict_at (walk_over (s ∷ i ∷ []))
unfolding clap_on_literals
two_conflict p s i = refl

uri_asked : (u s i : Text) → is_plain i ≡ true → asked_at (uri_end u s i) ≡ check u s i
unfolding clap_on_literals
uri_asked u s i f = ap (λ o. check_of o (rows_at (uri_end u s i))) (plain-one_file i f)

uri_conflict : (p u s i : Text) → conflict_of (subcommand_of program (p ∷ codes "check" ∷ uri_words u s i)) ≡ conflict_at (walk_over (uri_words u s i))
unfolding clap_on_literals
uri_conflict p u s i = refl

-- ---- each form spells its call, and has no fault

pub spelled_call : (words : List Text) (call : Asked) → Spells words call → call_of words ≡ call
unfolding clap_on_literals
spelled_call _ _ (no_words p) = refl
spelled_call _ _ (two_files p s i e f) = two_call p s i ∙ ap asked_at (two_walk s i e f) ∙ two_asked s i f
spelled_call _ _ (with_uri p u s i d e f) = uri_call p u s i ∙ ap asked_at (uri_walk u s i d e f) ∙ uri_asked u s i f

spelled_fault : (words : List Text) (call : Asked) → Spells words call → fault_of program words ≡ []
unfolding clap_on_literals
spelled_fault _ _ (no_words p) = refl
spelled_fault _ _ (two_files p s i e f) =
    two_fault p s i ∙ ap (λ k. or_else (end_fault k (walk_over (s ∷ i ∷ []))) []) (two_turns s i e f) ∙ ap (λ w. or_else (end_fault [] w) []) (two_walk s i e f)
spelled_fault _ _ (with_uri p u s i d e f) =
    uri_fault p u s i ∙ ap (λ k. or_else (end_fault k (walk_over (uri_words u s i))) []) (uri_turns u s i d e f) ∙ ap (λ w. or_else (end_fault [] w) []) (uri_walk u s i d e f)

-- .. nor words that exclude one another
pub spelled_faults : (words : List Text) (call : Asked) → Spells words call → faults_of words ≡ []
unfolding clap_on_literals
spelled_faults _ _ (no_words p) = refl
spelled_faults words call (two_files p s i e f) =
    ap (λ ks. or_else ks (conflict_of (subcommand_of program words))) (spelled_fault words call (two_files p s i e f))
    ∙ two_conflict p s i ∙ ap conflict_at (two_walk s i e f)
spelled_faults words call (with_uri p u s i d e f) =
    ap (λ ks. or_else ks (conflict_of (subcommand_of program words))) (spelled_fault words call (with_uri p u s i d e f))
    ∙ uri_conflict p u s i ∙ ap conflict_at (uri_walk u s i d e f)

-- a first fault is one of all
pub first_kind : (kinds next : Kinds) (e : Error) → HasKind kinds e → HasKind (or_else kinds next) e
first_kind [] next e (inl m) = inl m
first_kind [] next e (inr found) = absurd found
first_kind (k ∷ ks) next e h = h

-- .. and the next, where there is no first
pub next_kind : (kinds next : Kinds) (e : Error) → kinds ≡ [] → HasKind next e → HasKind (or_else kinds next) e
next_kind kinds next e none h = subst (λ ks. HasKind (or_else ks next) e) (sym none) h

pub none_of : (kinds next : Kinds) → kinds ≡ [] → next ≡ [] → or_else kinds next ≡ []
none_of kinds next none other = ap (λ ks. or_else ks next) none ∙ other

-- where there is no fault, the only error is the want of memory
pub no_fault : (kinds : Kinds) → kinds ≡ [] → (e : Error) → HasKind kinds e → kind_of e ≡ OutOfMemory
no_fault kinds none e h = go (subst (λ ks. HasKind ks e) none h)
  where
    go : HasKind [] e → kind_of e ≡ OutOfMemory
    go (inl m) = m
    go (inr found) = absurd found

pub memory_alone : (words : List Text) (call : Asked) → Spells words call → (e : Error) → HasKind (faults_of words) e → kind_of e ≡ OutOfMemory
memory_alone words call s e h = no_fault (faults_of words) (spelled_faults words call s) e h

-- ---- what asks for help or for the version has that fault

pub asks_faults : (words : List Text) (kind : ErrorKind) → Asks words kind → faults_of words ≡ kind ∷ []
unfolding clap_on_literals
asks_faults _ _ (help p) = refl
asks_faults _ _ (version p) = refl
