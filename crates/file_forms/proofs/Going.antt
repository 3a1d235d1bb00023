-- A run over instances, from stage to stage.
use Rattle.std.proofs.Common.{◌≡◌, ◌++◌, ◌∷◌, [], ◌∙◌, ℕ, ◌<◌, ◌+◌, Bool, Bor, List, Option, Some, None, ap, refl, sym, subst, map, take, get_or, length, String, Global, string_bytes, append_assoc, inl, inr}
use Rattle.std.specs.Option.{IfSome}
use Rattle.std.proofs.lemmas.List.{append-nil, map-append, map_more}
use Rattle.definitions.specs.Values.{Text}
use Rattle.file_forms.specs.Accounts.{Accounts}
use Rattle.file_forms.specs.Judged.{IsJudged}
use Rattle.file_forms.specs.Stages.{GoesOver, Stage}
use Rattle.file_forms.specs.Subjects.{Are, AreLinesOf, Follow, Holds, IsWhole, Lists, OfArgument, OfArguments, OfEach, OfFile, OfFound, OfPath, Subject, endings_of, instance_at, unread}
use Rattle.file_forms.proofs.Accounted.{joined, none}

pub stays : (Of : List Subject → Type 0) (s : Stage) → Of [] → GoesOver Of s s
stays Of s are = record { subjects = []; are = are; accounts = none (IsJudged s.linked s.printing) s.state; linked = refl; printing = refl }

pub goes : (subjects : List Subject) (s t : Stage) → Accounts (IsJudged s.linked s.printing) subjects s.state t.state → t.linked ≡ s.linked → t.printing ≡ s.printing → GoesOver (Are subjects) s t
goes subjects s t accounts linked printing = record { subjects = subjects; are = refl; accounts = accounts; linked = linked; printing = printing }

pub so : (P Q : List Subject → Type 0) (s t : Stage) → ((xs : List Subject) → P xs → Q xs) → GoesOver P s t → GoesOver Q s t
so P Q s t f x = record { subjects = x.subjects; are = f x.subjects x.are; accounts = x.accounts; linked = x.linked; printing = x.printing }

pub along : {A : Type 0} (Of : A → List Subject → Type 0) (x y : A) (s t : Stage) → x ≡ y → GoesOver (Of x) s t → GoesOver (Of y) s t
along Of x y s t e f = subst (λ z. GoesOver (Of z) s t) e f

pub go_on : (P Q R : List Subject → Type 0) (r s t : Stage) → ((xs ys : List Subject) → P xs → Q ys → R (xs ++ ys)) → GoesOver P r s → GoesOver Q s t → GoesOver R r t
go_on P Q R r s t f x y = record {
  subjects = x.subjects ++ y.subjects;
  are = f x.subjects y.subjects x.are y.are;
  accounts = joined (IsJudged r.linked r.printing) x.subjects y.subjects r.state s.state t.state x.accounts
      (subst (λ l. Accounts (IsJudged l r.printing) y.subjects s.state t.state) x.linked (subst (λ p. Accounts (IsJudged s.linked p) y.subjects s.state t.state) x.printing y.accounts));
  linked = y.linked ∙ x.linked;
  printing = y.printing ∙ x.printing;
}

-- ---- one after the other
pub follow : (P Q : List Subject → Type 0) (xs ys : List Subject) → P xs → Q ys → Follow P Q (xs ++ ys)
follow P Q xs ys p q = record { first = xs; rest = ys; is_first = p; is_rest = q; are = refl }

pub each_more : {A : Type 0} (Of : A → List Subject → Type 0) (items : List A) (item : A) (xs ys : List Subject) → OfEach Of items xs → Of item ys → OfEach Of (items ++ item ∷ []) (xs ++ ys)
each_more Of [] item xs ys p q = record { first = ys; rest = []; is_first = q; is_rest = refl; are = ap (λ z. z ++ ys) p ∙ sym (append-nil ys) }
each_more Of (i ∷ items) item xs ys p q = record {
  first = p.first;
  rest = p.rest ++ ys;
  is_first = p.is_first;
  is_rest = each_more Of items item p.rest ys p.is_rest q;
  are = ap (λ z. z ++ ys) p.are ∙ append_assoc p.first p.rest ys;
}

pub arguments_more : (holds : Holds) (lists : Lists) (lines : Bool) (paths : List Text) (path : Text) (before between after : Option Text) (xs ys : List Subject)
    → OfArguments holds lists lines paths before between xs → OfArgument holds lists lines path between after ys → OfArguments holds lists lines (paths ++ path ∷ []) before after (xs ++ ys)
arguments_more holds lists lines [] path before between after xs ys p q =
    (after, record { first = ys; rest = []; is_first = subst (λ b. OfArgument holds lists lines path b after ys) p.0 q; is_rest = (refl, refl); are = ap (λ z. z ++ ys) p.1 ∙ sym (append-nil ys) })
arguments_more holds lists lines (other ∷ paths) path before between after xs ys p q = (
  p.0,
  record {
    first = p.1.first;
    rest = p.1.rest ++ ys;
    is_first = p.1.is_first;
    is_rest = arguments_more holds lists lines paths path p.0 between after p.1.rest ys p.1.is_rest q;
    are = ap (λ z. z ++ ys) p.1.are ∙ append_assoc p.1.first p.1.rest ys;
  },
)

abbrev pub texts : List (String Global) → List Text
texts = map (λ p. string_bytes p)

pub texts_more : (paths : List (String Global)) (i : ℕ) (item : String Global) (shown : Text) → i < length paths → item ≡ get_or paths i item → shown ≡ string_bytes item
    → texts (take i paths) ++ shown ∷ [] ≡ texts (take (i + 1) paths)
texts_more paths i item shown within is shown_is =
    sym (map_more (λ p. string_bytes p) paths i item within ∙ ap (λ z. texts (take i paths) ++ z ∷ []) (ap (λ p. string_bytes p) (sym is) ∙ sym shown_is))

-- ---- a text as a whole
pub whole_of : (path text : Text) (IsText : Text → Type 0) → IsText text → (xs : List Subject) → Are (instance_at path None text ∷ []) xs → IsWhole path IsText xs
whole_of path text IsText is xs are = record { text = Some text; is_text = is; are = are }

pub no_whole : (path : Text) (IsText : Text → Type 0) (xs : List Subject) → Are (unread path ∷ []) xs → IsWhole path IsText xs
no_whole path IsText xs are = record { text = None; is_text = tt; are = are }

-- ---- what can't be read
pub unread_more : (folders : List (String Global)) (i : ℕ) (item : String Global) (shown : Text) (xs ys : List Subject) → i < length folders → item ≡ get_or folders i item → shown ≡ string_bytes item
    → Are (map unread (texts (take i folders))) xs → Are (unread shown ∷ []) ys → Are (map unread (texts (take (i + 1) folders))) (xs ++ ys)
unread_more folders i item shown xs ys within is shown_is are more =
    ap (λ z. z ++ ys) are ∙ ap (λ z. map unread (texts (take i folders)) ++ z) more ∙ sym (map-append unread (texts (take i folders)) (shown ∷ []))
    ∙ ap (map unread) (texts_more folders i item shown within is shown_is)

-- ---- the files of a path
pub files_of_path : (holds : Holds) (lists : Lists) (lines : Bool) (path : Text) (folders files ends : List Text) → ends ≡ endings_of lines → lists path ends files
    → (xs : List Subject) → OfFound holds lines folders files xs → OfPath holds lists lines path xs
files_of_path holds lists lines path folders files ends e listed xs are =
    inl (record { folders = folders; files = files; listed = subst (λ n. lists path n files) e listed; are = are })

-- the folders that can't be read, and then the files
pub found_in : (holds : Holds) (lines : Bool) (folders files seen shown : List (String Global)) → seen ≡ folders → shown ≡ files → (xs ys : List Subject) → Are (map unread (texts seen)) xs
    → OfEach (OfFile holds lines) (texts shown) ys → OfFound holds lines (texts folders) (texts files) (xs ++ ys)
found_in holds lines folders files seen shown seen_is shown_is xs ys are each = record {
  first = xs;
  rest = ys;
  is_first = are ∙ ap (λ fs. map unread (texts fs)) seen_is;
  is_rest = subst (λ fs. OfEach (OfFile holds lines) (texts fs) ys) shown_is each;
  are = refl;
}

-- ---- arguments
abbrev pub names : List (Bor Text) → List Text
names = map (λ p. p.now)

pub names_more : (paths : List (Bor Text)) (i : ℕ) (item : Bor Text) → i < length paths → names (take i paths) ++ (get_or paths i item).now ∷ [] ≡ names (take (i + 1) paths)
names_more paths i item within = sym (map_more (λ p. p.now) paths i item within)

pub argument_more : (holds : Holds) (lists : Lists) (lines : Bool) (paths : List (Bor Text)) (i : ℕ) (item : Bor Text) (before between after : Option Text) (xs ys : List Subject) → i < length paths
    → OfArguments holds lists lines (names (take i paths)) before between xs → OfArgument holds lists lines (get_or paths i item).now between after ys
    → OfArguments holds lists lines (names (take (i + 1) paths)) before after (xs ++ ys)
argument_more holds lists lines paths i item before between after xs ys within p q =
    subst (λ ps. OfArguments holds lists lines ps before after (xs ++ ys)) (names_more paths i item within)
    (arguments_more holds lists lines (names (take i paths)) (get_or paths i item).now before between after xs ys p q)
