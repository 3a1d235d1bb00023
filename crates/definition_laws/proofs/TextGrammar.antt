-- The texts of what the grammar reads are texts among the tokens.
use Rattle.std.proofs.Common.{◌≡◌, ℕ, zero, suc, true, List, [], ◌∷◌, length, Some, None, Option, option_and_then, refl, ap, subst}
use Rattle.std.specs.List.{AllByRecursion as Each}
use Rattle.std.specs.Str.{is_utf8}
use Rattle.json.specs.Token.{Token}
use Rattle.json.specs.Json as json
use Rattle.json.specs.Json.{Parse, items, members, value, items_step, members_step, after_end_array, read_key, value_with, parse_map, if_last}
use Rattle.definitions.specs.Values.{Text}
use Rattle.definition_laws.proofs.TokenTexts.{IsText}

abbrev mutual
  pub IsTextJson : json.Json → Type 0
  IsTextJson json.null = Unit {0}
  IsTextJson (json.boolean b) = Unit {0}
  IsTextJson (json.number s) = Unit {0}
  IsTextJson (json.string s) = is_utf8 s ≡ true
  IsTextJson (json.array js) = AreTextItems js
  IsTextJson (json.object ms) = AreTextMembers ms

  pub AreTextItems : json.Items → Type 0
  AreTextItems json.no_items = Unit {0}
  AreTextItems (json.item j js) = IsTextJson j × AreTextItems js

  pub AreTextMembers : json.Members → Type 0
  AreTextMembers json.no_members = Unit {0}
  AreTextMembers (json.member k j ms) = (is_utf8 k ≡ true) × (IsTextJson j × AreTextMembers ms)

abbrev pub KeepsTexts : {A : Type 0} → (A → Type 0) → Parse A → Type 0
KeepsTexts {A} P p = (ts rest : List Token) (a : A) → Each IsText ts → p ts ≡ Some (a, rest) → P a × Each IsText rest

pub mapped : {A B : Type 0} (f : A → B) (o : Option (A × List Token)) (b : B) (rest : List Token) → parse_map f o ≡ Some (b, rest) → (a : A) × ((o ≡ Some (a, rest)) × (f a ≡ b))
mapped f None b rest e = cc
mapped {A} {B} f (Some p) b rest e =
    let same : (f p.0, p.1) ≡ (b, rest) = cc in
    (p.0, (ap (λ r. Some (p.0, r)) (ap (λ (q : B × List Token). q.1) same), ap (λ (q : B × List Token). q.0) same))

pub chained : {A B : Type 0} (f : A → Option B) (o : Option A) (b : B) → option_and_then f o ≡ Some b → (a : A) × ((o ≡ Some a) × (f a ≡ Some b))
chained f None b e = cc
chained f (Some a) b e = (a, (refl, e))

after_end_text : (ts rest : List Token) → Each IsText ts → after_end_array ts ≡ Some rest → Each IsText rest
after_end_text [] rest h e = cc
after_end_text (Token.begin_object ∷ ts) rest h e = cc
after_end_text (Token.end_object ∷ ts) rest h e = cc
after_end_text (Token.begin_array ∷ ts) rest h e = cc
after_end_text (Token.end_array ∷ ts) rest h e = let is : ts ≡ rest = cc in subst (Each IsText) is h.1
after_end_text (Token.key s ∷ ts) rest h e = cc
after_end_text (Token.string s ∷ ts) rest h e = cc
after_end_text (Token.number s ∷ ts) rest h e = cc
after_end_text (Token.boolean b ∷ ts) rest h e = cc
after_end_text (Token.null ∷ ts) rest h e = cc
after_end_text (Token.bad ∷ ts) rest h e = cc

items_at : (one : Parse json.Json) (more : Parse json.Items) → KeepsTexts IsTextJson one → KeepsTexts AreTextItems more
    → (ts rest : List Token) (js : json.Items) (o : Option (List Token)) → after_end_array ts ≡ o → Each IsText ts → items_step one more ts o ≡ Some (js, rest) → AreTextItems js × Each IsText rest
items_at one more h k ts rest js (Some left) at texts e =
    let same : (json.no_items, left) ≡ (js, rest) = cc in
    let none : json.no_items ≡ js = ap (λ (q : json.Items × List Token). q.0) same in
    let is : left ≡ rest = ap (λ (q : json.Items × List Token). q.1) same in
    (subst AreTextItems none tt, subst (Each IsText) is (after_end_text ts left texts at))
items_at one more h k ts rest js None at texts e =
    let first = chained (λ p. parse_map (json.item p.0) (more p.1)) (one ts) (js, rest) e in
    let read_first = h ts first.0.1 first.0.0 texts first.1.0 in
    let later = mapped (json.item first.0.0) (more first.0.1) js rest first.1.1 in
    let read_later = k first.0.1 rest later.0 read_first.1 later.1.0 in
    (subst AreTextItems later.1.1 (read_first.0, read_later.0), read_later.1)

items_text : (one : Parse json.Json) → KeepsTexts IsTextJson one → (n : ℕ) → KeepsTexts AreTextItems (items one n)
unfolding items
items_text one h zero ts rest js texts e = cc
items_text one h (suc n) ts rest js texts e = items_at one (items one n) h (items_text one h n) ts rest js (after_end_array ts) refl texts e

abbrev IsTextKey : Option Text → Type 0
IsTextKey None = Unit {0}
IsTextKey (Some k) = is_utf8 k ≡ true

key_text : KeepsTexts IsTextKey read_key
key_text [] rest k h e = cc
key_text (Token.begin_object ∷ ts) rest k h e = cc
key_text (Token.end_object ∷ ts) rest k h e =
    let same : (None, ts) ≡ (k, rest) = cc in
    (subst IsTextKey (ap (λ (q : Option Text × List Token). q.0) same) tt, subst (Each IsText) (ap (λ (q : Option Text × List Token). q.1) same) h.1)
key_text (Token.begin_array ∷ ts) rest k h e = cc
key_text (Token.end_array ∷ ts) rest k h e = cc
key_text (Token.key s ∷ ts) rest k h e =
    let same : (Some s, ts) ≡ (k, rest) = cc in
    (subst IsTextKey (ap (λ (q : Option Text × List Token). q.0) same) h.0, subst (Each IsText) (ap (λ (q : Option Text × List Token). q.1) same) h.1)
key_text (Token.string s ∷ ts) rest k h e = cc
key_text (Token.number s ∷ ts) rest k h e = cc
key_text (Token.boolean b ∷ ts) rest k h e = cc
key_text (Token.null ∷ ts) rest k h e = cc
key_text (Token.bad ∷ ts) rest k h e = cc

members_at : (one : Parse json.Json) (more : Parse json.Members) → KeepsTexts IsTextJson one → KeepsTexts AreTextMembers more
    → (k : Option Text) (ts rest : List Token) (ms : json.Members) → IsTextKey k → Each IsText ts → members_step one more k ts ≡ Some (ms, rest) → AreTextMembers ms × Each IsText rest
members_at one more h l None ts rest ms key texts e =
    let same : (json.no_members, ts) ≡ (ms, rest) = cc in
    (subst AreTextMembers (ap (λ (q : json.Members × List Token). q.0) same) tt, subst (Each IsText) (ap (λ (q : json.Members × List Token). q.1) same) texts)
members_at one more h l (Some k) ts rest ms key texts e =
    let first = chained (λ p. parse_map (json.member k p.0) (more p.1)) (one ts) (ms, rest) e in
    let read_first = h ts first.0.1 first.0.0 texts first.1.0 in
    let later = mapped (json.member k first.0.0) (more first.0.1) ms rest first.1.1 in
    let read_later = l first.0.1 rest later.0 read_first.1 later.1.0 in
    (subst AreTextMembers later.1.1 (key, (read_first.0, read_later.0)), read_later.1)

members_text : (one : Parse json.Json) → KeepsTexts IsTextJson one → (n : ℕ) → KeepsTexts AreTextMembers (members one n)
unfolding members
members_text one h zero ts rest ms texts e = cc
members_text one h (suc n) ts rest ms texts e =
    let key = chained (λ p. members_step one (members one n) p.0 p.1) (read_key ts) (ms, rest) e in
    let read_first = key_text ts key.0.1 key.0.0 texts key.1.0 in
    members_at one (members one n) h (members_text one h n) key.0.0 key.0.1 rest ms read_first.0 read_first.1 key.1.1

leaf_text : (p q : json.Json × List Token) → Some p ≡ Some q → IsTextJson p.0 → Each IsText p.1 → IsTextJson q.0 × Each IsText q.1
leaf_text p q e h texts =
    let same : p ≡ q = cc in
    (subst (λ r. IsTextJson r.0) same h, subst (λ r. Each IsText r.1) same texts)

value_at : (a : Parse json.Items) (o : Parse json.Members) → KeepsTexts AreTextItems a → KeepsTexts AreTextMembers o → KeepsTexts IsTextJson (value_with a o)
value_at a o h l [] rest j texts e = cc
value_at a o h l (Token.begin_object ∷ ts) rest j texts e =
    let inside = mapped json.object (o ts) j rest e in
    let was_read = l ts rest inside.0 texts.1 inside.1.0 in
    (subst IsTextJson inside.1.1 was_read.0, was_read.1)
value_at a o h l (Token.end_object ∷ ts) rest j texts e = cc
value_at a o h l (Token.begin_array ∷ ts) rest j texts e =
    let inside = mapped json.array (a ts) j rest e in
    let was_read = h ts rest inside.0 texts.1 inside.1.0 in
    (subst IsTextJson inside.1.1 was_read.0, was_read.1)
value_at a o h l (Token.end_array ∷ ts) rest j texts e = cc
value_at a o h l (Token.key s ∷ ts) rest j texts e = cc
value_at a o h l (Token.string s ∷ ts) rest j texts e = leaf_text ((json.string s), ts) (j, rest) e texts.0 texts.1
value_at a o h l (Token.number s ∷ ts) rest j texts e = leaf_text ((json.number s), ts) (j, rest) e tt texts.1
value_at a o h l (Token.boolean b ∷ ts) rest j texts e = leaf_text ((json.boolean b), ts) (j, rest) e tt texts.1
value_at a o h l (Token.null ∷ ts) rest j texts e = leaf_text (json.null, ts) (j, rest) e tt texts.1
value_at a o h l (Token.bad ∷ ts) rest j texts e = cc

nothing_read : {A : Type 0} (P : A → Type 0) → KeepsTexts P (λ ts. None)
nothing_read P ts rest a texts e = cc

pub value_text : (n : ℕ) → KeepsTexts IsTextJson (value n)
unfolding value
value_text zero = value_at (λ ts. None) (λ ts. None) (nothing_read AreTextItems) (nothing_read AreTextMembers)
value_text (suc n) =
    value_at (λ ts. items (value n) (length ts) ts) (λ ts. members (value n) (length ts) ts)
    (λ ts. items_text (value n) (value_text n) (length ts) ts)
    (λ ts. members_text (value n) (value_text n) (length ts) ts)
