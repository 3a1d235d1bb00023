-- No array that the grammar reads has more elements than there are tokens.
use Rattle.std.proofs.Common.{◌≡◌, ℕ, zero, suc, ◌+◌, ◌<◌, ◌≤◌, List, [], ◌∷◌, Option, Some, None, length, arith, refl, ap, subst}
use Rattle.json.specs.Token.{Token}
use Rattle.json.specs.Json as json
use Rattle.json.specs.Json.{Parse, items, members, value, items_step, members_step, after_end_array, read_key, value_with, parse_map}
use Rattle.definitions.specs.Values.{Text}
use Rattle.definition_laws.proofs.TextGrammar.{mapped, chained}

-- ---- how many stand in an array
abbrev pub count : json.Items → ℕ
count json.no_items = 0
count (json.item j js) = suc (count js)

abbrev mutual
  pub IsShort : ℕ → json.Json → Type 0
  IsShort n json.null = Unit {0}
  IsShort n (json.boolean b) = Unit {0}
  IsShort n (json.number s) = Unit {0}
  IsShort n (json.string s) = Unit {0}
  IsShort n (json.array js) = (count js ≤ n) × AreShortItems n js
  IsShort n (json.object ms) = AreShortMembers n ms

  pub AreShortItems : ℕ → json.Items → Type 0
  AreShortItems n json.no_items = Unit {0}
  AreShortItems n (json.item j js) = IsShort n j × AreShortItems n js

  pub AreShortMembers : ℕ → json.Members → Type 0
  AreShortMembers n json.no_members = Unit {0}
  AreShortMembers n (json.member k j ms) = IsShort n j × AreShortMembers n ms

-- ---- the grammar takes a token for each element, and one for each bracket
abbrev Takes : {A : Type 0} → ℕ → (A → Type 0) → (A → ℕ) → Parse A → Type 0
Takes {A} n P size p = (ts rest : List Token) (a : A) → length ts ≤ suc n → p ts ≡ Some (a, rest) → P a × (size a + length rest < length ts)

abbrev TakesValue : ℕ → Parse json.Json → Type 0
TakesValue n = Takes n (IsShort n) (λ j. 0)

abbrev TakesItems : ℕ → Parse json.Items → Type 0
TakesItems n = Takes n (AreShortItems n) count

abbrev TakesMembers : ℕ → Parse json.Members → Type 0
TakesMembers n = Takes n (AreShortMembers n) (λ ms. 0)

after_end_taken : (ts rest : List Token) → after_end_array ts ≡ Some rest → length rest < length ts
after_end_taken [] rest e = cc
after_end_taken (Token.begin_object ∷ ts) rest e = cc
after_end_taken (Token.end_object ∷ ts) rest e = cc
after_end_taken (Token.begin_array ∷ ts) rest e = cc
after_end_taken (Token.end_array ∷ ts) rest e = let is : ts ≡ rest = cc in let same : length ts ≡ length rest = ap length is in omega arith
after_end_taken (Token.key s ∷ ts) rest e = cc
after_end_taken (Token.string s ∷ ts) rest e = cc
after_end_taken (Token.number s ∷ ts) rest e = cc
after_end_taken (Token.boolean b ∷ ts) rest e = cc
after_end_taken (Token.null ∷ ts) rest e = cc
after_end_taken (Token.bad ∷ ts) rest e = cc

items_at : (n : ℕ) (one : Parse json.Json) (more : Parse json.Items) → TakesValue n one → TakesItems n more
    → (ts rest : List Token) (js : json.Items) (o : Option (List Token)) → after_end_array ts ≡ o → length ts ≤ suc n → items_step one more ts o ≡ Some (js, rest)
    → AreShortItems n js × (count js + length rest < length ts)
items_at n one more h k ts rest js (Some left) at short e =
    let same : (json.no_items, left) ≡ (js, rest) = cc in
    let taken = after_end_taken ts left at in
    subst (λ (q : json.Items × List Token). AreShortItems n q.0 × (count q.0 + length q.1 < length ts)) same (tt, omega (arith, taken))
items_at n one more h k ts rest js None at short e =
    let first = chained (λ p. parse_map (json.item p.0) (more p.1)) (one ts) (js, rest) e in
    let read_first = h ts first.0.1 first.0.0 short first.1.0 in
    let later = mapped (json.item first.0.0) (more first.0.1) js rest first.1.1 in
    let read_later = k first.0.1 rest later.0 (omega (arith, read_first.1)) later.1.0 in
    subst (λ us. AreShortItems n us × (count us + length rest < length ts)) later.1.1 ((read_first.0, read_later.0), omega (arith, read_first.1, read_later.1))

items_taken : (n : ℕ) (one : Parse json.Json) → TakesValue n one → (m : ℕ) → TakesItems n (items one m)
unfolding items
items_taken n one h zero ts rest js short e = cc
items_taken n one h (suc m) ts rest js short e = items_at n one (items one m) h (items_taken n one h m) ts rest js (after_end_array ts) refl short e

same_long : (q r : Option Text × List Token) → Some q ≡ Some r → length r.1 < suc (length q.1)
same_long q r e =
    let same : q ≡ r = cc in
    let long : length q.1 ≡ length r.1 = ap (λ t. length t.1) same in
    omega arith

key_taken : (ts rest : List Token) (k : Option Text) → read_key ts ≡ Some (k, rest) → length rest < length ts
key_taken [] rest k e = cc
key_taken (Token.begin_object ∷ ts) rest k e = cc
key_taken (Token.end_object ∷ ts) rest k e = same_long (None, ts) (k, rest) e
key_taken (Token.begin_array ∷ ts) rest k e = cc
key_taken (Token.end_array ∷ ts) rest k e = cc
key_taken (Token.key s ∷ ts) rest k e = same_long (Some s, ts) (k, rest) e
key_taken (Token.string s ∷ ts) rest k e = cc
key_taken (Token.number s ∷ ts) rest k e = cc
key_taken (Token.boolean b ∷ ts) rest k e = cc
key_taken (Token.null ∷ ts) rest k e = cc
key_taken (Token.bad ∷ ts) rest k e = cc

members_at : (n : ℕ) (one : Parse json.Json) (more : Parse json.Members) → TakesValue n one → TakesMembers n more
    → (k : Option Text) (ts rest : List Token) (ms : json.Members) → length ts ≤ suc n → members_step one more k ts ≡ Some (ms, rest) → AreShortMembers n ms × (length rest ≤ length ts)
members_at n one more h l None ts rest ms short e =
    let same : (json.no_members, ts) ≡ (ms, rest) = cc in
    subst (λ (q : json.Members × List Token). AreShortMembers n q.0 × (length q.1 ≤ length ts)) same (tt, omega arith)
members_at n one more h l (Some k) ts rest ms short e =
    let first = chained (λ p. parse_map (json.member k p.0) (more p.1)) (one ts) (ms, rest) e in
    let read_first = h ts first.0.1 first.0.0 short first.1.0 in
    let later = mapped (json.member k first.0.0) (more first.0.1) ms rest first.1.1 in
    let read_later = l first.0.1 rest later.0 (omega (arith, read_first.1)) later.1.0 in
    (subst (AreShortMembers n) later.1.1 (read_first.0, read_later.0), omega (arith, read_first.1, read_later.1))

members_taken : (n : ℕ) (one : Parse json.Json) → TakesValue n one → (m : ℕ) → TakesMembers n (members one m)
unfolding members
members_taken n one h zero ts rest ms short e = cc
members_taken n one h (suc m) ts rest ms short e =
    let key = chained (λ p. members_step one (members one m) p.0 p.1) (read_key ts) (ms, rest) e in
    let taken = key_taken ts key.0.1 key.0.0 key.1.0 in
    let later = members_at n one (members one m) h (members_taken n one h m) key.0.0 key.0.1 rest ms (omega (arith, taken)) key.1.1 in
    (later.0, omega (arith, later.1, taken))

leaf_taken : (n : ℕ) (t : Token) (p q : json.Json × List Token) → Some p ≡ Some q → IsShort n p.0 → IsShort n q.0 × (0 + length q.1 < length (t ∷ p.1))
leaf_taken n t p q e h =
    let same : p ≡ q = cc in
    subst (λ r. IsShort n r.0 × (0 + length r.1 < length (t ∷ p.1))) same (h, omega arith)

value_at : (n : ℕ) (a : Parse json.Items) (o : Parse json.Members) → TakesItems n a → TakesMembers n o → TakesValue n (value_with a o)
value_at n a o h l [] rest j short e = cc
value_at n a o h l (Token.begin_object ∷ ts) rest j short e =
    let inside = mapped json.object (o ts) j rest e in
    let was_read = l ts rest inside.0 (omega arith) inside.1.0 in
    (subst (IsShort n) inside.1.1 was_read.0, omega (arith, was_read.1))
value_at n a o h l (Token.end_object ∷ ts) rest j short e = cc
value_at n a o h l (Token.begin_array ∷ ts) rest j short e =
    let inside = mapped json.array (a ts) j rest e in
    let was_read = h ts rest inside.0 (omega arith) inside.1.0 in
    (subst (IsShort n) inside.1.1 (omega (arith, was_read.1), was_read.0), omega (arith, was_read.1))
value_at n a o h l (Token.end_array ∷ ts) rest j short e = cc
value_at n a o h l (Token.key s ∷ ts) rest j short e = cc
value_at n a o h l (Token.string s ∷ ts) rest j short e = leaf_taken n (Token.string s) (json.string s, ts) (j, rest) e tt
value_at n a o h l (Token.number s ∷ ts) rest j short e = leaf_taken n (Token.number s) (json.number s, ts) (j, rest) e tt
value_at n a o h l (Token.boolean b ∷ ts) rest j short e = leaf_taken n (Token.boolean b) (json.boolean b, ts) (j, rest) e tt
value_at n a o h l (Token.null ∷ ts) rest j short e = leaf_taken n Token.null (json.null, ts) (j, rest) e tt
value_at n a o h l (Token.bad ∷ ts) rest j short e = cc

nothing_taken : {A : Type 0} (n : ℕ) (P : A → Type 0) (size : A → ℕ) → Takes n P size (λ ts. None)
nothing_taken n P size ts rest a short e = cc

pub value_taken : (n depth : ℕ) → TakesValue n (value depth)
unfolding value
value_taken n zero = value_at n (λ ts. None) (λ ts. None) (nothing_taken n (AreShortItems n) count) (nothing_taken n (AreShortMembers n) (λ ms. 0))
value_taken n (suc depth) =
    value_at n (λ ts. items (value depth) (length ts) ts) (λ ts. members (value depth) (length ts) ts)
    (λ ts. items_taken n (value depth) (value_taken n depth) (length ts) ts)
    (λ ts. members_taken n (value depth) (value_taken n depth) (length ts) ts)
