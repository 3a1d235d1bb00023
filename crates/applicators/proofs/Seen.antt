-- Sets of keys: those that a loop has put in, and those that are left.
use Rattle.std.proofs.Common.{◌≡◌, ℕ, ◌<◌, List, [], ◌∷◌, ◌||◌, Bool, true, false, cond, ◌==◌, nat_cmp, Bor, map, length, get_or, refl, sym, ap, ap₂, ◌∙◌, rules}
use Rattle.std.proofs.Math.Bool.{or-false}
use Rattle.std.proofs.lemmas.List.Folds.{list_any_at}
use Rattle.std.specs.List.{list_any}
use Rattle.std.specs.Ordering.{eq_by_cmp}
use Rattle.definitions.specs.Values.{Text, same_text}
use Rattle.definitions.specs.Applied.{has}
use Rattle.json_doc.specs.NamedMembers.{name_text}
use Rattle.json_doc.specs.declared.named_members.Name.{Name}
use Rattle.lemmas.proofs.Texts.{text_order, text_order-same, same_text_turned}

pub seen-all : {K : Type 0} (b : Bool) (test : K → Bool) (left : List K) (all : Bool) → left ≡ [] → (b || list_any test left) ≡ all → b ≡ all
seen-all b test left all none same = sym (or-false b) ∙ ap (λ ks. b || list_any test ks) (sym none) ∙ same

moved : (b c r : Bool) → (cond b true c || r) ≡ (c || (b || r))
moved true true r = refl
moved true false r = refl
moved false true r = refl
moved false false r = refl

pub seen-more : {K : Type 0} (old new : Bool) (test : K → Bool) (k : K) (left rest : List K) (all : Bool) → left ≡ k ∷ rest → new ≡ cond (test k) true old
    → (old || list_any test left) ≡ all → (new || list_any test rest) ≡ all
seen-more old new test k left rest all e f same =
    ap (λ b. b || list_any test rest) f ∙ moved (test k) old (list_any test rest) ∙ ap (λ ks. old || list_any test ks) (sym e) ∙ same

-- ---- names
pub has-by_name : (q : Text) (ns : List Name) → list_any (λ n. same_text q (name_text n)) ns ≡ has q (map name_text ns)
has-by_name q [] = refl
has-by_name q (n ∷ ns) = ap (λ b. same_text q (name_text n) || b) (has-by_name q ns)

pub has-at : (q : Text) (ns : List Name) (i : ℕ) (d : Name) → i < length ns → same_text (name_text (get_or ns i d)) q ≡ true → has q (map name_text ns) ≡ true
has-at q ns i d within same =
    sym (has-by_name q ns) ∙ list_any_at (λ n. same_text q (name_text n)) ns i d within (same_text_turned q (name_text (get_or ns i d)) ∙ same)

-- one more name
pub added : (x q : Bor Text) (n : Text) (old : Bool) → x.now ≡ n → cond (eq_by_cmp text_order x q) true old ≡ cond (same_text q.now n) true old
added x q n old same = ap (λ b. cond b true old) (text_order-same x q ∙ same_text_turned x.now q.now ∙ ap (same_text q.now) same)

-- ---- indexes
same_index : (i j : ℕ) → eq_by_cmp nat_cmp i j ≡ (i == j)
same_index i j = search rules

pub is_in-by_order : (j : ℕ) (is : List ℕ) → list_any (λ i. eq_by_cmp nat_cmp i j) is ≡ list_any (λ i. i == j) is
is_in-by_order j [] = refl
is_in-by_order j (i ∷ is) = ap₂ (λ a b. a || b) (same_index i j) (is_in-by_order j is)
