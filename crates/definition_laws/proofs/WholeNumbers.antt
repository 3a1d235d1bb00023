-- A number that is read and whole fits 64 bits.
use Rattle.std.proofs.Common.{◌≡◌, ℕ, zero, suc, ◌^◌, ◌≤◌, Bool, true, false, cond, ◌&&◌, drop, ℤ, pos, neg_ℤ, nat_lt, nat_le, ◌==◌, Some, None, Option, sym, refl, ap, ◌∙◌, subst}
use Rattle.std.proofs.lemmas.Bool.{leb-true, lt-ltb}
use Rattle.std.specs.Prelude.{slice_index}
use Rattle.std.specs.Float.{binary64, float_is_finite}
use Rattle.fast_float.specs.Text.{Parts, digits_of, nearest, scan, minus}
use Rattle.serde_json.specs.Data as data_words
use Rattle.serde_json.specs.Data.{Num, Data}
use Rattle.serde_json.specs.Find.{as_integer}
use Rattle.serde_json.specs.Read.{number_of, number_from, float_of, is_integer}
use Rattle.definitions.specs.Values.{Text, fits_64_bits}

abbrev pub IsFitting : Num → Type 0
IsFitting n = (z : ℤ) → as_integer n ≡ Some z → fits_64_bits z ≡ true

float_fitting : (b : Bool) (x : data_words.Num) (n : Num) → as_integer x ≡ None → cond b (Some x) None ≡ Some n → IsFitting n
float_fitting true x n float e z h =
    let is : x ≡ n = cc in
    absurd (unlike (sym float ∙ ap as_integer is ∙ h))
  where
    unlike : {A : Type 0} {a : A} → None ≡ Some a → ⊥
    unlike e = cc
float_fitting false x n float e z h = cc

unsigned_fitting : (a b : Bool) (k : ℕ) (n : Num) (other : Option Num) → nat_lt k (2 ^ 64) ≡ b → (other ≡ Some n → IsFitting n)
    → cond (a && b) (Some (data_words.unsigned k)) other ≡ Some n → IsFitting n
unsigned_fitting true true k n other small more e z h =
    let is : data_words.unsigned k ≡ n = cc in
    let same : Some (pos k) ≡ Some z = ap as_integer is ∙ h in
    let whole : pos k ≡ z = cc in
    subst (λ y. fits_64_bits y ≡ true) whole small
unsigned_fitting true false k n other small more e z h = more e z h
unsigned_fitting false b k n other small more e z h = more e z h

negated_fits : (k : ℕ) → k ≤ 2 ^ 63 → fits_64_bits (neg_ℤ (pos k)) ≡ true
negated_fits zero small = refl
negated_fits (suc k) small = lt-ltb k (2 ^ 63) small

negative_fitting : (a b c : Bool) (k : ℕ) (n : Num) (other : Option Num) → nat_le k (2 ^ 63) ≡ c → (other ≡ Some n → IsFitting n)
    → cond (a && b && c) (Some (data_words.negative (neg_ℤ (pos k)))) other ≡ Some n → IsFitting n
negative_fitting true true true k n other small more e z h =
    let is : data_words.negative (neg_ℤ (pos k)) ≡ n = cc in
    let same : Some (neg_ℤ (pos k)) ≡ Some z = ap as_integer is ∙ h in
    let whole : neg_ℤ (pos k) ≡ z = cc in
    subst (λ y. fits_64_bits y ≡ true) whole (negated_fits k (leb-true k (2 ^ 63) small))
negative_fitting true true false k n other small more e z h = more e z h
negative_fitting true false c k n other small more e z h = more e z h
negative_fitting false b c k n other small more e z h = more e z h

from_fitting : (sign : Bool) (p : Parts) (n : Num) → number_from sign p ≡ Some n → IsFitting n
from_fitting false p n e =
    unsigned_fitting (is_integer p) (nat_lt (digits_of p) (2 ^ 64)) (digits_of p) n (float_of false p) refl
    (λ f. float_fitting (float_is_finite (nearest binary64 false p)) _ n refl f) e
from_fitting true p n e =
    negative_fitting (is_integer p) (nat_lt 0 (digits_of p)) (nat_le (digits_of p) (2 ^ 63)) (digits_of p) n (float_of true p) refl
    (λ f. float_fitting (float_is_finite (nearest binary64 true p)) _ n refl f) e

pub number_fitting : (s : Text) (n : Num) → number_of s ≡ Some n → IsFitting n
unfolding number_of
number_fitting s n e = by_sign (slice_index s 0 == minus) e
  where
    by_sign : (b : Bool) → cond b (number_from true (scan (drop 1 s))) (number_from false (scan s)) ≡ Some n → IsFitting n
    by_sign true h = from_fitting true (scan (drop 1 s)) n h
    by_sign false h = from_fitting false (scan s) n h
