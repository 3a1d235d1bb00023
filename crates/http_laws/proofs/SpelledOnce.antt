-- A stream spells one list of requests.
use Rattle.std.proofs.Common.{refl, sym, ap, ap₂, ◌∙◌, subst, length-append, true≢false, inl, inr, arith}
use Rattle.std.specs.Prelude.{◌≡◌, ◌⊎◌, List, [], ◌∷◌, ◌++◌, Bool, true, false, ◌||◌, MatchBool, Some, None, length}
use Rattle.httparse.specs.Grammar.{RequestHead}
use Rattle.httparse.proofs.GrammarLemmas.{request_unique}
use Rattle.definitions.specs.Values.{Text}
use Rattle.http_definitions.specs.Heads.{is_last, body_length}
use Rattle.http_definitions.specs.Streams.{Message, without_line_ends, BeginsWith, Spells, close, IsHopeless, IsWaiting}
use Rattle.http_laws.specs.Spelling.{HasNoRequestWhole, SpellsAll}

append_left : (xs ys us vs : Text) → length xs ≡ length ys → xs ++ us ≡ ys ++ vs → (xs ≡ ys) × (us ≡ vs)
append_left [] [] us vs l e = (refl, e)
append_left [] (y ∷ ys) us vs l e = absurd (omega (arith, l))
append_left (x ∷ xs) [] us vs l e = absurd (omega (arith, l))
append_left (x ∷ xs) (y ∷ ys) us vs l e =
    let behind : xs ++ us ≡ ys ++ vs = cc e in
    let first : x ≡ y = cc e in
    let parts = append_left xs ys us vs (omega (arith, l)) behind in
    (cc (first, parts.0), parts.1)

pub one_message : (bytes : Text) (m n : Message) (r s : Text) → BeginsWith bytes m r → BeginsWith bytes n s → (m ≡ n) × (r ≡ s)
one_message bytes m n r s x y =
    let same = request_unique bytes m.head n.head (m.body ++ r) (n.body ++ s) x.0.0 y.0.0 in
    let long : Some (length m.body) ≡ Some (length n.body) = sym x.1 ∙ ap body_length same.0 ∙ y.1 in
    let parts = append_left m.body n.body r s (cc long) same.1 in
    (ap₂ {A = RequestHead} {B = Text} {C = Message} (λ h b. record { head = h; body = b }) same.0 parts.0, parts.1)

pub waiting_has_none : (rest : Text) → IsWaiting rest → HasNoRequestWhole rest
waiting_has_none rest w m more b = elim w [
  | inl x ↦
      let same = request_unique rest x.0 m.head x.1 (m.body ++ more) x.3.0 b.0.0 in
      let long : Some x.2 ≡ Some (length m.body) = sym x.4 ∙ ap body_length same.0 ∙ b.1 in
      let n : x.2 ≡ length m.body = cc long in
      omega (arith, x.5, n, ap length same.1, length-append m.body more)
  | inr x ↦ x.0 m.head (m.body ++ more) b.0.0
]

pub hopeless_has_none : (rest : Text) → IsHopeless rest → HasNoRequestWhole rest
hopeless_has_none rest w m more b = elim w [
  | inl x ↦
      let same = request_unique rest x.0 m.head x.1 (m.body ++ more) x.2.0 b.0.0 in
      let none : None ≡ Some (length m.body) = sym x.3 ∙ ap body_length same.0 ∙ b.1 in
      cc none
  | inr x ↦ x.0 m.head (m.body ++ more) b.0
]

behind_one : (t : Bool) (ms : List Message) (rest more : Text) → MatchBool t ((ms ≡ []) × (rest ≡ without_line_ends more)) (Spells more ms rest)
    → ((t || close ms) ≡ false → HasNoRequestWhole rest) → ((t ≡ true) × (ms ≡ []) × (rest ≡ without_line_ends more)) ⊎ ((t ≡ false) × SpellsAll more ms rest)
behind_one true ms rest more x none = inl (refl, x.0, x.1)
behind_one false ms rest more x none = inr (refl, (x, none))

pub spelled_once : (bytes : Text) (ms ns : List Message) (r s : Text) → SpellsAll bytes ms r → SpellsAll bytes ns s → (ms ≡ ns) × (r ≡ s)
spelled_once bytes [] [] r s x y = (refl, x.0 ∙ sym y.0)
spelled_once bytes [] (n ∷ ns) r s x y = absurd (x.1 refl n y.0.0 (subst (λ t. BeginsWith t n y.0.0) (sym x.0) y.0.1))
spelled_once bytes (m ∷ ms) [] r s x y = absurd (y.1 refl m x.0.0 (subst (λ t. BeginsWith t m x.0.0) (sym y.0) x.0.1))
spelled_once bytes (m ∷ ms) (n ∷ ns) r s x y =
    let one = one_message (without_line_ends bytes) m n x.0.0 y.0.0 x.0.1 y.0.1 in
    let a = behind_one (is_last m.head) ms r x.0.0 x.0.2 x.1 in
    let b = behind_one (is_last n.head) ns s y.0.0 y.0.2 y.1 in
    let lasts : is_last m.head ≡ is_last n.head = ap (λ (k : Message). is_last k.head) one.0 in
    elim a [
      | inl p ↦ elim b [
        | inl q ↦ (ap₂ (λ k ks. k ∷ ks) one.0 (p.1 ∙ sym q.1), p.2 ∙ ap without_line_ends one.1 ∙ sym q.2)
        | inr q ↦ absurd (true≢false (sym p.0 ∙ lasts ∙ q.0))
      ]
      | inr p ↦ elim b [
        | inl q ↦ absurd (true≢false (sym q.0 ∙ sym lasts ∙ p.0))
        | inr q ↦
            let rest = spelled_once x.0.0 ms ns r s p.1 (subst (λ t. SpellsAll t ns s) (sym one.1) q.1) in
            (ap₂ (λ k ks. k ∷ ks) one.0 rest.0, rest.1)
      ]
    ]
