use Rattle.std.proofs.Common.{◌≡◌, ◌++◌, ◌∷◌, [], ◌+◌, ◌∙◌, Bool, true, cond, ap, map, drop, Bor, nat_cmp, BTreeSet, sym}
use Rattle.std.proofs.lemmas.Bool.{not-true, not-false}
use Rattle.std.proofs.lemmas.List.{map-append}
use Rattle.std.proofs.lemmas.Map.Text.{is_eq-slice_cmp}
use Rattle.std.specs.BTreeSet.{contains_by}
use Rattle.std.specs.Cmp.Lexicographic.{slice_cmp}
use Rattle.definitions.specs.Values.{Text, same_text}
use Rattle.json_doc.specs.NamedMembers.{name_text}
use Rattle.applicators.proofs.Growing.{grown, next_item}
use Rattle.applicators.proofs.Once.{unseen, unseen-new, unseen-old, unseen-first}
use Rattle.applicators.proofs.Unevaluated.{skipped}
use Rattle.applicators.proofs.annotating.distinct_names.Goals as goal
use Rattle.applicators.proofs.annotating.distinct_names.Goals.{then-branch+in_ok-push, else-branch}

abbrev seen_by : BTreeSet (Bor Text) → Text → Bool
seen_by s m = contains_by (λ k. slice_cmp nat_cmp m k.now) s

pub loop-name-init : goal.loop-name-init
loop-name-init c =
    let none = λ (m : Text). ap (λ ks. contains_by (λ (k : Bor Text). slice_cmp nat_cmp m k.now) (record { keys = ks })) c.new-seen.ensures.empty in
    ap (λ ks. map name_text ks ++ unseen (seen_by c.new-seen.result) (map name_text c.args.names.now)) c.new-kept.ensures.items
    ∙ unseen-first (seen_by c.new-seen.result) none (map name_text c.args.names.now)

pub loop-name-preserved : goal.loop-name-preserved
loop-name-preserved c =
    let i = c.loop-name.name-index in
    let x = c.name-item.result in
    let n = name_text x in
    let rest = map name_text (drop (i + 1) c.args.names.now) in
    let left : map name_text (drop i c.args.names.now) ≡ n ∷ rest =
    ap (map name_text) (next_item c.args.names.now i x c.loop-name-test.true c.name-item.is) in
    let old = seen_by c.loop-name.seen in
    let now_seen = λ (m : Text).
    c.in_ok-insert.ensures.updates.0 (record { ref_ptr = (0, 0); now = m }) ∙ ap (λ b. cond b true (old m)) (is_eq-slice_cmp c.as_str.result.now m ∙ ap (λ t. same_text t m) c.as_str.ensures) in
    elim c.if-branch.branch [
      | then-branch+in_ok-push w ↦
          ap (λ ks. map name_text ks.items ++ unseen (seen_by c.insert.new.self) rest) w.kept-is
          ∙ grown (map name_text c.loop-name.kept.items) _ (n ∷ []) _ (unseen (seen_by c.insert.new.self) rest) _
          (ap (map name_text) w.in_ok-push.ensures.items ∙ map-append name_text c.loop-name.kept.items _)
          (ap (unseen old) left ∙ unseen-new old (seen_by c.insert.new.self) n rest now_seen (ap old (sym c.as_str.ensures) ∙ not-true _ (sym c.in_ok-insert.ensures.added ∙ w.if-branch.true)))
          c.loop-name.invariant
      | else-branch w ↦
          ap (λ ks. map name_text ks.items ++ unseen (seen_by c.insert.new.self) rest) w.kept-is
          ∙ skipped (map name_text c.loop-name.kept.items) _ (unseen (seen_by c.insert.new.self) rest) _
          (ap (unseen old) left ∙ unseen-old old (seen_by c.insert.new.self) n rest now_seen (ap old (sym c.as_str.ensures) ∙ not-false _ (sym c.in_ok-insert.ensures.added ∙ w.if-branch.false)))
          c.loop-name.invariant
    ]
