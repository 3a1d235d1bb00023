-- How many bytes open connections keep, after each call on the map that holds them.
use Rattle.std.proofs.Common.{◌≡◌, ◌+◌, ℕ, Option, Some, option_map, unwrap_or, sym, ap, ◌∙◌, add-zero}
use Rattle.std.specs.BTreeMap.{BTreeMap, get, get_by, is_at, insert_entry, IsOrdered}
use Rattle.std.specs.List.{sum_by}
use Rattle.std.specs.Map.{values_of, remove_entry, set_value}
use Rattle.std.specs.Ordering.{nat_cmp}
use Rattle.std.proofs.lemmas.Cmp.{nat_cmp_total}
use Rattle.std.proofs.lemmas.Map.Entries.{sum_by-insert_entry, sum_by-remove_entry, sum_by-set_value}
use Rattle.network.specs.declared.kept.Kept.{Kept}
use Rattle.network.specs.Sizes.{size_of, total_size}

pub removed : (m n : BTreeMap ℕ Kept) (id : ℕ) (v : Kept) (size : ℕ) → n.entries ≡ remove_entry (is_at (nat_cmp id)) m.entries → Some v ≡ get_by (nat_cmp id) m → size ≡ size_of v
    → total_size n + size ≡ total_size m + 0
removed m n id v size e was is =
    ap (λ es. sum_by size_of (values_of es) + size) e ∙ ap (λ s. sum_by size_of (values_of (remove_entry (is_at (nat_cmp id)) m.entries)) + s) (is ∙ ap (λ o. unwrap_or (option_map size_of o) 0) was)
    ∙ sum_by-remove_entry size_of (is_at (nat_cmp id)) m.entries ∙ sym (add-zero (total_size m))

pub changed : (m n : BTreeMap ℕ Kept) (id : ℕ) (v w : Kept) (before after : ℕ) → n.entries ≡ set_value (is_at (nat_cmp id)) m.entries w → Some v ≡ get_by (nat_cmp id) m
    → before ≡ size_of v → after ≡ size_of w → total_size n + before ≡ total_size m + after
changed m n id v w before after e was is is_after =
    ap (λ es. sum_by size_of (values_of es) + before) e ∙ ap (λ s. sum_by size_of (values_of (set_value (is_at (nat_cmp id)) m.entries w)) + s) is
    ∙ sum_by-set_value size_of (is_at (nat_cmp id)) m.entries v w (sym was) ∙ ap (λ s. total_size m + s) (sym is_after)

pub inserted : (m n : BTreeMap ℕ Kept) (id : ℕ) (w : Kept) (replaced : Option Kept) → n.entries ≡ insert_entry nat_cmp m.entries id w → IsOrdered nat_cmp m → replaced ≡ get nat_cmp m id → size_of w ≡ 0
    → total_size n + unwrap_or (option_map size_of replaced) 0 ≡ total_size m + 0
inserted m n id w replaced e ordered was none =
    ap (λ es. sum_by size_of (values_of es) + unwrap_or (option_map size_of replaced) 0) e
    ∙ ap (λ o. sum_by size_of (values_of (insert_entry nat_cmp m.entries id w)) + unwrap_or (option_map size_of o) 0) was
    ∙ sum_by-insert_entry size_of nat_cmp_total m.entries id w ordered ∙ ap (λ s. total_size m + s) none
