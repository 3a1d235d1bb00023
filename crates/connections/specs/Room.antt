-- How much room stays with what a connection holds.
use Rattle.std.specs.Prelude.{◌≡◌, ◌≤◌, ℕ, [], Vec, vec_capacity}
use Rattle.std.specs.Global.{Global}

-- .. in bytes, where it holds nothing
abbrev pub most_spare : ℕ
most_spare = 4096

abbrev pub KeepsLittle : Vec ℕ Global → Type 0
KeepsLittle bytes = bytes.items ≡ [] → vec_capacity bytes ≤ most_spare
