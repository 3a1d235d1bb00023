-- How many texts were valid, invalid and refused, and the status of a program that met them.
use Rattle.std.specs.Prelude.{ℕ, ◌==◌, if◌then◌else◌}

-- 2 where one was refused, else 1 where one was invalid, else 0
abbrev pub status_of : ℕ → ℕ → ℕ
status_of invalid refused = if refused == 0 then (if invalid == 0 then 0 else 1) else 2
