-- The generator of random numbers. Assumes nothing.
use Rattle.std.specs.Prelude.{ℕ, ◌+◌, ◌*◌, ◌%◌, ◌^◌}

-- The state after a state.
abbrev pub next : ℕ → ℕ
next s = (s * 1664525 % 2 ^ 32 + 1013904223) % 2 ^ 32
