-- How large the buffer is.
use Rattle.std.specs.Prelude.{ℕ, ◌*◌}

-- as many bytes as the code's BUFFER
abbrev pub most : ℕ
most = 80 * 1024 * 1024
