-- The score of a run of standard descriptors (01, Choice).
use Rattle.std.specs.Prelude.{ℕ, ◌+◌, ◌*◌, ℤ, pos, ◌-ℤ◌}

-- named × 2048 + columns − generated × 1024, exact (01, Choice; 01, Forms that must change: signed 64-bit)
unfoldable pub exact_score : ℕ → ℕ → ℕ → ℤ
exact_score named columns generated = pos (named * 2048 + columns) -ℤ pos (generated * 1024)
