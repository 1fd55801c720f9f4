-- How many bytes a field has.
use Rattle.std.specs.Prelude.{ℕ, List, length}
use Rattle.std.proofs.Common.{◌≡◌, refl}
use Rattle.wire_fields.specs.Spelling.{u16_bytes, u32_bytes, u64_bytes}

pub u16_length : (n : ℕ) → length (u16_bytes n) ≡ 2
unfolding u16_bytes
u16_length n = refl

pub u32_length : (n : ℕ) → length (u32_bytes n) ≡ 4
unfolding u32_bytes
u32_length n = refl

pub u64_length : (n : ℕ) → length (u64_bytes n) ≡ 8
unfolding u64_bytes
u64_length n = refl
