-- The library's numbers of eight bytes are those of octets.
use Rattle.std.proofs.Common.{◌≡◌, ℕ, ◌^◌, ◌<◌, List, length, get_or, sym, ap, ◌∙◌}
use Rattle.std.specs.Int.{w64, to_be_bytes, from_be_bytes}
use Rattle.std.proofs.lemmas.Nat.{be_bytes_8}
use native.Mathlib.Nat.{div-one}
use Rattle.octets.specs.Bytes.{be, number}
use Rattle.octets.proofs.Numbers.{number_be}

pub eight_bytes : (x : ℕ) → to_be_bytes w64 x ≡ be 8 x
unfolding be
eight_bytes x = rw (div-one x)

pub eight_number : (b : List ℕ) (n : ℕ) → length b ≡ 8 → ((i : ℕ) → get_or b i 0 < 256) → n < 2 ^ 64 → n ≡ from_be_bytes w64 b → n ≡ number b
eight_number b n l h f e = sym (number_be 8 n f) ∙ ap number (sym (eight_bytes n) ∙ be_bytes_8 b n l h e)
