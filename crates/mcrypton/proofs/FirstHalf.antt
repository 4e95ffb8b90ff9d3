-- Demand 3, first half, holds of every key.
use mathlib.Core.Path.{refl}
use mathlib.Core.List.{List, [], ◌∷◌}
use mathlib.Core.Logic.{inl, inr}
use Prim.Native.Nat.{ℕ}
use native.Mathlib.Numerals.{add-one}
use Rattle.octets.specs.Clauses.{OneOf}
use Rattle.rounds.specs.Array.{words}
use Rattle.rounds.proofs.Blocks.{sbox_opposite, π_π}
use Rattle.rounds.proofs.Paths.{same_round}
use Rattle.schedule.specs.Schedule.{Key, Count, four, six, eight}
use Rattle.schedule.proofs.Registers.{backwards, key_back, back_one}
use Rattle.mcrypton.specs.Cipher.{steps, encrypt_block, decrypt_block}
use Rattle.mcrypton.specs.Claims.{FirstHalf, FirstAsks}
use Rattle.mcrypton.proofs.Paths.{same_after}
use Rattle.mcrypton.proofs.PathBits.{path_bits}
use Rattle.mcrypton.proofs.Opens.{decrypt_encrypt, encrypt_decrypt}

pub first_half : (k : List ℕ) → Key k → FirstHalf k
unfolding encrypt_block decrypt_block steps
first_half k h =
    record {
      encrypts = λ p b. refl;
      decrypts = λ p c. refl;
      bits = path_bits;
      opens = decrypt_encrypt k h;
      seals = encrypt_decrypt k h;
      registers = backwards k h.count h.words;
      keys = key_back k h;
      undoes = λ r l. rw add-one (back_one k h.count h.words r);
      boxes = sbox_opposite;
      involution = λ a b. π_π b;
      round = same_round;
      paths = same_after;
    }

pub first_asks : FirstAsks
unfolding OneOf
first_asks =
    record {
      key = λ k n w. record { count = count n; words = record { at = w } };
      block = λ a b c d. words;
    }
  where
    count : {n : ℕ} → OneOf (4 ∷ 6 ∷ 8 ∷ []) n → Count n
    count (inl e) = rw e four
    count (inr (inl e)) = rw e six
    count (inr (inr e)) = rw e eight
