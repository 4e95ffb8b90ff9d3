-- The calls on one block: from its bytes to its words and back, and by a direction.
use mathlib.Core.Path.{◌≡◌, refl, ◌∙◌}
use mathlib.Core.List.{List}
use lib.ListN.{length}
use Prim.Native.Nat.{ℕ}
use Rattle.octets.specs.Bytes.{part}
use Rattle.octets.proofs.Parts.{part_all}
use Rattle.schedule.specs.declared.Register.{Register}
use Rattle.octets.specs.BlockCalls.{block_call}
use Rattle.rounds.specs.declared.Direction.{Direction}
use Rattle.rounds.specs.declared.Direction.TheVariants.{Encrypt, Decrypt}
use Rattle.schedule.specs.Schedule.{register, back_register, encryption_key, decryption_key}
use Rattle.mcrypton.specs.Cipher.{encrypt_block, decrypt_block}
use Rattle.mcrypton.specs.Bytes.{key_length, words_of, bytes_of, encrypt_bytes, decrypt_bytes}
use Rattle.mcrypton.specs.Calls.{encrypting, decrypting, crypting}
use Rattle.mcrypton.specs.Walks.{begun_by, walked}

-- f is done with the words
pub through_bytes : (f : Register → List ℕ → List ℕ) (u v : Register) (b x c : List ℕ) → v ≡ u → length b ≡ 8 → x ≡ part b 0 8 → c ≡ bytes_of (f v (words_of x)) → c ≡ bytes_of (f u (words_of b))
through_bytes f u v b x c r l e h = h ∙ rw (r, e, part_all b 8 l)

-- a call in a direction is one on a block that makes what the walk from the key's register makes
pub as_call : (d : Direction) (p : ℕ) (k b out : List ℕ) → block_call key_length k b out (bytes_of (walked d p (begun_by d (words_of k)) (words_of b))) ≡ crypting d p k b out
unfolding walked encrypting decrypting encrypt_bytes decrypt_bytes encrypt_block decrypt_block encryption_key decryption_key register back_register
as_call Encrypt p k b out = refl
as_call Decrypt p k b out = refl
