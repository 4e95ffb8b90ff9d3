-- A loaded key keeps the promise about a block, with the cipher of its class.
use mathlib.Core.Path.{refl, sym, subst₂}
use Prim.Native.Nat.{ℕ}
use mathlib.Core.List.{List}
use Rattle.octets.specs.Block.{Invertible}
use Rattle.cipher.specs.Key.{present_class, encrypt_by, decrypt_by}
use Rattle.cipher.specs.Promise.{ClassKey, ClassCiphers, Promise}
use Rattle.cipher.proofs.Promise.{class_encrypts, class_decrypts, class_invertible}

pub class_ciphers : ClassCiphers
unfolding encrypt_by decrypt_by present_class
class_ciphers =
    record {
      class_4 = record { encrypts = λ p k b. refl; decrypts = λ p k b. refl };
      class_6 = record { encrypts = λ p k b. refl; decrypts = λ p k b. refl };
      class_8 = record { encrypts = λ p k b. refl; decrypts = λ p k b. refl };
      class_21 = record { encrypts = λ p k b. refl; decrypts = λ p k b. refl };
      class_24 = record { encrypts = λ p k b. refl; decrypts = λ p k b. refl };
    }

pub promise : {class : ℕ} {k : List ℕ} → ClassKey class k → Promise class k
promise {class} {k} h =
    record {
      invertible =
          subst₂ Invertible (λ i b. sym (class_encrypts class k h.size 0 b) i) (λ i b. sym (class_decrypts class k h.size 0 b) i)
          (class_invertible h 0 0);
      encrypts = class_encrypts class k h.size;
      decrypts = class_decrypts class k h.size;
      by_paths_lem = class_invertible h;
      ciphers = class_ciphers;
    }
