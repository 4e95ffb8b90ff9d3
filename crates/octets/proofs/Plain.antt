-- The names of bytes come to these values.
use mathlib.Core.Path.{sym}
use native.Mathlib.Nat.{div-one}
use Rattle.octets.specs.Bytes.{be}
use Rattle.octets.specs.Plain.{Plain}
use Rattle.octets.proofs.Numbers.{be_two, be_four}
use Rattle.octets.proofs.Zeros.{length_zeros, get_or_zeros}
use Rattle.octets.proofs.EveryByte.{bytes_at, bytes_of}

pub plain : Plain
unfolding be
plain =
    record {
      one = λ x. rw (div-one x);
      two = λ x. sym (be_two x);
      four = λ x. sym (be_four x);
      zeros_size = length_zeros;
      zeros_are = get_or_zeros;
      bytes = λ s. (λ b i. bytes_at s i b, λ h. bytes_of s (λ i l. h i));
    }
