-- The editions of sheets meet what the theorem about lists asks, and a sheet's edition lies in header bytes that a call keeps.
use Prim.Native.Nat.{ℕ}
use mathlib.Core.Path.{◌≡◌, refl, ap}
use mathlib.Core.Bool.{true, false≢true}
use mathlib.Core.List.{List}
use native.Mathlib.Omega.{arith}
use Rattle.octets.specs.Bytes.{number}
use Rattle.cipher.specs.Key.{class_known}
use Rattle.layout.specs.Layout.{edition1, edition2, edition3, rule1, rule2, rule3, serial, edition_of, edition_byte, key_class, fit}
use Rattle.layout.proofs.Header.{edition_cases}
use Rattle.layout.proofs.Fits.{fit_facts, fits_class}
use Rattle.captions.specs.Claim.{SameHeader, Regular}
use Rattle.captions.proofs.Store.{key_class_kept}

edition_byte_kept : {h : ℕ} {s s' : List ℕ} → SameHeader h s s' → edition_byte s ≡ edition_byte s'
unfolding edition_byte
edition_byte_kept k = ap number (k.low 3 1 (omega arith))

pub edition1_regular : Regular edition1
unfolding rule1
edition1_regular =
    record { header_size = omega arith; keyed_size = λ h. absurd (false≢true h); rule_kept = λ s s' h. rw (key_class_kept h, edition_byte_kept h); tail_kept = λ s s' h. refl }

pub edition2_regular : Regular edition2
unfolding rule2 serial
edition2_regular =
    record {
      header_size = omega arith;
      keyed_size = λ h. absurd (false≢true h);
      rule_kept = λ s s' h. rw (key_class_kept h, edition_byte_kept h, h.high 10 6 (omega arith) (omega arith));
      tail_kept = λ s s' h. ap number (h.high 8 2 (omega arith) (omega arith));
    }

pub edition3_regular : Regular edition3
unfolding rule3 serial
edition3_regular =
    record {
      header_size = omega arith;
      keyed_size = λ h. omega arith;
      rule_kept = λ s s' h. rw (key_class_kept h, edition_byte_kept h);
      tail_kept = λ s s' h. ap number (h.high 8 2 (omega arith) (omega arith));
    }

pub editions_regular : (s : List ℕ) → Regular (edition_of s)
editions_regular s = edition_cases Regular s (λ f g. edition1_regular) (λ h. edition2_regular) (λ h. edition3_regular)

pub edition_kept : (s s' : List ℕ) → SameHeader (edition_of s).header s s' → edition_of s ≡ edition_of s'
unfolding edition_of
edition_kept s s' h = rw (edition_byte_kept h)

-- the class of a fit sheet is known
pub fit_class : (s : List ℕ) → fit s ≡ true → class_known (key_class s) ≡ true
fit_class s h = fits_class s (fit_facts s h)
