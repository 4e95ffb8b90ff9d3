-- The serial does what it is for.
use Prim.Native.Nat.{ℕ, ◌^◌, ◌<◌}
use mathlib.Core.Path.{◌≡◌, refl, sym, ap, ap₂, subst, ◌∙◌}
use Rattle.captions.specs.Answers.{Outcome}
use Rattle.captions.specs.Calls.{blanking}
use Rattle.demands.proofs.Blanking.{blank_is}
use Rattle.demands.proofs.Ciphers.{code_blanks}
use mathlib.Core.Logic.{◌≢◌}
use mathlib.Core.Bool.{true, false}
use mathlib.Core.List.{List}
use native.Mathlib.Omega.{arith}
use Rattle.cipher.specs.Key.{mcrypton_class, class_known, encrypt_by, decrypt_by}
use Rattle.cipher.specs.Promise.{ClassKey}
use Rattle.cipher.proofs.Promise.{mcrypton_known}
use Rattle.cipher.proofs.Promised.{promise}
use Rattle.layout.specs.Layout.{Edition, key_class, slot_count, fit, blank_sheet1}
use Rattle.captions.specs.Captions.{Keys, Ciphers, key_mark, start_block, sealed_field}
use Rattle.captions.specs.Runs.{finally}
use Rattle.captions.specs.Model.{Call}
use Rattle.captions.specs.Claim.{Captions, Sound}
use Rattle.captions.proofs.Editions.{editions_regular, edition_kept, fit_class}
use Rattle.captions.proofs.BlankSheets.{serial_2, serial_3}
use Rattle.captions.proofs.KeyMark.{mark_six}
use Rattle.captions.proofs.Starts.{start_number, start_slot, start_tail}
use Rattle.demands.specs.Ciphers.{by_paths, blanking_by}
use Rattle.demands.specs.Steps.{sheet_step, Serves}
use Rattle.demands.specs.Premises.{Blanked, one, two, UnlikeKeys}
use Rattle.demands.specs.Serials.{tail_of, WithSerial, second, third, Serials}
use Rattle.demands.proofs.Premises.{premises, other_edition, blanked_pair, blanked_serves}
use Rattle.demands.proofs.NoStrangers.{own_header}

-- the tail of a blank sheet is its tail after every list of calls
tail_kept : (p : ℕ) (k : Keys) {e : Edition} {n t : ℕ} {s : List ℕ} → Blanked e n t s → Serves k s → (calls : List Call) → Captions calls
    → tail_of (finally (sheet_step p k) calls s) ≡ e.tail s
tail_kept p k {s = s} b serves calls captions =
    let header = own_header p p p k s calls serves (premises.made b) captions in
    let s' = finally (sheet_step p k) calls s in
    ap (λ (d : Edition). d.tail s') (sym (edition_kept s s' header))
    ∙ sym ((editions_regular s).tail_kept s s' header)
    ∙ ap (λ (d : Edition). d.tail s) (premises.of_edition b)

-- by any path numbers, one cipher that keeps what is asked
module _ (t : ℕ) (k : Keys) (known : class_known t ≡ true) (u : UnlikeKeys t k) where
  sealing_key_lem : ClassKey t k.sealing
  sealing_key_lem = record { known = known; size = u.sealing_size; bytes = u.sealing }

  checking_key_lem : ClassKey t k.checking
  checking_key_lem = record { known = known; size = u.checking_size; bytes = u.checking }

  sound : (p : ℕ) → Sound (by_paths t p p k)
  unfolding by_paths
  sound p = record { seals = (promise sealing_key_lem).by_paths_lem p p; checks = ((promise checking_key_lem).by_paths_lem p p).encrypts }

  sealing_alike : (p p' : ℕ) → encrypt_by t p k.sealing ≡ encrypt_by t p' k.sealing
  sealing_alike p p' = λ i b. (sym ((promise sealing_key_lem).encrypts p b) ∙ (promise sealing_key_lem).encrypts p' b) i

  opening_alike : (p p' : ℕ) → decrypt_by t p k.sealing ≡ decrypt_by t p' k.sealing
  opening_alike p p' = λ i b. (sym ((promise sealing_key_lem).decrypts p b) ∙ (promise sealing_key_lem).decrypts p' b) i

  checking_alike : (p p' : ℕ) → encrypt_by t p k.checking ≡ encrypt_by t p' k.checking
  checking_alike p p' = λ i b. (sym ((promise checking_key_lem).encrypts p b) ∙ (promise checking_key_lem).encrypts p' b) i

  paths_same : (p p' : ℕ) → by_paths t p p k ≡ by_paths t p' p' k
  unfolding by_paths
  paths_same p p' = rw (sealing_alike p p', opening_alike p p', checking_alike p p')

  -- start blocks of unlike tails are unlike
  tails_apart : (p p' a a' x x' w w' i i' : ℕ) → a ≡ x → a' ≡ x' → x < 65536 → x' < 65536 → x ≢ x'
      → start_block (by_paths t p p k) a w i ≢ start_block (by_paths t p' p' k) a' w' i'
  tails_apart p p' a a' x x' w w' i i' e e' h h' d q =
      d (sym e ∙ start_tail (by_paths t p p k) (sound p) w w' i i' a a' (q ∙ ap (λ (c : Ciphers). start_block c a' w' i') (paths_same p' p)) (omega (arith, e)) (omega (arith, e')) ∙ e')

-- ---- the tail of a sheet

module _ (p : ℕ) (k : Keys) (t n : ℕ) (calls : List Call) (known : class_known t ≡ true) (u : UnlikeKeys t k) (few : slot_count n ≡ true) (captions : Captions calls) where
  -- unlike keys serve a sheet of editions 1 and 2
  old_serves : {e : Edition} {s : List ℕ} → e.keyed ≡ false → Blanked e n t s → Serves k s
  old_serves {s = s} old b = premises.unlike_serves k s (premises.made b).fits (other_edition b old) (rw (premises.class b) u)

  tail_of_lem : (x : ℕ) (s : List ℕ) → x < 65536 → WithSerial k t n x s → tail_of (finally (sheet_step p k) calls s) ≡ x
  tail_of_lem x s h (second c) = tail_kept p k (two n t x few c h) (old_serves refl (two n t x few c h)) calls captions ∙ serial_2 n t x h
  tail_of_lem x s h third =
      tail_kept p k (blanked_pair k n t x known few h u) (blanked_serves k n t x known few h u) calls captions
      ∙ serial_3 n t x (key_mark (by_paths t 0 0 k) n t x) (mark_six (by_paths t 0 0 k) (sound t k known u 0) n t x) h

tail_1 : (p : ℕ) (k : Keys) (t n : ℕ) (calls : List Call) → mcrypton_class t ≡ true → UnlikeKeys t k → slot_count n ≡ true → Captions calls
    → tail_of (finally (sheet_step p k) calls (blank_sheet1 n t)) ≡ 0
tail_1 p k t n calls class u few captions =
    tail_kept p k (one n t few class) (old_serves p k t n calls (mcrypton_known t class) u few captions refl (one n t few class)) calls captions

once : (p p' : ℕ) (k : Keys) (s : List ℕ) (w w' i i' : ℕ)
    → fit s ≡ true → UnlikeKeys (key_class s) k → w < 2 ^ 32 → w' < 2 ^ 32 → i < 2 ^ 16 → i' < 2 ^ 16
    → start_block (by_paths (key_class s) p p k) (tail_of s) w i ≡ start_block (by_paths (key_class s) p' p' k) (tail_of s) w' i'
    → (w ≡ w') × (i ≡ i')
once p p' k s w w' i i' f u a a' b b' q =
    let known = fit_class s f in
    let e = q ∙ ap (λ (c : Ciphers). start_block c (tail_of s) w' i') (paths_same (key_class s) k known u p' p) in
    let ok = sound (key_class s) k known u p in
    (start_number (by_paths (key_class s) p p k) ok w w' i i' (tail_of s) (tail_of s) e a a', start_slot (by_paths (key_class s) p p k) ok w w' i i' (tail_of s) (tail_of s) e b b')

blanked : (k : Keys) (b : List ℕ) (n t x : ℕ) → (blanking k b n t x).number ≡ 0 → WithSerial k t n x (blanking k b n t x).bytes
unfolding blanking_by
blanked k b n t x h =
    let e = code_blanks 0 k b n t x in
    let number = ap (λ (o : Outcome). o.number) e ∙ h in
    subst (WithSerial k t n x) (sym (blank_is (by_paths t 0 0 k) k b n t x number) ∙ ap (λ (o : Outcome). o.bytes) e) third

pub serials : Serials
serials =
    record {
      of_edition_2 = λ k t n x c. second c;
      blanked = blanked;
      kept = λ p k t n x s calls known u f c. tail_of_lem p k t n calls known u f c x s;
      none_in_1 = tail_1;
      apart = λ p p' k t n n' x x' s s' calls calls' w w' i i' known u f f' c c' h h' d b b'.
          tails_apart t k known u p p' _ _ x x' w w' i i' (tail_of_lem p k t n calls known u f c x s h b) (tail_of_lem p' k t n' calls' known u f' c' x' s' h' b') h h' d;
      apart_from_1 = λ p p' k t n n' x s calls calls' w w' i i' known u f f' c c' h d b.
          tails_apart t k (mcrypton_known t known) u p p' _ _ x 0 w w' i i' (tail_of_lem p k t n calls (mcrypton_known t known) u f c x s h b) (tail_1 p' k t n' calls' known u f' c') h (omega arith) d;
      once = once;
      serial_0 = λ p p' k t n n' s calls calls' w i x known u f f' c c' b.
          ap₂ (λ (d : Ciphers) (a : ℕ). sealed_field d a w i x) (paths_same t k (mcrypton_known t known) u p p')
          (tail_of_lem p k t n calls (mcrypton_known t known) u f c 0 s (omega arith) b ∙ sym (tail_1 p' k t n' calls' known u f' c'));
      premises = premises;
    }
