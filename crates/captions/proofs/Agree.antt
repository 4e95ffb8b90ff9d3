-- Two ciphers that agree wherever a pair of keys passes tests 1, 2 and 5 make the same calls.
use Prim.Native.Nat.{ℕ}
use mathlib.Core.Path.{◌≡◌}
use mathlib.Core.Bool.{false}
use mathlib.Core.List.{List, [], ◌∷◌, ◌++◌}
use lib.ListN.{length}
use Rattle.octets.specs.Outcome.{Row}
use Rattle.layout.specs.Layout.{Edition}
use Rattle.captions.specs.Captions.{Keys, Ciphers}
use Rattle.captions.specs.Calls.{key_tests, other_class, span_row, unfit_row, class_row, class_tests, sheet_tests, window_tests, open_tests, write_tests, read_tests, writing_with, reading_with}
use Rattle.captions.specs.declared.Refusal.{Refusal}
use Rattle.captions.proofs.Tables.{Unmet, unmet_left, unmet_right, unmet_first, unmet_rest, decided_rest_cong}

module _ (e : Edition) (x y : Ciphers) (k : Keys) (s : List ℕ) (i : ℕ) (agree : Unmet (key_tests k) → other_class k s ≡ false → x ≡ y) where
  -- tests 4 and 5, which need no cipher
  fitting : List (Row Refusal)
  fitting = unfit_row e s ∷ class_row k s ∷ []

  pub writing_agree : (c : List ℕ) → writing_with e x k s i c ≡ writing_with e y k s i c
  unfolding writing_with write_tests key_tests sheet_tests class_tests fitting
  writing_agree c =
      decided_rest_cong (key_tests k ++ fitting) _ _ _ _ _
      (λ u. rw (agree (unmet_left (key_tests k) fitting u) (unmet_first (unmet_rest (unmet_right (key_tests k) fitting u)))))

  pub reading_agree : (window : List ℕ) → reading_with e x k s i window ≡ reading_with e y k s i window
  unfolding reading_with read_tests open_tests window_tests key_tests sheet_tests class_tests fitting
  reading_agree window =
      let span : Row Refusal = span_row (length window) in
      decided_rest_cong (key_tests k ++ (span ∷ fitting)) _ _ _ _ _
      (λ u. rw (agree (unmet_left (key_tests k) (span ∷ fitting) u) (unmet_first (unmet_rest (unmet_rest (unmet_right (key_tests k) (span ∷ fitting) u))))))
