-- A sheet that meets the layout and a pair that serves it: what the theorems for any cipher ask, by any path numbers.
use Prim.Native.Nat.{ℕ}
use mathlib.Core.Path.{◌≡◌}
use mathlib.Core.Bool.{true, false}
use mathlib.Core.List.{List}
use Rattle.octets.specs.Bytes.{Bytes}
use Rattle.layout.specs.Layout.{edition_of, key_class, fit}
use Rattle.captions.specs.Captions.{Keys}
use Rattle.captions.specs.Calls.{key_tests, other_class}
use Rattle.captions.specs.Claim.{Sound, Fits}
use Rattle.captions.proofs.Tables.{Unmet}
use Rattle.captions.proofs.Editions.{fit_class}
use Rattle.captions.proofs.Effect.{keys_passed, class_passed}
use Rattle.demands.specs.Ciphers.{by_paths}
use Rattle.demands.specs.Steps.{Serves}
use Rattle.demands.proofs.Ciphers.{same_paths, paths_sound}

module _ (p q : ℕ) (k : Keys) (s : List ℕ) (serves : Serves k s) where
  pub served_keys : Unmet (key_tests k)
  served_keys = keys_passed (edition_of s) (by_paths (key_class s) 0 0 k) k s serves.passes

  pub served_class : other_class k s ≡ false
  served_class = class_passed (edition_of s) (by_paths (key_class s) 0 0 k) k s serves.passes

  pub served_fits : Bytes s → fit s ≡ true → Fits (edition_of s) (by_paths (key_class s) p q k) k s
  unfolding fit
  served_fits bytes fits = record { bytes = bytes; fits = fits; passes = rw (same_paths k s served_keys served_class p q 0 0) serves.passes }

  pub served_sound : fit s ≡ true → Sound (by_paths (key_class s) p q k)
  served_sound fits = paths_sound k s served_keys served_class p q (fit_class s fits) serves.sealing serves.checking
