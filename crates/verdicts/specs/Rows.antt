-- The tests of the calls with the edition and the ciphers that a sheet's own bytes name.
use Rattle.std.specs.Prelude.{ℕ, not, List, eqb, length}
use Rattle.octets.specs.Outcome.{Row, ◌gives◌}
use Rattle.cipher.specs.Key.{key_bytes}
use Rattle.layout.specs.Layout.{edition_of, key_class}
use Rattle.captions.specs.Captions.{Keys, loaded_for}
use Rattle.captions.specs.Calls.{sheet_tests, write_tests, window_tests, open_tests, clear_tests}
use Rattle.captions.specs.declared.Refusal.{Refusal}
use Rattle.captions.specs.declared.Refusal.TheVariants.{OtherKeyClass}

-- 5, of a sealing key with a class t
abbrev pub size_row : List ℕ → ℕ → Row Refusal
size_row k t = not (eqb (length k) (key_bytes t)) gives OtherKeyClass

-- 4 5 14 6
abbrev pub sheet_rows : Keys → List ℕ → ℕ → List (Row Refusal)
sheet_rows k s i = sheet_tests (edition_of s) (loaded_for (key_class s) k) k s i

-- 1 2 4 5 14 6 7 15 8
abbrev pub write_rows : Keys → List ℕ → ℕ → List ℕ → List (Row Refusal)
write_rows k s i c = write_tests (edition_of s) (loaded_for (key_class s) k) k s i c

-- 1 2 3 4 5 14 6, with a window of n bytes
abbrev pub window_rows : Keys → List ℕ → ℕ → ℕ → List (Row Refusal)
window_rows k s i n = window_tests (edition_of s) (loaded_for (key_class s) k) k s i n

-- 1 2 3 4 5 14 6 9, with a window of n bytes
abbrev pub open_rows : Keys → List ℕ → ℕ → ℕ → List (Row Refusal)
open_rows k s i n = open_tests (edition_of s) (loaded_for (key_class s) k) k s i n

-- 4 6
abbrev pub clear_rows : List ℕ → ℕ → List (Row Refusal)
clear_rows s i = clear_tests (edition_of s) s i
