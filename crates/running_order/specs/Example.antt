-- An exhibited sheet of edition 3 with seven slots, six of them written, and its terms.
use Rattle.std.specs.Prelude.{ℕ, List, [], ◌∷◌, ◌++◌}
use Rattle.octets.specs.Bytes.{be, zeros}
use Rattle.terms.specs.Laws.{term_sheet}

-- the mark of a written slot: write number, length, two zero bytes, check
unfoldable pub a_mark : ℕ → ℕ → List ℕ
a_mark number len = be 4 number ++ (be 2 len ++ (zeros 2 ++ zeros 8))

unfoldable pub example_sheet : List ℕ
example_sheet =
    be 2 7 ++ (be 1 4 ++ (be 1 3 ++ (be 4 9 ++ (be 2 7 ++ (zeros 6
    ++ (a_mark 3 17 ++ (a_mark 9 192 ++ (a_mark 5 0 ++ (zeros 16 ++ (a_mark 7 40 ++ (a_mark 8 41 ++ (a_mark 6 42 ++ zeros 1344))))))))))))

-- day 20 is 2000-01-21
unfoldable pub example_terms : List ℕ
example_terms =
    term_sheet
    (10 ∷ 21 ∷ 10 ∷ 19 ∷ 20 ∷ 0 ∷ 21 ∷ [])
    (30 ∷ 50 ∷ 40 ∷ 21 ∷ 25 ∷ 20 ∷ 19 ∷ [])
