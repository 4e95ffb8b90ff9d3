-- The term sheet (document 02, request 1): n, then n opening days, then n closing days, each 2 bytes. n is a given: the caption sheet's.
use Rattle.std.specs.Prelude.{ℕ, ◌+◌, ◌*◌, Bool, ◌&&◌, List, eqb, leb, length}
use Rattle.octets.specs.Bytes.{number, part, all_below}

-- first n
unfoldable pub count : List ℕ → ℕ
count t = number (part t 0 2)

-- then the array of opening days
unfoldable pub opening : List ℕ → ℕ → ℕ
opening t i = number (part t (2 + 2 * i) 2)

-- then the array of closing days
unfoldable pub closing : ℕ → List ℕ → ℕ → ℕ
closing n t i = number (part t (2 + 2 * n + 2 * i) 2)

-- a term sheet with another n, another length or a day above the last is unfit; the days of blank slots count too
unfoldable pub fit_terms : ℕ → List ℕ → Bool
fit_terms n t =
    eqb (count t) n
    && (eqb (length t) (2 + 4 * n)
    && (all_below n (λ i. leb (opening t i) 36524) && all_below n (λ i. leb (closing n t i) 36524)))

-- a slot is on show exactly if opening ≤ day ≤ closing
unfoldable pub on_show : ℕ → List ℕ → ℕ → ℕ → Bool
on_show n t i day = leb (opening t i) day && leb day (closing n t i)
