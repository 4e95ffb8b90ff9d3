-- What the bench's call answers and leaves in the output.
use Rattle.std.specs.Prelude.{ℕ, not, ◌&&◌, List, [], ◌∷◌, eqb, ltb, length, Result, Ok, Err}
use Rattle.octets.specs.Outcome.{Outcome, Row, ◌gives◌, decided}
use Rattle.mcrypton.specs.Bytes.{key_length}
use Rattle.chip_bench.specs.Bench.{leading_block}
use Rattle.chip_bench.specs.declared.BenchError.{BenchError}
use Rattle.chip_bench.specs.declared.BenchError.TheVariants.{WrongKey, WrongSpan, NoSuchRound}

-- the number of each refusal in documents 01 and 02
abbrev pub error_number : BenchError → ℕ
error_number WrongKey = 1
error_number WrongSpan = 3
error_number NoSuchRound = 13

-- and of each answer: 0 is accepted. The length is always 0
abbrev pub bench_number : Result Unit BenchError → ℕ
bench_number (Ok done) = 0
bench_number (Err e) = error_number e

unfoldable pub bench_outcome : Result Unit BenchError → List ℕ → Outcome
bench_outcome a bytes = record { number = bench_number a; len = 0; bytes = bytes }

-- the tests, in their order: key k, round r, wanted array, output
unfoldable pub bench_tests : List ℕ → ℕ → List ℕ → List ℕ → List (Row BenchError)
bench_tests k r wanted out =
    (not (key_length (length k)) gives WrongKey)
    ∷ (not (eqb (length wanted) 8 && eqb (length out) 8) gives WrongSpan)
    ∷ (ltb 12 r gives NoSuchRound)
    ∷ []

-- a refusal leaves the output as it was
unfoldable pub benching : List ℕ → ℕ → List ℕ → List ℕ → Outcome
benching k r wanted out =
    decided (bench_tests k r wanted out) (bench_outcome (Ok tt) (leading_block k r wanted)) (λ e. bench_outcome (Err e) out)
