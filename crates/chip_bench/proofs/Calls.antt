-- The outcome of the bench's call, by the tests that the code makes.
use Rattle.std.specs.Prelude.{Ok, Err}
use mathlib.Core.Path.{◌≡◌, sym, ap, ap₂, ◌∙◌}
use mathlib.Core.Bool.{Bool, true, false}
use mathlib.Core.List.{List}
use Prim.Native.Nat.{ℕ, ◌≤◌, ◌<◌}
use lib.ListN.{length}
use borrow.Author.Tests.{eq-eqb, ne_eqb, lt-ltb, le-ltb}
use Rattle.octets.specs.Outcome.{decided}
use Rattle.octets.specs.Bytes.{put, part}
use Rattle.octets.proofs.Parts.{put_all, part_all}
use Rattle.schedule.specs.Schedule.{forward, start, register, times}
use Rattle.schedule.specs.declared.Register.{Register}
use Rattle.mcrypton.specs.Bytes.{key_length, words_of, bytes_of}
use Rattle.chip_bench.specs.Bench.{taken_back, leading_block}
use Rattle.chip_bench.specs.Calls.{bench_outcome, bench_tests, benching}
use Rattle.chip_bench.specs.declared.BenchError.TheVariants.{WrongKey, WrongSpan, NoSuchRound}
use Rattle.chip_bench.proofs.Walk.{ahead}

module _ (k : List ℕ) (r : ℕ) (wanted out : List ℕ) (t : Bool) (e : t ≡ key_length (length k)) where
  pub wrong_key_lem : t ≡ false → bench_outcome (Err WrongKey) out ≡ benching k r wanted out
  unfolding benching bench_tests decided
  wrong_key_lem h = rw (← e, h)

  pub wrong_array : t ≡ true → (length wanted ≡ 8 → ⊥) → bench_outcome (Err WrongSpan) out ≡ benching k r wanted out
  unfolding benching bench_tests decided
  wrong_array h p = rw (← e, h, ne_eqb (length wanted) 8 p)

  pub wrong_output : t ≡ true → length wanted ≡ 8 → (length out ≡ 8 → ⊥) → bench_outcome (Err WrongSpan) out ≡ benching k r wanted out
  unfolding benching bench_tests decided
  wrong_output h p q = rw (← e, h, eq-eqb (length wanted) 8 p, ne_eqb (length out) 8 q)

  pub no_round : t ≡ true → length wanted ≡ 8 → length out ≡ 8 → 12 < r → bench_outcome (Err NoSuchRound) out ≡ benching k r wanted out
  unfolding benching bench_tests decided
  no_round h p q l = rw (← e, h, eq-eqb (length wanted) 8 p, eq-eqb (length out) 8 q, lt-ltb 12 r l)

  pub accepts : t ≡ true → length wanted ≡ 8 → length out ≡ 8 → r ≤ 12 → bench_outcome (Ok tt) (leading_block k r wanted) ≡ benching k r wanted out
  unfolding benching bench_tests decided
  accepts h p q l = rw (← e, h, eq-eqb (length wanted) 8 p, eq-eqb (length out) 8 q, le-ltb 12 r l)

  -- x is the wanted array, b the block that is stored
  pub accepted : t ≡ true → length wanted ≡ 8 → length out ≡ 8 → r ≤ 12 → (x b exit : List ℕ) → x ≡ part wanted 0 8 → b ≡ leading_block k r x
      → length b ≡ 8 → exit ≡ put out 0 b → bench_outcome (Ok tt) exit ≡ benching k r wanted out
  accepted h p q l x b exit f g m s =
      ap (bench_outcome (Ok tt)) (s ∙ put_all out b (m ∙ sym q) ∙ g ∙ ap (leading_block k r) (f ∙ part_all wanted 8 p)) ∙ accepts h p q l

-- the register of round 0 of a key, and that of round r which was walked to from it
module _ (k : List ℕ) (u : Register) (e : u ≡ start (words_of k)) where
  pub round_0 : u.round ≡ 0
  unfolding start
  round_0 = ap (λ (x : Register). x.round) e

  module _ (r : ℕ) (v : Register) (f : v ≡ times r forward u) where
    pub round_r : v.round ≡ r
    round_r = ap (λ (x : Register). x.round) f ∙ (ahead u round_0 r).round

    -- the way back from the array a
    pub led : (a w x z : List ℕ) → w ≡ words_of a → x ≡ taken_back v.round v w → z ≡ bytes_of x → z ≡ leading_block k r a
    unfolding leading_block register
    led a w x z g h i = i ∙ ap bytes_of (h ∙ ap (λ (n : ℕ). taken_back n v w) round_r ∙ ap₂ (taken_back r) (f ∙ ap (times r forward) e) g)
