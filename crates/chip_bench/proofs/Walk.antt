-- One turn of the two loops: the register forward to a round, and the rounds taken back.
use mathlib.Core.Path.{◌≡◌, refl, ap, ap₂, ◌∙◌}
use mathlib.Core.List.{List}
use Prim.Native.Nat.{ℕ, zero, suc, ◌+◌, ◌-◌, ◌≤◌, ◌<◌}
use native.Mathlib.Numerals.{add-one}
use native.Mathlib.Omega.{arith}
use Rattle.rounds.specs.Array.{σ, inverse_round}
use Rattle.rounds.specs.declared.Direction.TheVariants.{Encrypt}
use Rattle.schedule.specs.Schedule.{forward, backward, times, round_key}
use Rattle.schedule.specs.declared.Register.{Register}
use Rattle.chip_bench.specs.Bench.{taken_back}

-- v is the register i steps after u, which is that of round 0
pub record Ahead (u : Register) (i : ℕ) (v : Register) : Type 0 where
  pub register : v ≡ times i forward u
  pub round : v.round ≡ i

pub begun : {u : Register} → u.round ≡ 0 → Ahead u 0 u
unfolding times
begun e = record { register = refl; round = e }

pub onward : {u v v' : Register} (i : ℕ) → Ahead u i v → v' ≡ forward v → Ahead u (i + 1) v'
unfolding times forward
onward {u} {v} {v'} i h e =
    rw add-one
    (record {
      register = e ∙ ap forward h.register;
      round = ap (λ (x : Register). x.round) e ∙ ap (λ (n : ℕ). n + 1) h.round ∙ add-one i;
    })

pub ahead : (u : Register) → u.round ≡ 0 → (r : ℕ) → Ahead u r (times r forward u)
unfolding times
ahead u e zero = begun e
ahead u e (suc r) = rw (← add-one) (onward r (ahead u e r) refl)

pub there : {u v : Register} {i : ℕ} (r : ℕ) → i ≤ r → r ≤ i → Ahead u i v → v ≡ times r forward u
there {u} {i = i} r l g h = h.register ∙ ap (λ (n : ℕ). times n forward u) same
  where
    same : i ≡ r
    same = omega arith

-- a round taken back leaves the way back from there
pub back_more : (u u' : Register) (k x y : List ℕ) (i : ℕ) → 0 < i → k ≡ round_key u → y ≡ inverse_round Encrypt k x → u' ≡ backward u
    → taken_back (i - 1) u' y ≡ taken_back i u x
unfolding taken_back
back_more u u' k x y zero h e f g = absurd (omega arith)
back_more u u' k x y (suc i) h e f g =
    ap (λ (n : ℕ). taken_back n u' y) one_less ∙ ap₂ (taken_back i) g (f ∙ ap (λ (k : List ℕ). inverse_round Encrypt k x) e)
  where
    one_less : suc i - 1 ≡ i
    one_less = omega arith

pub back_done : (u : Register) (k x z : List ℕ) (i : ℕ) → i ≤ 0 → k ≡ round_key u → z ≡ σ k x → z ≡ taken_back i u x
unfolding taken_back
back_done u k x z zero h e f = f ∙ ap (λ (k : List ℕ). σ k x) e
back_done u k x z (suc i) h e f = absurd (omega arith)
