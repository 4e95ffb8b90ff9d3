-- The register from one update to the next, and the round keys that it holds.
use mathlib.Core.Path.{◌≡◌, refl, ap, ap₂, ◌∙◌}
use mathlib.Core.Bool.{Bool, true, false}
use mathlib.Core.List.{List}
use Prim.Native.Nat.{ℕ, ◌+◌, ◌*◌, ◌-◌, ◌/◌, ◌^◌, ◌<◌}
use native.Mathlib.Numerals.{add-one}
use native.Mathlib.Omega.{arith}
use lib.Arith.{digits_lt}
use lib.ListN.{length, get_or, set}
use lib.Seq.{get_or-set_same, get_or-set_other}
use borrow.Author.Count.{below_more}
use Rattle.present_schedule.specs.Schedule.{register, round_key80, round_key128}
use Rattle.present_schedule.specs.Registers.{KeyRegister, rest, update, held, round_key, keys_from, Updated}
use Rattle.present_schedule.proofs.Keys.{Keys, keys80, keys128}

-- v holds the register after r updates, where u holds the key
pub record At (u : KeyRegister) (r : ℕ) (v : KeyRegister) : Type 0 where
  pub same_width : v.wide ≡ u.wide
  pub holds : held v ≡ register (update u.wide) (held u) r

pub begun : (u : KeyRegister) → At u 0 u
unfolding register
begun u = record { same_width = refl; holds = refl }

pub one_more : {u v v' : KeyRegister} (r : ℕ) → At u r v → Updated (r + 1) v v' → At u (r + 1) v'
unfolding register
one_more {u} {v} {v'} r a n =
    rw add-one
    (record {
      same_width = n.same_width ∙ a.same_width;
      holds =
          ap (λ (w : Bool). v'.high * 2 ^ rest w + v'.low) n.same_width
          ∙ n.holds
          ∙ ap₂ (λ (w : Bool) (k : ℕ). update w (r + 1) k) a.same_width a.holds
          ∙ ap (λ (i : ℕ). update u.wide i (register (update u.wide) (held u) r)) (add-one r);
    })

-- the round key that it holds
pub key_at : {u v : KeyRegister} {x : ℕ} (r : ℕ) → At u r v → x ≡ round_key v → x ≡ keys_from u (r + 1)
unfolding keys_from
key_at {u} {v} r a e =
    let q : r ≡ r + 1 - 1 = omega arith in
    e
    ∙ ap₂ (λ (k : ℕ) (w : Bool). k / 2 ^ rest w) a.holds a.same_width
    ∙ ap (λ (i : ℕ). register (update u.wide) (held u) i / 2 ^ rest u.wide) q

pub keys_from_lem : (h l : ℕ) (w : Bool) → h < 2 ^ 64 → l < 2 ^ rest w → Keys (keys_from (record { high = h; low = l; wide = w }))
unfolding keys_from round_key80 round_key128
keys_from_lem h l true hh hl = keys128 (h * 2 ^ 64 + l) (digits_lt {m = 2 ^ 64} hh hl)
keys_from_lem h l false hh hl = keys80 (h * 2 ^ 16 + l) (digits_lt {m = 2 ^ 64} hh hl)

-- ---- the round keys of decryption: one entry more
pub stored : (k : List ℕ) (f : ℕ → ℕ) (i g : ℕ) → i < length k → ((j : ℕ) → j < i → get_or k j 0 ≡ f j) → g ≡ f i
    → (j : ℕ) → j < i + 1 → get_or (set k i g) j 0 ≡ f j
stored k f i g l h e =
    below_more (λ j. get_or (set k i g) j 0 ≡ f j) i (λ j m. get_or-set_other k i j g 0 (omega arith) ∙ h j m) (get_or-set_same k i g 0 l ∙ e)
