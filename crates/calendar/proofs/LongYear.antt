-- The long year, whose February has 30 days: where its months start, and where it has the days of a year.
use Prim.Native.Nat.{ℕ, ◌+◌, ◌*◌, ◌-◌, ◌/◌, ◌≤◌, ◌<◌}
use mathlib.Core.Path.{◌≡◌, sym, ap, ◌∙◌}
use mathlib.Core.Bool.{Bool, true, false}
use native.Mathlib.Omega.{arith}
use native.Mathlib.Decide.{dec_lt}
use lib.Dec.{T, eqb, leb, eqb→eq, leb→le}
use borrow.Author.Tests.{lt-ltb, le-ltb, le-leb, lt-leb}
use Rattle.octets.specs.Bytes.{if◌then◌otherwise◌}
use Rattle.octets.proofs.Test.{every, below}
use Rattle.calendar.specs.Calendar.{leap, year_days, month_days, months_sum, days_before_month}
use Rattle.calendar.specs.Steps.{lacks, lacking, long_start, long_day, Holds}
use Rattle.calendar.proofs.Months.{by_kind, starts_alike}
use Rattle.calendar.proofs.Count.{before_last}

-- ---- where its months start

-- along a line
pub start_line : (m : ℕ) → m ≤ 13 → (489 * m - 481) / 16 ≡ long_start m
unfolding leap month_days months_sum days_before_month lacks lacking long_start
start_line m h = eqb→eq ((489 * m - 481) / 16) (long_start m) (below 14 (λ m. eqb ((489 * m - 481) / 16) (long_start m)) tt m (omega arith))

lacking_alike : (y z m : ℕ) → leap y ≡ leap z → lacking y m ≡ lacking z m
unfolding lacks lacking
lacking_alike y z m e = rw e

-- as those of any year, but for what that lacks
pub start_is : (y m : ℕ) → m ≤ 13 → long_start m ≡ days_before_month y m + lacking y m
unfolding leap month_days months_sum days_before_month lacks lacking long_start
start_is y m h =
    by_kind (λ y. long_start m ≡ days_before_month y m + lacking y m)
    (λ y z e p. omega (arith, p, starts_alike y z m e, lacking_alike y z m e))
    (kind 2000 tt)
    (kind 2001 tt)
    y
  where
    kind : (y : ℕ) → T (every 14 (λ m. eqb (long_start m) (days_before_month y m + lacking y m))) → long_start m ≡ days_before_month y m + lacking y m
    kind y t = eqb→eq (long_start m) (days_before_month y m + lacking y m) (below 14 (λ m. eqb (long_start m) (days_before_month y m + lacking y m)) t m (omega arith))

module _ (y m : ℕ) where
  pub lacks_none : m ≤ 2 → lacking y m ≡ 0
  unfolding lacking
  lacks_none h = rw (le-leb m 2 h)

  pub lacks_some : 2 < m → lacking y m ≡ lacks y
  unfolding lacking
  lacks_some h = rw (lt-leb m 2 h)

  early_start : m ≤ 2 → long_start m ≡ days_before_month y m
  early_start h = omega (arith, start_is y m (omega arith), lacks_none h)

  late_start : 2 < m → m ≤ 13 → long_start m ≡ days_before_month y m + lacks y
  late_start h g = omega (arith, start_is y m g, lacks_some h)

grow : (m n : ℕ) → m ≤ n → n ≤ 13 → long_start m ≤ long_start n
grow m n h g = omega (arith, start_line m (omega arith), start_line n g)

march : long_start 3 ≡ 61
march = sym (start_line 3 (omega arith))

march_too : (y : ℕ) → days_before_month y 3 + lacks y ≡ 61
march_too y = sym (late_start y 3 (omega arith) (omega arith)) ∙ march

year_too : (y : ℕ) → year_days y + lacks y ≡ 367
year_too y = omega (arith, late_start y 13 (omega arith) (omega arith), start_line 13 (omega arith), before_last y)

-- ---- where it has the days of a year

module _ (y t : ℕ) where
  early_day : t < days_before_month y 3 → t ≡ long_day y t
  unfolding long_day
  early_day h = rw (lt-ltb t (days_before_month y 3) h)

  late_day : days_before_month y 3 ≤ t → t + lacks y ≡ long_day y t
  unfolding long_day
  late_day h = rw (le-ltb t (days_before_month y 3) h)

  module _ (b : Bool) (e : b ≡ leap y) where
    lacks_by : lacks y ≡ (if b then 1 otherwise 2)
    unfolding lacks
    lacks_by = rw e

    module _ (f : b ≡ true) where
      leap_lacks : lacks y ≡ 1
      leap_lacks = lacks_by ∙ rw f

      pub leap_early : t < 60 → t ≡ long_day y t
      leap_early h = early_day (omega (arith, march_too y, leap_lacks))

      pub leap_late : 60 ≤ t → t + 1 ≡ long_day y t
      leap_late h = omega (arith, late_day (omega (arith, march_too y, leap_lacks)), leap_lacks)

    module _ (f : b ≡ false) where
      common_lacks : lacks y ≡ 2
      common_lacks = lacks_by ∙ rw f

      pub common_early : t < 59 → t ≡ long_day y t
      common_early h = early_day (omega (arith, march_too y, common_lacks))

      pub common_late : 59 ≤ t → t + 2 ≡ long_day y t
      common_late h = omega (arith, late_day (omega (arith, march_too y, common_lacks)), common_lacks)

  pub in_long_year : t < year_days y → long_day y t < 367
  in_long_year h = go (dec_lt t (days_before_month y 3))
    where
      go : Dec (t < days_before_month y 3) → long_day y t < 367
      go (yes l) = omega (arith, early_day l, year_too y)
      go (no l) = omega (arith, late_day (omega arith), year_too y)

-- ---- the month that holds a day

-- is found by a line too
abbrev month_of : ℕ → ℕ
month_of u = (67 * u + 2075) / 2048

line_begun : (u : ℕ) → u < 367 → (489 * month_of u - 481) / 16 ≤ u
line_begun u h = leb→le ((489 * month_of u - 481) / 16) u (below 367 (λ u. leb ((489 * month_of u - 481) / 16) u) tt u h)

line_lasts : (u : ℕ) → u < 367 → u + 1 ≤ (489 * (month_of u + 1) - 481) / 16
line_lasts u h = leb→le (u + 1) ((489 * (month_of u + 1) - 481) / 16) (below 367 (λ u. leb (u + 1) ((489 * (month_of u + 1) - 481) / 16)) tt u h)

pub month_line : (u : ℕ) → u < 367 → Holds u ((67 * u + 2075) / 2048)
month_line u h =
    record {
      month_from_1 = omega arith;
      month_to_12 = omega arith;
      begun = omega (arith, start_line (month_of u) (omega arith), line_begun u h);
      lasts = omega (arith, start_line (month_of u + 1) (omega arith), line_lasts u h);
    }

-- holds it in the year too
pub month_of_day : (y t m : ℕ) → Holds (long_day y t) m → (days_before_month y m + (long_day y t - long_start m) ≡ t) × (t < days_before_month y (m + 1))
month_of_day y t m h = go (dec_lt t (days_before_month y 3)) (dec_lt 2 m)
  where
    go : Dec (t < days_before_month y 3) → Dec (2 < m) → (days_before_month y m + (long_day y t - long_start m) ≡ t) × (t < days_before_month y (m + 1))
    go (yes l) (yes g) = absurd (omega (arith, early_day y t l, grow 3 m (omega arith) (omega (arith, h.month_to_12)), march, march_too y, h.begun))
    go (no l) (no g) = absurd (omega (arith, late_day y t (omega arith), grow (m + 1) 3 (omega arith) (omega arith), march, march_too y, h.lasts))
    go (yes l) (no g) = (omega (arith, early_day y t l, early_start y m (omega arith), h.begun), early (dec_lt m 2))
      where
        early : Dec (m < 2) → t < days_before_month y (m + 1)
        early (yes k) = omega (arith, early_day y t l, early_start y (m + 1) (omega arith), h.lasts)
        early (no k) = omega (arith, l, ap (days_before_month y) {x = m + 1} {y = 3} (omega arith))
    go (no l) (yes g) =
        (omega (arith, late_day y t (omega arith), late_start y m g (omega (arith, h.month_to_12)), h.begun), omega (arith, late_day y t (omega arith), late_start y (m + 1) (omega arith) (omega (arith, h.month_to_12)), h.lasts))
