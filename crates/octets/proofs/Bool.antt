-- Tests joined by and, and what a test chooses.
use mathlib.Core.Path.{◌≡◌, refl, sym, ◌∙◌}
use mathlib.Core.Bool.{Bool, true, false, ◌&&◌, false≢true}
use Rattle.octets.specs.Bytes.{if◌then◌otherwise◌}

pub and_left : (a b : Bool) → a && b ≡ true → a ≡ true
and_left true b h = refl
and_left false b h = h

pub and_right : (a b : Bool) → a && b ≡ true → b ≡ true
and_right true b h = h
and_right false b h = absurd (false≢true h)

pub and_both : (a b : Bool) → a ≡ true → b ≡ true → a && b ≡ true
and_both a b p q = rw (p, q)

pub and_false_left : (a b : Bool) → a ≡ false → a && b ≡ false
and_false_left a b p = rw p

pub and_false_right : (a b : Bool) → b ≡ false → a && b ≡ false
and_false_right true b p = p
and_false_right false b p = refl

pub if_true : {A : Type 0} (t : Bool) (x y : A) → t ≡ true → (if t then x otherwise y) ≡ x
if_true t x y p = rw p

pub if_false : {A : Type 0} (t : Bool) (x y : A) → t ≡ false → (if t then x otherwise y) ≡ y
if_false t x y p = rw p

-- what a test found, of what it decides
pub found : (r b : Bool) → r ≡ b → r ≡ true → b ≡ true
found r b e t = sym e ∙ t

pub not_both : (b : Bool) → b ≡ true → b ≡ false → ⊥
not_both b t f = false≢true (sym f ∙ t)
